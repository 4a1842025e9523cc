-- `zones::id_scanned` meets its contract: the unavailable blocks and then the available ones, both of which lie in the array. Assumes nothing.
use mathlib.Core.Path.{sym, ◌∙◌}
use native.Mathlib.Omega.{arith}
use Rattle.zones.proofs.Listed.{ready_listed, available_within, unavailable_within}
use Rattle.zones.proofs.Pages.{in_first, in_second}
use Rattle.zones.proofs.id_scanned.Goals as goal

pub shared_ref_as_front-id_in : goal.shared_ref_as_front-id_in
shared_ref_as_front-id_in c =
    let k = (ready_listed _ _ _ c.requires).counts in
    let f = c.from.ensures in
    omega arith

pub id_in-requires : goal.id_in-requires
id_in-requires c = rw (c.from-pages.ensures, c.from.ensures) (unavailable_within _ _ _ c.requires)

pub shared_ref_as_front-id_in-else-id_in : goal.shared_ref_as_front-id_in-else-id_in
shared_ref_as_front-id_in-else-id_in c =
    let k = (ready_listed _ _ _ c.requires).few in
    let f = c.from-else-id_in.ensures in
    omega arith

pub id_in-requires-else-id_in : goal.id_in-requires-else-id_in
id_in-requires-else-id_in c = rw (c.from-pages.ensures, c.from-else-id_in.ensures) (available_within _ _ _ c.requires)

pub returns-then-id_in : goal.returns-then-id_in
returns-then-id_in c = c.if-id_in.true ∙ in_first _ _ _ _ (rw (c.from-pages.ensures, c.from.ensures) at (sym c.id_in.ensures ∙ c.if-id_in.true))

pub returns-else-id_in : goal.returns-else-id_in
returns-else-id_in c =
    c.id_in-else-id_in.ensures
    ∙ rw (c.from-pages.ensures, c.from-else-id_in.ensures) (in_second _ _ _ _ (rw (c.from-pages.ensures, c.from.ensures) at (sym c.id_in.ensures ∙ c.if-id_in.false)))
