-- `change::next_page` meets its contract: it takes from all available blocks or from those of the other plane, and they lie in the array. Assumes nothing.
use mathlib.Core.Path.{sym, ◌∙◌}
use native.Mathlib.Omega.{arith}
use Rattle.model.specs.Zones.{available_of, other_plane}
use Rattle.arrays.specs.Scan.{taken_one}
use Rattle.zones.proofs.Listed.{ready_listed, available_within}
use Rattle.zones.proofs.Sliding.{picked_within}
use Rattle.change.proofs.Next.{taken_all, taken_other}
use Rattle.change.proofs.next_page.Goals as goal

pub shared_ref_as_front-available : goal.shared_ref_as_front-available
shared_ref_as_front-available c = omega (arith, (ready_listed _ _ _ c.requires).few)

pub next_in-requires : goal.next_in-requires
next_in-requires c = available_within _ _ _ c.requires

pub returns-then-s-ne2 : goal.returns-then-s-ne2
returns-then-s-ne2 c =
    let a = c.args in
    rw (taken_one a.s.geometry a.s.last a.array.now (available_of a.s.zones) c.if-s-ne2.true) c.next_in.ensures

pub clean_short-requires : goal.clean_short-requires
clean_short-requires c = rw c.others-other.ensures (picked_within c.args.s.geometry c.args.array.now c.args.s.zones c.requires (other_plane c.args.s.last))

pub next_in-requires-then-clean_short : goal.next_in-requires-then-clean_short
next_in-requires-then-clean_short c = available_within _ _ _ c.requires

pub returns-then-clean_short : goal.returns-then-clean_short
returns-then-clean_short c =
    let a = c.args in
    let short = rw c.others-other.ensures at (sym c.clean_short.ensures ∙ c.if-clean_short.true) in
    rw (taken_all a.s.geometry a.s.last a.array.now (available_of a.s.zones) c.if-s-ne2.false short) c.next_in-then-clean_short.ensures

pub next_in-requires-2 : goal.next_in-requires-2
next_in-requires-2 c = rw c.others-other.ensures (picked_within c.args.s.geometry c.args.array.now c.args.s.zones c.requires (other_plane c.args.s.last))

pub returns : goal.returns
returns c =
    let a = c.args in
    let is = c.others-other.ensures in
    let clean = rw is at (sym c.clean_short.ensures ∙ c.if-clean_short.false) in
    rw (taken_other a.s.geometry a.s.last a.array.now (available_of a.s.zones) c.if-s-ne2.false clean) (rw is at c.next_in-2.ensures)
