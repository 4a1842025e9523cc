-- `frame::is_alone` meets its contract: by `contains` of the later ones (`alone_later`). Assumes nothing.
use mathlib.Core.Path.{refl, ap, ◌∙◌}
use mathlib.Core.Bool.{not}
use Prim.Native.Nat.{◌+◌, ◌-◌}
use native.Mathlib.Omega.{arith}
use lib.ListN.{get_or, drop, length-drop}
use lib.Seq.{take_all}
use Rattle.arrays.specs.Chains.{any_like}
use Rattle.places.specs.Ids.{is_id}
use Rattle.frame.proofs.Places.{alone_later}
use Rattle.frame.proofs.is_alone.Goals as goal

pub returns-else-ids-i-eq0 : goal.returns-else-ids-i-eq0
returns-else-ids-i-eq0 c =
    let a = c.args in
    let id = get_or a.ids.now a.i 0 in
    let later = drop (a.i + 1) a.ids.now in
    let all = c.told-ids in
    let e = take_all (8 - (a.i + 1)) later (omega (arith, all, length-drop (a.i + 1) a.ids.now)) in
    ap not (rw e at c.contains.ensures.value ∙ any_like (is_id id) (is_id id) (λ x. refl) later) ∙ alone_later id later c.if-ids-i-eq0.false
