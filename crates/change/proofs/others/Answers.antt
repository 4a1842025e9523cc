-- `change::others` meets its contract. The loop's invariant: of the blocks so far, those of the other plane are listed. Assumes nothing.
use mathlib.Core.Path.{refl, ap, sym, ◌∙◌}
use native.Mathlib.Omega.{arith}
use lib.ListN.{length-set}
use lib.Seq.{take_all}
use Rattle.model.specs.Lists.{those}
use Rattle.model.specs.Zones.{other_plane}
use Rattle.change.proofs.Next.{picked_pass, picked_more}
use Rattle.change.proofs.others.Goals.{then-is_other, else-is_other}
use Rattle.change.proofs.others.Goals as goal

pub loop-b-init : goal.loop-b-init
unfolding those
loop-b-init c = record { long = c.told-room; few = omega arith; listed = refl }

pub bounds-room-n : goal.bounds-room-n
bounds-room-n c = omega (arith, c.loop-b.invariant.few)

pub overflow_add-n : goal.overflow_add-n
overflow_add-n c = omega (arith, c.loop-b.invariant.few)

pub loop-b-preserved : goal.loop-b-preserved
loop-b-preserved c =
    let l = c.loop-b in
    let v = l.invariant in
    let few = v.few in
    let long = v.long in
    let blocks = c.args.available.now in
    let q = other_plane c.args.last in
    elim c.if-is_other.branch [
      | then-is_other w ↦ rw (w.room-is, w.n-is) (record {
        long = simp length-set long;
        few = omega arith;
        listed = picked_more q blocks l.room l.b-index l.n c.loop-b-test.true v.listed (omega arith) (sym c.is_other.ensures ∙ w.if-is_other.true);
      })
      | else-is_other w ↦ rw (w.room-is, w.n-is) (record {
        long = long;
        few = omega arith;
        listed = picked_pass q blocks l.room l.b-index l.n c.loop-b-test.true v.listed (sym c.is_other.ensures ∙ w.if-is_other.false);
      })
    ]

pub shared_ref_as_front-result : goal.shared_ref_as_front-result
shared_ref_as_front-result c = omega (arith, c.loop-b.invariant.few)

pub returns : goal.returns
returns c =
    let l = c.loop-b in
    l.invariant.listed ∙ ap (those (other_plane c.args.last)) (take_all l.b-index c.args.available.now (omega arith))
