-- `reclaim::mapped_in` meets its contract. The loop's invariant: `n` and those from the next entry on are the mapped pages of the block. Assumes nothing.
use mathlib.Core.Path.{sym, ◌∙◌}
use Prim.Native.Nat.{◌*◌, ◌≤◌}
use native.Mathlib.Nat.{mul-le-mul}
use native.Mathlib.Omega.{arith}
use Rattle.reclaim.proofs.Counting.{in_block, mapped_is, count_pass, count_hit, count_end}
use Rattle.reclaim.proofs.mapped_in.Goals.{then-in_range, else-in_range}
use Rattle.reclaim.proofs.mapped_in.Goals as goal

pub overflow_mul-lo : goal.overflow_mul-lo
overflow_mul-lo c =
    let k : c.args.b ≤ 128 = omega arith in
    let m : c.args.b * c.args.pages ≤ 128 * 64 = mul-le-mul k c.requires.1.0 in
    omega arith

pub overflow_add-hi : goal.overflow_add-hi
overflow_add-hi c =
    let k : c.args.b ≤ 128 = omega arith in
    let m : c.args.b * c.args.pages ≤ 128 * 64 = mul-le-mul k c.requires.1.0 in
    omega arith

pub loop-e-init : goal.loop-e-init
loop-e-init c =
    let m = mapped_is c.args.map.now c.args.pages c.args.b in
    record { few = omega arith; all = omega arith }

pub overflow_add-n : goal.overflow_add-n
overflow_add-n c = omega (arith, c.loop-e.invariant.few)

pub loop-e-preserved : goal.loop-e-preserved
unfolding in_block
loop-e-preserved c =
    let a = c.args in
    let l = c.loop-e in
    let few = l.invariant.few in
    let e = sym c.in_range.ensures in
    elim c.if-in_range.branch [
      | then-in_range w ↦ rw w.n-is (record { few = omega arith; all = count_hit (in_block a.pages a.b) a.map.now l.e-index 0 l.n c.loop-e-test.true l.invariant.all (e ∙ w.if-in_range.true) })
      | else-in_range w ↦ rw w.n-is (record { few = omega arith; all = count_pass (in_block a.pages a.b) a.map.now l.e-index 0 l.n c.loop-e-test.true l.invariant.all (e ∙ w.if-in_range.false) })
    ]

pub returns : goal.returns
returns c = sym (count_end (in_block c.args.pages c.args.b) c.args.map.now c.loop-e.e-index c.loop-e.n c.loop-e-test.false c.loop-e.invariant.all)
