-- `page::erased` meets its contract. The loop's invariant: the answer is that of `common`, the bits that the first `w` words share,
-- and of the bytes from word `w` on. Assumes nothing.
use mathlib.Core.Path.{◌≡◌, refl, sym, ap, ◌∙◌}
use mathlib.Core.Bool.{Bool, true, false, cond}
use Prim.Native.Nat.{◌≤◌, ◌+◌, ◌*◌}
use native.Mathlib.Omega.{arith}
use lib.ListN.{length, drop_of_length-le}
use lib.Dec.{eqb}
use lib.Bits.{and_le_l}
use Rattle.model.specs.Bytes.{all_ff}
use Rattle.page.proofs.Words.{not64, common64}
use Rattle.page.proofs.erased.Goals as goal

same : (b : Bool) → b ≡ cond b true false
same true = refl
same false = refl

pub returns-then-word64-ne18446744073709551615 : goal.returns-then-word64-ne18446744073709551615
returns-then-word64-ne18446744073709551615 c = sym (not64 c.args.page.now 0 (omega arith) (λ e. c.if-word64-ne18446744073709551615.true (c.word64.ensures ∙ e)))

pub loop-w-init : goal.loop-w-init
loop-w-init c = (omega arith, (omega arith, refl))

pub loop-w-preserved : goal.loop-w-preserved
loop-w-preserved c =
    let a = c.args.page.now in
    let w = c.loop-w.w in
    let e : (w + 1) * 8 ≡ w * 8 + 8 = omega arith in (
      omega arith,
      (
        omega (arith, and_le_l c.loop-w.common c.word64-common.result),
        c.loop-w.invariant.1.1 ∙ rw (e, c.word64-common.ensures) (common64 a (λ k. (c.type_inv.page k).fits) c.loop-w.common (w * 8) (omega arith) (omega arith)),
      ),
    )

pub returns : goal.returns
unfolding all_ff
returns c =
    let a = c.args.page.now in
    let l : length a ≤ c.loop-w.w * 8 = omega arith in
    let n = c.loop-w.common in
    let e = ap (λ d. cond (eqb n 18446744073709551615) (all_ff d) false) (drop_of_length-le a l) in
    same (eqb n 18446744073709551615) ∙ sym (c.loop-w.invariant.1.1 ∙ e)
