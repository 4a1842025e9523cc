-- `page::zeros` meets its contract. The loop's invariant: the spare area before Zeros and the first `w` words of the data are counted; after the last word that
-- is the total (`spare_first_law`). Assumes nothing.
use mathlib.Core.Path.{◌≡◌, ap, ◌∙◌}
use Prim.Native.Nat.{◌+◌, ◌*◌}
use native.Mathlib.Omega.{arith}
use lib.Count.{ones}
use Rattle.model.specs.Bytes.{zero_bits}
use Rattle.std.specs.Int.{w64}
use Rattle.page.specs.Counting.{spare_first, spare_first_law}
use Rattle.page.proofs.Words.{zeros_of, spare_first_le, more64}
use Rattle.page.proofs.zeros.Goals as goal

pub loop-w-init : goal.loop-w-init
unfolding spare_first zero_bits
loop-w-init c = (omega arith, omega arith)

pub overflow_add-data : goal.overflow_add-data
overflow_add-data c = omega (arith, spare_first_le (c.loop-w.w * 8) c.args.page.now)

pub loop-w-preserved : goal.loop-w-preserved
unfolding spare_first
loop-w-preserved c =
    let w = c.loop-w.w in
    let e : (w + 1) * 8 ≡ w * 8 + 8 = omega arith in (
      omega arith,
      rw e (omega (arith, zeros_of w64 c.word64.result (omega arith), more64 c.args.page.now (λ k. (c.type_inv.page k).fits) (w * 8) (omega arith), ap ones c.word64.ensures)),
    )

pub overflow_add-result : goal.overflow_add-result
overflow_add-result c = omega (arith, spare_first_le (c.loop-w.w * 8) c.args.page.now)

pub overflow_cast-result : goal.overflow_cast-result
overflow_cast-result c = omega (arith, spare_first_le (c.loop-w.w * 8) c.args.page.now)

pub returns : goal.returns
returns c =
    let e : c.loop-w.w ≡ 64 = omega arith in
    let n = rw e at c.loop-w.invariant.1 in
    n ∙ spare_first_law c.args.page.now
