-- `Table::zeros` meets its contract. The loop's invariant: what was added is worth the ones of the spare area before Zeros and of the first 128 * q bytes of the
-- data (`spare_first`); after the last turn they and the zero bits are all (`all_added`). Assumes nothing.
use mathlib.Core.Path.{◌≡◌, refl, ap, ◌∙◌}
use Prim.Native.Nat.{◌+◌, ◌*◌}
use native.Mathlib.Omega.{arith}
use lib.ListN.{take, length-set}
use Rattle.model.specs.Bytes.{zero_bits}
use Rattle.page.specs.Counting.{spare_first}
use Rattle.table.specs.Sums.{ones_in}
use Rattle.table.proofs.Kept.{no_ones, stored, all_added}
use Rattle.table.proofs.Table.zeros.Goals as goal

pub loop-q-init : goal.loop-q-init
unfolding spare_first zero_bits ones_in
loop-q-init c = (omega arith, (refl, omega (arith, no_ones _ c.default.ensures, no_ones _ c.default-2.ensures, c.spare_pair.ensures)))

pub loop-q-preserved : goal.loop-q-preserved
unfolding spare_first
loop-q-preserved c =
    let q = c.loop-q.q in
    let page = c.args.page.now in
    let f : 128 * q + 64 + 64 ≡ 128 * (q + 1) = omega arith in (
      omega arith,
      (
        length-set c.loop-q.e-items q _ ∙ c.loop-q.invariant.1.0,
        omega (
          arith,
          stored c.loop-q.e-items q c.add3-c.result.carry (omega arith),
          c.loop-q.invariant.1.1,
          ap (λ n. zero_bits (take n page)) f,
          c.add_pairs-a.ensures,
          c.add_pairs-b.ensures,
          c.add3-c.ensures,
        ),
      ),
    )

pub overflow_sub-result : goal.overflow_sub-result
overflow_sub-result c = omega (arith, all_added _ c.loop-q.e-items c.loop-q.q _ (omega arith) c.loop-q.invariant.1.0 c.loop-q.invariant.1.1, c.all_ones.ensures)

pub overflow_cast-result : goal.overflow_cast-result
overflow_cast-result c = omega (arith, all_added _ c.loop-q.e-items c.loop-q.q _ (omega arith) c.loop-q.invariant.1.0 c.loop-q.invariant.1.1, c.all_ones.ensures)

pub returns : goal.returns
returns c = omega (arith, all_added _ c.loop-q.e-items c.loop-q.q _ (omega arith) c.loop-q.invariant.1.0 c.loop-q.invariant.1.1, c.all_ones.ensures)
