-- `page::erased` meets its contract. The loop's invariant: the answer is that of `common`, the bits that the first `w` words share,
-- and of the bytes from word `w` on. Assumes nothing.
use mathlib.Core.Path.{◌≡◌}
use mathlib.Core.Bool.{false, cond}
use Prim.Native.Nat.{◌≤◌, ◌*◌}
use lib.ListN.{drop}
use lib.Dec.{eqb}
use Rattle.model.specs.Bytes.{all_ff}
use Rattle.page.proofs.erased.Given as goal

abbrev pub invariant-loop-w : goal.invariant-loop-w
invariant-loop-w l = (l.w ≤ 66) × ((l.common ≤ 18446744073709551615) × (all_ff l.page ≡ cond (eqb l.common 18446744073709551615) (all_ff (drop (l.w * 8) l.page)) false))
