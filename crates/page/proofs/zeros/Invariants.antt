-- `page::zeros` meets its contract. The loop's invariant: the spare area before Zeros and the first `w` words of the data are counted; after the last word that
-- is the total (`spare_first_law`). Assumes nothing.
use mathlib.Core.Path.{◌≡◌}
use Prim.Native.Nat.{◌≤◌, ◌+◌, ◌*◌}
use Rattle.page.specs.Counting.{spare_first}
use Rattle.page.proofs.zeros.Given as goal

abbrev pub invariant-loop-w : goal.invariant-loop-w
invariant-loop-w l = (l.w ≤ 64) × (l.spare + l.«data» ≡ spare_first (l.w * 8) l.page)
