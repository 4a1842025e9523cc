-- `Table::zeros` meets its contract. The loop's invariant: what was added is worth the ones of the spare area before Zeros and of the first 128 * q bytes of the
-- data (`spare_first`); after the last turn they and the zero bits are all (`all_added`). Assumes nothing.
use mathlib.Core.Path.{◌≡◌}
use Prim.Native.Nat.{◌+◌, ◌*◌, ◌≤◌}
use lib.ListN.{length, take}
use Rattle.page.specs.Counting.{spare_first}
use Rattle.table.specs.Sums.{ones_of, worth, ones_in}
use Rattle.table.proofs.Table.zeros.Given as goal

abbrev pub invariant-loop-q : goal.invariant-loop-q
invariant-loop-q l = (l.q ≤ 4) × ((length l.e-items ≡ 4) × (worth ones_of l.sum + 8 * ones_in (take l.q l.e-items) + spare_first (128 * l.q) l.page ≡ 112 + 1024 * l.q))
