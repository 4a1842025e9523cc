-- `table::spare_pair` meets its contract: the two words are what the first 526 bytes have beyond the data (`spare_first_law`). Assumes nothing.
use mathlib.Core.Path.{ap}
use Prim.Native.Nat.{ℕ, ◌<◌}
use native.Mathlib.Omega.{arith}
use lib.ListN.{get_or}
use lib.Count.{ones, ones-le}
use Rattle.page.specs.Counting.{spare_first, spare_first_law}
use Rattle.page.proofs.Words.{more16, more32, more64}
use Rattle.table.proofs.Entries.{joined}
use Rattle.table.proofs.spare_pair.Goals as goal

pub returns : goal.returns
unfolding spare_first
returns c =
    let a = c.args.page.now in
    let byte : (k : ℕ) → get_or a k 0 < 256 = λ k. (c.type_inv.page k).fits in
    let low = c.word32-low.result in
    let high = c.word16-high.result in
    omega (
      arith,
      spare_first_law a,
      more64 a byte 512 (omega arith),
      more32 a byte 520 (omega arith),
      more16 a byte 524 (omega arith),
      joined low high (omega arith),
      ones-le 64 c.word64.result (omega arith),
      ones-le 32 low (omega arith),
      ones-le 16 high (omega arith),
      ap ones c.word64.ensures,
      ap ones c.word32-low.ensures,
      ap ones c.word16-high.ensures,
    )
