-- `page::spare_zeros` meets its contract: the three words are what the first 526 bytes have beyond the data (`spare_first_law`). Assumes nothing.
use mathlib.Core.Path.{ap}
use Prim.Native.Nat.{ℕ, ◌<◌}
use native.Mathlib.Omega.{arith}
use lib.ListN.{get_or}
use lib.Count.{ones}
use Rattle.std.specs.Int.{w16, w32, w64}
use Rattle.page.specs.Counting.{spare_first, spare_first_law}
use Rattle.page.proofs.Words.{zeros_of, more16, more32, more64}
use Rattle.page.proofs.spare_zeros.Goals as goal

pub returns : goal.returns
unfolding spare_first
returns c =
    let a = c.args.page.now in
    let byte : (k : ℕ) → get_or a k 0 < 256 = λ k. (c.type_inv.page k).fits in
    omega (
      arith,
      spare_first_law a,
      more64 a byte 512 (omega arith),
      more32 a byte 520 (omega arith),
      more16 a byte 524 (omega arith),
      zeros_of w64 c.word64.result (omega arith),
      zeros_of w32 c.word32.result (omega arith),
      zeros_of w16 c.word16.result (omega arith),
      ap ones c.word64.ensures,
      ap ones c.word32.ensures,
      ap ones c.word16.ensures,
    )
