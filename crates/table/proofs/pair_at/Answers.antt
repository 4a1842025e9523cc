-- `table::pair_at` meets its contract: the zero bits of two words more (`pair_more`). Assumes nothing.
use mathlib.Core.Path.{ap}
use Prim.Native.Nat.{ℕ, ◌<◌}
use native.Mathlib.Omega.{arith}
use lib.ListN.{get_or}
use lib.Count.{ones}
use Rattle.table.proofs.Entries.{pair_more}
use Rattle.table.proofs.pair_at.Goals as goal

pub returns : goal.returns
returns c =
    let a = c.args in
    let byte : (k : ℕ) → get_or a.page.now k 0 < 256 = λ k. (c.type_inv.page k).fits in
    omega (arith, pair_more a.page.now byte a.at c.requires, ap ones c.word64.ensures, ap ones c.word64-2.ensures)
