-- `outcome::zone_lines` meets its contract: the three lines put one behind the other. Assumes nothing.
use mathlib.Core.Path.{◌≡◌}
use mathlib.Core.List.{List}
use Prim.Native.Nat.{ℕ, ◌≤◌}
use native.Mathlib.Omega.{arith}
use lib.ListN.{length, take, length-take}
use borrow.Author.Rules.{rules}
use Rattle.outcome.specs.Text.{zones_text}
use Rattle.text.proofs.Putting.{puts, put_within}
use Rattle.outcome.proofs.zone_lines.Goals as goal

-- no more than the list has
at_most : (m n : ℕ) (xs ys : List ℕ) → length xs ≡ m → ys ≡ take n xs → length ys ≤ m
at_most m n xs ys l e = rw (e, length-take) (omega arith)

pub returns : goal.returns
unfolding zones_text
returns c =
    let a = at_most 3 _ c.args.z.now.available _ (search rules) c.first-available.ensures in
    let u = at_most 126 _ c.args.z.now.unavailable _ (search rules) c.first-unavailable.ensures in
    let f = at_most 126 _ c.args.z.now.free _ (search rules) c.first-free.ensures in
    rw (← c.first-available.ensures, ← c.first-unavailable.ensures, ← c.first-free.ensures)
    (put_within (puts (puts c.blocks_line-a.ensures c.blocks_line-b.ensures) c.blocks_line.ensures) (omega (arith, a, u, f)))
