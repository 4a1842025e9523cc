-- Words added bit by bit: how many one bits they stand for.
use Rattle.std.specs.Prelude.{ℕ, ◌+◌, ◌*◌, List, [], ◌∷◌}
use Rattle.std.specs.Int.Count.{ones}
use Rattle.table.specs.declared.Pair.{Pair}
use Rattle.table.specs.declared.Sum.{Sum}

-- the ones of a pair, and of some pairs
abbrev pub ones_of : Pair → ℕ
ones_of p = ones p.left + ones p.right

unfoldable pub ones_in : List Pair → ℕ
ones_in [] = 0
ones_in (p ∷ ps) = ones_of p + ones_in ps

-- each bit of a sum counts one, two or four
abbrev pub worth : {T : Type 0} → (T → ℕ) → Sum T → ℕ
worth count s = count s.one + 2 * count s.two + 4 * count s.four
