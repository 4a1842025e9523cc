-- The text of lines, each a name and a number or a list of blocks.
use Rattle.std.specs.Prelude.{ℕ, List, [], ◌∷◌, ◌++◌}
use Rattle.text.specs.Text.{decimal, listed}

-- a line of a number
unfoldable pub number_line : List ℕ → ℕ → List ℕ
number_line name n = name ++ decimal n ++ (10 ∷ [])

-- a line of blocks
unfoldable pub blocks_line : List ℕ → List ℕ → List ℕ
blocks_line name bs = name ++ listed 0 bs ++ (10 ∷ [])
