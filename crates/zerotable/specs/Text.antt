-- The text that the program prints.
use Rattle.std.specs.Prelude.{ℕ, List, [], ◌∷◌, ◌++◌}
use Rattle.lines.specs.Text.{number_line}

-- "one decimal a line"
unfoldable pub lines_of : List ℕ → List ℕ
lines_of [] = []
lines_of (x ∷ xs) = number_line [] x ++ lines_of xs
