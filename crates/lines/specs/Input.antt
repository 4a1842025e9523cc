-- The three lines of the input, each a name with '=', one to five decimal digits and a line end.
use Rattle.std.specs.Prelude.{ℕ, suc, ◌+◌, ◌-◌, ◌*◌, cond, List, [], ◌∷◌, eqb, ltb, leb}
use Rattle.std.specs.Prelude.{Option, Some, None}
use denote.Bor.{Bor}

-- what a line says, and what stands after it; or nothing
pub data Line : Type 0 where
  says : ℕ → List ℕ → Line
  ill_formed : Line

-- the rest of a line of which k digits were read, which say v: nothing but digits, at least one and at most five, a number of 16 bits
unfoldable pub value_from : ℕ → ℕ → List ℕ → Line
value_from k v [] = ill_formed
value_from k v (x ∷ xs) =
    cond (eqb x 10) (cond (eqb k 0) ill_formed (says v xs))
    (cond (ltb x 48) ill_formed
    (cond (ltb 57 x) ill_formed
    (cond (leb 5 k) ill_formed
    (cond (ltb 65535 (v * 10 + (x - 48))) ill_formed
    (value_from (suc k) (v * 10 + (x - 48)) xs)))))

-- a line that begins with this name
unfoldable pub line_of : List ℕ → List ℕ → Line
line_of [] xs = value_from 0 0 xs
line_of (c ∷ name) [] = ill_formed
line_of (c ∷ name) (x ∷ xs) = cond (eqb x c) (line_of name xs) ill_formed

-- ---- a line as the code has it: a number and what stands behind the line, or nothing
abbrev pub line_in : Option (ℕ × Bor (List ℕ)) → Line
line_in (Some p) = says p.0 p.1.now
line_in None = ill_formed
