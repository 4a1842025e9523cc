-- "Order": a command's refusals as a list, in the order in which document 01 (docs/PAPERS.md) names them, and the first that
-- applies.
use Rattle.std.specs.Prelude.{ℕ, Bool, not, cond, List, [], ◌∷◌, eqb}
use Rattle.model.specs.Lists.{those}
use Rattle.model.specs.World.{World, Plan, refuse}

-- a check: the number that it refuses with, and when
pub record Check : Type 0 where
  pub number : ℕ
  pub when : Bool

-- the number of the first check that applies, or 0
unfoldable pub first_number : List Check → ℕ
first_number [] = 0
first_number (c ∷ cs) = cond c.when c.number (first_number cs)

-- the checks without those of number n
unfoldable pub leave_out : ℕ → List Check → List Check
leave_out n cs = those (λ (c : Check). not (eqb c.number n)) cs

-- the first refusal that applies, else what the command does
abbrev pub checked : List Check → World → Plan → Plan
checked cs w p = cond (eqb (first_number cs) 0) p (refuse w (first_number cs))
