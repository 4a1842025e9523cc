-- No refusal has the number 0. Assumes nothing.
use mathlib.Core.Path.{◌≡◌}
use native.Mathlib.Omega.{arith}
use Rattle.model.specs.Answers.{refusal_number}
use Rattle.model.specs.declared.Refusal.{Refusal}

pub refusal_some : (why : Refusal) → refusal_number why ≡ 0 → ⊥
refusal_some why e = grind arith
