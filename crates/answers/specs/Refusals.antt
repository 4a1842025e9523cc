-- A list of checks in code: it goes on with a value, or is refused.
use Rattle.std.specs.Prelude.{ℕ, Result, Ok, Err}
use Rattle.model.specs.Answers.{refusal_number}
use Rattle.model.specs.declared.Refusal.{Refusal}

-- the number that refuses, or 0 where nothing does
abbrev pub refusal_of : {A : Type 0} → Result A Refusal → ℕ
refusal_of (Ok x) = 0
refusal_of (Err why) = refusal_number why
