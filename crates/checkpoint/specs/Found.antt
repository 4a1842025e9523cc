-- What was looked for, as `model` has it, and where it lies in the array.
use Rattle.std.specs.Prelude.{ℕ, ◌+◌, ◌*◌, ◌≤◌, Option, None, Some}
use Rattle.model.specs.Checkpoint as model

-- a page or a block that was looked for, in the words of `model`
abbrev pub found_of : Option ℕ → model.Found
found_of None = model.nothing
found_of (Some k) = model.at k

-- the page that was found, if any, lies in an array of n bytes
abbrev pub FoundIn : ℕ → model.Found → Type 0
FoundIn n model.nothing = 0 ≤ n
FoundIn n (model.at k) = k * 528 + 528 ≤ n

-- page k and the best so far lie in an array of n bytes
pub record Fronts (n k : ℕ) (best : Option ℕ) : Type 0 where
  pub here : k * 528 + 528 ≤ n
  pub before : FoundIn n (found_of best)
