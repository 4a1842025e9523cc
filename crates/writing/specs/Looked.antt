-- What the checks of the commands that write pages look at.
use Rattle.std.specs.Prelude.{ℕ, List, [], ◌∷◌}
use Rattle.model.specs.World.{World}
use Rattle.model.specs.Order.{Check}
use Rattle.model.specs.Transactions.{has_held, not_begun, too_long, short_zone}
use Rattle.model.specs.declared.State.{State}

-- a world as these checks see it: none of them looks at map or hold
abbrev pub looked : State → List ℕ → World
looked s xs = record { array = xs; map = []; hold = []; state = s }

-- 8, 10, 12 of a write and of a drop
abbrev pub page_checks : ℕ → World → List Check
page_checks id w = not_begun id w ∷ too_long id w ∷ short_zone (has_held id w) w ∷ []
