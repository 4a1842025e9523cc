-- What the strides of a format may count on, and what they do.
use Rattle.std.specs.Prelude.{ℕ, ◌+◌, ◌-◌, ◌*◌, ◌≤◌, ◌≡◌, true, List, length}
use Rattle.model.specs.Page.{blank_at}
use Rattle.model.specs.Geometry.{geometry_ok, map_pages}
use Rattle.model.specs.World.{World, Plan}
use Rattle.model.specs.declared.Geometry.{Geometry}
use Rattle.model.specs.declared.State.{State}
use Rattle.strides.specs.Strode.{Strode}

-- what refusal 1 passed when k strides are done: lengths, the stride number, and from stride B on the next front page, which is erased
pub record Formattable (g : Geometry) (xs map : List ℕ) (k : ℕ) : Type 0 where
  pub shape : geometry_ok g ≡ true
  pub bytes : length xs ≡ g.blocks * g.pages * 528
  pub entries : length map ≡ g.logical
  pub upto : k ≤ g.blocks + map_pages g
  pub blank : g.blocks ≤ k → blank_at xs (k - g.blocks) ≡ true

-- a stride by plan f, whatever the state before it
abbrev pub Formats : (World → Plan) → List ℕ → List ℕ → ℕ → List ℕ → List ℕ → State → Type 0
Formats f xs map n ys map' t = (s : State) → Strode f s xs map n ys map' t
