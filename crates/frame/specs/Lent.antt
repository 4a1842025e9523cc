-- An array that a geometry describes, and a number in a range.
use Rattle.std.specs.Prelude.{ℕ, ◌*◌, ◌≡◌, Bool, true, ◌&&◌, List, leb, ltb, length}
use Rattle.model.specs.Geometry.{geometry_ok}
use Rattle.model.specs.declared.Geometry.{Geometry}

-- the geometry is in range, and the array has its blocks and pages
pub record Sized (g : Geometry) (xs : List ℕ) : Type 0 where
  pub shape : geometry_ok g ≡ true
  pub bytes : length xs ≡ g.blocks * g.pages * 528

-- a number from lo up to hi
unfoldable pub within : ℕ → ℕ → ℕ → Bool
within lo hi k = leb lo k && ltb k hi
