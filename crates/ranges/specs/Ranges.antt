-- Entries and zone lists as they are looked through.
use Rattle.std.specs.Prelude.{ℕ, ◌+◌, ◌-◌, ◌≤◌, ◌≡◌, Bool, true, false, not, cond, ◌&&◌, List, length, eqb, leb, ltb}
use Rattle.model.specs.Lists.{elem}
use Rattle.model.specs.Geometry.{geometry_ok}
use Rattle.model.specs.declared.Geometry.{Geometry}

-- an entry is unmapped, or from lo up to hi and not among those before
unfoldable pub entry_within : ℕ → ℕ → List ℕ → ℕ → Bool
entry_within lo hi seen x = cond (eqb x 65535) true (cond (leb lo x && ltb x hi) (not (elem x seen)) false)

-- zone lists that stand one after the other, within the counts that a geometry allows
pub record Laid (g : Geometry) (list : List ℕ) (na nu : ℕ) : Type 0 where
  pub shape : geometry_ok g ≡ true
  pub parts : na + nu ≤ length list
  pub all : length list ≤ g.blocks - 2
