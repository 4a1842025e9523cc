-- Which pages keep their block unavailable, by the identifiers of the places.
use Rattle.std.specs.Prelude.{ℕ, ◌+◌, ◌*◌, ◌≤◌, ◌≡◌, Bool, true, not, ◌&&◌, ◌||◌, List, [], ◌∷◌, ◌++◌, length, eqb}
use Rattle.model.specs.Lists.{any, keep}
use Rattle.model.specs.Geometry.{geometry_ok}
use Rattle.model.specs.Zones.{Entry, whole_from, zones_ok, unavailable_of}
use Rattle.model.specs.declared.Geometry.{Geometry}
use Rattle.model.specs.declared.Zones.{Zones}
use Rattle.flash.specs.Ranges.{Within}
use Rattle.places.specs.Ids.{is_id, active_in}

-- the identifiers other than 0 of some entries, in order
unfoldable pub ids_in : List Entry → List ℕ
ids_in [] = []
ids_in (e ∷ es) = keep (not (eqb e.id 0)) (e.id ∷ []) ++ ids_in es

-- the identifier is active or among the near ones
unfoldable pub wanted_id : List ℕ → List ℕ → ℕ → Bool
wanted_id ids near id = not (eqb id 0) && (active_in id ids || any (is_id id) near)

-- the same of an entry
unfoldable pub wanted_by : List ℕ → List ℕ → Entry → Bool
wanted_by ids near e = wanted_id ids near e.id

-- a whole page of block b is wanted
unfoldable pub holds_by : List ℕ → ℕ → List ℕ → List ℕ → ℕ → Bool
holds_by xs p ids near b = any (wanted_by ids near) (whole_from xs (b * p) p)

-- geometry, array and zone lists agree
pub record Ready (g : Geometry) (xs : List ℕ) (z : Zones) : Type 0 where
  pub shape : geometry_ok g ≡ true
  pub bytes : length xs ≡ g.blocks * g.pages * 528
  pub lists : zones_ok g z ≡ true

-- the near blocks lie in the array; they have at most 192 pages
pub record Near (xs : List ℕ) (p : ℕ) (bs : List ℕ) : Type 0 where
  pub inside : Within (length xs) p bs
  pub few : length bs ≤ 3
  pub short : p ≤ 64

-- the lists of a checkpoint lie in the array, and the blocks to be judged fit one list
pub record Leaving (xs : List ℕ) (p : ℕ) (z : Zones) (stay leave : List ℕ) : Type 0 where
  pub near : Near xs p stay
  pub old : Within (length xs) p (unavailable_of z)
  pub new : Within (length xs) p leave
  pub space : z.nu + length leave ≤ 126
