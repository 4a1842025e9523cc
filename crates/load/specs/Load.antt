-- The data of a zone page and the map entries, as they are looked through.
use Rattle.std.specs.Prelude.{ℕ, ◌+◌, ◌*◌, ◌≤◌, ◌≡◌, Bool, true, ◌&&◌, List, length, drop, get_or, eqb}
use Rattle.model.specs.Lists.{all}
use Rattle.model.specs.Geometry.{geometry_ok, map_pages}
use Rattle.model.specs.Zones.{zone_lists_ok}
use Rattle.model.specs.Checkpoint.{available_in, unavailable_in, free_in}
use Rattle.model.specs.declared.Geometry.{Geometry}

-- refusal 3 passes the zone page's data
unfoldable pub zone_page_ok : Geometry → List ℕ → Bool
zone_page_ok g z =
    zone_lists_ok g (get_or z 5 0) (get_or z 6 0) (get_or z 7 0) (available_in z) (unavailable_in z) (free_in z) (get_or z 4 0)
    && all (eqb 0) (drop (8 + get_or z 5 0 + get_or z 6 0 + get_or z 7 0) z)

-- as many entries as the map pages of a geometry have
pub record Entries (g : Geometry) (entries : List ℕ) : Type 0 where
  pub shape : geometry_ok g ≡ true
  pub all : length entries ≡ 256 * map_pages g

-- the data of a zone page whose counts are in range
pub record Counts (z : List ℕ) : Type 0 where
  pub bytes : length z ≡ 512
  pub available : get_or z 5 0 ≤ 3
  pub all : get_or z 5 0 + (get_or z 6 0 + get_or z 7 0) ≤ 126
