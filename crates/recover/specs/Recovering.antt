-- What a recovery makes of a scan, and what it may count on.
use Rattle.std.specs.Prelude.{ℕ, ◌+◌, ◌*◌, ◌≤◌, ◌<◌, ◌/◌, ◌≡◌, true, cond, not, Option, Some, None, List, [], ◌∷◌, length, replicate}
use Rattle.model.specs.Geometry.{geometry_ok, map_pages}
use Rattle.model.specs.Zones.{Entry}
use Rattle.model.specs.Checkpoint.{load_ok}
use Rattle.model.specs.Recovery.{pages_good, top, redone}
use Rattle.model.specs.World.{World, Plan}
use Rattle.model.specs.Order.{Check, checked}
use Rattle.model.specs.Frame.{free_place}
use Rattle.model.specs.Recover.{entries_at, zones_at, scanned_at, recover_plan}
use Rattle.model.specs.declared.Geometry.{Geometry}
use Rattle.model.specs.declared.State.{State}
use Rattle.model.specs.declared.Zones.{Zones}
use Rattle.model.specs.declared.Work.TheVariants.{Idle}
use Rattle.model.specs.declared.Plane.TheVariants.{Neither}
use Rattle.flash.specs.Ranges.{Within}
use Rattle.scan.specs.declared.Note.{Note}

-- the highest version, where refusal 4 passes, and the map
pub record Scan : Type 0 where
  pub top : Option ℕ
  pub map : List ℕ

unfoldable pub scanned_of : ℕ → ℕ → List Entry → ℕ → List ℕ → List ℕ → Scan
scanned_of planes logical es floor entries map =
    cond (pages_good planes logical es)
    (record { top = Some (top es); map = redone planes floor es entries })
    (record { top = None; map = map })

-- the state of a recovery from the checkpoint on page k on
unfoldable pub recovered_of : Geometry → Zones → ℕ → ℕ → ℕ → State
recovered_of g z version number k =
    record {
      geometry = g;
      zones = z;
      version = version;
      checkpoint = number;
      front = k / g.pages;
      first = 0;
      work = Idle;
      last = Neither;
      places = replicate 8 free_place;
    }

-- blocks to scan, which lie in the array, a map of the geometry's length, and as many entries or more
pub record Scannable (g : Geometry) (xs map bs entries : List ℕ) : Type 0 where
  pub shape : geometry_ok g ≡ true
  pub blocks : Within (length xs) g.pages bs
  pub mapped : length map ≡ g.logical
  pub enough : g.logical ≤ length entries

-- lists as long as a scan of these blocks, p pages a block
pub record Lent (p : ℕ) (bs order other : List ℕ) (notes : List Note) : Type 0 where
  pub pages : length order ≡ length bs * p
  pub room : length other ≡ length bs * p
  pub noted : length notes ≡ length bs * p

-- array and map have the geometry's lengths, and the pages of a checkpoint from page k on lie in the front
pub record Standing (g : Geometry) (xs map : List ℕ) (k : ℕ) : Type 0 where
  pub shape : geometry_ok g ≡ true
  pub bytes : length xs ≡ g.blocks * g.pages * 528
  pub mapped : length map ≡ g.logical
  pub ends : k + map_pages g < 2 * g.pages

-- the zone page's data and the map entries of that checkpoint, which refusal 3 passed
pub record Loaded (g : Geometry) (xs : List ℕ) (k : ℕ) (z entries : List ℕ) : Type 0 where
  pub zones : z ≡ zones_at g xs k
  pub used : entries ≡ entries_at g xs k
  pub ok : load_ok g (entries_at g xs k) (zones_at g xs k) ≡ true

-- 3 and 4 of the checkpoint on page k
abbrev pub from_checks : Geometry → ℕ → World → List Check
from_checks g k w =
    record { number = 3; when = not (load_ok g (entries_at g w.array k) (zones_at g w.array k)) }
    ∷ record { number = 4; when = not (pages_good g.planes g.logical (scanned_at g w.array k)) } ∷ []

-- a recovery from it
unfoldable pub from_plan : Geometry → ℕ → World → Plan
from_plan g k w = checked (from_checks g k w) w (recover_plan g k w)
