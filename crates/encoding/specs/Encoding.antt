-- A state as 2,881 bytes, and the state that such bytes say. Where each field stands is said in src/lib.rt.
use Rattle.std.specs.Prelude.{◌≡◌, ℕ, zero, suc, ◌+◌, ◌*◌, ◌≤◌, Bool, true, false, cond, ◌&&◌, ◌||◌, List, [], ◌∷◌, ◌++◌, map, length, get_or, leb, eqb, ltb}
use Rattle.model.specs.Lists.{all, part, splice}
use Rattle.model.specs.Bytes.{le16, le32, bytes16, bytes32, words}
use Rattle.model.specs.declared.Geometry.{Geometry}
use Rattle.model.specs.declared.Place.{Place}
use Rattle.model.specs.declared.Zones.{Zones}
use Rattle.model.specs.declared.State.{State}
use Rattle.model.specs.declared.Plane.{Plane}
use Rattle.model.specs.declared.Plane.TheVariants.{Neither, Even, Odd}
use Rattle.model.specs.declared.Work.{Work}
use Rattle.model.specs.declared.Work.TheVariants.{Idle, Format, Checkpoint, Reclaim}

-- ---- from bytes
-- the zones
unfoldable pub zones_from : List ℕ → Zones
zones_from xs =
    record {
      available = part 8 3 xs;
      na = get_or xs 11 0;
      unavailable = part 12 126 xs;
      nu = get_or xs 138 0;
      free = part 139 126 xs;
      nf = get_or xs 265 0;
      pointer = get_or xs 266 0;
    }

-- the work of a kind and a stride number
unfoldable pub work_from : ℕ → ℕ → Work
work_from kind stride = cond (eqb kind 1) (Format stride) (cond (eqb kind 2) (Checkpoint stride) (cond (eqb kind 3) Reclaim Idle))

-- the plane that a byte says
unfoldable pub plane_from : ℕ → Plane
plane_from x = cond (eqb x 1) Even (cond (eqb x 2) Odd Neither)

-- the drops: which pages drop their logical page, a byte each
unfoldable pub drops_from : List ℕ → List Bool
drops_from xs = map (λ (x : ℕ). eqb x 1) xs

-- place i
unfoldable pub place_from : List ℕ → ℕ → Place
place_from xs i =
    record {
      id = le32 xs (281 + 325 * i);
      count = get_or xs (281 + 325 * i + 4) 0;
      lpns = words (part (281 + 325 * i + 5) 128 xs);
      ppns = words (part (281 + 325 * i + 133) 128 xs);
      drops = drops_from (part (281 + 325 * i + 261) 64 xs);
    }

-- the first n places
unfoldable pub places_in : List ℕ → ℕ → List Place
places_in xs zero = []
places_in xs (suc n) = places_in xs n ++ (place_from xs n ∷ [])

-- the state
unfoldable pub state_from : List ℕ → State
state_from xs =
    record {
      geometry = record { blocks = le16 xs 0; pages = le16 xs 2; logical = le16 xs 4; planes = le16 xs 6 };
      zones = zones_from xs;
      version = le32 xs 267;
      checkpoint = le32 xs 271;
      front = get_or xs 275 0;
      first = get_or xs 276 0;
      work = work_from (get_or xs 277 0) (le16 xs 278);
      last = plane_from (get_or xs 280 0);
      places = places_in xs 8;
    }

-- a kind of work, with a stride number if it is a format or a checkpoint
unfoldable pub work_coded : ℕ → ℕ → Bool
work_coded kind stride = eqb kind 1 || (eqb kind 2 || (eqb stride 0 && (eqb kind 0 || eqb kind 3)))

-- a byte that says a plane: 0, 1 or 2
abbrev pub plane_coded : ℕ → Bool
plane_coded x = leb x 2

-- bytes that say whether pages drop: 0 or 1, each of them
abbrev pub drop_coded : ℕ → Bool
drop_coded x = ltb x 2

unfoldable pub drops_coded : List ℕ → Bool
drops_coded xs = all drop_coded xs

-- those of the first n places
unfoldable pub places_coded : List ℕ → ℕ → Bool
places_coded xs zero = true
places_coded xs (suc n) = places_coded xs n && drops_coded (part (281 + 325 * n + 261) 64 xs)

-- whether bytes encode a state
unfoldable pub encodes : List ℕ → Bool
encodes xs = eqb (length xs) 2881 && (work_coded (get_or xs 277 0) (le16 xs 278) && (plane_coded (get_or xs 280 0) && places_coded xs 8))

-- ---- to bytes
-- the bytes of each, one after the other
module _ {A : Type 0} where
  unfoldable pub each : (A → List ℕ) → List A → List ℕ
  each f [] = []
  each f (x ∷ xs) = f x ++ each f xs

-- the geometry
unfoldable pub geometry_bytes : Geometry → List ℕ
geometry_bytes g = bytes16 g.blocks ++ bytes16 g.pages ++ bytes16 g.logical ++ bytes16 g.planes

-- the zones
unfoldable pub zone_bytes : Zones → List ℕ
zone_bytes z = z.available ++ (z.na ∷ []) ++ z.unavailable ++ (z.nu ∷ []) ++ z.free ++ (z.nf ∷ []) ++ (z.pointer ∷ [])

-- the kind of a work
abbrev pub kind_of : Work → ℕ
kind_of Idle = 0
kind_of (Format k) = 1
kind_of (Checkpoint k) = 2
kind_of Reclaim = 3

-- its stride number
abbrev pub stride_of : Work → ℕ
stride_of Idle = 0
stride_of (Format k) = k
stride_of (Checkpoint k) = k
stride_of Reclaim = 0

-- a plane
abbrev pub plane_byte : Plane → ℕ
plane_byte Neither = 0
plane_byte Even = 1
plane_byte Odd = 2

-- a drop, and drops one after the other
abbrev pub drop_byte : Bool → ℕ
drop_byte true = 1
drop_byte false = 0

unfoldable pub drop_bytes : List Bool → List ℕ
drop_bytes ds = map drop_byte ds

-- a place
unfoldable pub place_bytes : Place → List ℕ
place_bytes p = bytes32 p.id ++ (p.count ∷ []) ++ each bytes16 p.lpns ++ each bytes16 p.ppns ++ drop_bytes p.drops

-- the state
unfoldable pub bytes_of : State → List ℕ
bytes_of s =
    geometry_bytes s.geometry ++ zone_bytes s.zones ++ bytes32 s.version ++ bytes32 s.checkpoint ++ (s.front ∷ []) ++ (s.first ∷ [])
    ++ (kind_of s.work ∷ []) ++ bytes16 (stride_of s.work) ++ (plane_byte s.last ∷ []) ++ each place_bytes s.places

-- ---- bytes laid among others: of xs, the n bytes from a on are replaced by ys
pub record Laid (xs : List ℕ) (a n : ℕ) (ys now : List ℕ) : Type 0 where
  pub long : length ys ≡ n
  pub fits : a + n ≤ length xs
  pub same : length now ≡ length xs
  pub is : now ≡ splice xs a n ys
