-- What reclaim refuses, and what its strides may count on.
use Rattle.std.specs.Prelude.{ℕ, ◌≤◌, ◌<◌, ◌≡◌, true, not, List, [], ◌∷◌, length, get_or, set, ltb, eqb}
use Rattle.model.specs.Lists.{elem}
use Rattle.model.specs.Geometry.{geometry_ok, data_page}
use Rattle.model.specs.Zones.{clean_in, available_of, zones_ok}
use Rattle.model.specs.Checkpoint.{at}
use Rattle.model.specs.World.{World}
use Rattle.model.specs.Order.{Check, first_number}
use Rattle.model.specs.Transactions.{versions_spent}
use Rattle.model.specs.Strides.{mapped_in, picked, copies_due, no_gain, reserve_short}
use Rattle.model.specs.declared.State.{State}
use Rattle.strides.specs.Strode.{Fit}

-- a world as these checks see it: none of them looks at the hold
abbrev pub looked : State → List ℕ → List ℕ → World
looked s xs map = record { array = xs; map = map; hold = []; state = s }

-- 13 and 16 of copies due
abbrev pub copies_checks : State → List ℕ → ℕ → List Check
copies_checks s xs due =
    versions_spent (not (eqb due 0)) s.version due ∷ record { number = 16; when = ltb (clean_in xs s.geometry.pages (available_of s.zones)) due } ∷ []

-- 15, 13 and 16 of a reclaim
abbrev pub own_checks : World → List Check
own_checks w = no_gain w ∷ versions_spent (not (eqb (copies_due w) 0)) w.state.version (copies_due w) ∷ reserve_short w ∷ []

-- block b is taken, with this number of copies due
pub record Taken (w : World) (b copies : ℕ) : Type 0 where
  pub block : picked w ≡ at b
  pub due : copies ≡ mapped_in w.map w.state.geometry.pages b

-- nothing refuses a reclaim, which takes block b with this number of copies due
pub record Going (s : State) (xs map : List ℕ) (b copies : ℕ) : Type 0 where
  pub taken : picked (looked s xs map) ≡ at b
  pub due : copies ≡ mapped_in map s.geometry.pages b
  pub passes : first_number (copies_checks s xs copies) ≡ 0

-- the mapped pages of each block, as they are counted at once
pub record Counts (map : List ℕ) (p : ℕ) (counts : List ℕ) : Type 0 where
  pub all : length counts ≡ 128
  pub each : (b : ℕ) → b < 128 → get_or counts b 0 ≡ mapped_in map p b

-- every block of a list has a count
abbrev pub InTable : List ℕ → Type 0
InTable bs = (i : ℕ) → i < length bs → get_or bs i 0 < 128

-- the counts with 65535 for each block that is listed
unfoldable pub with_listed : List ℕ → List ℕ → List ℕ
with_listed [] counts = counts
with_listed (b ∷ listed) counts = with_listed listed (set counts b 65535)

-- a state and a map among whose blocks one may be picked
pub record Pickable (s : State) (map : List ℕ) : Type 0 where
  pub shape : geometry_ok s.geometry ≡ true
  pub lists : zones_ok s.geometry s.zones ≡ true
  pub few : length map ≤ 1024

-- page j is mapped, and a clean page and a version are there for its copy
pub record Copying (s : State) (xs map : List ℕ) (j : ℕ) : Type 0 where
  pub fit : Fit s xs map
  pub mapped : elem j map ≡ true
  pub «data» : data_page s.geometry j ≡ true
  pub clean : 0 < clean_in xs s.geometry.pages (available_of s.zones)
  pub number : s.version < 4294967294
