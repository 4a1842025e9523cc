-- What the pages of a change are programmed with, and what may be counted on when it comes to program one.
use Rattle.std.specs.Prelude.{ℕ, ◌+◌, ◌*◌, ◌≤◌, ◌<◌, ◌≡◌, Bool, true, false, List, length, get_or, set}
use Rattle.model.specs.Page.{page_bytes}
use Rattle.model.specs.Zones.{available_of, clean_in, next_in, taken_from}
use Rattle.model.specs.World.{World, Plan}
use Rattle.model.specs.Frame.{no_place, frame_ok}
use Rattle.model.specs.Transactions.{number_of, page_kind, held_page, held_drop}
use Rattle.model.specs.Commands.{Outcome, carried}
use Rattle.model.specs.declared.Geometry.{Geometry}
use Rattle.model.specs.declared.Place.{Place}
use Rattle.model.specs.declared.Spare.{Spare}
use Rattle.model.specs.declared.State.{State}
use Rattle.flash.specs.Programs.{Programmed}

-- the page to be programmed next: `next_page` of any world with this state and this array
abbrev pub next_of : State → List ℕ → ℕ
next_of s xs = next_in xs s.geometry.pages (taken_from s.geometry s.last xs (available_of s.zones))

-- the spare area of a page that writes or drops a logical page
abbrev pub data_spare : Bool → ℕ → ℕ → ℕ → ℕ → ℕ → Spare
data_spare drop lpn cnt id ver number = record { lpn = lpn; cnt = cnt; id = id; ver = ver; kind = page_kind drop; reserved = number }

-- a plan made on a world and carried out there
abbrev pub done : (World → Plan) → World → Outcome
done f w = carried (f w) w

-- the page that a place with pages holds was programmed on page k, with this TxCnt and TxVer; of a place without, nothing
pub record HeldDone (g : Geometry) (xs : List ℕ) (k : ℕ) (d : List ℕ) (p : Place) (cnt ver : ℕ) (ys : List ℕ) : Type 0 where
  pub none : p.count ≡ 0 → ys ≡ xs
  pub held : 0 < p.count → Programmed xs k (page_bytes d (data_spare (held_drop p) (held_page p) cnt p.id ver (number_of g p.count))) ys

-- refusal 1 passed, and a clean page and a version are there
pub record Taking (s : State) (xs map hold : List ℕ) : Type 0 where
  pub frame : frame_ok (record { array = xs; map = map; hold = hold; state = s }) ≡ true
  pub clean : s.geometry.pages < clean_in xs s.geometry.pages (available_of s.zones)
  pub number : s.version < 4294967294

-- refusal 1 passed, the place has room, and where it holds a page a clean one is there
pub record Writing (s : State) (xs map hold : List ℕ) (i lpn : ℕ) (d : List ℕ) : Type 0 where
  pub frame : frame_ok (record { array = xs; map = map; hold = hold; state = s }) ≡ true
  pub bytes : length d ≡ 512
  pub page : lpn < s.geometry.logical
  pub place : i < 8
  pub room : (get_or s.places i no_place).count < 64
  pub clean : 0 < (get_or s.places i no_place).count → s.geometry.pages < clean_in xs s.geometry.pages (available_of s.zones)

-- page k lies in the array and its number fits the map; there is an entry of the logical page, and the data are a page's
pub record LoneFits (xs map : List ℕ) (k lpn : ℕ) (d : List ℕ) : Type 0 where
  pub inside : k * 528 + 528 ≤ length xs
  pub number : k < 8192
  pub page : lpn < length map
  pub bytes : length d ≡ 512

-- a lone page of version v was programmed on page k and entered in the map
pub record LonePut (xs map : List ℕ) (k lpn v : ℕ) (d ys entries : List ℕ) : Type 0 where
  pub programmed : Programmed xs k (page_bytes d (data_spare false lpn 1 0 v 0)) ys
  pub entered : entries ≡ set map lpn k
