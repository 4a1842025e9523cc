-- What a stride does, and what it may count on.
use Rattle.std.specs.Prelude.{ℕ, ◌+◌, ◌*◌, ◌≤◌, ◌<◌, ◌≡◌, true, List, length}
use Rattle.model.specs.Page.{blank_at}
use Rattle.model.specs.Geometry.{geometry_ok, map_pages, map_ok}
use Rattle.model.specs.Zones.{zones_ok}
use Rattle.model.specs.World.{World, Plan}
use Rattle.model.specs.Frame.{places_ok}
use Rattle.model.specs.Commands.{Outcome, carried}
use Rattle.model.specs.declared.State.{State}

-- the plan f, carried out on an array, a map and a state, answers n and leaves this array, map and state, whatever the hold
abbrev pub Strode : (World → Plan) → State → List ℕ → List ℕ → ℕ → List ℕ → List ℕ → State → Type 0
Strode f s xs map n ys map' t =
    (hold : List ℕ) →
    ◌≡◌ {A = Outcome}
    (record { answer = n; world = record { array = ys; map = map'; hold = hold; state = t } })
    (carried (f (record { array = xs; map = map; hold = hold; state = s })) (record { array = xs; map = map; hold = hold; state = s }))

-- what refusal 1 passed of a state, an array and a map
pub record Fit (s : State) (xs map : List ℕ) : Type 0 where
  pub shape : geometry_ok s.geometry ≡ true
  pub bytes : length xs ≡ s.geometry.blocks * s.geometry.pages * 528
  pub entries : length map ≡ s.geometry.logical
  pub mapped : map_ok s.geometry map ≡ true
  pub zones : zones_ok s.geometry s.zones ≡ true
  pub places : places_ok s.geometry s.places ≡ true
  pub front : s.front < 2

-- page i of the checkpoint that began on page q of the front block is next: it is erased, and the checkpoint ends in that block
pub record Next (s : State) (xs map : List ℕ) (q i : ℕ) : Type 0 where
  pub fit : Fit s xs map
  pub number : s.checkpoint < 4294967294
  pub ends : q + map_pages s.geometry < s.geometry.pages
  pub upto : i ≤ map_pages s.geometry
  pub blank : blank_at xs (s.front * s.geometry.pages + (q + i)) ≡ true
