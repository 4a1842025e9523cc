-- What refusal 1 leaves to the commands of a change: the lengths, the zone lists, and each place in range. Assumes nothing.
use mathlib.Core.Path.{◌≡◌}
use mathlib.Core.Bool.{Bool, true, false, not, cond, ◌&&◌, ◌||◌}
use mathlib.Core.List.{List, [], ◌∷◌}
use Prim.Native.Nat.{ℕ, zero, suc, ◌-◌, ◌≤◌}
use native.Mathlib.Omega.{arith}
use lib.ListN.{length, get_or, take}
use lib.Dec.{leb, ltb, eqb}
use borrow.Author.Tests.{le-leb, leb-true}
use Rattle.model.specs.Lists.{all}
use Rattle.model.specs.Geometry.{geometry_ok, lengths_ok, map_ok, data_page}
use Rattle.model.specs.Zones.{zones_ok}
use Rattle.model.specs.Frame.{no_place, bad_id, most_pages, place_ok, alone, places_ok, lent_ok, frame_ok}
use Rattle.model.specs.declared.Geometry.{Geometry}
use Rattle.model.specs.declared.Place.{Place}
use Rattle.model.specs.declared.State.{State}
use Rattle.arrays.specs.Tests.{and_left, and_right, tails_head, tails_tail}
use Rattle.arrays.specs.Ranges.{InGeometry, geometry_in, lengths_in}
use Rattle.zones.specs.Judging.{Ready}

-- a world that passes refusal 1
pub record InFrame (s : State) (xs ms hs : List ℕ) : Type 0 where
  pub ready : Ready s.geometry xs s.zones
  pub shape : InGeometry s.geometry
  pub map : length ms ≡ s.geometry.logical
  pub hold : length hs ≡ 4096
  pub places : places_ok s.geometry s.places ≡ true

pub frame_in : (s : State) (xs map hold : List ℕ) → frame_ok (record { array = xs; map = map; hold = hold; state = s }) ≡ true → InFrame s xs map hold
unfolding frame_ok lent_ok
frame_in s xs map hold e =
    let g = s.geometry in
    let lent = geometry_ok g && lengths_ok g xs map hold in
    let e1 = and_right lent _ e in
    let e2 = and_right (map_ok g map) _ e1 in
    let e3 = and_right (zones_ok g s.zones) _ e2 in
    let l = and_left lent _ e in
    let shape = and_left (geometry_ok g) (lengths_ok g xs map hold) l in
    let long = lengths_in g xs map hold (and_right (geometry_ok g) (lengths_ok g xs map hold) l) in
    record {
      ready = record { shape = shape; bytes = long.array; lists = and_left (zones_ok g s.zones) _ e2 };
      shape = geometry_in g shape;
      map = long.map;
      hold = long.hold;
      places = and_left (places_ok g s.places) _ e3;
    }

-- each place is in range, and so is the one past the end, which has no pages
pub place_at_law : (g : Geometry) (ps : List Place) (i : ℕ) → places_ok g ps ≡ true → place_ok g (get_or ps i no_place) ≡ true
unfolding places_ok
place_at_law g [] i h = unfold place_ok bad_id all in rw (le-leb 0 (most_pages g) (omega arith))
place_at_law g (p ∷ ps) zero h = and_left (place_ok g p) (alone p ps) (tails_head _ p ps h)
place_at_law g (p ∷ ps) (suc i) h = place_at_law g ps i (tails_tail _ p ps h)

-- the pages of a place that is in range
most_few : (g : Geometry) → most_pages g ≤ 64
unfolding most_pages
most_few g = go (eqb g.planes 2)
  where
    go : (t : Bool) → cond t 41 64 ≤ 64
    go true = omega arith
    go false = omega arith

module _ (g : Geometry) (p : Place) (h : place_ok g p ≡ true) where
  pub count_most : p.count ≤ 64
  unfolding place_ok
  count_most =
      let m = leb-true p.count (most_pages g) (and_left (leb p.count (most_pages g)) _ h) in
      omega (arith, most_few g)

  pub pages_in : all (λ (l : ℕ). ltb l g.logical) (take p.count p.lpns) ≡ true
  unfolding place_ok
  pages_in =
      let free = not (bad_id p.id) || (eqb p.id 0 && eqb p.count 0) in
      let pages = all (λ (l : ℕ). ltb l g.logical) (take p.count p.lpns) in
      let last = all (data_page g) (take (p.count - 1) p.ppns) in
      and_left pages last (and_right free (pages && last) (and_right (leb p.count (most_pages g)) (free && (pages && last)) h))
