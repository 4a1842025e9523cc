-- Structs made of what was read for each field. Assumes nothing.
use mathlib.Core.Path.{◌≡◌}
use mathlib.Core.Bool.{Bool}
use mathlib.Core.List.{List, [], ◌∷◌}
use Prim.Native.Nat.{ℕ, ◌+◌, ◌*◌}
use lib.ListN.{get_or}
use Rattle.model.specs.Lists.{part}
use Rattle.model.specs.Bytes.{le16, le32, words}
use Rattle.model.specs.declared.Place.{Place}
use Rattle.model.specs.declared.Zones.{Zones}
use Rattle.model.specs.declared.State.{State}
use Rattle.model.specs.declared.Plane.{Plane}
use Rattle.model.specs.declared.Work.{Work}
use Rattle.encoding.specs.Encoding.{zones_from, work_from, plane_from, drops_from, place_from, places_in, state_from}

pub zones_read : (xs a u f : List ℕ) → a ≡ part 8 3 xs → u ≡ part 12 126 xs → f ≡ part 139 126 xs
    → ◌≡◌ {A = Zones} (record { available = a; na = get_or xs 11 0; unavailable = u; nu = get_or xs 138 0; free = f; nf = get_or xs 265 0; pointer = get_or xs 266 0 }) (zones_from xs)
unfolding zones_from
zones_read xs a u f e1 e2 e3 = rw (e1, e2, e3)

pub place_read : (xs : List ℕ) (i id : ℕ) (ls ps : List ℕ) (ds : List Bool) → id ≡ le32 xs (281 + 325 * i) → ls ≡ words (part (281 + 325 * i + 5) 128 xs)
    → ps ≡ words (part (281 + 325 * i + 133) 128 xs) → ds ≡ drops_from (part (281 + 325 * i + 261) 64 xs)
    → ◌≡◌ {A = Place} (record { id = id; count = get_or xs (281 + 325 * i + 4) 0; lpns = ls; ppns = ps; drops = ds }) (place_from xs i)
unfolding place_from
place_read xs i id ls ps ds e1 e2 e3 e4 = rw (e1, e2, e3, e4)

pub places_read : (xs : List ℕ) (a b c d e f g h : Place) → a ≡ place_from xs 0 → b ≡ place_from xs 1 → c ≡ place_from xs 2 → d ≡ place_from xs 3
    → e ≡ place_from xs 4 → f ≡ place_from xs 5 → g ≡ place_from xs 6 → h ≡ place_from xs 7
    → (a ∷ b ∷ c ∷ d ∷ e ∷ f ∷ g ∷ h ∷ []) ≡ places_in xs 8
unfolding places_in
places_read xs a b c d e f g h e1 e2 e3 e4 e5 e6 e7 e8 = rw (e1, e2, e3, e4, e5, e6, e7, e8)

pub state_read : (xs : List ℕ) (b p l t v n : ℕ) (z : Zones) (w : Work) (k : Plane) (ps : List Place) → b ≡ le16 xs 0 → p ≡ le16 xs 2 → l ≡ le16 xs 4 → t ≡ le16 xs 6
    → z ≡ zones_from xs → v ≡ le32 xs 267 → n ≡ le32 xs 271 → w ≡ work_from (get_or xs 277 0) (le16 xs 278) → k ≡ plane_from (get_or xs 280 0) → ps ≡ places_in xs 8
    → ◌≡◌ {A = State} (record {
      geometry = record { blocks = b; pages = p; logical = l; planes = t };
      zones = z;
      version = v;
      checkpoint = n;
      front = get_or xs 275 0;
      first = get_or xs 276 0;
      work = w;
      last = k;
      places = ps;
    }) (state_from xs)
unfolding state_from
state_read xs b p l t v n z w k ps e1 e2 e3 e4 e5 e6 e7 e8 e9 e10 = rw (e1, e2, e3, e4, e5, e6, e7, e8, e9, e10)
