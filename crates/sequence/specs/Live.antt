-- The live world: what holds of array, map, hold and state, with the book, at every point of a sequence where no cut lost the state.
-- Nothing refuses it with 1, each logical page reads as the book has it, and a recovery leads to such a world.
use Rattle.std.specs.Prelude.{◌≡◌, refl, ◌≢◌, true, false, ℕ, zero, suc, ◌<◌, List, [], length, get_or, replicate}
use Rattle.std.proofs.Common.{sym, ◌∙◌, subst, arith, length-take-le, lt-ltb}
use Rattle.std.proofs.lemmas.List.{length-replicate}
use Rattle.model.specs.Lists.{any}
use Rattle.model.specs.Geometry.{geometry_ok, lengths_ok}
use Rattle.model.specs.Zones.{Entry, available_of, unavailable_of, free_of, zones_ok, scan_of}
use Rattle.model.specs.World.{World}
use Rattle.model.specs.Frame.{free_place, no_place, place_ok, lent_ok, frame_ok}
use Rattle.model.specs.Book.{Book, writes_of}
use Rattle.model.specs.Demand3.{Reads}
use Rattle.model.specs.declared.Geometry.{Geometry}
use Rattle.model.specs.declared.Place.{Place}
use Rattle.model.specs.declared.State.{State}
use Rattle.model.specs.declared.Zones.{Zones}
use Rattle.arrays.specs.Tests.{and_both}
use Rattle.arrays.specs.Ranges.{InGeometry, geometry_in, in_lengths}
use Rattle.arrays.specs.ZoneLists.{zones_of_ok}
use Rattle.front.specs.ZoneBack.{Fits, plain, plain_available, plain_unavailable, plain_free}
use Rattle.front.specs.Written.{Saved}
use Rattle.front.specs.Kept.{Kept, kept_work, kept_block, recovered_kept}
use Rattle.front.specs.Recovered.{state_of, front_state}
use Rattle.scanlog.specs.Sublist.{sub_refl}
use Rattle.scanlog.specs.Free.{Grown, grown_scan, grown_tidy}
use Rattle.scanlog.specs.Logged.{Logged}
use Rattle.scanlog.specs.Open.{Opens}
use Rattle.scanlog.specs.Tidy.{Tidy}
use Rattle.sequence.specs.Maps.{good_ok}
use Rattle.sequence.specs.Contents.{reads_content}
use Rattle.sequence.specs.Places.{PlacesGood, place_at, places_ok_law, free_ok}
use Rattle.sequence.specs.OpenBook.{is_open}
use Rattle.sequence.specs.Writes.{Writes}
use Rattle.sequence.specs.Sound.{Sound, handed, recovered}

-- ---- definitions
-- the open changes of the book against the places, the array, the map and the hold
pub record Changing (xs map hold : List ℕ) (ps : List Place) (b : Book) : Type 0 where
  pub eight : length ps ≡ 8
  pub writes : (i : ℕ) → i < 8 → (place_at ps i).id ≢ 0 → Writes xs map hold i (place_at ps i) (writes_of (place_at ps i).id b.changes)
  pub opened : (i : ℕ) → i < 8 → (place_at ps i).id ≢ 0 → is_open (place_at ps i).id b.changes ≡ true
  pub closed : (id : ℕ) → id ≢ 0 → ((i : ℕ) → i < 8 → (place_at ps i).id ≢ id) → is_open id b.changes ≡ false

-- what is scanned
abbrev pub scanned : World → List Entry
scanned w = scan_of w.array w.state.geometry.pages w.state.zones

-- the invariant of a live world with the book
pub record Live (w : World) (b : Book) : Type 0 where
  pub saved : Saved
  pub sound : Sound w.state.geometry w.array saved w.map w.state.version b.pages
  pub kept : Kept w saved
  pub grown : Grown saved.zones w.state.zones
  pub tidy : Tidy w.state.geometry w.array w.state.zones
  pub hold : length w.hold ≡ 4096
  pub places : PlacesGood w.state.geometry w.state.places
  pub opens : Opens w.state.geometry w.state.places (scanned w)
  pub changing : Changing w.array w.map w.hold w.state.places b

-- ---- laws
module _ (w : World) (b : Book) (h : Live w b) where
  pub live_range : InGeometry w.state.geometry
  live_range = geometry_in w.state.geometry h.sound.geometry

  pub live_logged : Logged w.state.geometry.planes w.state.geometry.logical h.saved.version h.saved.map (scanned w) w.map
      w.state.version
  live_logged = rw (grown_scan h.saved.zones w.state.zones h.grown w.array w.state.geometry.pages) at h.sound.logged

  live_lent : lent_ok w.state.geometry w ≡ true
  unfolding lent_ok
  live_lent =
      let g = w.state.geometry in
      and_both (geometry_ok g) (lengths_ok g w.array w.map w.hold) h.sound.geometry
      (in_lengths g w.array w.map w.hold (record { array = h.sound.long; map = h.sound.wide; hold = h.hold }))

  -- nothing refuses it with 1
  pub live_frame : frame_ok w ≡ true
  unfolding frame_ok
  live_frame =
      let s = w.state in
      let g = s.geometry in
      and_both _ _ live_lent
      (and_both _ _ (good_ok g w.map h.sound.good)
      (and_both _ _ h.tidy.ok
      (and_both _ _ (places_ok_law g s.places h.places)
      (and_both _ _ (lt-ltb s.front 2 (kept_block w h.saved h.kept)) (kept_work w h.saved h.kept)))))

  -- each logical page reads as the book has it
  pub live_reads : Reads w.state.geometry b w
  live_reads lpn l = reads_content w b.pages live_frame h.sound.contents lpn (omega (arith, h.sound.wide)) l

-- ---- a recovered world
-- eight free places
free_at : (n i : ℕ) → (get_or (replicate n free_place) i no_place).id ≡ 0
free_at zero i = refl
free_at (suc n) zero = refl
free_at (suc n) (suc i) = free_at n i

pub free_places_good : (g : Geometry) → PlacesGood g (replicate 8 free_place)
free_places_good g = record { ok = each 8; apart = λ i j l k n z. absurd (z (free_at 8 i)) }
  where
    each : (n i : ℕ) → i < length (replicate n free_place) → place_ok g (get_or (replicate n free_place) i no_place) ≡ true
    each zero i l = absurd (omega arith)
    each (suc n) zero l = free_ok g
    each (suc n) (suc i) l = each n i (omega arith)

-- they are open nowhere, and no change of the book is
pub free_opens : (g : Geometry) (es : List Entry) → Opens g (replicate 8 free_place) es
free_opens g es i l z = absurd (z (free_at 8 i))

pub free_changing : (xs map hold : List ℕ) (b : Book) → b.changes ≡ [] → Changing xs map hold (replicate 8 free_place) b
unfolding is_open any
free_changing xs map hold b e = record {
  eight = length-replicate {A = Place} 8 free_place;
  writes = λ i l z. absurd (z (free_at 8 i));
  opened = λ i l z. absurd (z (free_at 8 i));
  closed = λ id n k. rw e refl;
}

-- with its open changes closed
abbrev pub closed_book : Book → Book
closed_book b = record { pages = b.pages; changes = [] }

-- the zones of a checkpoint, read back
plain_grown : (z : Zones) → Grown (plain z) z
plain_grown z = record { available = plain_available z; unavailable = plain_unavailable z; free = rw (plain_free z) (sub_refl (free_of z)) }

pub grown_plain : (z : Zones) → Grown z (plain z)
grown_plain z = record { available = sym (plain_available z); unavailable = sym (plain_unavailable z); free = rw (plain_free z) (sub_refl (free_of z)) }

plain_ok : (g : Geometry) (z : Zones) → Fits z → zones_ok g z ≡ true → zones_ok g (plain z) ≡ true
unfolding plain zones_ok
plain_ok g z f h =
    let a : length (available_of z) ≡ z.na = length-take-le z.na z.available f.available in
    let u : length (unavailable_of z) ≡ z.nu = length-take-le z.nu z.unavailable f.unavailable in
    let e : length (free_of z) ≡ z.nf = length-take-le z.nf z.free f.free in
    zones_of_ok (available_of z) (unavailable_of z) (free_of z) z.pointer g ∙ rw (a, u, e) h

pub sound_live : (g : Geometry) (xs : List ℕ) (c : Saved) (map : List ℕ) (version : ℕ) (b : Book) (hold : List ℕ)
    → (h : Sound g xs c map version b.pages) → length hold ≡ 4096 → Live (handed xs map hold (recovered g xs c map version b.pages h)) (closed_book b)
unfolding state_of
sound_live g xs c map version b hold h e = record {
  saved = c;
  sound = subst (λ (v : ℕ). Sound g xs c map v b.pages) (sym h.logged.last) h;
  kept = subst (λ (s : State). Kept (handed xs map hold s) c) (front_state g xs c h.front) (recovered_kept g xs map hold c h.front);
  grown = grown_plain c.zones;
  tidy = grown_tidy (plain c.zones) c.zones (plain_grown c.zones) g xs (plain_ok g c.zones h.front.fits h.sane.zones) h.tidy;
  hold = e;
  places = free_places_good g;
  opens = free_opens g _;
  changing = free_changing xs map hold (closed_book b) refl;
}
