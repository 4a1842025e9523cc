-- The bytes of a state encode one, and say that very state. Assumes nothing.
use Rattle.std.specs.Prelude.{◌≡◌, refl, Bool, true, false, ℕ, suc, ◌+◌, ◌*◌, ◌/◌, ◌%◌, take, drop, get_or}
use Rattle.std.proofs.Common.{sym, ◌∙◌, drop-drop, take_at, drop_at, get_or-drop, eq-eqb}
use Rattle.std.proofs.Math.Path.{ap}
use mathlib.Core.List.{List, [], ◌∷◌, ◌++◌, append_assoc, append-nil}
use native.Mathlib.Omega.{arith}
use Rattle.std.proofs.Math.ListN.{length, length-append}
use Rattle.std.proofs.lemmas.List.{length-map}
use Rattle.model.specs.Lists.{all, part}
use Rattle.model.specs.Bytes.{le16, le32, bytes16, bytes32, words}
use Rattle.model.specs.Frame.{free_place, fresh_state}
use Rattle.model.specs.declared.Geometry.{Geometry}
use Rattle.model.specs.declared.Place.{Place}
use Rattle.model.specs.declared.Zones.{Zones}
use Rattle.model.specs.declared.State.{State}
use Rattle.model.specs.declared.Plane.{Plane}
use Rattle.model.specs.declared.Plane.TheVariants.{Neither, Even, Odd}
use Rattle.model.specs.declared.Work.{Work}
use Rattle.model.specs.declared.Work.TheVariants.{Idle, Format, Checkpoint, Reclaim}
use Rattle.arrays.specs.Tests.{and_both}
use Rattle.encoding.specs.Encoding.{zones_from, work_from, plane_from, drops_from, place_from, places_in, state_from, work_coded, plane_coded, drops_coded, places_coded, encodes, each, geometry_bytes, zone_bytes, kind_of, stride_of, plane_byte, drop_byte, drop_bytes, place_bytes, bytes_of}

-- ---- lists as long as the types have them
pub record PlaceShaped (p : Place) : Type 0 where
  pub lpns : length p.lpns ≡ 64
  pub ppns : length p.ppns ≡ 64
  pub drops : length p.drops ≡ 64

abbrev pub PlacesShaped : List Place → Type 0
PlacesShaped [] = Unit {0}
PlacesShaped (p ∷ ps) = PlaceShaped p × PlacesShaped ps

pub record Shaped (s : State) : Type 0 where
  pub available : length s.zones.available ≡ 3
  pub unavailable : length s.zones.unavailable ≡ 126
  pub free : length s.zones.free ≡ 126
  pub places : length s.places ≡ 8
  pub each : PlacesShaped s.places

-- ---- what stands from a place on
record From (xs : List ℕ) (a : ℕ) (ys : List ℕ) : Type 0 where
  is : drop a xs ≡ ys

moved : {xs ys : List ℕ} {a : ℕ} (b : ℕ) → From xs a ys → a ≡ b → From xs b ys
moved b f e = rw e at f

regroup : {xs ys : List ℕ} {a : ℕ} (zs : List ℕ) → From xs a ys → ys ≡ zs → From xs a zs
regroup zs f e = rw e at f

-- behind ys
past : {xs : List ℕ} {a : ℕ} (ys zs : List ℕ) (n : ℕ) → From xs a (ys ++ zs) → length ys ≡ n → From xs (a + n) zs
past {xs} {a} ys zs n f h = record { is = sym (drop-drop n a xs) ∙ ap (drop n) f.is ∙ drop_at ys zs n h }

behind : {xs zs : List ℕ} {a y : ℕ} → From xs a (y ∷ zs) → From xs (a + 1) zs
behind {xs} {zs} {a} {y} f = past (y ∷ []) zs 1 f refl

-- ---- what is read there
part_read : {xs : List ℕ} {a : ℕ} (ys zs : List ℕ) (n : ℕ) → From xs a (ys ++ zs) → length ys ≡ n → part a n xs ≡ ys
unfolding part
part_read ys zs n f h = ap (take n) f.is ∙ take_at ys zs n h

at_read : {xs ys : List ℕ} {a : ℕ} → From xs a ys → (i : ℕ) → get_or xs (a + i) 0 ≡ get_or ys i 0
at_read {xs} {ys} {a} f i = sym (get_or-drop a xs i 0) ∙ ap (λ (l : List ℕ). get_or l i 0) f.is

byte_read : {xs zs : List ℕ} {a y : ℕ} → From xs a (y ∷ zs) → get_or xs a 0 ≡ y
byte_read {xs} {zs} {a} {y} f = let z : a + 0 ≡ a = omega arith in rw z at (at_read f 0)

half_read : {xs : List ℕ} {a : ℕ} (x : ℕ) (zs : List ℕ) → From xs a (bytes16 x ++ zs) → le16 xs a ≡ x
half_read x zs f = omega (arith, byte_read f, at_read f 1)

word_read : {xs : List ℕ} {a : ℕ} (x : ℕ) (zs : List ℕ) → From xs a (bytes32 x ++ zs) → le32 xs a ≡ x
word_read {xs} {a} x zs f =
    let n : a + 3 ≡ a + 2 + 1 = omega arith in
    omega (arith, byte_read f, at_read f 1, at_read f 2, rw n at (at_read f 3))

words_halves : (ls : List ℕ) → words (each bytes16 ls) ≡ ls
unfolding words each
words_halves [] = refl
words_halves (x ∷ ls) = let e : x % 256 + 256 * (x / 256) ≡ x = omega arith in rw (e, words_halves ls)

length_halves : (ls : List ℕ) → length (each bytes16 ls) ≡ 2 * length ls
unfolding each
length_halves [] = refl
length_halves (x ∷ ls) = let e = length_halves ls in omega arith

halves_read : {xs : List ℕ} {a : ℕ} (ls zs : List ℕ) → From xs a (each bytes16 ls ++ zs) → length ls ≡ 64 → words (part a 128 xs) ≡ ls
halves_read ls zs f h = ap words (part_read (each bytes16 ls) zs 128 f (length_halves ls ∙ (omega arith))) ∙ words_halves ls

drops_said : (ds : List Bool) → drops_from (drop_bytes ds) ≡ ds
unfolding drops_from drop_bytes
drops_said [] = refl
drops_said (true ∷ ds) = ap (λ (t : List Bool). true ∷ t) (drops_said ds)
drops_said (false ∷ ds) = ap (λ (t : List Bool). false ∷ t) (drops_said ds)

drops_coded_law : (ds : List Bool) → drops_coded (drop_bytes ds) ≡ true
unfolding drops_coded drop_bytes all
drops_coded_law [] = refl
drops_coded_law (true ∷ ds) = drops_coded_law ds
drops_coded_law (false ∷ ds) = drops_coded_law ds

length_drops : (ds : List Bool) → length (drop_bytes ds) ≡ length ds
unfolding drop_bytes
length_drops ds = length-map ds drop_byte

-- ---- a plane, a work, the zones, a place, the places
plane_read : (k : Plane) → plane_from (plane_byte k) ≡ k
unfolding plane_from
plane_read Neither = refl
plane_read Even = refl
plane_read Odd = refl

plane_coded_law : (k : Plane) → plane_coded (plane_byte k) ≡ true
plane_coded_law Neither = refl
plane_coded_law Even = refl
plane_coded_law Odd = refl

work_read : (w : Work) → work_from (kind_of w) (stride_of w) ≡ w
unfolding work_from
work_read Idle = refl
work_read (Format k) = refl
work_read (Checkpoint k) = refl
work_read Reclaim = refl

work_coded_law : (w : Work) → work_coded (kind_of w) (stride_of w) ≡ true
unfolding work_coded
work_coded_law Idle = refl
work_coded_law (Format k) = refl
work_coded_law (Checkpoint k) = refl
work_coded_law Reclaim = refl

zones_read : {xs : List ℕ} (z : Zones) (r : List ℕ) → length z.available ≡ 3 → length z.unavailable ≡ 126 → length z.free ≡ 126 → From xs 8 (zone_bytes z ++ r) → zones_from xs ≡ z
unfolding zone_bytes zones_from
zones_read {xs} z r ha hu hf f =
    let f4 = z.nf ∷ z.pointer ∷ r in
    let f3 = z.free ++ f4 in
    let f2 = z.unavailable ++ (z.nu ∷ f3) in
    let a = regroup (z.available ++ (z.na ∷ f2)) f (simp append_assoc) in
    let na = past z.available (z.na ∷ f2) 3 a ha in
    let u = behind na in
    let nu = past z.unavailable (z.nu ∷ f3) 126 u hu in
    let g = behind nu in
    let nf = past z.free f4 126 g hf in
    rw (part_read z.available (z.na ∷ f2) 3 a ha, byte_read na, part_read z.unavailable (z.nu ∷ f3) 126 u hu, byte_read nu, part_read z.free f4 126 g hf, byte_read nf, byte_read (behind nf))

place_read : {xs : List ℕ} (i : ℕ) (p : Place) (r : List ℕ) → PlaceShaped p → From xs (281 + 325 * i) (place_bytes p ++ r)
    → (place_from xs i ≡ p) × (drops_coded (part (281 + 325 * i + 261) 64 xs) ≡ true)
unfolding place_bytes place_from
place_read {xs} i p r h f =
    let s = drop_bytes p.drops ++ r in
    let q = each bytes16 p.ppns ++ s in
    let a = regroup (bytes32 p.id ++ (p.count ∷ (each bytes16 p.lpns ++ q))) f (simp append_assoc) in
    let c = past (bytes32 p.id) (p.count ∷ (each bytes16 p.lpns ++ q)) 4 a refl in
    let l = moved (281 + 325 * i + 5) (behind c) (omega arith) in
    let m = moved (281 + 325 * i + 133) (past (each bytes16 p.lpns) q 128 l (length_halves p.lpns ∙ (let k = h.lpns in omega arith))) (omega arith) in
    let n = moved (281 + 325 * i + 261) (past (each bytes16 p.ppns) s 128 m (length_halves p.ppns ∙ (let k = h.ppns in omega arith))) (omega arith) in
    let d = part_read (drop_bytes p.drops) r 64 n (length_drops p.drops ∙ h.drops) in
    let e : place_from xs i ≡ p =
    rw (word_read p.id (p.count ∷ (each bytes16 p.lpns ++ q)) a, byte_read c, halves_read p.lpns q l h.lpns, halves_read p.ppns s m h.ppns, d, drops_said p.drops) in
    (e, rw d (drops_coded_law p.drops))

length_place : (p : Place) → PlaceShaped p → length (place_bytes p) ≡ 325
unfolding place_bytes
length_place p h =
    let k = h.lpns in
    let m = h.ppns in
    let d = h.drops in
    simp (length-append, length_halves, length_drops) (omega arith)

-- where the next place stands
next : {xs : List ℕ} (p : Place) (ps : List Place) (i : ℕ) → PlaceShaped p → From xs (281 + 325 * i) (each place_bytes (p ∷ ps)) → From xs (281 + 325 * suc i) (each place_bytes ps)
unfolding each
next p ps i h f = moved (281 + 325 * suc i) (past (place_bytes p) (each place_bytes ps) 325 f (length_place p h)) (omega arith)

places_read : {xs : List ℕ} (ps : List Place) (i : ℕ) → PlacesShaped ps → From xs (281 + 325 * i) (each place_bytes ps) → places_in xs (length ps + i) ≡ places_in xs i ++ ps
unfolding places_in each
places_read {xs} [] i h f = let z : 0 + i ≡ i = omega arith in ap (places_in xs) z ∙ sym (append-nil (places_in xs i))
places_read {xs} (p ∷ ps) i h f =
    let n : length (p ∷ ps) + i ≡ length ps + suc i = omega arith in
    ap (places_in xs) n ∙ places_read ps (suc i) h.1 (next p ps i h.0 f)
    ∙ ap (λ (q : Place). (places_in xs i ++ (q ∷ [])) ++ ps) (place_read i p (each place_bytes ps) h.0 f).0 ∙ append_assoc (places_in xs i) (p ∷ []) ps

places_coded_law : {xs : List ℕ} (ps : List Place) (i : ℕ) → PlacesShaped ps → From xs (281 + 325 * i) (each place_bytes ps) → places_coded xs i ≡ true → places_coded xs (length ps + i) ≡ true
unfolding places_coded each
places_coded_law {xs} [] i h f e = let z : 0 + i ≡ i = omega arith in rw z e
places_coded_law {xs} (p ∷ ps) i h f e =
    let n : length (p ∷ ps) + i ≡ length ps + suc i = omega arith in
    rw n (places_coded_law ps (suc i) h.1 (next p ps i h.0 f) (and_both (places_coded xs i) _ e (place_read i p (each place_bytes ps) h.0 f).1))

length_places : (ps : List Place) → PlacesShaped ps → length (each place_bytes ps) ≡ 325 * length ps
unfolding each
length_places [] h = refl
length_places (p ∷ ps) h =
    let e = length_place p h.0 in
    let k = length_places ps h.1 in
    length-append (place_bytes p) (each place_bytes ps) ∙ (omega arith)

-- ---- the laws
module _ (s : State) (h : Shaped s) where
  -- what stands behind the geometry, the zones, the numbers, the front place and the work
  from_last : List ℕ
  from_last = plane_byte s.last ∷ each place_bytes s.places

  from_work : List ℕ
  from_work = kind_of s.work ∷ (bytes16 (stride_of s.work) ++ from_last)

  from_numbers : List ℕ
  from_numbers = bytes32 s.version ++ (bytes32 s.checkpoint ++ (s.front ∷ s.first ∷ from_work))

  from_zones : List ℕ
  from_zones = zone_bytes s.zones ++ from_numbers

  whole : From (bytes_of s) 0 (bytes16 s.geometry.blocks ++ (bytes16 s.geometry.pages ++ (bytes16 s.geometry.logical ++ (bytes16 s.geometry.planes ++ from_zones))))
  unfolding bytes_of geometry_bytes from_zones from_numbers from_work from_last
  whole = record { is = simp append_assoc }

  planes : From (bytes_of s) 6 (bytes16 s.geometry.planes ++ from_zones)
  planes = behind (behind (behind (behind (behind (behind whole)))))

  zones : From (bytes_of s) 8 (zone_bytes s.zones ++ from_numbers)
  unfolding from_zones
  zones = behind (behind planes)

  length_zones : length (zone_bytes s.zones) ≡ 259
  unfolding zone_bytes
  length_zones =
      let a = h.available in
      let u = h.unavailable in
      let f = h.free in
      simp length-append (omega arith)

  numbers : From (bytes_of s) 267 from_numbers
  numbers = past (zone_bytes s.zones) from_numbers 259 zones length_zones

  front : From (bytes_of s) 275 (s.front ∷ s.first ∷ from_work)
  unfolding from_numbers
  front = behind (behind (behind (behind (behind (behind (behind (behind numbers)))))))

  work : From (bytes_of s) 277 (kind_of s.work ∷ (bytes16 (stride_of s.work) ++ from_last))
  unfolding from_work
  work = behind (behind front)

  last : From (bytes_of s) 280 (plane_byte s.last ∷ each place_bytes s.places)
  unfolding from_last
  last = behind (behind (behind work))

  places : From (bytes_of s) 281 (each place_bytes s.places)
  places = behind last

  all_places : places_in (bytes_of s) 8 ≡ s.places
  unfolding places_in
  all_places =
      let k = h.places in
      let n : 8 ≡ length s.places + 0 = omega arith in
      ap (places_in (bytes_of s)) n ∙ places_read s.places 0 h.each places

  all_coded : places_coded (bytes_of s) 8 ≡ true
  all_coded =
      let k = h.places in
      let n : 8 ≡ length s.places + 0 = omega arith in
      rw n (places_coded_law s.places 0 h.each places (unfold places_coded in refl))

  the_work : work_from (get_or (bytes_of s) 277 0) (le16 (bytes_of s) 278) ≡ s.work
  the_work = rw (byte_read work, half_read (stride_of s.work) from_last (behind work)) (work_read s.work)

  the_last : plane_from (get_or (bytes_of s) 280 0) ≡ s.last
  the_last = rw (byte_read last) (plane_read s.last)

  -- the state is the one that was encoded
  pub state_back : state_from (bytes_of s) ≡ s
  unfolding state_from from_numbers
  state_back =
      rw (
        half_read _ _ whole,
        half_read _ _ (behind (behind whole)),
        half_read _ _ (behind (behind (behind (behind whole)))),
        half_read _ _ planes,
        zones_read s.zones from_numbers h.available h.unavailable h.free zones,
        word_read s.version _ numbers,
        word_read s.checkpoint _ (behind (behind (behind (behind numbers)))),
        byte_read front,
        byte_read (behind front),
        the_work,
        the_last,
        all_places,
      )

  length_bytes : length (bytes_of s) ≡ 2881
  unfolding bytes_of geometry_bytes
  length_bytes =
      let z = length_zones in
      let p = length_places s.places h.each in
      let k = h.places in
      simp length-append (omega arith)

  -- and its bytes encode one
  pub coded_back : encodes (bytes_of s) ≡ true
  unfolding encodes
  coded_back = rw (eq-eqb _ _ length_bytes, byte_read work, half_read (stride_of s.work) from_last (behind work), work_coded_law s.work, byte_read last, plane_coded_law s.last) all_coded

-- the state that format and recover start from is one of them
pub fresh_shaped : (g : Geometry) → Shaped (fresh_state g)
unfolding fresh_state
fresh_shaped g = record { available = refl; unavailable = refl; free = refl; places = refl; each = (p, (p, (p, (p, (p, (p, (p, (p, tt)))))))) }
  where
    p : PlaceShaped free_place
    p = record { lpns = refl; ppns = refl; drops = refl }
