-- Bytes that encode a state are the bytes of the state that they say. Assumes nothing.
use Rattle.std.specs.Prelude.{◌≡◌, Bool, true, false, cond, ◌&&◌, ◌||◌, length, take, drop, get_or, eqb}
use Rattle.std.proofs.Math.Path.{refl, sym, ap}
use Rattle.std.proofs.Common.{◌∙◌, inl, inr, mul-suc, arith, take-add, drop-drop, drop-cons, eqb-true, ltb-true, leb-true}
use Rattle.std.proofs.lemmas.Bool.{false≢true}
use mathlib.Core.List.{List, [], ◌∷◌, ◌++◌}
use Prim.Native.Nat.{ℕ, zero, suc, ◌+◌, ◌-◌, ◌*◌, ◌/◌, ◌%◌, ◌≤◌, ◌<◌}
use Rattle.model.specs.Lists.{all, part}
use Rattle.model.specs.Bytes.{le16, le32, bytes16, bytes32, words}
use Rattle.model.specs.declared.Work.{Work}
use Rattle.arrays.specs.Tests.{Is, eqb_cases, and_left, and_right}
use Rattle.arrays.specs.Bytelist.{Bytes, bytes_take, bytes_drop}
use Rattle.arrays.specs.Splice.{length_part, part_all}
use Rattle.encoding.specs.Encoding.{zones_from, work_from, plane_from, drops_from, place_from, places_in, state_from, work_coded, plane_coded, drop_coded, drops_coded, places_coded, encodes, each, geometry_bytes, zone_bytes, kind_of, stride_of, plane_byte, drop_byte, drop_bytes, place_bytes, bytes_of}
use Rattle.encoding.specs.Each.{each_append, each_one}

-- ---- the n bytes of xs from a on
record Tile (xs : List ℕ) (a n : ℕ) (ys : List ℕ) : Type 0 where
  is : ys ≡ part a n xs

part_join : (xs : List ℕ) (a n m : ℕ) → part a n xs ++ part (a + n) m xs ≡ part a (n + m) xs
unfolding part
part_join xs a n m = ap (λ (l : List ℕ). take n (drop a xs) ++ take m l) (sym (drop-drop n a xs)) ∙ sym (take-add n m (drop a xs))

-- and those that follow
join : {xs ys zs : List ℕ} {a n k m : ℕ} → Tile xs a n ys → Tile xs k m zs → k ≡ a + n → Tile xs a (n + m) (ys ++ zs)
join {xs} {ys} {zs} {a} {n} {k} {m} e f h = record { is = rw (e.is, f.is, h) (part_join xs a n m) }

-- ---- numbers of 2 bytes, one after the other
halves_words : (n : ℕ) (ys : List ℕ) → length ys ≡ 2 * n → Bytes ys → each bytes16 (words ys) ≡ ys
unfolding each words
halves_words n [] h b = refl
halves_words n (x ∷ []) h b = absurd (omega arith)
halves_words n (x ∷ y ∷ ys) h b =
    let k = b.0 in
    let e : (x + 256 * y) % 256 ≡ x = omega arith in
    let f : (x + 256 * y) / 256 ≡ y = omega arith in
    rw (e, f, halves_words (n - 1) ys (omega arith) b.1.1)

-- ---- drops that are 0 or 1
drop_back : (x : ℕ) → drop_coded x ≡ true → drop_byte (eqb x 1) ≡ x
drop_back x e = go x (ltb-true x 2 e)
  where
    go : (x : ℕ) → x < 2 → drop_byte (eqb x 1) ≡ x
    go zero h = refl
    go (suc zero) h = refl
    go (suc (suc x)) h = absurd (omega arith)

drops_back : (ys : List ℕ) → drops_coded ys ≡ true → drop_bytes (drops_from ys) ≡ ys
unfolding drops_coded drop_bytes drops_from all
drops_back [] e = refl
drops_back (y ∷ ys) e = rw (drop_back y (and_left (drop_coded y) _ e), drops_back ys (and_right (drop_coded y) _ e))

place_coded : (xs : List ℕ) (n i : ℕ) → i < n → places_coded xs n ≡ true → drops_coded (part (281 + 325 * i + 261) 64 xs) ≡ true
unfolding places_coded
place_coded xs zero i h e = absurd (omega arith)
place_coded xs (suc n) i h e = go (eqb_cases i n) (λ l. place_coded xs n i l (and_left (places_coded xs n) _ e))
  where
    go : Is i n → (i < n → drops_coded (part (281 + 325 * i + 261) 64 xs) ≡ true) → drops_coded (part (281 + 325 * i + 261) 64 xs) ≡ true
    go (inl (k, _)) f = rw k (and_right (places_coded xs n) _ e)
    go (inr (k, _)) f = f (omega arith)

-- ---- a work that goes with its stride number
work_back : (kind stride : ℕ) → work_coded kind stride ≡ true → (kind_of (work_from kind stride) ≡ kind) × (stride_of (work_from kind stride) ≡ stride)
unfolding work_coded work_from
work_back kind stride e = go (eqb kind 1) (eqb kind 2) (eqb stride 0) (eqb kind 0) (eqb kind 3) (eqb-true kind 1) (eqb-true kind 2) (eqb-true stride 0) (eqb-true kind 0) (eqb-true kind 3) e
  where
    go : (a b c d f : Bool) → (a ≡ true → kind ≡ 1) → (b ≡ true → kind ≡ 2) → (c ≡ true → stride ≡ 0) → (d ≡ true → kind ≡ 0) → (f ≡ true → kind ≡ 3)
        → (a || (b || (c && (d || f)))) ≡ true
        → (kind_of (cond a (Work.Format stride) (cond b (Work.Checkpoint stride) (cond f Work.Reclaim Work.Idle))) ≡ kind)
        × (stride_of (cond a (Work.Format stride) (cond b (Work.Checkpoint stride) (cond f Work.Reclaim Work.Idle))) ≡ stride)
    go true b c d f ha hb hc hd hf e = (sym (ha refl), refl)
    go false true c d f ha hb hc hd hf e = (sym (hb refl), refl)
    go false false true d true ha hb hc hd hf e = (sym (hf refl), sym (hc refl))
    go false false true true false ha hb hc hd hf e = (sym (hd refl), sym (hc refl))
    go false false true false false ha hb hc hd hf e = absurd (false≢true e)
    go false false false d f ha hb hc hd hf e = absurd (false≢true e)

-- ---- a plane's byte
plane_back : (x : ℕ) → plane_coded x ≡ true → plane_byte (plane_from x) ≡ x
plane_back x e = go x (leb-true x 2 e)
  where
    go : (x : ℕ) → x ≤ 2 → plane_byte (plane_from x) ≡ x
    go zero h = unfold plane_from in refl
    go (suc zero) h = unfold plane_from in refl
    go (suc (suc zero)) h = unfold plane_from in refl
    go (suc (suc (suc x))) h = absurd (omega arith)

module _ (xs : List ℕ) where
  byte_tile : (k : ℕ) → k < length xs → Tile xs k 1 (get_or xs k 0 ∷ [])
  unfolding part
  byte_tile k h = record { is = sym (ap (take 1) (drop-cons xs k 0 h)) }

  module _ (b : Bytes xs) where
    -- ---- a number of 2 bytes, of 4, and 64 of 2
    small : (k : ℕ) → get_or xs k 0 < 256
    small k = go k xs b
      where
        go : (i : ℕ) (ys : List ℕ) → Bytes ys → get_or ys i 0 < 256
        go i [] c = omega arith
        go zero (y ∷ ys) c = c.0
        go (suc i) (y ∷ ys) c = go i ys c.1

    part_bytes : (a n : ℕ) → Bytes (part a n xs)
    unfolding part
    part_bytes a n = bytes_take n (drop a xs) (bytes_drop a xs b)

    half_tile : (a : ℕ) → a + 2 ≤ length xs → Tile xs a 2 (bytes16 (le16 xs a))
    half_tile a h =
        let k = small a in
        let e : le16 xs a % 256 ≡ get_or xs a 0 = omega arith in
        let f : le16 xs a / 256 ≡ get_or xs (a + 1) 0 = omega arith in
        rw (e, f) (join (byte_tile a (omega arith)) (byte_tile (a + 1) (omega arith)) refl)

    word_tile : (a : ℕ) → a + 4 ≤ length xs → Tile xs a 4 (bytes32 (le32 xs a))
    word_tile a h =
        let k0 = small a in
        let k1 = small (a + 1) in
        let k2 = small (a + 2) in
        let q1 : le32 xs a / 256 ≡ get_or xs (a + 1) 0 + 256 * le16 xs (a + 2) = omega arith in
        let q2 : le32 xs a / 65536 ≡ le16 xs (a + 2) = omega arith in
        let e0 : le32 xs a % 256 ≡ get_or xs a 0 = omega arith in
        let e1 : le32 xs a / 256 % 256 ≡ get_or xs (a + 1) 0 = rw q1 (omega arith) in
        let e2 : le32 xs a / 65536 % 256 ≡ get_or xs (a + 2) 0 = rw q2 (omega arith) in
        let e3 : le32 xs a / 16777216 ≡ get_or xs (a + 2 + 1) 0 = omega arith in
        let two = join (byte_tile a (omega arith)) (byte_tile (a + 1) (omega arith)) refl in
        rw (e0, e1, e2, e3) (join (join two (byte_tile (a + 2) (omega arith)) refl) (byte_tile (a + 2 + 1) (omega arith)) (omega arith))

    halves_tile : (a n : ℕ) → a + 2 * n ≤ length xs → Tile xs a (2 * n) (each bytes16 (words (part a (2 * n) xs)))
    halves_tile a n h = record { is = halves_words n (part a (2 * n) xs) (length_part a (2 * n) xs h) (part_bytes a (2 * n)) }

    module _ (l : length xs ≡ 2881) where
      -- ---- the zones, a place, the places
      zones_tile : Tile xs 8 259 (zone_bytes (zones_from xs))
      unfolding zone_bytes zones_from
      zones_tile =
          let one = join (record { is = refl }) (byte_tile 11 (omega arith)) refl in
          let two = join (join one (record { is = refl }) refl) (byte_tile 138 (omega arith)) refl in
          let three = join (join two (record { is = refl }) refl) (byte_tile 265 (omega arith)) refl in
          join three (byte_tile 266 (omega arith)) refl

      module _ (d : places_coded xs 8 ≡ true) where
        place_tile : (i : ℕ) → i < 8 → Tile xs (281 + 325 * i) 325 (place_bytes (place_from xs i))
        unfolding place_bytes place_from
        place_tile i h =
            let one = join (word_tile (281 + 325 * i) (omega arith)) (byte_tile (281 + 325 * i + 4) (omega arith)) refl in
            let two = join one (halves_tile (281 + 325 * i + 5) 64 (omega arith)) (omega arith) in
            let three = join two (halves_tile (281 + 325 * i + 133) 64 (omega arith)) (omega arith) in
            join three (record { is = drops_back _ (place_coded xs 8 i h d) }) (omega arith)

        places_tile : (n : ℕ) → n ≤ 8 → Tile xs 281 (325 * n) (each place_bytes (places_in xs n))
        unfolding places_in each part
        places_tile zero h = record { is = refl }
        places_tile (suc n) h =
            let e : each place_bytes (places_in xs n ++ (place_from xs n ∷ [])) ≡ each place_bytes (places_in xs n) ++ place_bytes (place_from xs n) =
            each_append place_bytes (places_in xs n) (place_from xs n ∷ []) ∙ ap (λ (t : List ℕ). each place_bytes (places_in xs n) ++ t) (each_one place_bytes (place_from xs n)) in
            rw (mul-suc 325 n, e) (join (places_tile n (omega arith)) (place_tile n (omega arith)) refl)

-- ---- the law
pub bytes_back : (xs : List ℕ) → encodes xs ≡ true → Bytes xs → bytes_of (state_from xs) ≡ xs
unfolding encodes bytes_of geometry_bytes state_from
bytes_back xs e b =
    let l = eqb-true (length xs) 2881 (and_left (eqb (length xs) 2881) _ e) in
    let c = and_right (eqb (length xs) 2881) _ e in
    let w = work_back (get_or xs 277 0) (le16 xs 278) (and_left (work_coded (get_or xs 277 0) (le16 xs 278)) _ c) in
    let p = and_right (work_coded (get_or xs 277 0) (le16 xs 278)) _ c in
    let q = plane_back (get_or xs 280 0) (and_left (plane_coded (get_or xs 280 0)) _ p) in
    let d = and_right (plane_coded (get_or xs 280 0)) _ p in
    let zero = join (join (half_tile xs b 0 (omega arith)) (half_tile xs b 2 (omega arith)) refl) (half_tile xs b 4 (omega arith)) refl in
    let one = join zero (half_tile xs b 6 (omega arith)) refl in
    let two = join (join (join one (zones_tile xs b l) refl) (word_tile xs b 267 (omega arith)) refl) (word_tile xs b 271 (omega arith)) refl in
    let three = join (join two (byte_tile xs 275 (omega arith)) refl) (byte_tile xs 276 (omega arith)) refl in
    let four = join (join three (byte_tile xs 277 (omega arith)) refl) (half_tile xs b 278 (omega arith)) refl in
    let five = join four (byte_tile xs 280 (omega arith)) refl in
    let all = join five (places_tile xs b l d 8 (omega arith)) refl in
    rw (w.0, w.1, q) (all.is ∙ part_all 2881 xs l)
