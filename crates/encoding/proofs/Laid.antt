-- Numbers laid into a list one part after the other: together they replace one part. Assumes nothing.
use mathlib.Core.Path.{◌≡◌, refl, sym, ap, ◌∙◌}
use mathlib.Core.Bool.{Bool, true, false}
use mathlib.Core.List.{List, [], ◌∷◌, ◌++◌, map, append_assoc, append-nil}
use Prim.Native.Nat.{ℕ, ◌+◌, ◌≤◌, ◌<◌}
use native.Mathlib.Numerals.{add-one}
use native.Mathlib.Omega.{arith}
use lib.ListN.{length, take, drop, set, get_or, length-append, length-map, length-set, get_or-map, take-append-drop, drop_of_length-le}
use lib.Seq.{take-suc, take_all, set_split, take_at, drop_at, drop-drop, length-take-le, sets, length-sets, sets-eq}
use borrow.Rule.Slice.PartMut.{put_mid}
use mir.Val.{bool_byte}
use Rattle.model.specs.Lists.{splice}
use Rattle.arrays.specs.Splice.{length_splice}
use Rattle.encoding.specs.Encoding.{drop_byte, drop_bytes, Laid}

-- nothing yet
pub laid_none : (xs : List ℕ) (a : ℕ) → a ≤ length xs → Laid xs a 0 [] xs
laid_none xs a h = record { long = refl; fits = omega arith; same = refl; is = unfold splice in (sym (take-append-drop a xs) ∙ ap (λ (k : ℕ). take a xs ++ drop k xs) e) }
  where
    e : a ≡ a + 0
    e = omega arith

-- a part more
both : (xs ys zs : List ℕ) (a n m : ℕ) → length ys ≡ n → a + n ≤ length xs → splice (splice xs a n ys) (a + n) m zs ≡ splice xs a (n + m) (ys ++ zs)
unfolding splice
both xs ys zs a n m e h =
    let u = take a xs ++ ys in
    let r = drop (a + n) xs in
    let w : take a xs ++ (ys ++ r) ≡ u ++ r = sym (append_assoc (take a xs) ys r) in
    let k : length (take a xs) ≡ a = length-take-le a xs (omega arith) in
    let hu : length u ≡ a + n = simp length-append (omega arith) in
    let j : a + n + m ≡ a + (n + m) = omega arith in
    let d : drop (a + n + m) (u ++ r) ≡ drop (a + (n + m)) xs =
    sym (drop-drop m (a + n) (u ++ r)) ∙ ap (drop m) (drop_at u r (a + n) hu) ∙ drop-drop m (a + n) xs ∙ ap (λ (i : ℕ). drop i xs) j in
    ap (λ (l : List ℕ). take (a + n) l ++ (zs ++ drop (a + n + m) l)) w
    ∙ ap (λ (l : List ℕ). l ++ (zs ++ drop (a + n + m) (u ++ r))) (take_at u r (a + n) hu)
    ∙ ap (λ (l : List ℕ). u ++ (zs ++ l)) d
    ∙ append_assoc (take a xs) ys (zs ++ drop (a + (n + m)) xs)
    ∙ ap (λ (l : List ℕ). take a xs ++ l) (sym (append_assoc ys zs (drop (a + (n + m)) xs)))

pub laid_join : {xs : List ℕ} {a n : ℕ} {ys now : List ℕ} {k m : ℕ} {zs next : List ℕ} → Laid xs a n ys now → Laid now k m zs next → k ≡ a + n → Laid xs a (n + m) (ys ++ zs) next
laid_join {xs} {a} {n} {ys} {now} {k} {m} {zs} {next} l h e =
    let o = l.long in
    let p = h.long in
    let q = h.fits in
    let r = l.same in
    record {
      long = length-append ys zs ∙ (omega arith);
      fits = omega arith;
      same = h.same ∙ l.same;
      is = h.is ∙ ap (λ (t : List ℕ). splice t k m zs) l.is ∙ ap (λ (t : ℕ). splice (splice xs a n ys) t m zs) e ∙ both xs ys zs a n m l.long l.fits;
    }

-- the same number of numbers, said otherwise
pub laid_size : {xs : List ℕ} {a n : ℕ} {ys now : List ℕ} (m : ℕ) → Laid xs a n ys now → n ≡ m → Laid xs a m ys now
laid_size m l e = rw (← e) l

-- a number more
set_one : (xs : List ℕ) (k v : ℕ) → k < length xs → set xs k v ≡ splice xs k 1 (v ∷ [])
unfolding splice
set_one xs k v h = set_split xs k v h ∙ ap (λ (i : ℕ). take k xs ++ (v ∷ drop i xs)) (sym (add-one k))

pub laid_set : (xs : List ℕ) (k v : ℕ) → k < length xs → Laid xs k 1 (v ∷ []) (set xs k v)
laid_set xs k v h = record { long = refl; fits = omega arith; same = length-set xs k v; is = set_one xs k v h }

pub laid_one : {xs : List ℕ} {a n : ℕ} {ys now : List ℕ} → Laid xs a n ys now → (k v : ℕ) → k ≡ a + n → k < length xs → Laid xs a (n + 1) (ys ++ (v ∷ [])) (set now k v)
laid_one {xs} {a} {n} {ys} {now} l k v e h = let o = l.same in laid_join l (laid_set now k v (omega arith)) e

-- the same, of a number that is known by an equation
pub laid_by : {xs : List ℕ} {a n : ℕ} {ys now : List ℕ} → Laid xs a n ys now → (k v : ℕ) {w : ℕ} → k ≡ a + n → k < length xs → w ≡ v → Laid xs a (n + 1) (ys ++ (v ∷ [])) (set now k w)
laid_by l k v e h f = rw f (laid_one l k v e h)

-- numbers stored one after the other
pub laid_sets : {xs now : List ℕ} {a : ℕ} (ys : List ℕ) → now ≡ sets xs a ys → a + length ys ≤ length xs → Laid xs a (length ys) ys now
laid_sets {xs} {now} {a} ys e h = record { long = refl; fits = h; same = ap length e ∙ length-sets xs a ys; is = e ∙ unfold splice in (sets-eq ys xs a h ∙ append_assoc (take a xs) ys _) }

pub laid_more : {xs : List ℕ} {a n : ℕ} {ys now next : List ℕ} → Laid xs a n ys now → (k : ℕ) (zs : List ℕ) → next ≡ sets now k zs → k ≡ a + n → k + length zs ≤ length xs → Laid xs a (n + length zs) (ys ++ zs) next
laid_more l k zs f e h = let o = l.same in laid_join l (laid_sets zs f (omega arith)) e

-- numbers copied over a part of as many
over : (xs ys zs : List ℕ) (a n : ℕ) → zs ≡ ys → put_mid a n xs zs ≡ splice xs a n ys
unfolding splice
over xs ys zs a n e = rw (e, drop-drop)

pub laid_copied : {xs : List ℕ} {a n : ℕ} {ys now : List ℕ} → Laid xs a n ys now → (k m : ℕ) (zs : List ℕ) {new : List ℕ} → new ≡ zs → length zs ≡ m → k ≡ a + n → k + m ≤ length xs
    → Laid xs a (n + m) (ys ++ zs) (put_mid k m now new)
laid_copied {xs} {a} {n} {ys} {now} l k m zs {new} f g e h =
    let o = l.same in
    let is = over now zs new k m f in
    laid_join l (record { long = g; fits = omega arith; same = ap length is ∙ length_splice now zs k m (omega arith); is = is }) e

-- the whole list
all_of : (xs ys : List ℕ) (n : ℕ) → length xs ≤ 0 + n → splice xs 0 n ys ≡ ys
unfolding splice
all_of xs ys n h = ap (λ (t : List ℕ). ys ++ t) (drop_of_length-le xs h) ∙ append-nil ys

pub laid_all : {xs : List ℕ} {n : ℕ} {ys now : List ℕ} → Laid xs 0 n ys now → length xs ≡ n → now ≡ ys
laid_all {xs} {n} {ys} l e = l.is ∙ all_of xs ys n (omega arith)

-- a list laid number by number: a turn of the loop, and its end
pub laid_next : {xs : List ℕ} {a i : ℕ} {now : List ℕ} (list : List ℕ) → Laid xs a i (take i list) now → i < length list → a + length list ≤ length xs
    → Laid xs a (i + 1) (take (i + 1) list) (set now (a + i) (get_or list i 0))
laid_next {xs} {a} {i} {now} list l h k = rw (add-one, take-suc list i 0, ← add-one) (laid_one l (a + i) (get_or list i 0) refl (omega arith))

pub laid_end : {xs : List ℕ} {a i : ℕ} {now : List ℕ} (list : List ℕ) → Laid xs a i (take i list) now → i ≡ length list → Laid xs a (length list) list now
laid_end {xs} {a} {i} {now} list l e = let t : take i list ≡ list = take_all i list (omega arith) in rw (← e, ← t) l

-- the same of drops, a byte each
byte_of : (d : Bool) → bool_byte d ≡ drop_byte d
byte_of true = refl
byte_of false = refl

pub drops_next : {xs : List ℕ} {a i : ℕ} {now : List ℕ} (ds : List Bool) → Laid xs a i (take i (drop_bytes ds)) now → i < length ds → a + length ds ≤ length xs
    → Laid xs a (i + 1) (take (i + 1) (drop_bytes ds)) (set now (a + i) (bool_byte (get_or ds i false)))
unfolding drop_bytes
drops_next {xs} {a} {i} {now} ds l h k =
    let e : bool_byte (get_or ds i false) ≡ get_or (map drop_byte ds) i 0 = byte_of (get_or ds i false) ∙ sym (get_or-map drop_byte ds i false) in
    rw e (laid_next (map drop_byte ds) l (rw length-map h) (rw length-map k))

pub drops_end : {xs : List ℕ} {a i : ℕ} {now : List ℕ} (ds : List Bool) → Laid xs a i (take i (drop_bytes ds)) now → i ≡ length ds → Laid xs a (length ds) (drop_bytes ds) now
unfolding drop_bytes
drops_end ds l e = laid_size (length ds) (laid_end (map drop_byte ds) l (rw length-map e)) (length-map ds drop_byte)
