-- A list filled from the front with what stands from a place on of another. Assumes nothing.
use mathlib.Core.Path.{◌≡◌, refl, sym, ap, ◌∙◌}
use mathlib.Core.List.{List, [], ◌∷◌, ◌++◌}
use Prim.Native.Nat.{ℕ, zero, suc, ◌+◌, ◌*◌, ◌≤◌, ◌<◌}
use native.Mathlib.Numerals.{add-one}
use native.Mathlib.Omega.{arith}
use lib.ListN.{length, take, drop, set, get_or, length-drop, length-set}
use lib.Seq.{take-suc, take_all, take-suc-set, get_or-drop}
use Rattle.model.specs.Lists.{part}
use Rattle.model.specs.Bytes.{le16, words}

-- ---- any list
module _ {A : Type 0} where
  -- of n the first i are filled: f says what stands in the first i
  pub record Filling (f : ℕ → List A) (n i : ℕ) (l : List A) : Type 0 where
    pub few : i ≤ n
    pub long : length l ≡ n
    pub is : take i l ≡ f i

  -- none yet, one more, and all
  pub filling_none : (f : ℕ → List A) (l : List A) → f 0 ≡ [] → Filling f (length l) 0 l
  filling_none f l e = record { few = omega arith; long = refl; is = sym e }

  pub filling_more : {f : ℕ → List A} {n i : ℕ} {l : List A} → Filling f n i l → i < n → (x : A) → f i ++ (x ∷ []) ≡ f (i + 1) → Filling f n (i + 1) (set l i x)
  filling_more {f} {n} {i} {l} g h x e =
      let k = g.long in
      let s : take (i + 1) (set l i x) ≡ f (i + 1) = ap (λ (j : ℕ). take j (set l i x)) (add-one i) ∙ take-suc-set l i x (omega arith) ∙ ap (λ (t : List A). t ++ (x ∷ [])) g.is ∙ e in
      record { few = omega arith; long = length-set l i x ∙ g.long; is = s }

  pub filling_all : {f : ℕ → List A} {n i : ℕ} {l : List A} → Filling f n i l → n ≤ i → l ≡ f n
  filling_all {f} {n} {i} {l} g h =
      let k = g.long in
      let m = g.few in
      let e : i ≡ n = omega arith in
      sym (take_all i l (omega arith)) ∙ g.is ∙ ap f e

-- ---- one more element
pub part_more : (xs : List ℕ) (at i : ℕ) → at + i < length xs → part at i xs ++ (get_or xs (at + i) 0 ∷ []) ≡ part at (i + 1) xs
unfolding part
part_more xs at i h =
    let l : i < length (drop at xs) = rw length-drop (omega arith) in
    ap (λ (x : ℕ). take i (drop at xs) ++ (x ∷ [])) (sym (get_or-drop at xs i 0)) ∙ sym (take-suc (drop at xs) i 0 l) ∙ ap (λ (k : ℕ). take k (drop at xs)) (sym (add-one i))

words_more : (xs : List ℕ) (i : ℕ) → 2 * i + 2 ≤ length xs → words (take (2 * i) xs) ++ (le16 xs (2 * i) ∷ []) ≡ words (take (2 * (i + 1)) xs)
unfolding words
words_more [] i h = absurd (omega arith)
words_more (x ∷ []) i h = absurd (omega arith)
words_more (x ∷ y ∷ xs) zero h = refl
words_more (x ∷ y ∷ xs) (suc i) h =
    let n : 2 * (suc i + 1) ≡ suc (suc (2 * (i + 1))) = omega arith in
    let o : 2 * suc i + 1 ≡ suc (suc (2 * i + 1)) = omega arith in
    let m : 2 * suc i ≡ suc (suc (2 * i)) = omega arith in
    rw (n, o, m) (ap (λ (l : List ℕ). (x + 256 * y) ∷ l) (words_more xs i (omega arith)))

le16_drop : (xs : List ℕ) (at k : ℕ) → le16 (drop at xs) k ≡ le16 xs (at + k)
le16_drop xs at k =
    let a : at + (k + 1) ≡ at + k + 1 = omega arith in
    rw (get_or-drop at xs k 0, get_or-drop at xs (k + 1) 0, a)

pub halves_more : (xs : List ℕ) (at i x : ℕ) → at + (2 * i + 2) ≤ length xs → x ≡ le16 xs (at + 2 * i)
    → words (part at (2 * i) xs) ++ (x ∷ []) ≡ words (part at (2 * (i + 1)) xs)
unfolding part
halves_more xs at i x k f =
    let j : 2 * i + 2 ≤ length (drop at xs) = rw length-drop (omega arith) in
    ap (λ (y : ℕ). words (take (2 * i) (drop at xs)) ++ (y ∷ [])) (f ∙ sym (le16_drop xs at (2 * i))) ∙ words_more (drop at xs) i j
