-- The entries of map pages as they are read back: two bytes an entry, one page after the other. Assumes nothing.
use mathlib.Core.Path.{◌≡◌, refl, ap, sym, ◌∙◌}
use mathlib.Core.List.{List, [], ◌∷◌, ◌++◌, append_assoc, append-nil}
use Prim.Native.Nat.{ℕ, zero, suc, ◌+◌, ◌-◌, ◌*◌, ◌≤◌}
use native.Mathlib.Omega.{arith}
use lib.ListN.{length, take, drop, replicate, length-append, length-drop, drop_of_length-le}
use lib.Seq.{take_at, length-take-le}
use Rattle.model.specs.Bytes.{words}
use Rattle.model.specs.Page.{page_at, data_at}
use Rattle.model.specs.Lists.{part}
use Rattle.model.specs.Checkpoint.{load_map}
use Rattle.arrays.specs.Pages.{PageFits, length_data}

-- ---- the numbers of 2 bytes
-- those of n pairs of bytes, and what follows
words_append : (n : ℕ) (a b : List ℕ) → length a ≡ 2 * n → words (a ++ b) ≡ words a ++ words b
unfolding words
words_append n [] b h = refl
words_append n (x ∷ []) b h = absurd (omega arith)
words_append n (x ∷ y ∷ a) b h = ap (λ (l : List ℕ). (x + 256 * y) ∷ l) (words_append (n - 1) a b (omega arith))

pub length_words : (n : ℕ) (a : List ℕ) → length a ≡ 2 * n → length (words a) ≡ n
unfolding words
length_words n [] h = omega arith
length_words n (x ∷ []) h = absurd (omega arith)
length_words n (x ∷ y ∷ a) h = let e = length_words (n - 1) a (omega arith) in omega arith

-- the entries of map page k, read from the page p
pub page_read : (xs p l : List ℕ) (k n : ℕ) → n ≡ 256 → p ≡ page_at xs k → l ≡ words (part 0 (2 * n) p) → l ≡ words (data_at xs k)
unfolding data_at part
page_read xs p l k n h e f = f ∙ rw (h, e)

-- ---- map pages, from page k of xs on
map_more : (xs : List ℕ) (k i : ℕ) → load_map xs k (suc i) ≡ load_map xs k i ++ words (data_at xs (k + i))
unfolding load_map
map_more xs k zero = let e : k ≡ k + 0 = omega arith in append-nil (words (data_at xs k)) ∙ ap (λ (j : ℕ). words (data_at xs j)) e
map_more xs k (suc i) =
    let e : suc k + i ≡ k + suc i = omega arith in
    ap (λ (l : List ℕ). words (data_at xs k) ++ l) (map_more xs (suc k) i ∙ ap (λ (j : ℕ). load_map xs (suc k) i ++ words (data_at xs j)) e)
    ∙ sym (append_assoc (words (data_at xs k)) (load_map xs (suc k) i) (words (data_at xs (k + suc i))))

-- one page more, stored as ys behind the first i
pub loaded_more : (xs : List ℕ) (k i : ℕ) (l ys : List ℕ) → 256 * i ≤ length l → PageFits xs (k + i) → ys ≡ words (data_at xs (k + i)) → take (256 * i) l ≡ load_map xs k i
    → take (256 * (i + 1)) (take (256 * i) l ++ (ys ++ drop 256 (drop (256 * i) l))) ≡ load_map xs k (i + 1)
loaded_more xs k i l ys h f e d =
    let a : List ℕ = take (256 * i) l in
    let rest : List ℕ = drop 256 (drop (256 * i) l) in
    let n : suc i ≡ i + 1 = omega arith in
    let y : length ys ≡ 256 = ap length e ∙ length_words 256 (data_at xs (k + i)) (length_data xs (k + i) f) in
    let t : length (a ++ ys) ≡ 256 * (i + 1) = omega (arith, length-append a ys, length-take-le (256 * i) l h) in
    ap (take (256 * (i + 1))) (sym (append_assoc a ys rest)) ∙ take_at (a ++ ys) rest (256 * (i + 1)) t
    ∙ ap (λ (v : List ℕ). v ++ ys) d ∙ ap (λ (v : List ℕ). load_map xs k i ++ v) e ∙ sym (map_more xs k i) ∙ ap (load_map xs k) n

-- all of them, with zeros stored behind
pub zeros_behind : (l ms zs : List ℕ) (a k : ℕ) → take a l ≡ ms → length l ≡ a + k → zs ≡ replicate (length (take k (drop a l))) 0 → take a l ++ (zs ++ drop k (drop a l)) ≡ ms ++ replicate k 0
zeros_behind l ms zs a k t n z =
    let d : length (drop a l) ≡ k = omega (arith, length-drop a l) in
    let w : length (take k (drop a l)) ≡ k = length-take-le k (drop a l) (omega arith) in
    ap (λ (v : List ℕ). v ++ (zs ++ drop k (drop a l))) t
    ∙ ap (λ (v : List ℕ). ms ++ (zs ++ v)) (drop_of_length-le (drop a l) (omega arith))
    ∙ ap (λ (v : List ℕ). ms ++ v) (append-nil zs ∙ z ∙ ap (λ (j : ℕ). replicate j 0) w)
