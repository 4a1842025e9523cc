-- The map pages of a checkpoint: their bytes as they are stored entry by entry, and what a turn of the search for them shows. Assumes nothing.
use mathlib.Core.Path.{◌≡◌, refl, ap, sym, ◌∙◌}
use mathlib.Core.Bool.{Bool, true, false, ◌&&◌}
use mathlib.Core.List.{List, [], ◌∷◌, ◌++◌, append_assoc}
use Prim.Native.Nat.{ℕ, zero, suc, ◌+◌, ◌-◌, ◌*◌, ◌/◌, ◌%◌, ◌≤◌, ◌<◌}
use native.Mathlib.Omega.{arith}
use lib.ListN.{length, take, set, get_or, length-set}
use lib.Seq.{take_all, take-suc-set, sets}
use Rattle.model.specs.Bytes.{bytes16}
use Rattle.model.specs.Geometry.{unmapped}
use Rattle.model.specs.Checkpoint.{map_bytes, map_spare, page_is, maps_at}

-- ---- the bytes
-- what stands at an index within the list, whatever is said for those past it
pub at_any : (l : List ℕ) (i a b : ℕ) → i < length l → get_or l i a ≡ get_or l i b
at_any [] i a b h = absurd (omega arith)
at_any (x ∷ l) zero a b h = refl
at_any (x ∷ l) (suc i) a b h = at_any l i a b (omega arith)

-- one entry more at the end
bytes_more : (map : List ℕ) (k n : ℕ) → map_bytes map k (suc n) ≡ map_bytes map k n ++ bytes16 (get_or map (k + n) unmapped)
unfolding map_bytes
bytes_more map k zero = let e : k ≡ k + 0 = omega arith in ap (λ (i : ℕ). bytes16 (get_or map i unmapped)) e
bytes_more map k (suc n) =
    let e : suc k + n ≡ k + suc n = omega arith in
    ap (λ (l : List ℕ). bytes16 (get_or map k unmapped) ++ l) (bytes_more map (suc k) n ∙ ap (λ (i : ℕ). map_bytes map (suc k) n ++ bytes16 (get_or map i unmapped)) e)

-- two bytes stored behind those of j entries, e after it
pub stored_more : (map d e : List ℕ) (k j x : ℕ) → j < 256 → length d ≡ 512 → x ≡ get_or map (k + j) unmapped → take (2 * j) d ≡ map_bytes map k j
    → e ≡ sets d (2 * j) (bytes16 x) → take (2 * (j + 1)) e ≡ map_bytes map k (j + 1)
stored_more map d e k j x h l f s g =
    let low : ℕ = x % 256 in
    let high : ℕ = x / 256 in
    let u : List ℕ = set d (2 * j) low in
    let lu : length u ≡ 512 = length-set d (2 * j) low ∙ l in
    let a : 2 * (j + 1) ≡ suc (suc (2 * j)) = omega arith in
    let n : suc j ≡ j + 1 = omega arith in
    let t : take (suc (suc (2 * j))) (set u (suc (2 * j)) high) ≡ map_bytes map k j ++ (low ∷ []) ++ (high ∷ []) =
    take-suc-set u (suc (2 * j)) high (omega arith) ∙ ap (λ (v : List ℕ). v ++ (high ∷ [])) (take-suc-set d (2 * j) low (omega arith) ∙ ap (λ (v : List ℕ). v ++ (low ∷ [])) s) in
    ap (λ (i : ℕ). take i e) a ∙ ap (take (suc (suc (2 * j)))) g ∙ t
    ∙ append_assoc (map_bytes map k j) (low ∷ []) (high ∷ []) ∙ ap (λ (y : ℕ). map_bytes map k j ++ bytes16 y) f ∙ sym (bytes_more map k j) ∙ ap (map_bytes map k) n

-- all 256 entries are stored
pub stored_all : (map d : List ℕ) (k j : ℕ) → j ≡ 256 → length d ≡ 512 → take (2 * j) d ≡ map_bytes map k j → d ≡ map_bytes map k 256
stored_all map d k j h l s = sym (take_all (2 * j) d (omega arith)) ∙ s ∙ ap (map_bytes map k) h

-- ---- the search: X is what all m pages from page k on give
maps_step : (xs : List ℕ) (k i c m : ℕ) → i < m
    → maps_at xs (k + i) i c (m - i) ≡ (page_is xs (k + i) (map_spare i c) && maps_at xs (k + (i + 1)) (i + 1) c (m - (i + 1)))
unfolding maps_at
maps_step xs k i c m h =
    let a : m - i ≡ suc (m - (i + 1)) = omega arith in
    let b : suc (k + i) ≡ k + (i + 1) = omega arith in
    let n : suc i ≡ i + 1 = omega arith in
    ap (maps_at xs (k + i) i c) a ∙ rw (b, n)

module _ {X : Bool} (xs : List ℕ) (k i c m : ℕ) (h : i < m) (e : X ≡ maps_at xs (k + i) i c (m - i)) where
  pub maps_pass : page_is xs (k + i) (map_spare i c) ≡ true → X ≡ maps_at xs (k + (i + 1)) (i + 1) c (m - (i + 1))
  maps_pass t = e ∙ maps_step xs k i c m h ∙ ap (λ (b : Bool). b && maps_at xs (k + (i + 1)) (i + 1) c (m - (i + 1))) t

  pub maps_fail : page_is xs (k + i) (map_spare i c) ≡ false → X ≡ false
  maps_fail t = e ∙ maps_step xs k i c m h ∙ ap (λ (b : Bool). b && maps_at xs (k + (i + 1)) (i + 1) c (m - (i + 1))) t

pub maps_start : (xs : List ℕ) (k c m : ℕ) → maps_at xs k 0 c m ≡ maps_at xs (k + 0) 0 c (m - 0)
maps_start xs k c m =
    let a : k ≡ k + 0 = omega arith in
    let b : m ≡ m - 0 = omega arith in
    ap (λ (j : ℕ). maps_at xs j 0 c m) a ∙ ap (maps_at xs (k + 0) 0 c) b

pub maps_end : {X : Bool} (xs : List ℕ) (k i c m : ℕ) → m ≤ i → X ≡ maps_at xs (k + i) i c (m - i) → X ≡ true
unfolding maps_at
maps_end xs k i c m h e = let z : m - i ≡ 0 = omega arith in e ∙ ap (maps_at xs (k + i) i c) z
