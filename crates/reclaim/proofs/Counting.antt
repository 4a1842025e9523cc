-- The mapped pages of a block, of one or of all blocks at once: what a turn of each loop shows. Assumes nothing.
use mathlib.Core.Path.{◌≡◌, refl, sym, ap, ◌∙◌}
use mathlib.Core.Bool.{Bool, true, false, cond, ◌&&◌}
use mathlib.Core.List.{List, [], ◌∷◌}
use mathlib.Core.Logic.{inl, inr}
use Prim.Native.Nat.{ℕ, suc, ◌+◌, ◌*◌, ◌/◌, ◌%◌, ◌≤◌, ◌<◌}
use native.Mathlib.Nat.{div-add-mod, mod-lt, mul_comm, mul-le-mul_right}
use native.Mathlib.Numerals.{add-one}
use native.Mathlib.Omega.{arith}
use lib.ListN.{length, drop, get_or, set, replicate, drop_of_length-le, length-set, length-replicate, get_or-replicate}
use lib.Seq.{drop-cons, get_or-set_same, get_or-set_other}
use lib.Dec.{leb, ltb}
use borrow.Author.Tests.{lt-ltb, le-ltb, le-leb, lt-leb, ltb-true, ltb-false}
use Rattle.model.specs.Lists.{count}
use Rattle.model.specs.Strides.{mapped_in}
use Rattle.arrays.specs.Tests.{Is, eqb_cases, and_right_false}
use Rattle.reclaim.specs.Copies.{Counts}

-- ---- how many pass: X is what the whole list gives, n what was counted of it before index i
module _ {A : Type 0} (p : A → Bool) (l : List A) where
  count_step : (i : ℕ) (d : A) → i < length l → count p (drop i l) ≡ cond (p (get_or l i d)) (suc (count p (drop (i + 1) l))) (count p (drop (i + 1) l))
  unfolding count
  count_step i d h = rw (add-one, drop-cons l i d)

  pub count_pass : {X : ℕ} (i : ℕ) (d : A) (n : ℕ) → i < length l → X ≡ n + count p (drop i l) → p (get_or l i d) ≡ false → X ≡ n + count p (drop (i + 1) l)
  count_pass i d n h e t =
      let s = count_step i d h ∙ ap (λ (b : Bool). cond b (suc (count p (drop (i + 1) l))) (count p (drop (i + 1) l))) t in
      omega arith

  pub count_hit : {X : ℕ} (i : ℕ) (d : A) (n : ℕ) → i < length l → X ≡ n + count p (drop i l) → p (get_or l i d) ≡ true → X ≡ (n + 1) + count p (drop (i + 1) l)
  count_hit i d n h e t =
      let s = count_step i d h ∙ ap (λ (b : Bool). cond b (suc (count p (drop (i + 1) l))) (count p (drop (i + 1) l))) t in
      omega arith

  pub count_end : {X : ℕ} (i n : ℕ) → length l ≤ i → X ≡ n + count p (drop i l) → X ≡ n
  unfolding count
  count_end i n h e =
      let s = ap (count p) (drop_of_length-le l h) in
      omega arith

pub count_le : {A : Type 0} (p : A → Bool) (l : List A) → count p l ≤ length l
unfolding count
count_le p [] = omega arith
count_le p (x ∷ l) = go (p x) (count_le p l)
  where
    go : (t : Bool) → count p l ≤ length l → cond t (suc (count p l)) (count p l) ≤ suc (length l)
    go true h = omega arith
    go false h = omega arith

-- ---- a page of block b of p pages
unfoldable pub in_block : ℕ → ℕ → ℕ → Bool
in_block p b e = leb (b * p) e && ltb e (b * p + p)

pub mapped_is : (map : List ℕ) (p b : ℕ) → mapped_in map p b ≡ count (in_block p b) map
unfolding mapped_in in_block
mapped_is map p b = refl

module _ (p b e : ℕ) where
  pub block_below : e < b * p → in_block p b e ≡ false
  unfolding in_block
  block_below h = rw (lt-leb (b * p) e h)

  pub block_above : b * p + p ≤ e → in_block p b e ≡ false
  unfolding in_block
  block_above h = and_right_false (leb (b * p) e) (ltb e (b * p + p)) (le-ltb e (b * p + p) h)

  pub block_here : b * p ≤ e → e < b * p + p → in_block p b e ≡ true
  unfolding in_block
  block_here h k = rw (le-leb (b * p) e h, lt-ltb e (b * p + p) k)

  -- it is that of the quotient
  pub block_quotient : 0 < p → b ≡ e / p → in_block p b e ≡ true
  block_quotient h q =
      let d : e / p * p + e % p ≡ e = ap (λ (x : ℕ). x + e % p) (mul_comm (e / p) p) ∙ div-add-mod e p in
      let m = mod-lt e h in
      let k : b * p ≡ e / p * p = ap (λ (x : ℕ). x * p) q in
      block_here (omega arith) (omega arith)

  pub block_other : 0 < p → (b ≡ e / p → ⊥) → in_block p b e ≡ false
  block_other h q =
      let d : e / p * p + e % p ≡ e = ap (λ (x : ℕ). x + e % p) (mul_comm (e / p) p) ∙ div-add-mod e p in
      let m = mod-lt e h in
      go (ltb b (e / p)) refl d m
    where
      go : (t : Bool) → ltb b (e / p) ≡ t → e / p * p + e % p ≡ e → e % p < p → in_block p b e ≡ false
      go true t d m =
          let k : suc b * p ≤ e / p * p = mul-le-mul_right p (omega (arith, ltb-true b (e / p) t)) in
          block_above (omega arith)
      go false t d m =
          let k : suc (e / p) * p ≤ b * p = mul-le-mul_right p (less b (e / p) (ltb-false b (e / p) t) q) in
          block_below (omega arith)
        where
          less : (x y : ℕ) → y ≤ x → (x ≡ y → ⊥) → suc y ≤ x
          less x y l n = omega arith

-- ---- the mapped pages of each block: what was counted before index i, and what is left
pub record Sums (map : List ℕ) (p : ℕ) (counts : List ℕ) (i : ℕ) : Type 0 where
  pub all : length counts ≡ 128
  pub each : (b : ℕ) → b < 128 → mapped_in map p b ≡ get_or counts b 0 + count (in_block p b) (drop i map)

module _ (map : List ℕ) (p : ℕ) where
  pub sums_none : Sums map p (replicate 128 0) 0
  sums_none =
      record { all = length-replicate {A = ℕ} 128 0; each = none }
    where
      none : (b : ℕ) → b < 128 → mapped_in map p b ≡ get_or (replicate 128 0) b 0 + count (in_block p b) (drop 0 map)
      none b h =
          let e : ◌≡◌ {A = ℕ} (get_or (replicate 128 0) b 0) 0 = get_or-replicate 128 b 0 0 h in
          let m = mapped_is map p b in
          omega arith

  pub sums_end : (counts : List ℕ) (i : ℕ) → Sums map p counts i → length map ≤ i → Counts map p counts
  sums_end counts i s h = record { all = s.all; each = λ b k. sym (count_end (in_block p b) map i (get_or counts b 0) h (s.each b k)) }

  module _ (counts : List ℕ) (i : ℕ) (s : Sums map p counts i) (some : 0 < p) (h : i < length map) where
    -- no sum exceeds the length of the map
    pub sum_few : (b : ℕ) → b < 128 → get_or counts b 0 ≤ length map
    sum_few b k =
        let e = s.each b k in
        let m = mapped_is map p b in
        let l = count_le (in_block p b) map in
        omega arith

    -- an entry past the last block
    pub sums_skip : 128 ≤ get_or map i 0 / p → Sums map p counts (i + 1)
    sums_skip l =
        record {
          all = s.all;
          each = λ b k. count_pass (in_block p b) map i 0 (get_or counts b 0) h (s.each b k) (block_other p b (get_or map i 0) some (far b k));
        }
      where
        far : (b : ℕ) → b < 128 → b ≡ get_or map i 0 / p → ⊥
        far b k e = omega arith

    -- an entry of block c
    pub sums_more : (c : ℕ) → c ≡ get_or map i 0 / p → c < 128 → Sums map p (set counts c (get_or counts c 0 + 1)) (i + 1)
    sums_more c q l =
        let all = s.all in
        record { all = length-set counts c (get_or counts c 0 + 1) ∙ all; each = λ b k. one b k (eqb_cases b c) }
      where
        one : (b : ℕ) → b < 128 → Is b c → mapped_in map p b ≡ get_or (set counts c (get_or counts c 0 + 1)) b 0 + count (in_block p b) (drop (i + 1) map)
        one b k (inl t) =
            let v : get_or (set counts c (get_or counts c 0 + 1)) b 0 ≡ get_or counts b 0 + 1 = rw t.0 (get_or-set_same counts c (get_or counts c 0 + 1) 0 (rw s.all l)) in
            let e = count_hit (in_block p b) map i 0 (get_or counts b 0) h (s.each b k) (block_quotient p b (get_or map i 0) some (t.0 ∙ q)) in
            omega arith
        one b k (inr t) =
            let v : get_or (set counts c (get_or counts c 0 + 1)) b 0 ≡ get_or counts b 0 = get_or-set_other counts c b (get_or counts c 0 + 1) 0 t.0 in
            let e = count_pass (in_block p b) map i 0 (get_or counts b 0) h (s.each b k) (block_other p b (get_or map i 0) some (λ r. t.0 (r ∙ sym q))) in
            omega arith
