-- The block that a reclaim takes: what a turn of each loop that looks for it shows, and that it is checkpointed. Assumes nothing.
use mathlib.Core.Path.{◌≡◌, refl, sym, ◌∙◌}
use mathlib.Core.Bool.{Bool, true, false, not, cond, ◌&&◌, ◌||◌}
use mathlib.Core.Logic.{◌⊎◌, inl, inr}
use mathlib.Core.List.{List, [], ◌∷◌, ◌++◌}
use Prim.Native.Nat.{ℕ, zero, suc, ◌+◌, ◌-◌, ◌≤◌, ◌<◌}
use native.Mathlib.Numerals.{add-one}
use native.Mathlib.Omega.{arith}
use lib.ListN.{length, drop, get_or, set, length-set, drop_of_length-le}
use lib.Seq.{drop-cons, get_or-set_same, get_or-set_other}
use lib.Dec.{ltb, eqb}
use borrow.Author.Tests.{lt-ltb, le-ltb}
use Rattle.model.specs.Lists.{elem, any}
use Rattle.model.specs.Geometry.{geometry_ok, data_block}
use Rattle.model.specs.Zones.{available_of, unavailable_of, free_of, listed_in, checkpointed, zones_ok}
use Rattle.model.specs.Checkpoint as model
use Rattle.model.specs.Strides.{mapped_in, fewer, pick_from, picked}
use Rattle.model.specs.declared.Geometry.{Geometry}
use Rattle.model.specs.declared.Zones.{Zones}
use Rattle.model.specs.declared.State.{State}
use Rattle.arrays.specs.Tests.{Is, eqb_cases, decide, and_left, all_append, all_at}
use Rattle.arrays.specs.Ranges.{geometry_in, block_most, block_is}
use Rattle.zones.proofs.Listed.{listed}
use Rattle.reclaim.specs.Copies.{Counts, InTable, with_listed, looked}
use Rattle.reclaim.proofs.Counting.{in_block, mapped_is, count_le}
use Rattle.strides.specs.Strode.{Fit}

-- each has a count
pub listed_in_law : (g : Geometry) (z : Zones) → geometry_ok g ≡ true → zones_ok g z ≡ true → InTable (listed_in z)
listed_in_law g z s h i k =
    let l = listed g z s h in
    let later = all_append (data_block g) (unavailable_of z) (free_of z) l.unavailable l.free in
    let each = all_append (data_block g) (available_of z) (unavailable_of z ++ free_of z) l.available later in
    let b = block_most g (get_or (listed_in z) i 0) (all_at (data_block g) (listed_in z) i 0 each k) in
    let m = (geometry_in g s).blocks_most in
    omega arith

-- ---- the table: the counts with 65535 for each listed block
listed_at : (listed counts : List ℕ) (b : ℕ) → b < length counts → get_or (with_listed listed counts) b 0 ≡ cond (elem b listed) 65535 (get_or counts b 0)
unfolding with_listed elem any
listed_at [] counts b h = refl
listed_at (x ∷ listed) counts b h =
    listed_at listed (set counts x 65535) b (simp length-set h) ∙ go (elem b listed) (eqb_cases b x)
  where
    go : (t : Bool) → Is b x → cond t 65535 (get_or (set counts x 65535) b 0) ≡ cond (eqb b x || t) 65535 (get_or counts b 0)
    go true (inl e) = rw e.1
    go true (inr e) = rw e.1
    go false (inl e) = rw e.1 (rw e.0 (get_or-set_same counts x 65535 0 (rw e.0 at h)))
    go false (inr e) = rw e.1 (get_or-set_other counts x b 65535 0 e.0)

pub listed_length : (listed counts : List ℕ) → length (with_listed listed counts) ≡ length counts
unfolding with_listed
listed_length [] counts = refl
listed_length (b ∷ listed) counts = listed_length listed (set counts b 65535) ∙ length-set counts b 65535

-- a turn of the loop that makes the table, i being the next index
module _ (listed counts : List ℕ) (i : ℕ) where
  pub listed_turn : i < length listed → with_listed (drop i listed) counts ≡ with_listed (drop (i + 1) listed) (set counts (get_or listed i 0) 65535)
  unfolding with_listed
  listed_turn h = rw (add-one, drop-cons listed i 0)

  pub listed_end : length listed ≤ i → with_listed (drop i listed) counts ≡ counts
  unfolding with_listed
  listed_end h = rw (drop_of_length-le listed h)

-- ---- the loop that picks
-- the count of the best so far
unfoldable pub least_of : List ℕ → model.Found → ℕ
least_of counts model.nothing = 65535
least_of counts (model.at a) = get_or counts a 0

-- the better of the best so far and of block b
abbrev better_of : List ℕ → ℕ → model.Found → model.Found
better_of counts b best = cond (ltb (get_or counts b 0) (least_of counts best)) (model.at b) best

-- the best of the best so far and of the n blocks from b on, by the counts
unfoldable pub pick_by : List ℕ → ℕ → ℕ → model.Found → model.Found
pick_by counts b zero best = best
pick_by counts b (suc n) best = pick_by counts (suc b) n (better_of counts b best)

-- a turn of it, b being the next block
module _ (counts : List ℕ) (b last : ℕ) (best : model.Found) where
  pick_turn : b < last → pick_by counts b (last - b) best ≡ pick_by counts (b + 1) (last - (b + 1)) (better_of counts b best)
  unfolding pick_by
  pick_turn l = let e : last - b ≡ suc (last - (b + 1)) = omega arith in rw (e, add-one)

  pub pick_pass : b < last → least_of counts best ≤ get_or counts b 0 → pick_by counts b (last - b) best ≡ pick_by counts (b + 1) (last - (b + 1)) best
  pick_pass l h = pick_turn l ∙ rw (le-ltb (get_or counts b 0) (least_of counts best) h)

  pub pick_hit : b < last → get_or counts b 0 < least_of counts best → pick_by counts b (last - b) best ≡ pick_by counts (b + 1) (last - (b + 1)) (model.at b)
  pick_hit l h = pick_turn l ∙ rw (lt-ltb (get_or counts b 0) (least_of counts best) h)

  pub pick_end : last ≤ b → pick_by counts b (last - b) best ≡ best
  unfolding pick_by
  pick_end l = let e : last - b ≡ 0 = omega arith in rw e

-- what was found is a block that is not listed
abbrev Unlisted : List ℕ → model.Found → Type 0
Unlisted listed model.nothing = 0 < 1
Unlisted listed (model.at a) = (a < 128) × (elem a listed ≡ false)

-- the table tells whether a block is not listed and has fewer mapped pages than the best so far
module _ (map : List ℕ) (p : ℕ) (listed counts : List ℕ) (few : length map ≤ 1024) (c : Counts map p counts) where
  mapped_few : (b : ℕ) → mapped_in map p b ≤ 1024
  mapped_few b = let l = count_le (in_block p b) map in omega (arith, mapped_is map p b)

  table_listed : (b : ℕ) → b < 128 → elem b listed ≡ true → get_or (with_listed listed counts) b 0 ≡ 65535
  table_listed b h t = listed_at listed counts b (rw c.all h) ∙ rw t

  table_unlisted : (b : ℕ) → b < 128 → elem b listed ≡ false → get_or (with_listed listed counts) b 0 ≡ mapped_in map p b
  table_unlisted b h t = listed_at listed counts b (rw c.all h) ∙ rw t (c.each b h)

  fewer_by : (b : ℕ) → b < 128 → (best : model.Found) → Unlisted listed best → (elem b listed ≡ true) ⊎ (elem b listed ≡ false)
      → ltb (get_or (with_listed listed counts) b 0) (least_of (with_listed listed counts) best) ≡ (not (elem b listed) && fewer map p b best)
  unfolding least_of fewer
  fewer_by b h model.nothing u (inl t) = rw (t, table_listed b h t)
  fewer_by b h model.nothing u (inr t) = rw (t, table_unlisted b h t) (lt-ltb (mapped_in map p b) 65535 (omega (arith, mapped_few b)))
  fewer_by b h (model.at a) u (inl t) = rw (t, table_listed b h t, table_unlisted a u.0 u.1) (le-ltb 65535 (mapped_in map p a) (omega (arith, mapped_few a)))
  fewer_by b h (model.at a) u (inr t) = rw (t, table_unlisted b h t, table_unlisted a u.0 u.1)

  better_unlisted : (b : ℕ) → b < 128 → (best : model.Found) → Unlisted listed best → (t : Bool) → (elem b listed ≡ true) ⊎ (elem b listed ≡ false)
      → Unlisted listed (cond (not (elem b listed) && t) (model.at b) best)
  better_unlisted b h best u t (inl e) = rw e u
  better_unlisted b h best u true (inr e) = rw e (h, e)
  better_unlisted b h best u false (inr e) = rw e u

pub pick_by_law : (z : Zones) (map : List ℕ) (p : ℕ) (counts : List ℕ) → length map ≤ 1024 → Counts map p counts → (b n : ℕ) → b + n ≤ 128 → (best : model.Found) → Unlisted (listed_in z) best
    → pick_by (with_listed (listed_in z) counts) b n best ≡ pick_from z map p b n best
unfolding pick_by pick_from checkpointed
pick_by_law z map p counts few c b zero h best u = refl
pick_by_law z map p counts few c b (suc n) h best u =
    let l = listed_in z in
    rw (fewer_by map p l counts few c b (omega arith) best u (decide (elem b l)))
    (pick_by_law z map p counts few c (suc b) n (omega arith) (cond (not (elem b l) && fewer map p b best) (model.at b) best) (better_unlisted map p l counts few c b (omega arith) best u (fewer map p b best) (decide (elem b l))))

-- ---- what is picked
-- block c is checkpointed and one of n from b on
pub record Checkpointed (z : Zones) (b n c : ℕ) : Type 0 where
  pub unlisted : checkpointed z c ≡ true
  pub least : b ≤ c
  pub most : c < b + n

-- what is found is such a block
abbrev Picked : Zones → ℕ → ℕ → model.Found → Type 0
Picked z b n model.nothing = 0 < 1
Picked z b n (model.at c) = Checkpointed z b n c

picked_so : (z : Zones) (map : List ℕ) (p lo b n : ℕ) (best : model.Found) → lo ≤ b → Picked z lo (b + n - lo) best → Picked z lo (b + n - lo) (pick_from z map p b n best)
unfolding pick_from
picked_so z map p lo b zero best l h = h
picked_so z map p lo b (suc n) best l h =
    let e : b + suc n ≡ suc b + n = omega arith in
    rw e (picked_so z map p lo (suc b) n (cond (checkpointed z b && fewer map p b best) (model.at b) best) (omega arith) (go (checkpointed z b && fewer map p b best) refl (rw e at h)))
  where
    go : (t : Bool) → (checkpointed z b && fewer map p b best) ≡ t → Picked z lo (suc b + n - lo) best → Picked z lo (suc b + n - lo) (cond t (model.at b) best)
    go true t k = record { unlisted = and_left (checkpointed z b) (fewer map p b best) t; least = l; most = omega arith }
    go false t k = k

pub pick_found : (z : Zones) (map : List ℕ) (p b n c : ℕ) → model.at c ≡ pick_from z map p b n model.nothing → Checkpointed z b n c
pick_found z map p b n c e =
    let s : b + n - b ≡ n = omega arith in
    let h = picked_so z map p b b n model.nothing (omega arith) (omega arith) in
    rw (← e, s) at h

-- what is picked is a checkpointed data block
pub picked_block : (s : State) (xs map : List ℕ) (b : ℕ) → Fit s xs map → picked (looked s xs map) ≡ model.at b
    → (data_block s.geometry b ≡ true) × (checkpointed s.zones b ≡ true)
unfolding picked
picked_block s xs map b f e =
    let g = (geometry_in s.geometry f.shape).blocks_least in
    let p = pick_found s.zones map s.geometry.pages 2 (s.geometry.blocks - 2) b (sym e) in
    let l = p.least in
    let m = p.most in
    (block_is s.geometry b (omega arith) (omega arith), p.unlisted)
