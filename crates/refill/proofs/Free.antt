-- The free list: the index of the block to take, the list without one or with one more, and the list of all data blocks. Assumes nothing.
use mathlib.Core.Path.{◌≡◌, refl, ◌∙◌}
use mathlib.Core.Bool.{Bool, true, false, cond}
use mathlib.Core.List.{List}
use Prim.Native.Nat.{ℕ, zero, suc, ◌+◌, ◌-◌, ◌≤◌, ◌<◌}
use native.Mathlib.Omega.{arith}
use lib.ListN.{length, take, drop, length-append, length-take, length-drop, take-append-drop}
use lib.Dec.{leb, ltb}
use borrow.Author.Tests.{ltb-true}
use Rattle.std.specs.Prelude.{Some, None}
use Rattle.std.specs.Option.{unwrap_or}
use Rattle.std.specs.List.{position}
use Rattle.model.specs.Lists.{all, find, up_from, without, insert}
use Rattle.model.specs.Geometry.{data_block}
use Rattle.model.specs.Zones.{available_of, unavailable_of, free_of, zones_of, free_index, freed}
use Rattle.model.specs.declared.Geometry.{Geometry}
use Rattle.model.specs.declared.Zones.{Zones}
use Rattle.arrays.specs.Tests.{all_nil, all_cons, all_append, all_append_left, all_append_right, find_le}
use Rattle.arrays.specs.Ranges.{block_is}
use Rattle.arrays.specs.Chains.{find_like}

-- ---- the block to take: the first at or after the pointer, or the first of all
module _ (p : ℕ) (f : List ℕ) where
  pub index_is : unwrap_or (position (leb p) f) 0 ≡ free_index p f
  unfolding free_index
  index_is = rw (find_like (leb p) (leb p) (λ x. refl) f) (go (ltb (find (leb p) f) (length f)))
    where
      go : (t : Bool) → unwrap_or (cond t (Some (find (leb p) f)) None) 0 ≡ cond t (find (leb p) f) 0
      go true = refl
      go false = refl

  pub index_inside : 0 < length f → free_index p f < length f
  unfolding free_index
  index_inside h = go (ltb (find (leb p) f) (length f)) refl
    where
      go : (t : Bool) → ltb (find (leb p) f) (length f) ≡ t → cond t (find (leb p) f) 0 < length f
      go true e = ltb-true (find (leb p) f) (length f) e
      go false e = h

-- ---- one less, one more
pub length_without : (i : ℕ) (xs : List ℕ) → i < length xs → length (without i xs) + 1 ≡ length xs
unfolding without
length_without i xs h = simp (length-append, length-take, length-drop) (omega arith)

pub all_without : (p : ℕ → Bool) (i : ℕ) (xs : List ℕ) → all p xs ≡ true → all p (without i xs) ≡ true
unfolding without
all_without p i xs h =
    all_append p (take i xs) (drop (i + 1) xs)
    (all_append_left p (take i xs) (drop i xs) (rw take-append-drop h))
    (all_append_right p (take (i + 1) xs) (drop (i + 1) xs) (rw take-append-drop h))

pub length_insert : (b : ℕ) (xs : List ℕ) → length (insert b xs) ≡ length xs + 1
unfolding insert
length_insert b xs = let h = find_le (ltb b) xs in simp (length-append, length-take, length-drop) (omega arith)

-- the data blocks are data blocks
up_data : (g : Geometry) (k n : ℕ) → 2 ≤ k → k + n ≤ g.blocks → all (data_block g) (up_from k n) ≡ true
unfolding up_from
up_data g k zero l h = all_nil (data_block g)
up_data g k (suc n) l h = all_cons (data_block g) k (up_from (suc k) n) (block_is g k l (omega arith)) (up_data g (suc k) n (omega arith) (omega arith))

pub data_blocks : (g : Geometry) → 2 ≤ g.blocks → all (data_block g) (up_from 2 (g.blocks - 2)) ≡ true
data_blocks g h = up_data g 2 (g.blocks - 2) (omega arith) (omega arith)

-- ---- a block given back
pub freed_is : (z : Zones) (b : ℕ) (a u f more : List ℕ) (r : Zones) → a ≡ available_of z → u ≡ unavailable_of z → f ≡ free_of z → more ≡ insert b f
    → r ≡ zones_of a u more z.pointer → r ≡ freed z b
unfolding freed
freed_is z b a u f more r ea eu ef em e = e ∙ rw (ea, eu, em, ef)
