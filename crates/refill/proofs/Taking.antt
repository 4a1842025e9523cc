-- Free blocks taken for the available list: what a step takes, and that it keeps the lists in range. Assumes nothing.
use mathlib.Core.Path.{◌≡◌, refl, ap, ◌∙◌}
use mathlib.Core.Bool.{Bool, true, false, not, cond, ◌&&◌}
use mathlib.Core.List.{List, []}
use Prim.Native.Nat.{ℕ, zero, suc, ◌-◌, ◌≤◌, ◌<◌}
use native.Mathlib.Omega.{arith}
use lib.ListN.{length, get_or, length-append}
use lib.Dec.{eqb, ltb}
use borrow.Author.Tests.{lt-ltb, le-ltb, eq-eqb, ne_eqb, ltb-true, eqb-false}
use Rattle.model.specs.Lists.{up_from}
use Rattle.model.specs.Geometry.{geometry_ok, data_block}
use Rattle.model.specs.Zones.{Taken, free_index, take_one, refill}
use Rattle.model.specs.declared.Geometry.{Geometry}
use Rattle.arrays.specs.Tests.{all_at}
use Rattle.arrays.specs.Ranges.{geometry_in, block_most}
use Rattle.refill.specs.Taking.{may_take, Fits}
use Rattle.refill.proofs.Free.{index_inside, length_without, all_without, data_blocks}

module _ (g : Geometry) (t : Taken) where
  -- the block to take is a block of the device
  pub free_block : Fits g t → (i : ℕ) → i < length t.free → get_or t.free i 0 < g.blocks
  free_block k i h = block_most g (get_or t.free i 0) (all_at (data_block g) t.free i 0 k.blocks h)

  -- ---- a step of the refill
  pub may_not : 3 ≤ length t.available → t ≡ may_take g t
  unfolding may_take
  may_not h = rw (le-ltb (length t.available) 3 h)

  pub may_none : length t.free ≡ 0 → t ≡ may_take g t
  unfolding may_take
  may_none h = rw (eq-eqb (length t.free) 0 h) (go (ltb (length t.available) 3))
    where
      go : (b : Bool) → t ≡ cond (b && false) (take_one g t) t
      go true = refl
      go false = refl

  pub may : length t.available < 3 → (length t.free ≡ 0 → ⊥) → take_one g t ≡ may_take g t
  unfolding may_take
  may h l = rw (lt-ltb (length t.available) 3 h, ne_eqb (length t.free) 0 l)

-- ---- lists put together
pub taken_of : (a b f h : List ℕ) (p q : ℕ) → a ≡ b → f ≡ h → p ≡ q
    → ◌≡◌ {A = Taken} (record { available = a; free = f; pointer = p }) (record { available = b; free = h; pointer = q })
taken_of a b f h p q ea ef ep = λ i. record { available = ea i; free = ef i; pointer = ep i }

-- ---- what stays in range
module _ (g : Geometry) where
  take_fits : (t : Taken) → Fits g t → length t.available < 3 → 0 < length t.free → Fits g (take_one g t)
  unfolding take_one
  take_fits t h l s =
      let i = free_index t.pointer t.free in
      let w = length_without i t.free (index_inside t.pointer t.free s) in
      record {
        shape = h.shape;
        few = simp length-append (omega arith);
        blocks = all_without (data_block g) i t.free h.blocks;
      }

  pub may_fits : (t : Taken) → Fits g t → Fits g (may_take g t)
  unfolding may_take
  may_fits t h = go (ltb (length t.available) 3) (eqb (length t.free) 0) refl refl
    where
      go : (a b : Bool) → ltb (length t.available) 3 ≡ a → eqb (length t.free) 0 ≡ b → Fits g (cond (a && not b) (take_one g t) t)
      go true true e f = h
      go true false e f =
          let l = ltb-true (length t.available) 3 e in
          take_fits t h l (pos (length t.free) (eqb-false (length t.free) 0 f))
        where
          pos : (n : ℕ) → (n ≡ 0 → ⊥) → 0 < n
          pos n z = omega arith
      go false b e f = h

  pub refill_fits : (n : ℕ) (t : Taken) → Fits g t → Fits g (refill g n t)
  unfolding refill may_take
  refill_fits zero t h = h
  refill_fits (suc n) t h = refill_fits n (may_take g t) (may_fits t h)

-- three steps are the refill
pub three : (g : Geometry) (t t1 t2 t3 : Taken) → t1 ≡ may_take g t → t2 ≡ may_take g t1 → t3 ≡ may_take g t2 → t3 ≡ refill g 3 t
unfolding refill may_take
three g t t1 t2 t3 e1 e2 e3 = e3 ∙ ap (may_take g) (e2 ∙ ap (may_take g) e1)

-- all data blocks free
pub all_free : (g : Geometry) → geometry_ok g ≡ true → Fits g (record { available = []; free = up_from 2 (g.blocks - 2); pointer = 2 })
all_free g s =
    let h = geometry_in g s in
    let a = h.blocks_least in
    record { shape = s; few = omega arith; blocks = data_blocks g (omega arith) }
