-- An array of flags that holds the numbers of a list: what a single pass keeps for "none repeated". Assumes nothing.
use mathlib.Core.Path.{◌≡◌, refl, sym, ◌∙◌, subst}
use mathlib.Core.Bool.{Bool, true, false, not, ◌&&◌, ◌||◌, or-false, or-true}
use mathlib.Core.List.{List, [], ◌∷◌, ◌++◌}
use Prim.Native.Nat.{ℕ, ◌+◌, ◌≤◌, ◌<◌}
use native.Mathlib.Numerals.{add-one}
use native.Mathlib.Omega.{arith}
use lib.Dec.{eqb, leb, ltb}
use lib.ListN.{length, take, get_or, set, replicate, get_or-replicate}
use lib.Seq.{take-suc, get_or-set_same, get_or-set_other}
use borrow.Author.Tests.{ne_eqb, eqb-true, eqb-false}
use Rattle.model.specs.Lists.{any, elem}
use Rattle.model.specs.Geometry.{data_block}
use Rattle.model.specs.Zones.{new_block}
use Rattle.model.specs.declared.Geometry.{Geometry}
use Rattle.arrays.specs.Tests.{elem_append}

-- the flags below n say which numbers are in the list
abbrev pub Marks : ℕ → List Bool → List ℕ → Type 0
Marks n seen s = (k : ℕ) → k < n → get_or seen k false ≡ elem k s

elem_snoc : (x : ℕ) (l : List ℕ) (y : ℕ) → elem x (l ++ (y ∷ [])) ≡ (elem x l || eqb x y)
unfolding elem any
elem_snoc x l y = elem_append x l (y ∷ []) ∙ rw or-false

pub marks_none : (n : ℕ) → Marks n (replicate n false) []
unfolding elem any
marks_none n k h = get_or-replicate n k false false h

-- a number past the flags
pub marks_skip : (n : ℕ) (seen : List Bool) (l : List ℕ) (i : ℕ) → i < length l → Marks n seen (take i l) → n ≤ get_or l i 0 → Marks n seen (take (i + 1) l)
marks_skip n seen l i h m big k below =
    let ne : eqb k (get_or l i 0) ≡ false = ne_eqb _ _ (λ (e : k ≡ get_or l i 0). omega arith) in
    rw (add-one, take-suc l i 0, elem_snoc, ne, or-false) (m k below)

marked : (seen : List Bool) (s : List ℕ) (x k : ℕ) → x < length seen → get_or seen k false ≡ elem k s → (b : Bool) → eqb k x ≡ b
    → get_or (set seen x true) k false ≡ (elem k s || eqb k x)
marked seen s x k h m true e =
    rw (e, or-true) (subst (λ (j : ℕ). get_or (set seen x true) j false ≡ true) (sym (eqb-true k x e)) (get_or-set_same seen x true false h))
marked seen s x k h m false e =
    rw (e, or-false) (get_or-set_other seen x k true false (λ q. eqb-false k x e q) ∙ m)

-- a number flagged
pub marks_more : (n : ℕ) (seen : List Bool) (l : List ℕ) (i : ℕ) → i < length l → Marks n seen (take i l) → get_or l i 0 < length seen
    → Marks n (set seen (get_or l i 0) true) (take (i + 1) l)
marks_more n seen l i h m small k below =
    rw (add-one, take-suc l i 0, elem_snoc) (marked seen (take i l) (get_or l i 0) k small (m k below) _ refl)

-- ---- a block from 2 up to n that was not met before
unfoldable pub new_within : ℕ → List ℕ → ℕ → Bool
new_within n seen b = (leb 2 b && ltb b n) && not (elem b seen)

pub new_within_law : (g : Geometry) → new_block g ≡ new_within g.blocks
unfolding new_block data_block new_within
new_within_law g = refl
