-- Page numbers in range: a page of a data block, and a page of the front, which lies in the array. Assumes nothing.
use mathlib.Core.Path.{◌≡◌, refl}
use mathlib.Core.List.{List, [], ◌∷◌}
use Prim.Native.Nat.{ℕ, ◌+◌, ◌*◌, ◌≤◌, ◌<◌}
use native.Mathlib.Nat.{mul-le-mul, mul-le-mul_right}
use native.Mathlib.Omega.{arith}
use lib.Dec.{ltb, leb-zero}
use lib.ListN.{length}
use Rattle.model.specs.Lists.{all}
use Rattle.model.specs.Geometry.{data_page}
use Rattle.model.specs.declared.Geometry.{Geometry}
use Rattle.arrays.specs.Ranges.{InGeometry, geometry_in, any_page_fits}
use Rattle.frame.specs.Lent.{Sized, within}

-- a page of a data block, and a number below an end
pub page_within : (g : Geometry) → data_page g ≡ within (2 * g.pages) (g.blocks * g.pages)
unfolding data_page within
page_within g = refl

pub below_within : (hi : ℕ) (l : List ℕ) → all (within 0 hi) l ≡ all (λ (k : ℕ). ltb k hi) l
unfolding all within
below_within hi [] = refl
below_within hi (x ∷ l) = rw (leb-zero x, below_within hi l)

pub pages_most : (g : Geometry) → InGeometry g → g.blocks * g.pages ≤ 8192
pages_most g h =
    let m : g.blocks * g.pages ≤ 128 * 64 = mul-le-mul h.blocks_most h.pages_most in
    omega arith

-- page q of front block f lies in the array
pub front_page_law : (g : Geometry) (xs : List ℕ) (f q : ℕ) → Sized g xs → f < 2 → q < g.pages → (f * g.pages + q) * 528 + 528 ≤ length xs
front_page_law g xs f q h lf lq =
    let s = geometry_in g h.shape in
    let a = s.blocks_least in
    let b : f * g.pages ≤ 1 * g.pages = mul-le-mul_right g.pages (omega arith) in
    let c : 2 * g.pages ≤ g.blocks * g.pages = mul-le-mul_right g.pages (omega arith) in
    any_page_fits g xs h.bytes (f * g.pages + q) (omega arith)

-- the front page after k of m, from page q on, where all m fit the block
pub next_page_law : (g : Geometry) (xs : List ℕ) (f q m k : ℕ) → Sized g xs → f < 2 → k ≤ m → q + m < g.pages → (f * g.pages + (q + k)) * 528 + 528 ≤ length xs
next_page_law g xs f q m k h lf lk lq = front_page_law g xs f (q + k) h lf (omega arith)
