-- The page that a stride programs and the block that it erases lie in the array, and the numbers that it hands on fit. Assumes nothing.
use mathlib.Core.Path.{◌≡◌}
use mathlib.Core.Bool.{true, not, ◌&&◌, ◌||◌}
use mathlib.Core.List.{List}
use Prim.Native.Nat.{ℕ, ◌+◌, ◌-◌, ◌*◌, ◌≤◌, ◌<◌}
use native.Mathlib.Nat.{mul-le-mul_right}
use native.Mathlib.Omega.{arith}
use lib.Dec.{eqb, leb, ltb}
use lib.ListN.{length}
use borrow.Author.Tests.{leb-true, ltb-true}
use Rattle.model.specs.Page.{blank_at}
use Rattle.model.specs.Geometry.{map_pages}
use Rattle.model.specs.Zones.{used_in}
use Rattle.model.specs.Frame.{checkpoint_stride_ok, work_ok}
use Rattle.model.specs.declared.State.{State}
use Rattle.model.specs.declared.Work.TheVariants.{Checkpoint}
use Rattle.arrays.specs.Tests.{and_left, and_right}
use Rattle.arrays.specs.Ranges.{geometry_in, maps_few, any_page_fits, front_fits}
use Rattle.arrays.specs.Used.{used_in_clean}
use Rattle.zones.specs.Judging.{Ready}
use Rattle.strides.specs.Strode.{Fit, Next}

-- the next page of a checkpoint: its number, and its place in the block and in the array
pub record Inside (s : State) (xs : List ℕ) (q i : ℕ) : Type 0 where
  pub pages : s.geometry.pages ≤ 64
  pub maps : map_pages s.geometry ≤ 4
  pub below : q + i < s.geometry.pages
  pub start : s.front * s.geometry.pages ≤ s.geometry.pages
  pub fits : (s.front * s.geometry.pages + (q + i)) * 528 + 528 ≤ length xs

module _ (s : State) (xs map : List ℕ) where
  module _ (f : Fit s xs map) where
    pub fit_ready : Ready s.geometry xs s.zones
    fit_ready = record { shape = f.shape; bytes = f.bytes; lists = f.zones }

    -- a front block
    pub block_inside : (b : ℕ) → b < 2 → b * s.geometry.pages * 528 + s.geometry.pages * 528 ≤ length xs
    block_inside b h = front_fits s.geometry xs f.bytes (geometry_in s.geometry f.shape) b h

    pub maps_inside : map_pages s.geometry ≤ 4
    maps_inside = maps_few s.geometry (geometry_in s.geometry f.shape)

  pub page_inside : (q i : ℕ) → Next s xs map q i → Inside s xs q i
  page_inside q i h =
      let f = h.fit in
      let g = geometry_in s.geometry f.shape in
      let few = g.pages_most in
      let least = g.blocks_least in
      let maps = maps_few s.geometry g in
      let ends = h.ends in
      let upto = h.upto in
      let front = f.front in
      let a : s.front * s.geometry.pages ≤ 1 * s.geometry.pages = mul-le-mul_right s.geometry.pages (omega arith) in
      let b : 2 * s.geometry.pages ≤ s.geometry.blocks * s.geometry.pages = mul-le-mul_right s.geometry.pages (omega arith) in
      record {
        pages = few;
        maps = maps;
        below = omega arith;
        start = omega arith;
        fits = any_page_fits s.geometry xs f.bytes (s.front * s.geometry.pages + (q + i)) (omega arith);
      }

  module _ (f : Fit s xs map) (spare : s.checkpoint < 4294967294) where
    -- the clean pages of the current front block suffice: the first of them is next
    pub first_next : (used : ℕ) → used ≡ used_in xs s.geometry.pages s.front → map_pages s.geometry + 1 ≤ s.geometry.pages - used → Next s xs map used 0
    first_next used e l =
        record {
          fit = f;
          number = spare;
          ends = omega arith;
          upto = omega arith;
          blank = used_in_clean xs s.geometry.pages s.front (used + 0) (omega arith) (omega arith);
        }

    -- what refusal 1 passes of a checkpoint under way
    pub work_next : (k : ℕ) → work_ok s xs (Checkpoint k) ≡ true → Next s xs map s.first k
    unfolding work_ok checkpoint_stride_ok
    work_next k h =
        let m = map_pages s.geometry in
        let c = not (eqb k 0) || eqb s.first 0 in
        let d = blank_at xs (s.front * s.geometry.pages + (s.first + k)) in
        let b = ltb (s.first + m) s.geometry.pages in
        let a = leb k m in
        record {
          fit = f;
          number = spare;
          ends = ltb-true (s.first + m) s.geometry.pages (and_left b (c && d) (and_right a (b && (c && d)) h));
          upto = leb-true k m (and_left a (b && (c && d)) h);
          blank = and_right c d (and_right b (c && d) (and_right a (b && (c && d)) h));
        }
