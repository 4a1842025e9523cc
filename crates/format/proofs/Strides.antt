-- The strides of a format as its plan has them, from what the calls of each stride leave. Assumes nothing.
use mathlib.Core.Path.{◌≡◌, ◌∙◌}
use mathlib.Core.Bool.{true}
use mathlib.Core.List.{List}
use Prim.Native.Nat.{ℕ, ◌+◌, ◌-◌, ◌*◌, ◌≤◌, ◌<◌}
use native.Mathlib.Omega.{arith}
use native.Mathlib.Nat.{mul-le-mul_right}
use lib.ListN.{length, replicate}
use borrow.Author.Tests.{lt-ltb, le-ltb}
use Rattle.model.specs.Page.{page_bytes, blank_at}
use Rattle.model.specs.Geometry.{map_pages, blank_map}
use Rattle.model.specs.Zones.{format_zones}
use Rattle.model.specs.Checkpoint.{map_bytes, map_spare, map_page, zone_data, zone_spare, zone_page}
use Rattle.model.specs.World.{World, Plan, Op, program, erase, apply_op}
use Rattle.model.specs.Frame.{fresh_state}
use Rattle.model.specs.Strides.{with_work, with_zones, with_number, format_more, format_last, format_stride}
use Rattle.model.specs.Commands.{carried}
use Rattle.model.specs.declared.Geometry.{Geometry}
use Rattle.model.specs.declared.Spare.{Spare}
use Rattle.model.specs.declared.State.{State}
use Rattle.model.specs.declared.Work.TheVariants.{Format}
use Rattle.model.specs.declared.Zones.{Zones}
use Rattle.arrays.specs.Ranges.{geometry_in, maps_few}
use Rattle.flash.specs.Programs.{Programmed}
use Rattle.frame.proofs.Within.{front_page_law}
use Rattle.format.specs.Format.{Formattable, Formats}

-- ---- which stride it is
module _ (g : Geometry) where
  erasing : (k : ℕ) → k < g.blocks → (w : World) → format_stride g k w ≡ format_more g k (erase k) w
  unfolding format_stride
  erasing k h w = rw (lt-ltb k g.blocks h)

  mapping : (k i : ℕ) → k ≡ g.blocks + i → i < map_pages g → (w : World) → format_stride g k w ≡ format_more g k (program i (map_page (blank_map g) i 1)) w
  unfolding format_stride
  mapping k i e h w =
      let n : k - g.blocks ≡ i = omega arith in
      rw (le-ltb k g.blocks (omega arith), n, lt-ltb i (map_pages g) h)

  ending : (w : World) → format_stride g (g.blocks + map_pages g) w ≡ format_last g w
  unfolding format_stride
  ending w =
      let m = map_pages g in
      let e : g.blocks + m - g.blocks ≡ m = omega arith in
      rw (le-ltb (g.blocks + m) g.blocks (omega arith), e, le-ltb m m (omega arith))

-- ---- what its pages are, and where
module _ (g : Geometry) (xs map : List ℕ) (k : ℕ) (h : Formattable g xs map k) where
  -- block k lies in the array
  pub block_in : k < g.blocks → k * g.pages * 528 + g.pages * 528 ≤ length xs
  block_in l =
      let m : (k + 1) * g.pages ≤ g.blocks * g.pages = mul-le-mul_right g.pages (omega arith) in
      let e = h.bytes in
      omega arith

  -- the pages of the checkpoint lie in the array
  pub page_in : (i : ℕ) → i ≤ map_pages g → i * 528 + 528 ≤ length xs
  page_in i l =
      let s = geometry_in g h.shape in
      let a = s.pages_least in
      let m = maps_few g s in
      let f = front_page_law g xs 0 i (record { shape = h.shape; bytes = h.bytes }) (omega arith) (omega arith) in
      omega arith

  unmapped_is : (ms : List ℕ) → ms ≡ replicate (length map) 65535 → ms ≡ blank_map g
  unfolding blank_map
  unmapped_is ms e = rw (← h.entries) e

-- ---- the strides
module _ (g : Geometry) (xs map ys ms : List ℕ) (t : State) where
  more : (k : ℕ) (o : Op) (f : World → Plan) → ((w : World) → f w ≡ format_more g k o w) → ys ≡ apply_op g.pages o xs → ms ≡ blank_map g
      → t ≡ with_work (fresh_state g) 0 0 (Format (k + 1)) → Formats f xs map 255 ys ms t
  unfolding format_more carried with_work fresh_state
  more k o f e ea em et s hold = rw (e _, ea, em, et)

  -- block k erased
  pub erases : (k : ℕ) → Formattable g xs map k → k < g.blocks → ys ≡ apply_op g.pages (erase k) xs → ms ≡ replicate (length map) 65535
      → t ≡ with_work (fresh_state g) 0 0 (Format (k + 1)) → Formats (format_stride g k) xs map 255 ys ms t
  erases k h l ea em et = more k (erase k) (format_stride g k) (erasing g k l) ea (unmapped_is g xs map k h ms em) et

  -- map page i of checkpoint 1 programmed, d being its data and s its spare area
  pub maps : (k i : ℕ) → Formattable g xs map k → k ≡ g.blocks + i → i < map_pages g → (d : List ℕ) (s : Spare) → ms ≡ replicate (length map) 65535
      → d ≡ map_bytes ms (256 * i) 256 → s ≡ map_spare i 1 → Programmed xs i (page_bytes d s) ys
      → t ≡ with_work (fresh_state g) 0 0 (Format (k + 1)) → Formats (format_stride g k) xs map 255 ys ms t
  unfolding map_page
  maps k i h e l d s em ed es p et =
      let n : k - g.blocks ≡ i = omega arith in
      let b : blank_at xs i ≡ true = rw n at (h.blank (omega arith)) in
      let m = unmapped_is g xs map k h ms em in
      more k (program i (map_page (blank_map g) i 1)) (format_stride g k) (mapping g k i e l) (p.applied g.pages b ∙ rw (ed, es, m)) m et

  -- the zone page programmed, z being the zones, d its data and s its spare area
  pub ends : (m : ℕ) (z : Zones) (d : List ℕ) (s : Spare) (t₀ t₁ : State) → Formattable g xs map (g.blocks + map_pages g) → ms ≡ replicate (length map) 65535
      → m ≡ map_pages g → z ≡ format_zones g → d ≡ zone_data 0 z → s ≡ zone_spare m 1 → Programmed xs m (page_bytes d s) ys
      → t₀ ≡ fresh_state g → t₁ ≡ with_zones t₀ z → t ≡ with_number t₁ 1 → Formats (format_stride g (g.blocks + map_pages g)) xs map 0 ys ms t
  unfolding format_last carried zone_page with_number with_zones fresh_state
  ends m z d s t₀ t₁ h em en ez ed es p e₀ e₁ et =
      let k = g.blocks + map_pages g in
      let n : k - g.blocks ≡ m = omega arith in
      let b : blank_at xs m ≡ true = rw n at (h.blank (omega arith)) in
      let a : ys ≡ apply_op g.pages (program (map_pages g) (zone_page (map_pages g) 0 (format_zones g) 1)) xs = p.applied g.pages b ∙ rw (ed, es, ez, en) in
      let u : ms ≡ blank_map g = unmapped_is g xs map k h ms em in
      λ (v : State) (hold : List ℕ). rw (ending g _, a, u, et, e₁, e₀, ez)
