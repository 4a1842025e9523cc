-- The pages of a checkpoint as they are read: the map entries, and the zone page's data. Assumes nothing.
use mathlib.Core.Path.{◌≡◌, refl, ap, sym, ◌∙◌}
use mathlib.Core.List.{List, ◌++◌}
use Prim.Native.Nat.{ℕ, zero, suc, ◌+◌, ◌-◌, ◌*◌, ◌≤◌, ◌<◌}
use native.Mathlib.Omega.{arith}
use native.Mathlib.Nat.{add-sub_cancel_left, mul-le-mul_right}
use lib.ListN.{length, take, drop, replicate, length-append, length-replicate, replicate-append-replicate}
use lib.Seq.{take-take, take_at, drop_at}
use Rattle.model.specs.Bytes.{words}
use Rattle.model.specs.Lists.{part}
use Rattle.model.specs.Page.{page_at, data_at}
use Rattle.model.specs.Geometry.{map_pages}
use Rattle.model.specs.Checkpoint.{load_map}
use Rattle.model.specs.declared.Geometry.{Geometry}
use Rattle.arrays.specs.Pages.{PageFits, length_data}
use Rattle.arrays.specs.Ranges.{geometry_in, maps_few, maps_hold}
use Rattle.load.proofs.Words.{length_words}
use Rattle.recover.specs.Recovering.{Standing, Loaded}

-- ---- the m map pages from page k of xs on
length_entries : (xs : List ℕ) (k m : ℕ) → k * 528 + m * 528 ≤ length xs → length (load_map xs k m) ≡ 256 * m
unfolding load_map
length_entries xs k zero h = refl
length_entries xs k (suc m) h =
    let e = length_entries xs (suc k) m (omega arith) in
    let w = length_words 256 (data_at xs k) (length_data xs k (omega arith)) in
    omega (arith, length-append (words (data_at xs k)) (load_map xs (suc k) m))

-- their entries, as many as are used of 1024
pub entries_used : (xs l : List ℕ) (k m : ℕ) → k * 528 + m * 528 ≤ length xs → l ≡ load_map xs k m ++ replicate (1024 - 256 * m) 0 → take (256 * m) l ≡ load_map xs k m
entries_used xs l k m h e = ap (take (256 * m)) e ∙ take_at (load_map xs k m) (replicate (1024 - 256 * m) 0) (256 * m) (length_entries xs k m h)

module _ (xs l : List ℕ) (k m : ℕ) (f : l ≡ load_map xs k m ++ replicate (1024 - 256 * m) 0) where
  pub length_kept : k * 528 + m * 528 ≤ length xs → length (take (256 * m) l) ≡ 256 * m
  length_kept h = ap length (entries_used xs l k m h f) ∙ length_entries xs k m h

  pub kept_fit : k * 528 + m * 528 ≤ length xs → 256 * m ≤ length l
  kept_fit h = omega (arith, ap length f, length_entries xs k m h, length-append (load_map xs k m) (replicate {A = ℕ} (1024 - 256 * m) 0))

-- ---- the data of page k
pub data_part : (xs : List ℕ) (k : ℕ) → take (k * 528 + 512 - k * 528) (drop (k * 528) xs) ≡ data_at xs k
unfolding data_at page_at part
data_part xs k = rw (add-sub_cancel_left (k * 528) 512) (sym (take-take 512 528 (drop (k * 528) xs) (omega arith)))

-- ---- where the pages of a checkpoint from page k on stand
module _ (g : Geometry) (xs map : List ℕ) (k : ℕ) (h : Standing g xs map k) where
  pub maps_most : map_pages g ≤ 4
  maps_most = maps_few g (geometry_in g h.shape)

  pub first_small : k < 128
  first_small =
      let p = (geometry_in g h.shape).pages_most in
      let e = h.ends in
      omega arith

  pub zone_fits : PageFits xs (k + map_pages g)
  zone_fits =
      let b = (geometry_in g h.shape).blocks_least in
      let e = h.ends in
      let l = h.bytes in
      let two : 2 ≤ g.blocks = omega arith in
      let p : 2 * g.pages ≤ g.blocks * g.pages = mul-le-mul_right g.pages two in
      omega arith

  pub maps_fit : k * 528 + map_pages g * 528 ≤ length xs
  maps_fit = let z = zone_fits in omega arith

  -- what was read of them
  module _ (z entries : List ℕ) (d : Loaded g xs k z entries) where
    pub zone_long : length z ≡ 512
    zone_long = ap length d.zones ∙ length_data xs (k + map_pages g) zone_fits

    pub entries_enough : g.logical ≤ length entries
    entries_enough =
        let e = ap length d.used ∙ length_entries xs k (map_pages g) maps_fit in
        let m = maps_hold g in
        omega arith
