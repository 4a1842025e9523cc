-- The zone lists in a zone page's data that refusal 3 passes: their counts, and that the blocks to scan lie in the array. Assumes nothing.
use mathlib.Core.Path.{◌≡◌, refl}
use mathlib.Core.Bool.{Bool, true, not, ◌&&◌}
use mathlib.Core.List.{List, [], ◌++◌}
use Prim.Native.Nat.{ℕ, ◌+◌, ◌-◌, ◌*◌}
use native.Mathlib.Omega.{arith}
use lib.ListN.{length, take, drop, get_or, replicate, length-append}
use lib.Seq.{take_at}
use lib.Dec.{eqb, leb}
use borrow.Author.Tests.{leb-true}
use Rattle.model.specs.Lists.{all, all_heads, elem, rising, pad_to}
use Rattle.model.specs.Geometry.{geometry_ok, unmapped, data_block, map_ok}
use Rattle.model.specs.Zones.{available_of, unavailable_of, zones_of, new_block, zone_lists_ok}
use Rattle.model.specs.Checkpoint.{available_in, unavailable_in, free_in, zones_in, load_ok}
use Rattle.model.specs.declared.Geometry.{Geometry}
use Rattle.model.specs.declared.Zones.{Zones}
use Rattle.arrays.specs.Tests.{and_left, and_right, all_append, all_append_left, all_append_right, heads_all}
use Rattle.arrays.specs.Ranges.{geometry_in}
use Rattle.arrays.specs.Splice.{length_part}
use Rattle.flash.specs.Ranges.{Within}
use Rattle.flash.proofs.Ranges.{within_data}
use Rattle.blocks.specs.Blocks.{Counted}
use Rattle.load.specs.Load.{Counts}
use Rattle.recover.specs.Recovering.{Scannable, Standing, Loaded}
use Rattle.recover.proofs.Entries.{zone_long, entries_enough}

-- zones made of lists give the lists back
available_back : (z : List ℕ) → available_of (zones_in z) ≡ available_in z
unfolding zones_in zones_of pad_to
available_back z = take_at (available_in z) (replicate (3 - length (available_in z)) 0) (length (available_in z)) refl

unavailable_back : (z : List ℕ) → unavailable_of (zones_in z) ≡ unavailable_in z
unfolding zones_in zones_of pad_to
unavailable_back z = take_at (unavailable_in z) (replicate (126 - length (unavailable_in z)) 0) (length (unavailable_in z)) refl

module _ (g : Geometry) (entries z : List ℕ) (shape : geometry_ok g ≡ true) (long : length z ≡ 512) (ok : load_ok g entries z ≡ true) where
  abbrev na : ℕ
  na = get_or z 5 0

  abbrev nu : ℕ
  nu = get_or z 6 0

  abbrev nf : ℕ
  nf = get_or z 7 0

  abbrev blocks : List ℕ
  blocks = available_in z ++ (unavailable_in z ++ free_in z)

  -- what of refusal 3 is about the lists
  lists_ok : zone_lists_ok g na nu nf (available_in z) (unavailable_in z) (free_in z) (get_or z 4 0) ≡ true
  unfolding load_ok
  lists_ok =
      let lists = zone_lists_ok g na nu nf (available_in z) (unavailable_in z) (free_in z) (get_or z 4 0) in
      let rest = all (eqb 0) (drop (8 + na + nu + nf) z) in
      let others = all (eqb unmapped) (drop g.logical entries) in
      and_left lists rest (and_right others (lists && rest) (and_right (map_ok g (take g.logical entries)) (others && (lists && rest)) ok))

  abbrev last : Bool
  last = rising (free_in z) && data_block g (get_or z 4 0)

  abbrev then : Bool
  then = all_heads (new_block g) [] blocks && last

  few_ok : (leb na 3 && then) ≡ true
  unfolding zone_lists_ok
  few_ok = and_right (leb (na + nu + nf) (g.blocks - 2)) (leb na 3 && then) lists_ok

  pub counts_in : Counts z
  unfolding zone_lists_ok
  counts_in =
      let m = (geometry_in g shape).blocks_most in
      let c = leb-true (na + nu + nf) (g.blocks - 2) (and_left (leb (na + nu + nf) (g.blocks - 2)) (leb na 3 && then) lists_ok) in
      record { bytes = long; available = leb-true na 3 (and_left (leb na 3) then few_ok); all = omega arith }

  blocks_data : all (data_block g) blocks ≡ true
  unfolding new_block
  blocks_data =
      heads_all (new_block g) (data_block g) (λ seen b k. and_left (data_block g b) (not (elem b seen)) k) [] blocks
      (and_left (all_heads (new_block g) [] blocks) last (and_right (leb na 3) then few_ok))

  -- the lengths of the lists are the counts
  length_available : length (available_in z) ≡ na
  length_available = let a = counts_in.available in length_part 8 na z (omega arith)

  length_unavailable : length (unavailable_in z) ≡ nu
  length_unavailable = let a = counts_in.all in length_part (8 + na) nu z (omega arith)

  length_free : length (free_in z) ≡ nf
  length_free = let a = counts_in.all in length_part (8 + na + nu) nf z (omega arith)

  module _ (zones : Zones) (read : zones ≡ zones_in z) where
    pub counted_in : Counted zones
    unfolding zones_in zones_of
    counted_in =
        let c = counts_in in
        let a = c.available in
        let b = c.all in
        let la = length_available in
        let lu = length_unavailable in
        let lf = length_free in
        rw read (record { available = omega arith; all = omega arith })

    -- the blocks to scan, n being the length of the array
    pub order_within : (n : ℕ) → n ≡ g.blocks * g.pages * 528 → Within n g.pages (unavailable_of zones ++ available_of zones)
    order_within n e =
        let b = counts_in.all in
        let la = length_available in
        let lu = length_unavailable in
        let each = blocks_data in
        let later = all_append_right (data_block g) (available_in z) (unavailable_in z ++ free_in z) each in
        let u = all_append_left (data_block g) (unavailable_in z) (free_in z) later in
        let a = all_append_left (data_block g) (available_in z) (unavailable_in z ++ free_in z) each in
        rw (read, unavailable_back z, available_back z)
        (within_data g n (unavailable_in z ++ available_in z) e (omega (arith, length-append (unavailable_in z) (available_in z))) (all_append (data_block g) (unavailable_in z) (available_in z) u a))

-- ---- of the checkpoint on page k on
module _ (g : Geometry) (xs map : List ℕ) (k : ℕ) (h : Standing g xs map k) (z entries : List ℕ) (d : Loaded g xs k z entries) where
  loaded_ok : load_ok g entries z ≡ true
  loaded_ok = rw (d.used, d.zones) d.ok

  pub counts : Counts z
  counts = counts_in g entries z h.shape (zone_long g xs map k h z entries d) loaded_ok

  module _ (zones : Zones) (read : zones ≡ zones_in z) where
    pub counted : Counted zones
    counted = counted_in g entries z h.shape (zone_long g xs map k h z entries d) loaded_ok zones read

    -- o is the blocks in scan order
    pub scannable : (o : List ℕ) → o ≡ unavailable_of zones ++ available_of zones → Scannable g xs map o entries
    scannable o e =
        record {
          shape = h.shape;
          blocks = rw e (order_within g entries z h.shape (zone_long g xs map k h z entries d) loaded_ok zones read (length xs) h.bytes);
          mapped = h.mapped;
          enough = entries_enough g xs map k h z entries d;
        }
