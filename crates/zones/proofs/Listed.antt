-- What refusal 1 leaves of zone lists: their counts, and that they are data blocks, which lie in the array. Assumes nothing.
use mathlib.Core.Path.{◌≡◌}
use mathlib.Core.Bool.{true, not, ◌&&◌}
use mathlib.Core.List.{List, [], ◌++◌}
use Prim.Native.Nat.{ℕ, ◌+◌, ◌-◌, ◌≤◌}
use native.Mathlib.Omega.{arith}
use lib.ListN.{length, length-take}
use lib.Dec.{leb}
use borrow.Author.Tests.{leb-true}
use Rattle.model.specs.Lists.{all, all_heads, elem, rising}
use Rattle.model.specs.Geometry.{geometry_ok, data_block}
use Rattle.model.specs.Zones.{available_of, unavailable_of, free_of, new_block, zone_lists_ok, zones_ok}
use Rattle.model.specs.declared.Geometry.{Geometry}
use Rattle.model.specs.declared.Zones.{Zones}
use Rattle.arrays.specs.Tests.{and_left, and_right, all_append_left, all_append_right, heads_all}
use Rattle.arrays.specs.Ranges.{geometry_in}
use Rattle.flash.specs.Ranges.{Within}
use Rattle.flash.proofs.Ranges.{within_data}
use Rattle.zones.specs.Judging.{Ready}

-- the counts of the lists, and their blocks
pub record Listed (g : Geometry) (z : Zones) : Type 0 where
  pub few : z.na ≤ 3
  pub counts : z.na + z.nu + z.nf ≤ 126
  pub available : all (data_block g) (available_of z) ≡ true
  pub unavailable : all (data_block g) (unavailable_of z) ≡ true
  pub free : all (data_block g) (free_of z) ≡ true

pub listed : (g : Geometry) (z : Zones) → geometry_ok g ≡ true → zones_ok g z ≡ true → Listed g z
unfolding zones_ok zone_lists_ok new_block
listed g z s h =
    let m = (geometry_in g s).blocks_most in
    let rest = unavailable_of z ++ free_of z in
    let blocks = available_of z ++ rest in
    let last = rising (free_of z) && data_block g z.pointer in
    let then = all_heads (new_block g) [] blocks && last in
    let c = leb-true (z.na + z.nu + z.nf) (g.blocks - 2) (and_left (leb (z.na + z.nu + z.nf) (g.blocks - 2)) (leb z.na 3 && then) h) in
    let p = and_right (leb (z.na + z.nu + z.nf) (g.blocks - 2)) (leb z.na 3 && then) h in
    let heads = and_left (all_heads (new_block g) [] blocks) last (and_right (leb z.na 3) then p) in
    let each = heads_all (new_block g) (data_block g) (λ seen b k. and_left (data_block g b) (not (elem b seen)) k) [] blocks heads in
    let later = all_append_right (data_block g) (available_of z) rest each in
    record {
      few = leb-true z.na 3 (and_left (leb z.na 3) then p);
      counts = omega arith;
      available = all_append_left (data_block g) (available_of z) rest each;
      unavailable = all_append_left (data_block g) (unavailable_of z) (free_of z) later;
      free = all_append_right (data_block g) (unavailable_of z) (free_of z) later;
    }

module _ (g : Geometry) (xs : List ℕ) (z : Zones) (r : Ready g xs z) where
  pub ready_listed : Listed g z
  ready_listed = listed g z r.shape r.lists

  pub available_within : Within (length xs) g.pages (available_of z)
  available_within =
      let l = ready_listed in
      let a = l.few in
      within_data g (length xs) (available_of z) r.bytes (omega (arith, length-take z.na z.available)) l.available

  pub unavailable_within : Within (length xs) g.pages (unavailable_of z)
  unavailable_within =
      let l = ready_listed in
      let a = l.counts in
      within_data g (length xs) (unavailable_of z) r.bytes (omega (arith, length-take z.nu z.unavailable)) l.unavailable
