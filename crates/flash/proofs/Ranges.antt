-- Data blocks lie in the array: what `clean_short` and `next_in` require of the available zone. Assumes nothing.
use mathlib.Core.Path.{◌≡◌}
use mathlib.Core.Bool.{true}
use mathlib.Core.List.{List}
use Prim.Native.Nat.{ℕ, suc, ◌*◌, ◌≤◌}
use native.Mathlib.Omega.{arith}
use native.Mathlib.Nat.{mul-le-mul_right}
use lib.ListN.{length, get_or}
use Rattle.model.specs.Lists.{all}
use Rattle.model.specs.Geometry.{data_block}
use Rattle.model.specs.declared.Geometry.{Geometry}
use Rattle.arrays.specs.Tests.{all_at}
use Rattle.arrays.specs.Ranges.{block_most}
use Rattle.flash.specs.Ranges.{Within}

-- n is the length of the array
pub within_data : (g : Geometry) (n : ℕ) (bs : List ℕ) → n ≡ g.blocks * g.pages * 528 → length bs ≤ 126 → all (data_block g) bs ≡ true → Within n g.pages bs
within_data g n bs e few h =
    record {
      each = λ i l. (
          let b = get_or bs i 0 in
          let k : suc b * g.pages ≤ g.blocks * g.pages = mul-le-mul_right g.pages (block_most g b (all_at (data_block g) bs i 0 h l)) in
          omega arith
          );
      few = few;
    }
