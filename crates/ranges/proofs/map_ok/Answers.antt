-- `ranges::map_ok` meets its contract: from what `entries_ok` ensures, a page of a data block being one from the third block's first up to the last. Assumes nothing.
use Prim.Native.Nat.{◌*◌, ◌≤◌}
use native.Mathlib.Nat.{mul-le-mul}
use native.Mathlib.Omega.{arith}
use Rattle.model.specs.Geometry.{map_ok, entry_ok, data_page}
use Rattle.arrays.specs.Ranges.{geometry_in}
use Rattle.ranges.specs.Ranges.{entry_within}
use Rattle.ranges.proofs.map_ok.Goals as goal

pub entries_ok-requires : goal.entries_ok-requires
entries_ok-requires c =
    let h = geometry_in c.args.g c.requires in
    let m : c.args.g.blocks * c.args.g.pages ≤ 128 * 64 = mul-le-mul h.blocks_most h.pages_most in
    rw (c.from.ensures, c.from-pages.ensures) (omega arith)

pub returns : goal.returns
unfolding map_ok entry_ok data_page entry_within
returns c = rw (c.from.ensures, c.from-pages.ensures) at c.entries_ok.ensures
