-- `strides::page_stride` meets its contract: by the stride that it goes on with. Assumes nothing.
use native.Mathlib.Omega.{arith}
use Rattle.strides.proofs.Carried.{page_maps, page_zones}
use Rattle.strides.proofs.page_stride.Goals as goal

pub returns-then-i-map_pages : goal.returns-then-i-map_pages
returns-then-i-map_pages c =
    let e = c.map_pages.ensures in
    page_maps c.args.s c.args.array.now c.args.map.now _ _ _ _ _ _ (omega arith) c.map_stride.ensures

pub returns : goal.returns
returns c =
    let e = c.map_pages.ensures in
    page_zones c.args.s c.args.array.now c.args.map.now _ _ _ _ _ _ (omega arith) c.zone_stride.ensures
