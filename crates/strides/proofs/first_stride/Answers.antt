-- `strides::first_stride` meets its contract: by the stride that it goes on with. Assumes nothing.
use native.Mathlib.Omega.{arith}
use Rattle.strides.proofs.Within.{block_inside, maps_inside, first_next}
use Rattle.strides.proofs.Carried.{first_others, first_pages}
use Rattle.strides.proofs.first_stride.Goals as goal

pub used_in-used-requires : goal.used_in-used-requires
used_in-used-requires c = block_inside c.args.s c.args.array.now c.args.map.now c.requires.0 c.args.s.front c.requires.0.front

pub overflow_add-map_pages : goal.overflow_add-map_pages
overflow_add-map_pages c =
    let m = maps_inside c.args.s c.args.array.now c.args.map.now c.requires.0 in
    let e = c.map_pages.ensures in
    omega arith

pub returns-then-pages-used : goal.returns-then-pages-used
returns-then-pages-used c =
    let u = c.used_in-used.ensures.0 in
    let m = c.map_pages.ensures in
    first_others c.args.s c.args.array.now c.args.map.now _ _ _ _ (rw (← u, ← m) c.if-pages-used.true) c.other_stride.ensures

pub page_stride-requires : goal.page_stride-requires
page_stride-requires c =
    let m = c.map_pages.ensures in
    first_next c.args.s c.args.array.now c.args.map.now c.requires.0 c.requires.1 _ c.used_in-used.ensures.0 (rw (← m) c.if-pages-used.false)

pub returns : goal.returns
returns c =
    let u = c.used_in-used.ensures.0 in
    let m = c.map_pages.ensures in
    first_pages c.args.s c.args.array.now c.args.map.now _ _ _ _ (rw (← u, ← m) c.if-pages-used.false) (rw (← u) c.page_stride.ensures)
