-- `load::zone_page_ok` meets its contract: the counts, the lists, the rest. Assumes nothing.
use mathlib.Core.Path.{refl, ◌∙◌}
use native.Mathlib.Omega.{arith}
use Rattle.arrays.specs.Ranges.{geometry_in}
use Rattle.load.proofs.Lists.{counts_fail, lists_fail, rest_decides}
use Rattle.load.proofs.zone_page_ok.Goals as goal

pub overflow_sub-g : goal.overflow_sub-g
overflow_sub-g c = let g = geometry_in c.args.g c.requires.0 in omega arith

pub returns-then-n-g : goal.returns-then-n-g
returns-then-n-g c = counts_fail c.args.g c.args.z.now _ _ _ _ refl refl refl refl c.if-n-g.true

pub slice_bounds-lists_ok-end : goal.slice_bounds-lists_ok-end
slice_bounds-lists_ok-end c = let g = geometry_in c.args.g c.requires.0 in omega arith

pub slice_bounds-all_zero-count : goal.slice_bounds-all_zero-count
slice_bounds-all_zero-count c = let g = geometry_in c.args.g c.requires.0 in omega arith

pub slice_bounds-all_zero-start : goal.slice_bounds-all_zero-start
slice_bounds-all_zero-start c = let g = geometry_in c.args.g c.requires.0 in omega arith

pub returns-then-lists_ok : goal.returns-then-lists_ok
returns-then-lists_ok c =
    let g = geometry_in c.args.g c.requires.0 in
    rest_decides c.args.g c.args.z.now _ _ _ _ refl refl refl refl c.lists_ok.result c.all_zero.result (omega arith) c.lists_ok.ensures c.if-lists_ok.true c.all_zero.ensures

pub returns-else-lists_ok : goal.returns-else-lists_ok
returns-else-lists_ok c =
    let g = geometry_in c.args.g c.requires.0 in
    c.if-lists_ok.false ∙ lists_fail c.args.g c.args.z.now _ _ _ _ refl refl refl refl c.lists_ok.result (omega arith) c.lists_ok.ensures c.if-lists_ok.false
