-- `format::map_stride` meets its contract: the map is made anew, its page i programmed, and the state made anew. Assumes nothing.
use native.Mathlib.Omega.{arith}
use Rattle.arrays.specs.Ranges.{geometry_in, maps_few}
use Rattle.format.proofs.Strides.{page_in, maps}
use borrow.Author.Rules.{rules}
use Rattle.format.proofs.map_stride.Goals as goal

pub map_data-d-requires : goal.map_data-d-requires
map_data-d-requires c =
    let m = maps_few c.args.g (geometry_in c.args.g c.requires.0.shape) in
    omega arith

pub program_at-requires : goal.program_at-requires
program_at-requires c = (page_in c.args.g c.args.array.now c.args.map.now c.args.k c.requires.0 c.args.i (omega arith), search rules)

pub under_way-requires : goal.under_way-requires
under_way-requires c =
    let h = geometry_in c.args.g c.requires.0.shape in
    let b = h.blocks_most in
    let m = maps_few c.args.g h in
    omega arith

pub returns : goal.returns
returns c =
    maps c.args.g c.args.array.now c.args.map.now _ _ _ c.args.k c.args.i c.requires.0 c.requires.1.0 c.requires.1.1 _ _
    c.blank_map.ensures
    c.map_data-d.ensures
    c.map_spare-spare.ensures
    c.program_at.ensures
    c.under_way.ensures
