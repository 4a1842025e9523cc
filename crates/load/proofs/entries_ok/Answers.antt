-- `load::entries_ok` meets its contract: there is an entry for each logical page. Assumes nothing.
use mathlib.Core.Path.{sym}
use native.Mathlib.Omega.{arith}
use lib.Seq.{length-take-le}
use Rattle.arrays.specs.Ranges.{maps_hold}
use Rattle.load.proofs.entries_ok.Goals as goal

pub slice_bounds-map_ok-end : goal.slice_bounds-map_ok-end
slice_bounds-map_ok-end c = sym (length-take-le c.args.g.logical c.args.entries.now (omega (arith, c.requires.all, maps_hold c.args.g)))

pub slice_bounds-all_unmapped-count : goal.slice_bounds-all_unmapped-count
slice_bounds-all_unmapped-count c = omega (arith, c.requires.all, maps_hold c.args.g)

pub slice_bounds-all_unmapped-start : goal.slice_bounds-all_unmapped-start
slice_bounds-all_unmapped-start c = omega (arith, c.requires.all, maps_hold c.args.g)
