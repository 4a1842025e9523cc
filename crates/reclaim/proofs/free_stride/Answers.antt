-- `reclaim::free_stride` meets its contract: from what its calls ensure; a block that is not listed has room in the free list. Assumes nothing.
use native.Mathlib.Omega.{arith}
use Rattle.arrays.specs.Ranges.{geometry_in, block_most, data_block_fits}
use Rattle.zones.proofs.Listed.{listed}
use Rattle.reclaim.proofs.Room.{free_room}
use Rattle.reclaim.proofs.Carried.{free_strode}
use borrow.Author.Rules.{rules}
use Rattle.reclaim.proofs.free_stride.Goals as goal

pub erase_block-requires : goal.erase_block-requires
erase_block-requires c = data_block_fits c.args.s.geometry c.args.array.now c.requires.0.bytes c.args.b c.requires.1.0

pub overflow_cast-b : goal.overflow_cast-b
overflow_cast-b c =
    let m = (geometry_in c.args.s.geometry c.requires.0.shape).blocks_most in
    let l = block_most c.args.s.geometry c.args.b c.requires.1.0 in
    omega arith

pub freed-requires : goal.freed-requires
freed-requires c =
    let f = c.requires.0 in
    let l = listed c.args.s.geometry c.args.s.zones f.shape f.zones in
    let k = l.counts in
    (record { available = l.few; all = omega arith }, free_room c.args.s.geometry c.args.s.zones f.shape f.zones c.args.b c.requires.1.0 c.requires.1.1 (search rules))

pub returns : goal.returns
returns c = free_strode c.args.s c.args.array.now c.args.map.now c.args.b _ c.erase_block.ensures _ c.freed.ensures _ _ c.with_work-t.ensures c.with_zones-t2.ensures
