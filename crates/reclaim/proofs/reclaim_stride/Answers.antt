-- `reclaim::reclaim_stride` meets its contract: the block is freed where no copy is due, else its lowest mapped page is copied. Assumes what `Going` says.
use native.Mathlib.Omega.{arith}
use native.Mathlib.Nat.{add-sub_cancel_left}
use Rattle.reclaim.proofs.Room.{block_ends, block_copying}
use Rattle.reclaim.proofs.Picking.{picked_block}
use Rattle.reclaim.proofs.Carried.{block_frees, block_copies}
use Rattle.reclaim.proofs.reclaim_stride.Goals as goal

pub free_stride-requires : goal.free_stride-requires
free_stride-requires c = (c.requires.0, picked_block c.args.s c.args.array.now c.args.map.now c.args.b c.requires.0 c.requires.1.taken)

pub returns-then-copies-eq0 : goal.returns-then-copies-eq0
returns-then-copies-eq0 c = block_frees c.args.s c.args.array.now c.args.map.now c.args.b c.args.copies c.requires.1 c.if-copies-eq0.true _ _ _ _ c.free_stride.ensures

pub overflow_mul-b : goal.overflow_mul-b
overflow_mul-b c =
    let e = block_ends c.args.s c.args.array.now c.args.map.now c.requires.0 c.args.b (picked_block c.args.s c.args.array.now c.args.map.now c.args.b c.requires.0 c.requires.1.taken).0 in
    omega arith

pub overflow_mul-b-2 : goal.overflow_mul-b-2
overflow_mul-b-2 c =
    let e = block_ends c.args.s c.args.array.now c.args.map.now c.requires.0 c.args.b (picked_block c.args.s c.args.array.now c.args.map.now c.args.b c.requires.0 c.requires.1.taken).0 in
    omega arith

pub overflow_add-b : goal.overflow_add-b
overflow_add-b c =
    let e = block_ends c.args.s c.args.array.now c.args.map.now c.requires.0 c.args.b (picked_block c.args.s c.args.array.now c.args.map.now c.args.b c.requires.0 c.requires.1.taken).0 in
    omega arith

pub copy_stride-requires : goal.copy_stride-requires
copy_stride-requires c =
    block_copying c.args.s c.args.array.now c.args.map.now c.requires.0 c.args.b (picked_block c.args.s c.args.array.now c.args.map.now c.args.b c.requires.0 c.requires.1.taken).0 c.args.copies c.requires.1.due
    c.if-copies-eq0.false c.requires.1.passes _ (rw add-sub_cancel_left at c.lowest_from-j.ensures)

pub returns : goal.returns
returns c =
    block_copies c.args.s c.args.array.now c.args.map.now c.args.b c.args.copies c.requires.1 c.if-copies-eq0.false _ _ _ _
    (rw (rw add-sub_cancel_left at c.lowest_from-j.ensures) at c.copy_stride.ensures)
