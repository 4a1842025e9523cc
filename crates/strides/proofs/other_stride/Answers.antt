-- `strides::other_stride` meets its contract: from what its calls ensure. Assumes nothing.
use Prim.Native.Nat.{◌-◌}
use native.Mathlib.Omega.{arith}
use Rattle.strides.proofs.Within.{block_inside}
use Rattle.strides.proofs.Carried.{other_strode}
use Rattle.strides.proofs.other_stride.Goals as goal

pub erase_block-requires : goal.erase_block-requires
erase_block-requires c =
    let f = c.requires.front in
    block_inside c.args.s c.args.array.now c.args.map.now c.requires (1 - c.args.s.front) (omega arith)

pub returns : goal.returns
returns c = other_strode c.args.s c.args.array.now c.args.map.now _ c.erase_block.ensures _ c.with_work-t.ensures
