-- `format::erase_stride` meets its contract: block k is erased, and the map and the state are made anew. Assumes nothing.
use Rattle.format.proofs.Strides.{block_in, erases}
use Rattle.format.proofs.erase_stride.Goals as goal

pub erase_block-requires : goal.erase_block-requires
erase_block-requires c = block_in c.args.g c.args.array.now c.args.map.now c.args.k c.requires.0 c.requires.1

pub returns : goal.returns
returns c = erases c.args.g c.args.array.now c.args.map.now _ _ _ c.args.k c.requires.0 c.requires.1 c.erase_block.ensures c.blank_map.ensures c.under_way.ensures
