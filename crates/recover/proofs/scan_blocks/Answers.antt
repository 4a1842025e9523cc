-- `recover::scan_blocks` meets its contract: the lists are as long as the scan. Assumes nothing.
use Rattle.recover.proofs.Plans.{blocks_in}
use Rattle.recover.proofs.scan_blocks.Goals as goal

pub size-n-requires : goal.size-n-requires
size-n-requires c = let a = c.args in let b = blocks_in a.g a.array.now a.map.now a.bs.now a.entries.now c.requires in (b.within.few, b.most)
