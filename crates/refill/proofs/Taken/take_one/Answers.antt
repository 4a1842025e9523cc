-- `Taken::take_one` meets its contract: the block at the index goes from one list to the other, and the pointer past it. Assumes nothing.
use Rattle.model.specs.Zones.{take_one}
use Rattle.refill.proofs.Free.{index_inside}
use Rattle.refill.proofs.Taking.{free_block, taken_of}
use Rattle.refill.proofs.Taken.take_one.Goals as goal

pub bounds-as_slice-i : goal.bounds-as_slice-i
bounds-as_slice-i c = rw (c.as_slice-2.ensures, c.free_index-i.ensures, c.as_slice.ensures) (index_inside _ _ (rw (← c.self.view_is) at c.requires.some))

pub without-requires : goal.without-requires
without-requires c = rw (c.free_index-i.ensures, c.as_slice.ensures) (index_inside _ _ (rw (← c.self.view_is) at c.requires.some))

pub past_block-requires : goal.past_block-requires
past_block-requires c =
    (c.requires.lists.shape, rw (c.as_slice-2.ensures, c.free_index-i.ensures, c.as_slice.ensures) (free_block c.args.g _ (rw (← c.self.view_is) at c.requires.lists) _ (index_inside _ _ (rw (← c.self.view_is) at c.requires.some))))

pub returns : goal.returns
unfolding take_one
returns c =
    rw (← c.self.view_is)
    (taken_of _ _ _ _ _ _
    (rw (c.as_slice-2.ensures, c.free_index-i.ensures, c.as_slice.ensures) at c.with.ensures)
    (rw (c.free_index-i.ensures, c.as_slice.ensures) at c.without.ensures)
    (rw (c.as_slice-2.ensures, c.free_index-i.ensures, c.as_slice.ensures) at c.past_block.ensures))
