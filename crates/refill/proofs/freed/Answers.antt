-- `refill::freed` meets its contract: the free list gains a block. Assumes nothing.
use Rattle.refill.proofs.Free.{freed_is}
use Rattle.refill.proofs.freed.Goals as goal

pub returns : goal.returns
returns c = freed_is c.args.z c.args.b _ _ _ _ _ c.available.ensures c.unavailable.ensures c.free.ensures c.insert.ensures c.zones_of.ensures
