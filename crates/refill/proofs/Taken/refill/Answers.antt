-- `Taken::refill` meets its contract: three steps, each of which keeps the lists in range. Assumes nothing.
use Rattle.refill.proofs.Taking.{may_fits, three}
use Rattle.refill.proofs.Taken.refill.Goals as goal

pub take_next-requires-2 : goal.take_next-requires-2
take_next-requires-2 c = rw c.take_next.ensures (may_fits _ _ c.requires)

pub take_next-requires-3 : goal.take_next-requires-3
take_next-requires-3 c = rw (c.take_next-2.ensures, c.take_next.ensures) (may_fits _ _ (may_fits _ _ c.requires))

pub returns : goal.returns
returns c = three c.args.g c.args.self _ _ _ c.take_next.ensures c.take_next-2.ensures c.take_next-3.ensures
