-- `encoding::put_drops` meets its contract. The loop's invariant: the first i drops are laid. Assumes nothing.
use Rattle.std.proofs.Common.{rules, arith}
use Rattle.encoding.proofs.Laid.{laid_none, drops_next, drops_end}
use Rattle.encoding.proofs.put_drops.Goals as goal

pub loop-i-init : goal.loop-i-init
loop-i-init c = (search rules, laid_none _ _ (omega arith))

pub loop-i-preserved : goal.loop-i-preserved
loop-i-preserved c = (search rules, rw c.from.ensures (drops_next c.args.list.now c.loop-i.invariant.1 (omega arith) (omega arith)))

pub returns : goal.returns
returns c = drops_end c.args.list.now c.loop-i.invariant.1 (omega arith)
