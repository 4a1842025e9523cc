-- `encoding::load_drops` meets its contract. The loop's invariant: the first i drops stand in the list. Assumes nothing.
use Rattle.std.proofs.Common.{rules, refl, arith}
use Rattle.model.specs.Lists.{part}
use Rattle.encoding.specs.Encoding.{drops_from}
use Rattle.page.proofs.Taken.{filling_none, filling_more, filling_all}
use Rattle.encoding.proofs.Taken.{drops_more}
use Rattle.encoding.proofs.load_drops.Goals as goal

pub loop-i-init : goal.loop-i-init
unfolding part drops_from
loop-i-init c = (search rules, filling_none _ _ refl)

pub loop-i-preserved : goal.loop-i-preserved
loop-i-preserved c = (search rules, filling_more c.loop-i.invariant.1 (omega arith) _ (drops_more _ _ _ (omega arith)))

pub returns : goal.returns
returns c = filling_all c.loop-i.invariant.1 (omega arith)
