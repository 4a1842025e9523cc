-- `bokuhira::finish` meets its contract: the state is stored unless the answer is a refusal. Assumes nothing.
use Rattle.bokuhira.proofs.Calls.{kept, stored}
use Rattle.bokuhira.proofs.finish.Goals as goal

pub store-requires : goal.store-requires
store-requires c = c.requires

pub returns-then-not-refused : goal.returns-then-not-refused
returns-then-not-refused c = stored _ _ _ _ _ _ c.number-n.ensures c.refused.ensures c.if-not-refused.true c.store.ensures

pub returns-else-not-refused : goal.returns-else-not-refused
returns-else-not-refused c = kept _ _ _ _ _ c.number-n.ensures c.refused.ensures c.if-not-refused.false
