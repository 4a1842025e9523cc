-- `bokuhira::sized` meets its contract. Assumes nothing.
use borrow.Author.Rules.{rules}
use Rattle.bokuhira.specs.Calls.{sized}
use Rattle.bokuhira.proofs.sized.Goals as goal

pub returns : goal.returns
unfolding sized
returns c = search rules
