-- `checkpoint::number_at` meets its contract: from what its call ensures. Assumes nothing.
use borrow.Author.Rules.{rules}
use Rattle.model.specs.Checkpoint.{number_at}
use Rattle.checkpoint.proofs.number_at.Goals as goal

pub returns : goal.returns
unfolding number_at
returns c = search rules
