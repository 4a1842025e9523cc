-- `checkpoint::is_newer` meets its contract: by what was found so far. Assumes nothing.
use Rattle.model.specs.Checkpoint.{newer}
use Rattle.checkpoint.proofs.is_newer.Goals as goal

pub returns-in-None : goal.returns-in-None
unfolding newer
returns-in-None c = rw c.in-None.is

pub returns-in-Some : goal.returns-in-Some
unfolding newer
returns-in-Some c = rw (c.in-Some.is, c.number_at.ensures, c.number_at-in-Some.ensures)
