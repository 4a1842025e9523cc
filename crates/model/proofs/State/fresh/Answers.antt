-- A fresh state: no zones, and every place free.
use Rattle.model.specs.Frame.{fresh_state}
use Rattle.model.proofs.State.fresh.Goals as goal

pub returns : goal.returns
unfolding fresh_state
returns c = simp (c.empty-z.ensures, c.free-p.ensures)
