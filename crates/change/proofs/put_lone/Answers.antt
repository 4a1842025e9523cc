-- `change::put_lone` meets its contract: from what its calls ensure. Assumes nothing.
use mathlib.Core.Path.{refl}
use Rattle.change.proofs.put_lone.Goals as goal

pub returns : goal.returns
returns c = record { programmed = rw c.data_spare-spare.ensures at c.program_at.ensures; entered = refl }
