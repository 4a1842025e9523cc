-- `change::program_held` meets its contract: the part of the hold that is lent is the page that place i holds. Assumes nothing.
use native.Mathlib.Nat.{add-sub_cancel_left}
use Rattle.model.specs.Lists.{part}
use Rattle.model.specs.Transactions.{held_at}
use Rattle.change.proofs.program_held.Goals as goal

pub returns : goal.returns
unfolding held_at part
returns c = rw add-sub_cancel_left at c.program_at.ensures
