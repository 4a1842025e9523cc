-- `change::hold_page` meets its contract: the part of the hold that is lent is the page of place i, and comes back as the data. Assumes nothing.
use native.Mathlib.Nat.{add-sub_cancel_left}
use lib.Seq.{drop-drop}
use Rattle.model.specs.Lists.{splice}
use Rattle.model.specs.Transactions.{hold_with}
use Rattle.change.proofs.hold_page.Goals as goal

pub returns : goal.returns
unfolding hold_with splice
returns c = rw (c.copy_from_slice.ensures.after, add-sub_cancel_left, drop-drop)
