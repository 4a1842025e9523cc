-- `flash::page_of` meets its contract: the part from the page's first byte to its last. Assumes nothing.
use native.Mathlib.Nat.{add-sub_cancel_left}
use native.Mathlib.Omega.{arith}
use lib.ListN.{length-take, length-drop}
use Rattle.model.specs.Lists.{part}
use Rattle.model.specs.Page.{page_at}
use Rattle.flash.proofs.page_of.Goals as goal

pub returns : goal.returns
unfolding page_at part
returns c = (rw add-sub_cancel_left, simp (length-take, length-drop) (omega arith))
