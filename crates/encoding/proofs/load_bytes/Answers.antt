-- `encoding::load_bytes` meets its contract: the part is copied whole. Assumes nothing.
use native.Mathlib.Nat.{add-sub_cancel_left}
use Rattle.model.specs.Lists.{part}
use Rattle.encoding.proofs.load_bytes.Goals as goal

pub returns : goal.returns
unfolding part
returns g c = rw add-sub_cancel_left at c.copy_from_slice.ensures.after
