-- `flash::still_due` meets its contract. The loop's invariant: the pages of the block from `n` on are erased, and with `left` they are those due. Assumes nothing.
use mathlib.Core.Path.{◌≡◌}
use Prim.Native.Nat.{◌+◌, ◌-◌, ◌*◌, ◌≤◌}
use Rattle.model.specs.Page.{used_from}
use Rattle.model.specs.Zones.{used_in}
use Rattle.flash.proofs.still_due.Given as goal

abbrev pub invariant-loop-n : goal.invariant-loop-n
invariant-loop-n l = (l.n ≤ l.pages) × ((l.left + (l.pages - l.n) ≡ l.due) × (used_in l.array l.pages l.b ≡ used_from l.array (l.b * l.pages) l.n))
