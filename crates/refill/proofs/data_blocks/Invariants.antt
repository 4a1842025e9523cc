-- `refill::data_blocks` meets its contract. The loop's invariant: the data blocks below `b` are listed. Assumes nothing.
use mathlib.Core.Path.{◌≡◌}
use Prim.Native.Nat.{◌-◌}
use Rattle.model.specs.Lists.{up_from}
use Rattle.refill.proofs.data_blocks.Given as goal

abbrev pub invariant-loop-b : goal.invariant-loop-b
invariant-loop-b l = l.all ≡ up_from 2 (l.b - 2)
