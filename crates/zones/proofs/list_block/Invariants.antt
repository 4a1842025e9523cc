-- `zones::list_block` meets its contract. The loop's invariant: the identifiers of the pages before `k` are listed. Assumes nothing.
use mathlib.Core.Path.{◌≡◌}
use mathlib.Core.List.{◌++◌}
use Prim.Native.Nat.{◌-◌}
use Rattle.model.specs.Zones.{whole_from}
use Rattle.zones.specs.Judging.{ids_in}
use Rattle.zones.proofs.list_block.Given as goal

abbrev pub invariant-loop-k : goal.invariant-loop-k
invariant-loop-k l = l.near ≡ l.initial.near ++ ids_in (whole_from l.array l.first (l.k - l.first))
