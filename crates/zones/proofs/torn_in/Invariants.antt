-- `zones::torn_in` meets its contract. The loop's invariant: the torn pages counted with those of the blocks that are left are all. Assumes nothing.
use mathlib.Core.Path.{◌≡◌}
use Prim.Native.Nat.{◌+◌, ◌*◌, ◌≤◌}
use lib.ListN.{drop}
use Rattle.model.specs.Zones.{torn_in}
use Rattle.zones.proofs.torn_in.Given as goal

abbrev pub invariant-loop-b : goal.invariant-loop-b
invariant-loop-b l = (l.torn ≤ l.b-index * 64) × (l.torn + torn_in l.array l.pages (drop l.b-index l.bs) ≡ torn_in l.array l.pages l.bs)
