-- `zones::parted` meets its contract. The loop's invariant: of the blocks before the next, both lists have theirs. Assumes nothing.
use mathlib.Core.Path.{◌≡◌}
use lib.ListN.{take}
use Rattle.model.specs.Zones.{staying, leaving}
use Rattle.zones.proofs.parted.Given as goal

abbrev pub invariant-loop-b : goal.invariant-loop-b
invariant-loop-b l = (l.stay ≡ staying l.array l.pages (take l.b-index l.bs)) × (l.leave ≡ leaving l.array l.pages (take l.b-index l.bs))
