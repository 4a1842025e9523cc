-- `zones::list_near` meets its contract. The loop's invariant: the identifiers of the blocks before the next are listed. Assumes nothing.
use mathlib.Core.Path.{◌≡◌}
use lib.ListN.{take}
use Rattle.model.specs.Zones.{scan_in}
use Rattle.zones.specs.Judging.{ids_in}
use Rattle.zones.proofs.list_near.Given as goal

abbrev pub invariant-loop-b : goal.invariant-loop-b
invariant-loop-b l = l.near ≡ ids_in (scan_in l.array l.pages (take l.b-index l.bs))
