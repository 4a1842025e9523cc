-- `recovery::run_version` meets its contract. The loop's invariant: the version of the pages before k. Assumes nothing.
use mathlib.Core.Path.{◌≡◌}
use lib.ListN.{length, take}
use lib.Dec.{eqb}
use Rattle.model.specs.Lists.{those}
use Rattle.model.specs.Zones.{Entry}
use Rattle.model.specs.Recovery.{top}
use Rattle.scan.specs.Taken.{entries_in}
use Rattle.recovery.proofs.run_version.Given as goal

abbrev pub invariant-loop-k : goal.invariant-loop-k
invariant-loop-k l = l.v ≡ top (those (λ (e : Entry). eqb e.cnt (length l.run)) (entries_in l.array (take l.k-index l.run)))
