-- `recovery::enter_runs` meets its contract. The loop's invariant: the runs before page i are entered. Assumes nothing.
use mathlib.Core.Path.{◌≡◌}
use Prim.Native.Nat.{◌-◌, ◌≤◌}
use lib.ListN.{length, take}
use Rattle.ranks.specs.Pass.{best_of}
use Rattle.ranks.specs.Best.{rank_of}
use Rattle.scan.specs.Taken.{entries_in}
use Rattle.recovery.specs.Redo.{best}
use Rattle.recovery.proofs.Running.{Bound}
use Rattle.recovery.proofs.enter_runs.Given as goal

abbrev pub invariant-loop-i : goal.invariant-loop-i
invariant-loop-i l = (l.i ≤ length l.order) × (Bound l.array l.order l.i × ((length l.map ≡ length l.initial.map) × ((length l.bests ≡ length l.initial.bests) × (best l.map l.bests ≡ best_of (rank_of (entries_in l.array l.order)) (entries_in l.array (take l.i l.order)) (best l.initial.map l.initial.bests)))))

abbrev pub decreases-loop-i : goal.decreases-loop-i
decreases-loop-i l = length l.order - l.i
