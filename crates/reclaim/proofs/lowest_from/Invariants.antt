-- `reclaim::lowest_from` meets its contract. The loop's invariant: `least` is the lowest of the entries so far that are at least `lo`, or `hi`. Assumes nothing.
use Rattle.reclaim.proofs.Lowest.{Least}
use Rattle.reclaim.proofs.lowest_from.Given as goal

abbrev pub invariant-loop-e : goal.invariant-loop-e
invariant-loop-e l = Least l.map l.lo l.hi l.e-index l.least
