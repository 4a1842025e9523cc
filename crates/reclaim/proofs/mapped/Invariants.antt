-- `reclaim::mapped` meets its contract. The loop's invariant: the counts are those of the entries so far. Assumes nothing.
use Rattle.reclaim.proofs.Counting.{Sums}
use Rattle.reclaim.proofs.mapped.Given as goal

abbrev pub invariant-loop-e : goal.invariant-loop-e
invariant-loop-e l = Sums l.map l.pages l.counts l.e-index
