-- `recovery::enter_pages` meets its contract. The loop's invariant: the pages before k are entered. Assumes nothing.
use Rattle.recovery.specs.Redo.{rank_by}
use Rattle.recovery.proofs.Entering.{Entered}
use Rattle.recovery.proofs.enter_pages.Given as goal

abbrev pub invariant-loop-k : goal.invariant-loop-k
invariant-loop-k l = Entered (rank_by l.run) l.array l.order l.initial.map l.initial.bests l.k-index l.map l.bests
