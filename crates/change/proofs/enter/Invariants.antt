-- `change::enter` meets its contract. The loop's invariant: the first `i` pages are entered. Assumes nothing.
use mathlib.Core.Path.{◌≡◌}
use Rattle.model.specs.Transactions.{entered}
use Rattle.change.proofs.enter.Given as goal

abbrev pub invariant-loop-i : goal.invariant-loop-i
invariant-loop-i l = l.map ≡ entered l.initial.map l.p.lpns l.p.ppns l.p.drops l.i
