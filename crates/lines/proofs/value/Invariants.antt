-- `lines::value` meets its contract. The loop's invariant: the number so far and the rest say what the whole says. Assumes nothing.
use mathlib.Core.Path.{◌≡◌}
use lib.ListN.{drop}
use Rattle.lines.specs.Input.{value_from}
use Rattle.lines.proofs.value.Given as goal

abbrev pub invariant-loop-i : goal.invariant-loop-i
invariant-loop-i l = value_from l.i l.v (drop l.i l.text) ≡ value_from 0 0 l.text
