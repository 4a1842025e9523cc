-- `cases::write_all`: the pages are no more than the turns.
use Prim.Native.Nat.{◌≤◌}
use Rattle.cases.proofs.write_all.Given as goal

abbrev pub invariant-loop : goal.invariant-loop
invariant-loop g l = l.pages ≤ l.counter
