-- `checkpoint::newest_from` meets its contract. The loop's invariant: `found` is the newest that starts on the first `i` pages. Assumes nothing.
use mathlib.Core.Path.{◌≡◌}
use Prim.Native.Nat.{◌+◌, ◌-◌}
use lib.ListN.{length}
use Rattle.model.specs.Checkpoint.{newest_from}
use Rattle.checkpoint.specs.Found.{found_of, FoundIn}
use Rattle.checkpoint.proofs.newest_from.Given as goal

abbrev pub invariant-loop-i : goal.invariant-loop-i
invariant-loop-i l = record {
  inside : FoundIn (length l.array) (found_of l.found);
  newest : newest_from l.array l.m l.k l.n (found_of l.initial.found) ≡ newest_from l.array l.m (l.k + l.i) (l.n - l.i) (found_of l.found);
}
