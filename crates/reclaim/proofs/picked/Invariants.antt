-- `reclaim::picked` meets its contract. The loop's invariant: what is picked of all blocks is picked of those from `b` on and of the best so far,
-- whose count is `least`. Assumes nothing.
use mathlib.Core.Path.{◌≡◌}
use Prim.Native.Nat.{◌-◌, ◌≤◌}
use lib.ListN.{length}
use Rattle.model.specs.Checkpoint.{nothing}
use Rattle.checkpoint.specs.Found.{found_of}
use Rattle.reclaim.proofs.Picking.{least_of, pick_by}
use Rattle.reclaim.proofs.picked.Given as goal

abbrev pub invariant-loop-b : goal.invariant-loop-b
invariant-loop-b l = record {
  few : l.last ≤ 128;
  long : length l.counts ≡ 128;
  least : l.least ≡ least_of l.counts (found_of l.best);
  picked : pick_by l.counts 2 (l.last - 2) nothing ≡ pick_by l.counts l.b (l.last - l.b) (found_of l.best);
}
