-- `reclaim::mapped_in` meets its contract. The loop's invariant: `n` and those from the next entry on are the mapped pages of the block. Assumes nothing.
use mathlib.Core.Path.{◌≡◌}
use Prim.Native.Nat.{◌+◌, ◌≤◌}
use lib.ListN.{drop}
use Rattle.model.specs.Lists.{count}
use Rattle.model.specs.Strides.{mapped_in}
use Rattle.reclaim.proofs.Counting.{in_block}
use Rattle.reclaim.proofs.mapped_in.Given as goal

abbrev pub invariant-loop-e : goal.invariant-loop-e
invariant-loop-e l = record {
  few : l.n ≤ l.e-index;
  all : mapped_in l.map l.pages l.b ≡ l.n + count (in_block l.pages l.b) (drop l.e-index l.map);
}
