-- `reclaim::with_listed` meets its contract. The loop's invariant: the table, with the blocks from the next on in it, is the whole. Assumes nothing.
use mathlib.Core.Path.{◌≡◌}
use lib.ListN.{length, drop}
use Rattle.reclaim.specs.Copies.{with_listed}
use Rattle.reclaim.proofs.with_listed.Given as goal

abbrev pub invariant-loop-b : goal.invariant-loop-b
invariant-loop-b l = record {
  long : length l.table ≡ 128;
  whole : with_listed l.listed l.initial.table ≡ with_listed (drop l.b-index l.listed) l.table;
}
