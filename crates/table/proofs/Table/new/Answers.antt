-- `Table::new` makes a table: all 256 entries are counted, in one computation. Assumes nothing.
use mathlib.Core.Path.{refl}
use lib.Count.{ones}
use Rattle.table.specs.Counts.{counts}
use Rattle.table.proofs.Table.new.Goals as goal

pub invariant_of-result : goal.invariant_of-result
unfolding counts ones
invariant_of-result c = record { counted = refl }
