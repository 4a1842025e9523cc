-- `Table::all_ones` meets its contract: what was added is worth its ones. Assumes nothing.
use native.Mathlib.Omega.{arith}
use Rattle.table.proofs.Sums.{none}
use Rattle.table.proofs.Table.all_ones.Goals as goal

pub returns : goal.returns
returns c = omega (arith, none)
