-- `Table::entry` meets its contract: the entry at a byte's value is its count (`count_at`). Assumes nothing.
use native.Mathlib.Omega.{arith}
use Rattle.table.proofs.Entries.{entry_of}
use Rattle.table.proofs.Table.entry.Goals as goal

pub returns : goal.returns
returns c = rw (c.from-2.ensures, c.from.ensures) (entry_of c.args.self.now.zeros c.args.b c.args.self.now.counted (omega arith))
