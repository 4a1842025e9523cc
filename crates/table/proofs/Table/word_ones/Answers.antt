-- `Table::word_ones` meets its contract: eight entries and the word's ones, byte by byte (`ones_bytes`), make 64. Assumes nothing.
use native.Mathlib.Omega.{arith}
use Rattle.table.proofs.Entries.{ones_bytes}
use Rattle.table.proofs.Table.word_ones.Goals as goal

pub overflow_sub-result : goal.overflow_sub-result
overflow_sub-result c = omega arith

pub returns : goal.returns
returns c = (omega (arith, ones_bytes c.args.x c.to_le_bytes.result (omega arith) c.to_le_bytes.ensures), omega arith)
