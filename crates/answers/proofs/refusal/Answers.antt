-- `answers::refusal` meets its contract: the table has each refusal at its number, which is computed once. Assumes that the number is of the table.
use native.Mathlib.Omega.{arith}
use Rattle.arrays.specs.Order.{table_least, table_most}
use Rattle.answers.proofs.Table.{of_table}
use Rattle.answers.proofs.refusal.Goals as goal

pub overflow_sub-result : goal.overflow_sub-result
overflow_sub-result c = let l = table_least c.args.n c.requires in omega arith

pub bounds-n-n : goal.bounds-n-n
bounds-n-n c = let l = table_most c.args.n c.requires in omega arith

pub returns : goal.returns
returns c =
    let n = c.args.n in
    of_table n (table_least n c.requires) (table_most n c.requires)
