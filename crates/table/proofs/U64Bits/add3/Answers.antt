-- `add3` of u64 meets its contract: by the law of three words (`three`). Assumes nothing.
use borrow.Author.Rules.{rules}
use Rattle.table.proofs.Sums.{three}
use Rattle.table.proofs.U64Bits.add3.Goals as goal

pub returns : goal.returns
returns c = three 64 c.args.a c.args.b c.args.c (search rules) (search rules) (search rules)
