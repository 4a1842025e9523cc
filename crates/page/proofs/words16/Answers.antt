-- `page::words16` meets its contract. The loop's invariant: the first i numbers are read (`Taken`). Assumes nothing.
use mathlib.Core.Path.{refl}
use native.Mathlib.Omega.{arith}
use borrow.Author.Rules.{rules}
use Rattle.model.specs.Lists.{part}
use Rattle.model.specs.Bytes.{words}
use Rattle.page.proofs.Taken.{filling_none, filling_more, filling_all, halves_more}
use Rattle.page.proofs.words16.Goals as goal

pub loop-i-init : goal.loop-i-init
unfolding part words
loop-i-init c = (search rules, filling_none _ _ refl)

pub loop-i-preserved : goal.loop-i-preserved
loop-i-preserved c = (search rules, filling_more c.loop-i.invariant.1 (omega arith) _ (halves_more _ _ _ _ (omega arith) c.word16.ensures))

pub returns : goal.returns
returns c = filling_all c.loop-i.invariant.1 (omega arith)
