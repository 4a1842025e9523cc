-- `text::put_item` meets its contract: a comma, except before the first, and the number. Assumes nothing.
use native.Mathlib.Omega.{arith}
use borrow.Author.Tests.{eq-eqb, ne_eqb}
use Rattle.text.proofs.Putting.{puts, put_within}
use Rattle.text.proofs.put_item.Goals as goal

pub returns-then-before-eq0 : goal.returns-then-before-eq0
returns-then-before-eq0 c = rw (eq-eqb _ _ c.if-before-eq0.true) (put_within c.put_number.ensures (omega arith))

pub returns : goal.returns
returns c = rw (ne_eqb _ _ c.if-before-eq0.false) (put_within (puts c.put-a.ensures c.put_number-2.ensures) (omega arith))
