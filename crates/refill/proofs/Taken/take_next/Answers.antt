-- `Taken::take_next` meets its contract: each return by the tests that led to it. Assumes nothing.
use mathlib.Core.Path.{sym, ◌∙◌}
use native.Mathlib.Omega.{arith}
use borrow.Author.Tests.{eqb-true, eqb-false, leb-false}
use Rattle.refill.proofs.Taking.{may_not, may_none, may}
use Rattle.refill.proofs.Taken.take_next.Goals.{then-as_slice-ge3, else-as_slice-ge3}
use Rattle.refill.proofs.Taken.take_next.Goals as goal

pub returns-then-is_empty : goal.returns-then-is_empty
returns-then-is_empty c =
    elim c.if-as_slice-ge3.branch [
      | then-as_slice-ge3 w ↦ rw (← c.self.view_is) (may_not c.args.g _ (rw c.as_slice.ensures at w.if-as_slice-ge3.true))
      | else-as_slice-ge3 w ↦ rw (← c.self.view_is) (may_none c.args.g _ (rw w.as_slice-else-as_slice-ge3.ensures at (eqb-true _ 0 (sym w.is_empty.ensures ∙ sym w.value-is ∙ c.if-is_empty.true))))
    ]

pub returns-else-is_empty : goal.returns-else-is_empty
returns-else-is_empty c =
    elim c.if-as_slice-ge3.branch [
      | then-as_slice-ge3 w ↦
          let k = leb-false 3 _ (sym w.value-is ∙ c.if-is_empty.false) in
          let l = w.if-as_slice-ge3.true in
          absurd (omega arith)
      | else-as_slice-ge3 w ↦
          c.take_one.ensures
          ∙ rw (← c.self.view_is)
          (may c.args.g _ (rw c.as_slice.ensures at w.if-as_slice-ge3.false) (rw w.as_slice-else-as_slice-ge3.ensures at (eqb-false _ 0 (sym w.is_empty.ensures ∙ sym w.value-is ∙ c.if-is_empty.false))))
    ]
