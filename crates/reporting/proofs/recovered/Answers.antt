-- `reporting::recovered` meets its contract: the answer line of a refusal, or the lines of a recovery that is done. Assumes nothing.
use mathlib.Core.Path.{refl}
use native.Mathlib.Omega.{arith}
use Rattle.reporting.specs.Report.{empty_hold}
use Rattle.reporting.proofs.Reports.{refusal_told, told_fits, recovery_told}
use Rattle.reporting.proofs.recovered.Goals as goal

pub returns-then-answer-ne0 : goal.returns-then-answer-ne0
unfolding empty_hold
returns-then-answer-ne0 c = refusal_told _ _ _ _ _ _ _ _ _ _ c.recover-r.ensures refl c.fresh.ensures c.number-answer.ensures c.if-answer-ne0.true (rw c.from.ensures at c.number_line.ensures) (omega arith)

pub torn_pages-torn-requires : goal.torn_pages-torn-requires
unfolding empty_hold
torn_pages-torn-requires c = told_fits _ _ _ _ _ _ _ _ _ _ c.recover-r.ensures refl c.fresh.ensures c.number-answer.ensures c.if-answer-ne0.false

pub returns : goal.returns
unfolding empty_hold
returns c = recovery_told _ _ _ _ _ _ _ _ _ _ c.recover-r.ensures refl c.fresh.ensures c.number-answer.ensures c.if-answer-ne0.false _ c.torn_pages-torn.ensures c.done_lines.ensures
