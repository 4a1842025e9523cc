-- `reporting::array_report` meets its contract: too long an array and too many logical pages answer 1, any other is recovered. Assumes nothing.
use mathlib.Core.Path.{refl}
use native.Mathlib.Omega.{arith}
use Rattle.reporting.proofs.Reports.{array_long, array_wide, array_recovered}
use Rattle.reporting.proofs.array_report.Goals as goal
use Rattle.reporting.proofs.array_report.Goals.{then-array-gt65536-via-then-array-gt65536, then-array-gt65536-via-else-array-gt65536+then-g-gt-MAX_LOGICAL}

pub returns-then-array-gt65536 : goal.returns-then-array-gt65536
returns-then-array-gt65536 c = elim c.then-array-gt65536.branch [
  | then-array-gt65536-via-then-array-gt65536 w ↦ array_long c.args.g c.args.array.now w.if-array-gt65536.true c.number_line.ensures (omega arith)
  | then-array-gt65536-via-else-array-gt65536+then-g-gt-MAX_LOGICAL w ↦
      array_wide c.args.g c.args.array.now w.if-array-gt65536.false w.if-g-gt-MAX_LOGICAL.true c.number_line.ensures (omega arith)
]

pub returns : goal.returns
returns c = array_recovered c.args.g c.args.array.now _ c.if-array-gt65536.false c.if-g-gt-MAX_LOGICAL.false refl c.recovered.ensures
