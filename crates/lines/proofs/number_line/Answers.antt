-- `lines::number_line` meets its contract: name, number and line end put one behind the other. Assumes nothing.
use native.Mathlib.Omega.{arith}
use Rattle.lines.specs.Text.{number_line}
use Rattle.text.proofs.Putting.{puts, put_within}
use Rattle.lines.proofs.number_line.Goals as goal

pub returns : goal.returns
unfolding number_line
returns c = put_within (puts (puts c.put-a.ensures c.put_number-b.ensures) c.put.ensures) (omega arith)
