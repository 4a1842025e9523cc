-- `outcome::count_lines` meets its contract: the two lines put one behind the other. Assumes nothing.
use native.Mathlib.Omega.{arith}
use Rattle.outcome.specs.Text.{counts_text}
use Rattle.text.proofs.Putting.{puts, put_within}
use Rattle.outcome.proofs.count_lines.Goals as goal

pub returns : goal.returns
unfolding counts_text
returns c = rw (← c.mapped-n.ensures) (put_within (puts c.number_line-a.ensures c.number_line.ensures) (omega arith))
