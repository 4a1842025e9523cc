-- `outcome::state_lines` meets its contract: the lines put one behind the other. Assumes nothing.
use native.Mathlib.Omega.{arith}
use Rattle.outcome.specs.Text.{state_text}
use Rattle.text.proofs.Putting.{puts, put_within}
use Rattle.outcome.proofs.state_lines.Goals as goal

pub returns : goal.returns
unfolding state_text
returns c = rw (← c.from.ensures, ← c.from-2.ensures) (put_within (puts (puts (puts c.number_line-a.ensures c.number_line-b.ensures) c.zone_lines-c.ensures) c.count_lines.ensures) (omega arith))
