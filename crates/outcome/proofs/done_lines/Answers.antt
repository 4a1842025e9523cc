-- `outcome::done_lines` meets its contract: the answer line, and the others behind it. Assumes nothing.
use mathlib.Core.Path.{refl}
use native.Mathlib.Omega.{arith}
use Rattle.text.proofs.Putting.{puts, put_within, put_is}
use Rattle.outcome.proofs.Answers.{done_text}
use Rattle.outcome.proofs.done_lines.Goals as goal

pub returns : goal.returns
returns c = put_is (done_text 0 _ _ _ refl) (put_within (puts c.number_line-at.ensures c.state_lines.ensures) (omega arith))
