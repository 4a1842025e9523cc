-- `lines::blocks_line` meets its contract: name, blocks and line end put one behind the other. Assumes nothing.
use native.Mathlib.Omega.{arith}
use Rattle.lines.specs.Text.{blocks_line}
use Rattle.text.proofs.Lists.{put_listed}
use Rattle.text.proofs.Putting.{puts, put_within}
use Rattle.lines.proofs.blocks_line.Goals as goal

pub returns : goal.returns
unfolding blocks_line
returns c = put_within (puts (puts c.put-a.ensures (put_listed c.args.blocks.now c.put_list-b.ensures)) c.put.ensures) (omega arith)
