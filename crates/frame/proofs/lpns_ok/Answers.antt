-- `frame::lpns_ok` meets its contract: in range from 0 on is below the end, by `below_within`. Assumes nothing.
use mathlib.Core.Path.{◌∙◌}
use Rattle.frame.proofs.Within.{below_within}
use Rattle.frame.proofs.lpns_ok.Goals as goal

pub returns : goal.returns
returns c = c.numbers_ok.ensures ∙ below_within _ _
