-- `lines::line` meets its contract: the name, then a number. Assumes nothing.
use mathlib.Core.Path.{◌∙◌}
use Rattle.lines.proofs.Parsing.{line_other, line_named}
use Rattle.lines.proofs.line.Goals as goal

pub returns-in_err-strip_prefix : goal.returns-in_err-strip_prefix
returns-in_err-strip_prefix c = rw c.from_residual.ensures (line_other _ _ c.in_err-strip_prefix.ensures.cases)

pub returns : goal.returns
returns c = let e = c.in_ok-strip_prefix.ensures.cases in c.value.ensures ∙ rw e.1 (line_named _ _ e.0)
