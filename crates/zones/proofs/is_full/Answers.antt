-- `zones::is_full` meets its contract: a block is full where its last page is not erased. Assumes nothing.
use mathlib.Core.Path.{ap, ◌∙◌}
use mathlib.Core.Bool.{not}
use Rattle.zones.proofs.Pages.{full_last}
use Rattle.zones.proofs.is_full.Goals as goal

pub returns : goal.returns
returns c = ap not c.is_blank.ensures ∙ full_last c.args.array.now c.args.pages c.args.b c.requires.1
