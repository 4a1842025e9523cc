-- `recovery::id_of` meets its contract: from what its calls ensure. Assumes nothing.
use mathlib.Core.Path.{ap, ◌∙◌}
use Rattle.model.specs.Bytes.{le32}
use Rattle.model.specs.Page.{page_at}
use Rattle.sorting.specs.Sort.{key_at}
use Rattle.recovery.proofs.id_of.Goals as goal

pub returns : goal.returns
unfolding key_at
returns c = c.word32.ensures ∙ ap (λ q. le32 q 516) (c.page_of.ensures.0 ∙ ap (page_at c.args.array.now) c.from.ensures)
