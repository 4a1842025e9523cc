-- `zones::has_id` meets its contract: a page with another identifier is told apart before it is classed. Assumes nothing.
use mathlib.Core.Path.{◌∙◌}
use borrow.Author.Tests.{ne_eqb}
use Rattle.zones.proofs.Pages.{other_page, same_page}
use Rattle.zones.proofs.has_id.Goals as goal

pub returns-then-spare_at-id : goal.returns-then-spare_at-id
returns-then-spare_at-id c = c.is_whole.ensures ∙ same_page _ _ _ _ c.spare_at.ensures c.if-spare_at-id.true

pub returns-else-spare_at-id : goal.returns-else-spare_at-id
returns-else-spare_at-id c = ne_eqb _ _ c.if-spare_at-id.false ∙ other_page _ _ _ _ c.spare_at.ensures c.if-spare_at-id.false
