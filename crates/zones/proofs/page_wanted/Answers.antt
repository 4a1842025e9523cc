-- `zones::page_wanted` meets its contract: a page that is not wanted is told apart before it is classed. Assumes nothing.
use mathlib.Core.Path.{sym, ◌∙◌}
use Rattle.zones.proofs.Wanted.{unwanted_page, wanted_page}
use Rattle.zones.proofs.page_wanted.Goals as goal

pub returns-then-is_wanted : goal.returns-then-is_wanted
returns-then-is_wanted c = c.is_whole.ensures ∙ wanted_page _ _ _ _ _ c.spare_at.ensures (sym c.is_wanted.ensures ∙ c.if-is_wanted.true)

pub returns-else-is_wanted : goal.returns-else-is_wanted
returns-else-is_wanted c = c.if-is_wanted.false ∙ unwanted_page _ _ _ _ _ c.spare_at.ensures (sym c.is_wanted.ensures ∙ c.if-is_wanted.false)
