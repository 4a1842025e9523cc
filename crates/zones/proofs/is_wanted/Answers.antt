-- `zones::is_wanted` meets its contract: each return by the tests that led to it. Assumes nothing.
use mathlib.Core.Path.{sym, ◌∙◌}
use borrow.Author.Tests.{eq-eqb, ne_eqb}
use Rattle.zones.specs.Judging.{wanted_id}
use Rattle.zones.proofs.is_wanted.Goals as goal

pub returns-then-is_active_in : goal.returns-then-is_active_in
unfolding wanted_id
returns-then-is_active_in c = rw (c.if-is_active_in.true, ne_eqb _ _ c.if-id-ne0.true, sym c.is_active_in.ensures ∙ c.if-is_active_in.true)

pub returns-else-is_active_in : goal.returns-else-is_active_in
unfolding wanted_id
returns-else-is_active_in c = c.among.ensures ∙ rw (ne_eqb _ _ c.if-id-ne0.true, sym c.is_active_in.ensures ∙ c.if-is_active_in.false)

pub returns-else-id-ne0 : goal.returns-else-id-ne0
unfolding wanted_id
returns-else-id-ne0 c = rw (eq-eqb _ _ c.if-id-ne0.false)
