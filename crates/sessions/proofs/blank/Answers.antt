-- `sessions::blank` meets its contract: the state that nothing is known in. Assumes nothing.
use mathlib.Core.Path.{ap, ◌∙◌}
use Rattle.model.specs.Frame.{fresh_state}
use Rattle.sessions.proofs.blank.Goals as goal

pub returns : goal.returns
returns c = c.fresh.ensures ∙ ap fresh_state c.geometry.ensures
