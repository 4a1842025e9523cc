-- `Taken::zones` meets its contract: its definition. Assumes nothing.
use mathlib.Core.Path.{ap, ◌∙◌}
use Rattle.model.specs.Zones.{zones_taken}
use Rattle.refill.proofs.Taken.zones.Goals as goal

pub returns : goal.returns
unfolding zones_taken
returns c = c.zones_of.ensures ∙ ap (zones_taken c.args.unavailable) c.self.view_is
