-- `bokuhira::starting` meets its contract: by whether the bytes encode a state. Assumes nothing.
use mathlib.Core.Path.{sym, ◌∙◌}
use Rattle.bokuhira.proofs.Calls.{start_coded, start_fresh}
use Rattle.bokuhira.proofs.starting.Goals as goal

pub device-requires : goal.device-requires
device-requires c = sym c.encodes.ensures ∙ c.if-encodes.true

pub returns-then-encodes : goal.returns-then-encodes
returns-then-encodes c = start_coded _ _ _ _ c.encodes.ensures c.if-encodes.true c.device.ensures

pub returns : goal.returns
returns c = start_fresh _ _ _ _ c.encodes.ensures c.if-encodes.false c.fresh.ensures
