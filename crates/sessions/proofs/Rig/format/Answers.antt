-- `Rig::format` meets its contract: stride by stride. Assumes nothing.
use mathlib.Core.Path.{refl}
use Rattle.sessions.proofs.Formats.{stride_again, strides_done_law}
use Rattle.sessions.proofs.Rig.format.Goals as goal

pub loop-init : goal.loop-init
loop-init c = refl

pub loop-preserved : goal.loop-preserved
loop-preserved c = stride_again c.loop.counter _ _ _ _ _ c.loop-test.true c.geometry.ensures c.format-r.ensures c.loop.invariant

pub returns : goal.returns
returns c = strides_done_law c.loop.counter _ _ c.loop-test.false c.loop.invariant
