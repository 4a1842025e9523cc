-- `Rig::turn` meets its contract: the map before is put, and dropped again where the command is refused; else the map after stands behind it. Assumes nothing.
use native.Mathlib.Omega.{arith}
use Rattle.sessions.specs.Text.{world_of}
use Rattle.sessions.proofs.Cuts.{turn_refused, turn_accepted}
use Rattle.sessions.proofs.Rig.turn.Goals as goal

pub returns-then-refused : goal.returns-then-refused
returns-then-refused c =
    turn_refused _ _ _ _ _ (world_of c.args.self.now) _ c.requires.0 c.call-r.ensures c.number.ensures c.refused.ensures
    c.will_program-cut.ensures c.if-refused.true (omega (arith, c.requires.1)) c.put_cut-middle.ensures

pub returns : goal.returns
returns c =
    turn_accepted _ _ _ _ _ (world_of c.args.self.now) _ c.requires.0 c.call-r.ensures c.number.ensures c.refused.ensures
    c.will_program-cut.ensures c.if-refused.false c.put_cut-middle.ensures c.put_cut.ensures
