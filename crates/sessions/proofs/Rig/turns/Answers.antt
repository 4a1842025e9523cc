-- `Rig::turns` meets its contract: command by command, up to one that is refused. Assumes nothing.
use native.Mathlib.Omega.{arith}
use Rattle.sessions.proofs.Cuts.{command_at, going_again, going_refused, going_done}
use Rattle.sessions.proofs.Rig.turns.Goals as goal

pub turn-requires : goal.turn-requires
turn-requires c =
    let g = c.loop-c.invariant in
    (command_at c.args.cs.now c.loop-c.c-index c.requires.0 c.loop-c-test.true, omega (arith, c.requires.1, g.put.far, g.put.same, c.loop-c-test.true))

pub returns-in_err-end : goal.returns-in_err-end
returns-in_err-end c =
    rw c.from_residual.ensures
    (going_refused _ _ _ _ _ _ _ _ c.loop-c.invariant _ _ c.loop-c-test.true c.in_err-end.ensures (omega (arith, c.requires.1)))

pub loop-c-preserved : goal.loop-c-preserved
loop-c-preserved c = going_again _ _ _ _ _ _ _ _ c.loop-c.invariant _ _ _ c.loop-c-test.true c.in_ok-end.ensures

pub returns : goal.returns
returns c = going_done _ _ _ _ _ _ _ _ c.loop-c.invariant (omega arith)
