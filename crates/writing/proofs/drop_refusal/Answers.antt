-- `writing::drop_refusal` meets its contract: the gate first (`gate_first`, `gate_rest`), then the others. Assumes nothing.
use mathlib.Core.Bool.{false}
use Rattle.std.proofs.lemmas.Result.{err_from_is_err_and}
use Rattle.model.specs.World.{World}
use Rattle.model.specs.Lists.{those}
use Rattle.model.specs.Order.{leave_out}
use Rattle.frame.proofs.Gates.{gate_first, gate_frame, gate_rest}
use Rattle.change.proofs.Framed.{frame_in}
use Rattle.writing.proofs.drop_refusal.Goals as goal

pub returns-in_err-gate-clause-refusal : goal.returns-in_err-gate-clause-refusal
unfolding leave_out those
returns-in_err-gate-clause-refusal c =
    let a = c.args in
    let w : World = record { array = a.array.now; map = a.map.now; hold = a.hold.now; state = a.s } in
    let p = err_from_is_err_and c.from_residual.result c.from_residual.ensures.1 in
    rw (p.1, p.2) (gate_first false w _ _ c.in_err-gate.ensures)

pub add_refusal-requires : goal.add_refusal-requires
add_refusal-requires c =
    let a = c.args in
    let w : World = record { array = a.array.now; map = a.map.now; hold = a.hold.now; state = a.s } in
    (frame_in a.s a.array.now a.map.now a.hold.now (gate_frame false w c.in_ok-gate.ensures)).ready

pub returns-clause-refusal : goal.returns-clause-refusal
unfolding leave_out those
returns-clause-refusal c =
    let a = c.args in
    let w : World = record { array = a.array.now; map = a.map.now; hold = a.hold.now; state = a.s } in
    rw (gate_rest false w c.in_ok-gate.ensures) c.add_refusal.ensures.refusal
