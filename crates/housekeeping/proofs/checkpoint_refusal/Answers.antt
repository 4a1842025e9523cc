-- `housekeeping::checkpoint_refusal` meets its contract: the gate first (`gate_first`, `gate_rest`), then the number. Assumes nothing.
use Rattle.std.proofs.lemmas.Result.{err_from_is_err_and}
use Rattle.model.specs.World.{World}
use Rattle.model.specs.Order.{first_number}
use Rattle.model.specs.Strides.{is_checkpoint}
use Rattle.frame.proofs.Gates.{gate_first, gate_rest}
use Rattle.frame.proofs.Outcomes.{number_spent, number_left}
use Rattle.housekeeping.proofs.checkpoint_refusal.Goals as goal

pub returns-in_err-gate : goal.returns-in_err-gate
returns-in_err-gate c =
    let a = c.args in
    let w : World = record { array = a.array.now; map = a.map.now; hold = a.hold.now; state = a.s } in
    let p = err_from_is_err_and c.from_residual.result c.from_residual.ensures.1 in
    rw (p.1, p.2) (gate_first (is_checkpoint a.s.work) w _ _ (rw c.is_checkpoint.ensures at c.in_err-gate.ensures))

pub returns-then-s-ge-LAST_NUMBER : goal.returns-then-s-ge-LAST_NUMBER
unfolding first_number
returns-then-s-ge-LAST_NUMBER c =
    let a = c.args in
    let w : World = record { array = a.array.now; map = a.map.now; hold = a.hold.now; state = a.s } in
    rw (gate_rest (is_checkpoint a.s.work) w (rw c.is_checkpoint.ensures at c.in_ok-gate.ensures), number_spent _ c.if-s-ge-LAST_NUMBER.true)

pub returns : goal.returns
unfolding first_number
returns c =
    let a = c.args in
    let w : World = record { array = a.array.now; map = a.map.now; hold = a.hold.now; state = a.s } in
    rw (gate_rest (is_checkpoint a.s.work) w (rw c.is_checkpoint.ensures at c.in_ok-gate.ensures), number_left _ c.if-s-ge-LAST_NUMBER.false)
