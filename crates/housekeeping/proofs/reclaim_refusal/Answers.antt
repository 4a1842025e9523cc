-- `housekeeping::reclaim_refusal` meets its contract: the gate first (`gate_first`, `gate_rest`), then what reclaim refuses (`looked_on`). Assumes nothing.
use mathlib.Core.Path.{◌∙◌}
use Rattle.std.proofs.lemmas.Result.{err_from_is_err_and, IfOk-weaker}
use Rattle.model.specs.World.{World}
use Rattle.model.specs.Strides.{is_reclaim}
use Rattle.frame.proofs.Gates.{gate_first, gate_frame, gate_rest}
use Rattle.housekeeping.proofs.Striding.{frame_fit, looked_on, taken_on}
use Rattle.housekeeping.proofs.reclaim_refusal.Goals as goal

pub returns-in_err-gate-clause-refusal : goal.returns-in_err-gate-clause-refusal
returns-in_err-gate-clause-refusal c =
    let a = c.args in
    let w : World = record { array = a.array.now; map = a.map.now; hold = a.hold.now; state = a.s } in
    let p = err_from_is_err_and c.from_residual.result c.from_residual.ensures.1 in
    rw (p.1, p.2) (gate_first (is_reclaim a.s.work) w _ _ (rw c.is_reclaim.ensures at c.in_err-gate.ensures))

pub refusal-requires : goal.refusal-requires
refusal-requires c =
    let a = c.args in
    let w : World = record { array = a.array.now; map = a.map.now; hold = a.hold.now; state = a.s } in
    frame_fit w (gate_frame (is_reclaim a.s.work) w (rw c.is_reclaim.ensures at c.in_ok-gate.ensures))

pub returns-clause-refusal : goal.returns-clause-refusal
returns-clause-refusal c =
    let a = c.args in
    let w : World = record { array = a.array.now; map = a.map.now; hold = a.hold.now; state = a.s } in
    rw (gate_rest (is_reclaim a.s.work) w (rw c.is_reclaim.ensures at c.in_ok-gate.ensures)) (c.refusal.ensures.refusal ∙ looked_on w)

pub returns-clause-taken : goal.returns-clause-taken
returns-clause-taken c =
    let a = c.args in
    let w : World = record { array = a.array.now; map = a.map.now; hold = a.hold.now; state = a.s } in
    IfOk-weaker _ _ _ (λ d t. taken_on w _ _ t) c.refusal.ensures.taken
