-- `opening::begin_refusal` meets its contract: the gate first (`gate_first`, `gate_rest`), then a check after the other. Assumes nothing.
use mathlib.Core.Bool.{false}
use Rattle.std.proofs.lemmas.Result.{err_from_is_err_and}
use Rattle.model.specs.World.{World}
use Rattle.model.specs.Order.{first_number}
use Rattle.model.specs.Transactions.{live_id}
use Rattle.arrays.specs.Frame.{frame_in}
use Rattle.frame.proofs.Gates.{gate_first, gate_frame, gate_rest}
use Rattle.frame.proofs.Found.{found_refuses, found_place}
use Rattle.frame.proofs.Outcomes.{frame_sized}
use Rattle.opening.proofs.begin_refusal.Goals as goal

pub returns-in_err-gate-clause-refusal : goal.returns-in_err-gate-clause-refusal
returns-in_err-gate-clause-refusal c =
    let a = c.args in
    let w : World = record { array = a.array.now; map = a.map.now; hold = a.hold.now; state = a.s } in
    let p = err_from_is_err_and c.from_residual.result c.from_residual.ensures.1 in
    rw (p.1, p.2) (gate_first false w _ _ c.in_err-gate.ensures)

pub returns-then-bad_id-clause-refusal : goal.returns-then-bad_id-clause-refusal
unfolding first_number
returns-then-bad_id-clause-refusal c =
    let a = c.args in
    let w : World = record { array = a.array.now; map = a.map.now; hold = a.hold.now; state = a.s } in
    rw (gate_rest false w c.in_ok-gate.ensures, ← c.bad_id.ensures, c.if-bad_id.true)

pub is_live-requires : goal.is_live-requires
is_live-requires c =
    let a = c.args in
    let w : World = record { array = a.array.now; map = a.map.now; hold = a.hold.now; state = a.s } in
    let f = gate_frame false w c.in_ok-gate.ensures in
    record { shape = (frame_sized w f).shape; bytes = (frame_sized w f).bytes; lists = (frame_in w f).zones }

pub returns-then-is_live-clause-refusal : goal.returns-then-is_live-clause-refusal
unfolding first_number live_id
returns-then-is_live-clause-refusal c =
    let a = c.args in
    let w : World = record { array = a.array.now; map = a.map.now; hold = a.hold.now; state = a.s } in
    rw (gate_rest false w c.in_ok-gate.ensures, ← c.bad_id.ensures, c.if-bad_id.false, ← c.is_live.ensures, c.if-is_live.true)

pub returns-clause-refusal : goal.returns-clause-refusal
unfolding first_number live_id
returns-clause-refusal c =
    let a = c.args in
    let w : World = record { array = a.array.now; map = a.map.now; hold = a.hold.now; state = a.s } in
    rw (gate_rest false w c.in_ok-gate.ensures, ← c.bad_id.ensures, c.if-bad_id.false, ← c.is_live.ensures, c.if-is_live.false, c.ok_or.ensures.value, c.find_id.ensures) (found_refuses _ _)

pub returns-clause-place : goal.returns-clause-place
returns-clause-place c = rw (c.ok_or.ensures.value, c.find_id.ensures) (found_place _ _)
