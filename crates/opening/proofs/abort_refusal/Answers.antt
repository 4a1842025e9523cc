-- `opening::abort_refusal` meets its contract: the gate first (`gate_first`, `gate_rest`), then the place (`found_refuses`). Assumes nothing.
use mathlib.Core.Bool.{false}
use Rattle.std.proofs.lemmas.Result.{err_from_is_err_and}
use Rattle.model.specs.World.{World}
use Rattle.model.specs.Order.{first_number}
use Rattle.frame.proofs.Gates.{gate_first, gate_rest}
use Rattle.frame.proofs.Found.{found_refuses, found_place}
use Rattle.opening.proofs.abort_refusal.Goals as goal

pub returns-in_err-gate-clause-refusal : goal.returns-in_err-gate-clause-refusal
returns-in_err-gate-clause-refusal c =
    let a = c.args in
    let w : World = record { array = a.array.now; map = a.map.now; hold = a.hold.now; state = a.s } in
    let p = err_from_is_err_and c.from_residual.result c.from_residual.ensures.1 in
    rw (p.1, p.2) (gate_first false w _ _ c.in_err-gate.ensures)

pub returns-clause-refusal : goal.returns-clause-refusal
unfolding first_number
returns-clause-refusal c =
    let a = c.args in
    let w : World = record { array = a.array.now; map = a.map.now; hold = a.hold.now; state = a.s } in
    rw (c.ok_or.ensures.value, c.place_of.ensures, gate_rest false w c.in_ok-gate.ensures) (found_refuses _ _)

pub returns-clause-place : goal.returns-clause-place
returns-clause-place c = rw (c.ok_or.ensures.value, c.place_of.ensures) (found_place _ _)
