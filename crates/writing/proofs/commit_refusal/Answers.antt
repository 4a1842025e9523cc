-- `writing::commit_refusal` meets its contract: the gate first (`gate_first`, `gate_rest`), the place, then what a page with a version asks for. Assumes nothing.
use mathlib.Core.Bool.{false}
use native.Mathlib.Omega.{arith}
use borrow.Author.Tests.{le-leb, lt-leb}
use Rattle.std.proofs.lemmas.Result.{err_from_is_err_and}
use Rattle.model.specs.World.{World}
use Rattle.model.specs.Order.{first_number}
use Rattle.frame.proofs.Gates.{gate_first, gate_frame, gate_rest}
use Rattle.frame.proofs.Found.{found_index, found_none}
use Rattle.change.proofs.Framed.{frame_in}
use Rattle.writing.proofs.commit_refusal.Goals as goal

pub returns-in_err-gate-clause-refusal : goal.returns-in_err-gate-clause-refusal
returns-in_err-gate-clause-refusal c =
    let a = c.args in
    let w : World = record { array = a.array.now; map = a.map.now; hold = a.hold.now; state = a.s } in
    let p = err_from_is_err_and c.from_residual.result c.from_residual.ensures.1 in
    rw (p.1, p.2) (gate_first false w _ _ c.in_err-gate.ensures)

pub returns-in_err-i-clause-refusal : goal.returns-in_err-i-clause-refusal
unfolding first_number
returns-in_err-i-clause-refusal c =
    let a = c.args in
    let w : World = record { array = a.array.now; map = a.map.now; hold = a.hold.now; state = a.s } in
    let p = err_from_is_err_and c.from_residual-in_err-i.result c.from_residual-in_err-i.ensures.1 in
    let f = found_none _ _ _ (rw c.place_of.ensures at c.in_err-i.ensures.value) in
    rw (p.1, p.2, gate_rest false w c.in_ok-gate.ensures, f.0, le-leb _ _ f.1)

pub offset_bounds-s-i : goal.offset_bounds-s-i
offset_bounds-s-i c =
    let f = found_index _ _ _ (rw c.place_of.ensures at c.in_ok-i.ensures.value) in
    omega arith

pub bounds-s-i : goal.bounds-s-i
bounds-s-i c =
    let f = found_index _ _ _ (rw c.place_of.ensures at c.in_ok-i.ensures.value) in
    omega arith

pub version_refusal-requires : goal.version_refusal-requires
version_refusal-requires c =
    let a = c.args in
    let w : World = record { array = a.array.now; map = a.map.now; hold = a.hold.now; state = a.s } in
    (frame_in a.s a.array.now a.map.now a.hold.now (gate_frame false w c.in_ok-gate.ensures)).ready

pub returns-in_err-version_refusal-clause-refusal : goal.returns-in_err-version_refusal-clause-refusal
unfolding first_number
returns-in_err-version_refusal-clause-refusal c =
    let a = c.args in
    let w : World = record { array = a.array.now; map = a.map.now; hold = a.hold.now; state = a.s } in
    let f = found_index _ _ _ (rw c.place_of.ensures at c.in_ok-i.ensures.value) in
    let p = err_from_is_err_and c.from_residual-in_err-version_refusal.result c.from_residual-in_err-version_refusal.ensures.1 in
    rw (p.1, p.2, gate_rest false w c.in_ok-gate.ensures) (simp (← f.0, lt-leb _ _ f.1) c.in_err-version_refusal.ensures)

pub returns-clause-refusal : goal.returns-clause-refusal
unfolding first_number
returns-clause-refusal c =
    let a = c.args in
    let w : World = record { array = a.array.now; map = a.map.now; hold = a.hold.now; state = a.s } in
    let f = found_index _ _ _ (rw c.place_of.ensures at c.in_ok-i.ensures.value) in
    rw (gate_rest false w c.in_ok-gate.ensures) (simp (← f.0, lt-leb _ _ f.1) c.in_ok-version_refusal.ensures)

pub returns-clause-place : goal.returns-clause-place
returns-clause-place c =
    found_index _ _ _ (rw c.place_of.ensures at c.in_ok-i.ensures.value)
