-- `writing::page_refusal` meets its contract: the place, its pages, then the room for the page that it holds. Assumes that array and zone lists agree.
use native.Mathlib.Omega.{arith}
use borrow.Author.Tests.{le-leb, lt-leb}
use Rattle.std.proofs.lemmas.Result.{err_from_is_err_and}
use Rattle.model.specs.Order.{first_number}
use Rattle.frame.proofs.Found.{found_index, found_none}
use Rattle.writing.proofs.page_refusal.Goals as goal

pub returns-in_err-i-clause-refusal : goal.returns-in_err-i-clause-refusal
unfolding first_number
returns-in_err-i-clause-refusal c =
    let p = err_from_is_err_and c.from_residual.result c.from_residual.ensures.1 in
    let f = found_none _ _ _ (rw c.place_of.ensures at c.in_err-i.ensures.value) in
    rw (p.1, p.2, f.0, le-leb _ _ f.1)

pub offset_bounds-s-i : goal.offset_bounds-s-i
offset_bounds-s-i c =
    let f = found_index _ _ _ (rw c.place_of.ensures at c.in_ok-i.ensures.value) in
    omega arith

pub bounds-s-i : goal.bounds-s-i
bounds-s-i c =
    let f = found_index _ _ _ (rw c.place_of.ensures at c.in_ok-i.ensures.value) in
    omega arith

pub returns-then-count-ge-LONGEST_CHANGE-clause-refusal : goal.returns-then-count-ge-LONGEST_CHANGE-clause-refusal
unfolding first_number
returns-then-count-ge-LONGEST_CHANGE-clause-refusal c =
    let f = found_index _ _ _ (rw c.place_of.ensures at c.in_ok-i.ensures.value) in
    simp (← f.0, lt-leb _ _ f.1, le-leb _ _ c.if-count-ge-LONGEST_CHANGE.true)

pub returns-in_err-room_refusal-clause-refusal : goal.returns-in_err-room_refusal-clause-refusal
unfolding first_number
returns-in_err-room_refusal-clause-refusal c =
    let f = found_index _ _ _ (rw c.place_of.ensures at c.in_ok-i.ensures.value) in
    let p = err_from_is_err_and c.from_residual-in_err-room_refusal.result c.from_residual-in_err-room_refusal.ensures.1 in
    rw (p.1, p.2) (simp (← f.0, lt-leb _ _ f.1, lt-leb _ _ c.if-count-ge-LONGEST_CHANGE.false) c.in_err-room_refusal.ensures)

pub returns-clause-refusal : goal.returns-clause-refusal
unfolding first_number
returns-clause-refusal c =
    let f = found_index _ _ _ (rw c.place_of.ensures at c.in_ok-i.ensures.value) in
    simp (← f.0, lt-leb _ _ f.1, lt-leb _ _ c.if-count-ge-LONGEST_CHANGE.false) c.in_ok-room_refusal.ensures

pub returns-clause-place : goal.returns-clause-place
returns-clause-place c =
    found_index _ _ _ (rw c.place_of.ensures at c.in_ok-i.ensures.value)
