-- `writing::commit` meets its contract: as every command does: by what refuses it (`refuses_why`), else by its plan carried out (`carries`): the place is
-- forgotten where it has no page, else by what `mark` ensures. Assumes nothing.
use Prim.Native.Nat.{◌<◌}
use native.Mathlib.Omega.{arith}
use borrow.Author.Tests.{eq-eqb, ne_eqb, not-false}
use Rattle.model.specs.World.{World, apply_op}
use Rattle.model.specs.Transactions.{place_with, forget_plan}
use Rattle.model.specs.Commands.{carried, commit}
use Rattle.arrays.specs.Order.{Unless}
use Rattle.frame.proofs.Outcomes.{refuses_why, passes, carries}
use Rattle.writing.proofs.Clean.{place_taking}
use Rattle.writing.proofs.commit.Goals as goal

pub returns-in-Ok : goal.returns-in-Ok
unfolding carried apply_op forget_plan
returns-in-Ok c =
    let a = c.args in
    let w : World = record { array = a.array.now; map = a.map.now; hold = a.hold.now; state = a.s } in
    let i = c.in-Ok.ensures in
    let none = rw i.place.0 at (eq-eqb _ _ c.if-s-i-eq0.true) in
    carries w (commit a.id) i.refusal _ (simp (none, c.forgotten.ensures, i.place.0))

pub mark-requires : goal.mark-requires
unfolding Unless
mark-requires c =
    let a = c.args in
    let w : World = record { array = a.array.now; map = a.map.now; hold = a.hold.now; state = a.s } in
    let i = c.in-Ok.ensures in
    let some = c.if-s-i-eq0.false in
    passes w (commit a.id) i.refusal (λ f idle begun spent short.
    let many : 0 < (place_with a.id w).count = rw (← i.place.0) (omega (arith, some)) in
    (place_taking w (not-false _ f) a.id begun spent short many, (i.place.1, omega (arith, some))))

pub returns-in-Ok-2 : goal.returns-in-Ok-2
returns-in-Ok-2 c =
    let a = c.args in
    let w : World = record { array = a.array.now; map = a.map.now; hold = a.hold.now; state = a.s } in
    let i = c.in-Ok.ensures in
    let some = rw i.place.0 at (ne_eqb _ _ c.if-s-i-eq0.false) in
    carries w (commit a.id) i.refusal _ (simp some (rw i.place.0 at c.mark.ensures))

pub returns-in-Err : goal.returns-in-Err
returns-in-Err c =
    let a = c.args in
    let w : World = record { array = a.array.now; map = a.map.now; hold = a.hold.now; state = a.s } in
    refuses_why w (commit a.id) _ c.in-Err.ensures.refusal _ _ c.refused.ensures
