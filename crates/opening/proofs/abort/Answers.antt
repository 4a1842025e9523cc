-- `opening::abort` meets its contract, as every command does: by what refuses it (`refuses_why`), else by its plan carried out (`carries`). Assumes nothing.
use Rattle.model.specs.World.{World, apply_op}
use Rattle.model.specs.Transactions.{forget_plan}
use Rattle.model.specs.Commands.{carried, abort}
use Rattle.frame.proofs.Outcomes.{refuses_why, carries}
use Rattle.opening.proofs.abort.Goals as goal

pub returns-in-Ok : goal.returns-in-Ok
unfolding carried apply_op forget_plan
returns-in-Ok c =
    let a = c.args in
    let w : World = record { array = a.array.now; map = a.map.now; hold = a.hold.now; state = a.s } in
    carries w (abort a.id) c.in-Ok.ensures.refusal _ (simp (c.forgotten.ensures, c.in-Ok.ensures.place.0))

pub returns-in-Err : goal.returns-in-Err
returns-in-Err c =
    let a = c.args in
    let w : World = record { array = a.array.now; map = a.map.now; hold = a.hold.now; state = a.s } in
    refuses_why w (abort a.id) _ c.in-Err.ensures.refusal _ _ c.refused.ensures
