-- `opening::begin` meets its contract, as every command does: by what refuses it (`refuses_why`), else by its plan carried out (`carries`). Assumes nothing.
use Rattle.model.specs.World.{World, apply_op}
use Rattle.model.specs.Commands.{carried, begin}
use Rattle.frame.proofs.Outcomes.{refuses_why, carries}
use Rattle.opening.proofs.begin.Goals as goal

pub returns-in-Ok : goal.returns-in-Ok
unfolding carried apply_op
returns-in-Ok c =
    let a = c.args in
    let w : World = record { array = a.array.now; map = a.map.now; hold = a.hold.now; state = a.s } in
    carries w (begin a.id) c.in-Ok.ensures.refusal _ (simp (c.with_place.ensures, c.in-Ok.ensures.place.0, c.begun.ensures))

pub returns-in-Err : goal.returns-in-Err
returns-in-Err c =
    let a = c.args in
    let w : World = record { array = a.array.now; map = a.map.now; hold = a.hold.now; state = a.s } in
    refuses_why w (begin a.id) _ c.in-Err.ensures.refusal _ _ c.refused.ensures
