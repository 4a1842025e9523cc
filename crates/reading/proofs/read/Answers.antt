-- `reading::read` meets its contract, as every command does: by what refuses it (`refuses_why`), else done (`carries`). Assumes nothing.
use mathlib.Core.Path.{refl}
use Rattle.model.specs.World.{World, apply_op}
use Rattle.model.specs.Transactions.{read_answer}
use Rattle.model.specs.Commands.{read, carried}
use Rattle.frame.proofs.Outcomes.{refuses_why, carries}
use Rattle.reading.proofs.read.Goals as goal

pub returns-in-Ok : goal.returns-in-Ok
unfolding read_answer carried apply_op
returns-in-Ok c =
    let a = c.args in
    let w : World = record { array = a.array.now; map = a.map.now; hold = a.hold.now; state = a.s } in
    carries w (read a.lpn) c.in-Ok.ensures.refusal _ refl

pub returns-in-Err : goal.returns-in-Err
unfolding read_answer
returns-in-Err c =
    let a = c.args in
    let w : World = record { array = a.array.now; map = a.map.now; hold = a.hold.now; state = a.s } in
    refuses_why w (read a.lpn) _ c.in-Err.ensures.refusal _ _ (refl, refl)
