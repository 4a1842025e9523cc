-- `housekeeping::reclaim` meets its contract, as every command does: by what refuses it (`refuses_why`), else by its plan carried out (`carries`). Assumes nothing.
use borrow.Author.Tests.{not-false}
use Rattle.model.specs.World.{World}
use Rattle.model.specs.Commands.{reclaim}
use Rattle.arrays.specs.Order.{Unless}
use Rattle.frame.proofs.Outcomes.{refuses_why, passes, carries}
use Rattle.housekeeping.proofs.Striding.{frame_fit, block_going}
use Rattle.housekeeping.proofs.reclaim.Goals as goal

pub returns-in-Err : goal.returns-in-Err
returns-in-Err c =
    let a = c.args in
    let w : World = record { array = a.array.now; map = a.map.now; hold = a.hold.now; state = a.s } in
    refuses_why w reclaim _ c.in-Err.ensures.refusal _ _ c.refused.ensures

pub reclaim_stride-requires : goal.reclaim_stride-requires
unfolding Unless
reclaim_stride-requires c =
    let a = c.args in
    let w : World = record { array = a.array.now; map = a.map.now; hold = a.hold.now; state = a.s } in
    let t = c.in-Ok.ensures.taken in
    passes w reclaim c.in-Ok.ensures.refusal (λ f i gain spent short. (frame_fit w (not-false _ f), block_going w _ _ t.block t.due spent short))

pub returns-in-Ok : goal.returns-in-Ok
returns-in-Ok c =
    let a = c.args in
    let w : World = record { array = a.array.now; map = a.map.now; hold = a.hold.now; state = a.s } in
    carries w reclaim c.in-Ok.ensures.refusal _ (c.reclaim_stride.ensures a.hold.now)
