-- `housekeeping::checkpoint` meets its contract, as every command does: by what refuses it (`refuses_why`), else by its plan carried out (`carries`). Assumes nothing.
use Prim.Native.Nat.{◌+◌}
use native.Mathlib.Omega.{arith}
use borrow.Author.Tests.{ltb-false, not-false}
use Rattle.model.specs.World.{World}
use Rattle.model.specs.Commands.{checkpoint}
use Rattle.arrays.specs.Order.{Unless}
use Rattle.frame.proofs.Outcomes.{refuses_why, passes, carries}
use Rattle.housekeeping.proofs.Striding.{frame_fit, frame_work}
use Rattle.housekeeping.proofs.checkpoint.Goals as goal

pub returns-in-Err : goal.returns-in-Err
returns-in-Err c =
    let a = c.args in
    let w : World = record { array = a.array.now; map = a.map.now; hold = a.hold.now; state = a.s } in
    refuses_why w checkpoint _ c.in-Err.ensures _ _ c.refused.ensures

pub checkpoint_stride-requires : goal.checkpoint_stride-requires
unfolding Unless
checkpoint_stride-requires c =
    let a = c.args in
    let w : World = record { array = a.array.now; map = a.map.now; hold = a.hold.now; state = a.s } in
    passes w checkpoint c.in_default.ensures (λ f i spent.
    let frame = not-false _ f in
    let v = ltb-false 4294967294 (a.s.checkpoint + 1) spent in
    (frame_fit w frame, (omega arith, frame_work w frame)))

pub returns : goal.returns
returns c =
    let a = c.args in
    let w : World = record { array = a.array.now; map = a.map.now; hold = a.hold.now; state = a.s } in
    carries w checkpoint c.in_default.ensures _ (c.checkpoint_stride.ensures a.hold.now)
