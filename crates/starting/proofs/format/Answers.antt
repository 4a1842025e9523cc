-- `starting::format` meets its contract, as every command does: by what refuses it (`refuses_why`), else by its plan carried out (`carries`). Assumes nothing.
use borrow.Author.Tests.{not-false}
use Rattle.model.specs.World.{World}
use Rattle.model.specs.Frame.{lent_ok}
use Rattle.model.specs.Commands.{format}
use Rattle.arrays.specs.Tests.{and_left, and_right}
use Rattle.arrays.specs.Order.{Unless}
use Rattle.format.proofs.Frames.{formattable}
use Rattle.frame.proofs.Outcomes.{refuses_why, passes, carries}
use Rattle.starting.proofs.format.Goals as goal

pub returns-in-Err : goal.returns-in-Err
returns-in-Err c =
    let a = c.args in
    let w : World = record { array = a.array.now; map = a.map.now; hold = a.hold.now; state = a.s } in
    refuses_why w (format a.g) _ c.in-Err.ensures _ _ c.refused.ensures

pub format_stride-requires : goal.format_stride-requires
unfolding Unless
format_stride-requires c =
    let a = c.args in
    let w : World = record { array = a.array.now; map = a.map.now; hold = a.hold.now; state = a.s } in
    passes w (format a.g) c.in_default.ensures (λ bad.
    let ok = not-false _ bad in
    rw c.strides_done-k.ensures (formattable a.g w (and_left (lent_ok a.g w) _ ok) a.s.work (and_right (lent_ok a.g w) _ ok)))

pub returns : goal.returns
returns c =
    let a = c.args in
    let w : World = record { array = a.array.now; map = a.map.now; hold = a.hold.now; state = a.s } in
    carries w (format a.g) c.in_default.ensures _
    (rw c.strides_done-k.ensures at (c.format_stride.ensures a.s a.hold.now))
