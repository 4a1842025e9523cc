-- `writing::write` meets its contract: as every command does: by what refuses it (`refuses_why`), else by its plan carried out (`carries`). Assumes nothing.
use borrow.Author.Tests.{not-false}
use Rattle.model.specs.Commands.{write}
use Rattle.model.specs.World.{World}
use Rattle.arrays.specs.Order.{Unless}
use Rattle.frame.proofs.Outcomes.{refuses_why, passes, carries}
use Rattle.writing.proofs.Clean.{data_long, page_writing}
use Rattle.writing.proofs.write.Goals as goal

pub write_in-requires : goal.write_in-requires
unfolding Unless
write_in-requires c =
    let a = c.args in
    let w : World = record { array = a.array.now; map = a.map.now; hold = a.hold.now; state = a.s } in
    let i = c.in-Ok.ensures in
    passes w (write a.id a.lpn a.«data».now) i.refusal (λ f idle long page begun room short.
    rw i.place.0 (page_writing w (not-false _ f) a.id begun a.lpn a.«data».now (data_long a.«data».now long) page room short))

pub returns-in-Ok : goal.returns-in-Ok
returns-in-Ok c =
    let a = c.args in
    let w : World = record { array = a.array.now; map = a.map.now; hold = a.hold.now; state = a.s } in
    let i = c.in-Ok.ensures in
    carries w (write a.id a.lpn a.«data».now) i.refusal _ (rw i.place.0 at c.write_in.ensures)

pub returns-in-Err : goal.returns-in-Err
returns-in-Err c =
    let a = c.args in
    let w : World = record { array = a.array.now; map = a.map.now; hold = a.hold.now; state = a.s } in
    refuses_why w (write a.id a.lpn a.«data».now) _ c.in-Err.ensures.refusal _ _ c.refused.ensures
