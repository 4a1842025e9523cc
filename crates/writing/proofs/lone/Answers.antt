-- `writing::lone` meets its contract: as every command does: by what refuses it (`refuses_why`), else by its plan carried out (`carries`). Assumes nothing.
use borrow.Author.Tests.{leb-false, not-false}
use Rattle.model.specs.Commands.{lone}
use Rattle.model.specs.World.{World}
use Rattle.arrays.specs.Order.{Unless}
use Rattle.frame.proofs.Outcomes.{refuses_why, passes, carries}
use Rattle.writing.proofs.Clean.{data_long, page_taking}
use Rattle.writing.proofs.lone.Goals as goal

pub write_lone-requires : goal.write_lone-requires
unfolding Unless
write_lone-requires c =
    let a = c.args in
    let w : World = record { array = a.array.now; map = a.map.now; hold = a.hold.now; state = a.s } in
    passes w (lone a.lpn a.«data».now) c.in_default.ensures (λ f i long page spent short.
    (page_taking w (not-false _ f) spent short, (leb-false _ _ page, data_long a.«data».now long)))

pub returns : goal.returns
returns c =
    let a = c.args in
    let w : World = record { array = a.array.now; map = a.map.now; hold = a.hold.now; state = a.s } in
    carries w (lone a.lpn a.«data».now) c.in_default.ensures _ c.write_lone.ensures

pub returns-in-Err : goal.returns-in-Err
returns-in-Err c =
    let a = c.args in
    let w : World = record { array = a.array.now; map = a.map.now; hold = a.hold.now; state = a.s } in
    refuses_why w (lone a.lpn a.«data».now) _ c.in-Err.ensures _ _ c.refused.ensures
