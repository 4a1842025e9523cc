-- `reading::read_part` meets its contract: empty where refused (`part_none`), else the data of the mapped page (`part_done`). Assumes nothing.
use mathlib.Core.Path.{refl, sym}
use native.Mathlib.Omega.{arith}
use lib.Seq.{length-take-le}
use Rattle.model.specs.World.{World}
use Rattle.answers.proofs.Refusals.{refusal_some}
use Rattle.reading.proofs.Reading.{part_none, part_done, mapped_fits}
use Rattle.reading.proofs.read_part.Goals as goal

pub returns-in_default : goal.returns-in_default
returns-in_default c =
    let a = c.args in
    let w : World = record { array = a.array.now; map = a.map.now; hold = a.hold.now; state = a.s } in
    part_none w a.lpn _ c.in_default.ensures.refusal (refusal_some _)

pub page_of-page-requires : goal.page_of-page-requires
page_of-page-requires c =
    let a = c.args in
    let w : World = record { array = a.array.now; map = a.map.now; hold = a.hold.now; state = a.s } in
    rw c.in-Ok.ensures.page (mapped_fits w a.lpn 0 c.in-Ok.ensures.refusal refl)

pub slice_bounds-result-end-2 : goal.slice_bounds-result-end-2
slice_bounds-result-end-2 c =
    let long = c.page_of-page.ensures.1 in
    sym (length-take-le 512 c.page_of-page.result.now (omega arith))

pub returns : goal.returns
returns c =
    let a = c.args in
    let w : World = record { array = a.array.now; map = a.map.now; hold = a.hold.now; state = a.s } in
    part_done w a.lpn 0 c.in-Ok.ensures.refusal refl _ (rw c.in-Ok.ensures.page at c.page_of-page.ensures.0)
