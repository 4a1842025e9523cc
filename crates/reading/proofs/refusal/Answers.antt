-- `reading::refusal` meets its contract: a check after the other (`read_bad` to `read_done`). Assumes nothing.
use Rattle.model.specs.World.{World}
use Rattle.reading.proofs.Reading.{frame_failed, frame_passed, in_map, read_bad, read_past, read_never, read_done}
use Rattle.reading.proofs.refusal.Goals as goal

pub returns-then-not-frame_ok-clause-refusal : goal.returns-then-not-frame_ok-clause-refusal
returns-then-not-frame_ok-clause-refusal c =
    let a = c.args in
    let w : World = record { array = a.array.now; map = a.map.now; hold = a.hold.now; state = a.s } in
    read_bad w a.lpn (frame_failed w c.frame_ok.result c.frame_ok.ensures c.if-not-frame_ok.true)

pub returns-then-lpn-s-clause-refusal : goal.returns-then-lpn-s-clause-refusal
returns-then-lpn-s-clause-refusal c =
    let a = c.args in
    let w : World = record { array = a.array.now; map = a.map.now; hold = a.hold.now; state = a.s } in
    read_past w a.lpn (frame_passed w c.frame_ok.result c.frame_ok.ensures c.if-not-frame_ok.false) c.if-lpn-s.true

pub bounds-map-lpn : goal.bounds-map-lpn
bounds-map-lpn c =
    let a = c.args in
    let w : World = record { array = a.array.now; map = a.map.now; hold = a.hold.now; state = a.s } in
    in_map w a.lpn (frame_passed w c.frame_ok.result c.frame_ok.ensures c.if-not-frame_ok.false) c.if-lpn-s.false

pub returns-then-k-clause-refusal : goal.returns-then-k-clause-refusal
returns-then-k-clause-refusal c =
    let a = c.args in
    let w : World = record { array = a.array.now; map = a.map.now; hold = a.hold.now; state = a.s } in
    read_never w a.lpn (frame_passed w c.frame_ok.result c.frame_ok.ensures c.if-not-frame_ok.false) c.if-lpn-s.false c.if-k.true

pub returns-clause-refusal : goal.returns-clause-refusal
returns-clause-refusal c =
    let a = c.args in
    let w : World = record { array = a.array.now; map = a.map.now; hold = a.hold.now; state = a.s } in
    read_done w a.lpn (frame_passed w c.frame_ok.result c.frame_ok.ensures c.if-not-frame_ok.false) c.if-lpn-s.false c.if-k.false
