-- `change::mark` meets its contract: the held page lies on the next page, which is erased, and every page of the place is entered in the map. Assumes nothing.
use native.Mathlib.Omega.{arith}
use lib.ListN.{get_or}
use Rattle.model.specs.Frame.{no_place}
use Rattle.change.proofs.Framed.{frame_in, place_at_law, count_most, pages_in}
use Rattle.change.proofs.Next.{next_fits, next_small, next_erased, some_pages}
use Rattle.change.proofs.Carrying.{mark_done}
use Rattle.change.proofs.mark.Goals as goal

pub next_page-k-requires : goal.next_page-k-requires
next_page-k-requires c =
    let a = c.args in
    let f = frame_in a.s a.array.now a.map.now a.hold.now c.requires.0.frame in
    f.ready

pub write_held-requires : goal.write_held-requires
write_held-requires c =
    let a = c.args in
    let f = frame_in a.s a.array.now a.map.now a.hold.now c.requires.0.frame in
    let h = next_fits a.s a.array.now f.ready in
    let m = count_most a.s.geometry _ (place_at_law a.s.geometry a.s.places a.i f.places) in
    (rw c.next_page-k.ensures h, (f.hold, (c.requires.1.0, m)))

pub overflow_cast-n : goal.overflow_cast-n
overflow_cast-n c =
    let a = c.args in
    let f = frame_in a.s a.array.now a.map.now a.hold.now c.requires.0.frame in
    let m = count_most a.s.geometry _ (place_at_law a.s.geometry a.s.places a.i f.places) in
    omega arith

pub overflow_cast-p : goal.overflow_cast-p
overflow_cast-p c =
    let a = c.args in
    let f = frame_in a.s a.array.now a.map.now a.hold.now c.requires.0.frame in
    let m = count_most a.s.geometry _ (place_at_law a.s.geometry a.s.places a.i f.places) in
    omega arith

pub overflow_cast-p-2 : goal.overflow_cast-p-2
overflow_cast-p-2 c =
    let a = c.args in
    let f = frame_in a.s a.array.now a.map.now a.hold.now c.requires.0.frame in
    let small = next_small a.s a.array.now f.ready in
    let e = c.next_page-k.ensures in
    omega arith

pub offset_bounds-p-n : goal.offset_bounds-p-n
offset_bounds-p-n c =
    let a = c.args in
    let f = frame_in a.s a.array.now a.map.now a.hold.now c.requires.0.frame in
    let m = count_most a.s.geometry _ (place_at_law a.s.geometry a.s.places a.i f.places) in
    let n = c.requires.1.1 in
    omega arith

pub bounds-p-n : goal.bounds-p-n
bounds-p-n c =
    let a = c.args in
    let f = frame_in a.s a.array.now a.map.now a.hold.now c.requires.0.frame in
    let m = count_most a.s.geometry _ (place_at_law a.s.geometry a.s.places a.i f.places) in
    let n = c.requires.1.1 in
    omega arith

pub enter-requires : goal.enter-requires
enter-requires c =
    let a = c.args in
    let f = frame_in a.s a.array.now a.map.now a.hold.now c.requires.0.frame in
    let p = place_at_law a.s.geometry a.s.places a.i f.places in
    (count_most a.s.geometry _ p, rw f.map (pages_in a.s.geometry _ p))

pub with_marked-requires : goal.with_marked-requires
with_marked-requires c =
    let a = c.args in
    let f = frame_in a.s a.array.now a.map.now a.hold.now c.requires.0.frame in
    (c.requires.1.0, some_pages a.s a.array.now f.ready)

pub shape_of-array : goal.shape_of-array
shape_of-array c = c.array-1.given

pub returns : goal.returns
returns c =
    let a = c.args in
    let f = frame_in a.s a.array.now a.map.now a.hold.now c.requires.0.frame in
    mark_done a.s _ a.array.now a.map.now a.hold.now _ _ a.i _ (get_or a.s.places a.i no_place)
    c.next_page-k.ensures
    (next_erased a.s a.array.now f.ready (let n = c.requires.0.clean in omega arith))
    c.requires.1.1
    c.write_held.ensures
    c.enter.ensures
    c.with_marked.ensures
