-- `change::write_in` meets its contract: the page held before lies on the next page, which is erased where one is due, and the new one is held. Assumes nothing.
use native.Mathlib.Omega.{arith}
use Rattle.change.proofs.Framed.{frame_in}
use Rattle.change.proofs.Next.{next_fits, next_small, next_erased, some_pages}
use Rattle.change.proofs.Carrying.{write_done}
use Rattle.change.proofs.write_in.Goals as goal

pub next_page-k-requires : goal.next_page-k-requires
next_page-k-requires c =
    let a = c.args in
    let f = frame_in a.s a.array.now a.map.now a.hold.now c.requires.frame in
    f.ready

pub write_held-requires : goal.write_held-requires
write_held-requires c =
    let a = c.args in
    let f = frame_in a.s a.array.now a.map.now a.hold.now c.requires.frame in
    let h = next_fits a.s a.array.now f.ready in
    let r = c.requires.room in
    (rw c.next_page-k.ensures h, (f.hold, (c.requires.place, omega arith)))

pub hold_page-requires : goal.hold_page-requires
hold_page-requires c =
    let a = c.args in
    let f = frame_in a.s a.array.now a.map.now a.hold.now c.requires.frame in
    (f.hold, (c.requires.place, c.requires.bytes))

pub overflow_cast-k : goal.overflow_cast-k
overflow_cast-k c =
    let a = c.args in
    let f = frame_in a.s a.array.now a.map.now a.hold.now c.requires.frame in
    let small = next_small a.s a.array.now f.ready in
    let e = c.next_page-k.ensures in
    omega arith

pub with_written-requires : goal.with_written-requires
with_written-requires c =
    let a = c.args in
    let f = frame_in a.s a.array.now a.map.now a.hold.now c.requires.frame in
    (c.requires.place, some_pages a.s a.array.now f.ready)

pub returns : goal.returns
returns c =
    let a = c.args in
    let f = frame_in a.s a.array.now a.map.now a.hold.now c.requires.frame in
    write_done a.s _ a.array.now a.map.now a.hold.now _ _ a.i a.lpn a.drop a.«data».now _ _ _
    c.next_page-k.ensures
    (λ p. next_erased a.s a.array.now f.ready (let n = c.requires.clean p in omega arith))
    c.write_held.ensures
    c.hold_page.ensures
    c.written-q.ensures
    c.with_written.ensures
