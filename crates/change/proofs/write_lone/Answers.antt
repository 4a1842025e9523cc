-- `change::write_lone` meets its contract: the page lies on the next page, which is erased, and is entered in the map. Assumes nothing.
use native.Mathlib.Omega.{arith}
use Rattle.change.proofs.Framed.{frame_in}
use Rattle.change.proofs.Next.{next_fits, next_small, next_erased, some_pages}
use Rattle.change.proofs.Carrying.{lone_done}
use Rattle.change.proofs.write_lone.Goals as goal

pub next_page-k-requires : goal.next_page-k-requires
next_page-k-requires c =
    let a = c.args in
    let f = frame_in a.s a.array.now a.map.now a.hold.now c.requires.0.frame in
    f.ready

pub put_lone-requires : goal.put_lone-requires
put_lone-requires c =
    let a = c.args in
    let f = frame_in a.s a.array.now a.map.now a.hold.now c.requires.0.frame in
    let e = c.next_page-k.ensures in
    record {
      inside = rw e (next_fits a.s a.array.now f.ready);
      number = rw e (next_small a.s a.array.now f.ready);
      page = rw f.map c.requires.1.0;
      bytes = c.requires.1.1;
    }

pub with_page-requires : goal.with_page-requires
with_page-requires c =
    let a = c.args in
    let f = frame_in a.s a.array.now a.map.now a.hold.now c.requires.0.frame in
    some_pages a.s a.array.now f.ready

pub returns : goal.returns
returns c =
    let a = c.args in
    let f = frame_in a.s a.array.now a.map.now a.hold.now c.requires.0.frame in
    lone_done a.s _ a.array.now a.map.now a.hold.now _ _ a.lpn a.«data».now _
    c.next_page-k.ensures
    (next_erased a.s a.array.now f.ready (let n = c.requires.0.clean in omega arith))
    c.put_lone.ensures
    c.with_page.ensures
