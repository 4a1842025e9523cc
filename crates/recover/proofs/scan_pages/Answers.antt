-- `recover::scan_pages` meets its contract, return by return. Assumes nothing.
use mathlib.Core.Path.{sym}
use native.Mathlib.Omega.{arith}
use lib.Seq.{length-take-le}
use Rattle.model.specs.Zones.{scan_in}
use Rattle.scan.proofs.Loops.{listed_pages}
use Rattle.recover.proofs.Plans.{blocks_in, scan_met, changes_few, redo_ready, top_met, scan_refused, scan_passed}
use Rattle.recover.proofs.scan_pages.Goals as goal

pub list-requires : goal.list-requires
list-requires c =
    let a = c.args in
    let h = c.requires.0 in
    let l = c.requires.1 in
    ((blocks_in a.g a.array.now a.map.now a.bs.now a.entries.now h).most, l.pages)

pub visit-seen-requires : goal.visit-seen-requires
visit-seen-requires c =
    let a = c.args in
    let h = c.requires.0 in
    let l = c.requires.1 in
    (rw c.list.ensures (listed_pages a.array.now a.g.pages a.bs.now (blocks_in a.g a.array.now a.map.now a.bs.now a.entries.now h)), omega (arith, l.noted, c.order-1.given, l.pages))

pub pages_good-requires : goal.pages_good-requires
pages_good-requires c =
    let a = c.args in
    let h = c.requires.0 in
    let l = c.requires.1 in
    let s = c.visit-seen.result in
    let e = c.visit-seen.ensures in
    scan_met a.g a.array.now a.map.now a.bs.now a.entries.now h _ a.other.now _ s c.list.ensures l.room e.0 e.1

pub returns-then-not-pages_good : goal.returns-then-not-pages_good
returns-then-not-pages_good c =
    let a = c.args in
    let h = c.requires.0 in
    let l = c.requires.1 in
    let r = c.pages_good in
    scan_refused a.g.planes a.g.logical (scan_in a.array.now a.g.pages a.bs.now) a.floor a.entries.now a.map.now r.result r.ensures.0 c.if-not-pages_good.true

pub slice_bounds-redo-end : goal.slice_bounds-redo-end
slice_bounds-redo-end c =
    let a = c.args in
    let h = c.requires.0 in
    let l = c.requires.1 in
    let s = c.visit-seen.result in
    let e = c.visit-seen.ensures in
    omega (arith, changes_few a.g a.array.now a.map.now a.bs.now a.entries.now h _ s e.0, c.order-2-1.given)

pub slice_bounds-redo-end-2 : goal.slice_bounds-redo-end-2
slice_bounds-redo-end-2 c =
    let a = c.args in
    let h = c.requires.0 in
    let l = c.requires.1 in
    let s = c.visit-seen.result in
    let e = c.visit-seen.ensures in
    sym (length-take-le s.changes _ (omega (arith, changes_few a.g a.array.now a.map.now a.bs.now a.entries.now h _ s e.0, c.order-2-1.given)))

pub redo-requires : goal.redo-requires
redo-requires c =
    let a = c.args in
    let h = c.requires.0 in
    let l = c.requires.1 in
    let s = c.visit-seen.result in
    let e = c.visit-seen.ensures in
    let r = c.pages_good in
    let ok = c.if-not-pages_good.false in (
      redo_ready a.g a.array.now a.map.now a.bs.now a.entries.now h r.result r.ensures.0 ok _ c.copy_from_slice.ensures.after _ _ _ _ c.list.ensures (omega (arith, l.room, c.other-1.given)) e.1 (r.ensures.1 ok),
      top_met a.g a.array.now a.map.now a.bs.now a.entries.now h r.result r.ensures.0 ok _ c.list.ensures s e.0,
    )

pub returns : goal.returns
returns c =
    let a = c.args in
    let h = c.requires.0 in
    let l = c.requires.1 in
    let s = c.visit-seen.result in
    let e = c.visit-seen.ensures in
    let r = c.pages_good in
    let ok = c.if-not-pages_good.false in
    scan_passed a.g.planes a.g.logical (scan_in a.array.now a.g.pages a.bs.now) a.floor a.entries.now a.map.now r.result r.ensures.0 ok s.top (top_met a.g a.array.now a.map.now a.bs.now a.entries.now h r.result r.ensures.0 ok _ c.list.ensures s e.0)
    h.mapped _ c.copy_from_slice.ensures.after _ c.redo.ensures
