-- `change::with_marked` meets its contract: from what its calls ensure; on one plane the last page leaves no trace. Assumes nothing.
use Rattle.change.proofs.Carrying.{last_one}
use Rattle.change.proofs.with_marked.Goals as goal

pub returns-then-s-ne2 : goal.returns-then-s-ne2
returns-then-s-ne2 c =
    let a = c.args in
    rw (last_one a.s _ c.if-s-ne2.true)
    (rw (c.with_version-t.ensures, c.free-free.ensures) at c.with_place.ensures)

pub returns : goal.returns
returns c = rw (c.with_page-t.ensures, c.free-free.ensures) at c.with_place-2.ensures
