-- `change::with_page` meets its contract: from what its calls ensure; on one plane the last page leaves no trace. Assumes nothing.
use Rattle.change.proofs.Carrying.{last_one}
use Rattle.change.proofs.with_page.Goals as goal

pub returns-then-s-ne2 : goal.returns-then-s-ne2
returns-then-s-ne2 c = rw (last_one c.args.s _ c.if-s-ne2.true) c.with_version.ensures

pub returns : goal.returns
returns c = rw c.with_last-t.ensures at c.with_version-2.ensures
