-- `change::with_written` meets its contract: from what its calls ensure; on one plane the last page leaves no trace. Assumes nothing.
use borrow.Author.Tests.{eq-eqb, ne_eqb}
use Rattle.change.proofs.Carrying.{last_one}
use Rattle.change.proofs.with_written.Goals.{then-had-eq0-via-then-had-eq0, then-had-eq0-via-else-had-eq0+then-s-ne2}
use Rattle.change.proofs.with_written.Goals as goal

pub returns-then-had-eq0 : goal.returns-then-had-eq0
returns-then-had-eq0 c =
    elim c.then-had-eq0.branch [
      | then-had-eq0-via-then-had-eq0 w ↦ rw (eq-eqb _ _ w.if-had-eq0.true) c.with_place.ensures
      | then-had-eq0-via-else-had-eq0+then-s-ne2 w ↦ rw (ne_eqb _ _ w.if-had-eq0.false, last_one c.args.s _ w.if-s-ne2.true) c.with_place.ensures
    ]

pub returns : goal.returns
returns c = rw (ne_eqb _ _ c.if-had-eq0.false) (rw c.with_last-t.ensures at c.with_place-2.ensures)
