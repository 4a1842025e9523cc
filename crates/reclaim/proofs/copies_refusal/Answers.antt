-- `reclaim::copies_refusal` meets its contract: a check after the other; where no copy is due, none applies. Assumes that array and zone lists agree.
use native.Mathlib.Omega.{arith}
use borrow.Author.Tests.{lt-ltb, le-ltb, ne_eqb}
use Rattle.model.specs.Order.{first_number}
use Rattle.zones.proofs.Listed.{ready_listed, available_within}
use Rattle.reclaim.proofs.Room.{none_due}
use Rattle.reclaim.proofs.copies_refusal.Goals as goal

pub returns-then-due-eq0 : goal.returns-then-due-eq0
returns-then-due-eq0 c = none_due c.args.s c.args.array.now c.args.due c.if-due-eq0.true

pub returns-then-s-due : goal.returns-then-s-due
unfolding first_number
returns-then-s-due c = simp (ne_eqb _ _ c.if-due-eq0.false, lt-ltb _ _ c.if-s-due.true)

pub shared_ref_as_front-available : goal.shared_ref_as_front-available
shared_ref_as_front-available c = omega (arith, (ready_listed _ _ _ c.requires.0).few)

pub clean_short-requires : goal.clean_short-requires
clean_short-requires c = available_within _ _ _ c.requires.0

pub returns-then-clean_short : goal.returns-then-clean_short
unfolding first_number
returns-then-clean_short c = simp (ne_eqb _ _ c.if-due-eq0.false, le-ltb _ _ c.if-s-due.false, ← c.clean_short.ensures, c.if-clean_short.true)

pub returns : goal.returns
unfolding first_number
returns c = simp (ne_eqb _ _ c.if-due-eq0.false, le-ltb _ _ c.if-s-due.false, ← c.clean_short.ensures, c.if-clean_short.false)
