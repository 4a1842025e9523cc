-- `recovery::enter_all` meets its contract. Assumes nothing.
use mathlib.Core.Path.{ap, ◌∙◌}
use native.Mathlib.Omega.{arith}
use lib.ListN.{length}
use Rattle.scan.specs.Taken.{listed}
use Rattle.scan.proofs.Loops.{listed_length}
use Rattle.scan.proofs.Picked.{length_notes}
use Rattle.recovery.proofs.Redoing.{ready_changes, ready_lone, lone_enter}
use Rattle.recovery.proofs.enter_all.Goals as goal

pub enter_runs-requires : goal.enter_runs-requires
enter_runs-requires c =
    let a = c.args in
    let r = c.requires.0 in
    ready_changes a.g.planes a.map.now a.array.now a.g.pages a.bs.now a.changes.now a.notes.now a.other.now r (λ i. (c.type_inv.array i).fits) a.bests.now c.requires.1

pub pick-n-requires : goal.pick-n-requires
pick-n-requires c =
    let a = c.args in
    let r = c.requires.0 in
    omega (arith, ap length r.note, length_notes a.array.now (listed a.g.pages a.bs.now), listed_length a.g.pages a.bs.now, c.other-1.given, r.room)

pub enter_pages-requires : goal.enter_pages-requires
enter_pages-requires c =
    let a = c.args in
    let r = c.requires.0 in
    lone_enter a.g.planes a.map.now a.array.now a.g.pages a.bs.now a.changes.now a.notes.now a.other.now r _ c.list.ensures c.pick-n.result c.pick-n.new.order c.pick-n.ensures.1 _ _ (omega (arith, c.map-1.given)) (omega (arith, c.map-1.given, c.bests-1.given, c.requires.1))

pub returns : goal.returns
returns c =
    let a = c.args in
    let r = c.requires.0 in
    c.enter_pages.ensures ∙ rw (c.enter_runs.ensures, ready_lone a.g.planes a.map.now a.array.now a.g.pages a.bs.now a.changes.now a.notes.now a.other.now r _ c.list.ensures c.pick-n.result c.pick-n.new.order c.pick-n.ensures.1)
