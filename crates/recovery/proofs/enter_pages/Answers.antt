-- `recovery::enter_pages` meets its contract. The loop's invariant: the pages before k are entered. Assumes nothing.
use native.Mathlib.Omega.{arith}
use Rattle.recovery.specs.Redo.{rank_by}
use Rattle.recovery.proofs.Entering.{entered_none, entered_more}
use Rattle.recovery.proofs.enter_pages.Goals as goal

pub loop-k-init : goal.loop-k-init
loop-k-init c = let a = c.args in entered_none (rank_by a.run) a.array.now a.order.now a.map.now a.bests.now

pub loop-k-preserved : goal.loop-k-preserved
loop-k-preserved c =
    let a = c.args in
    let l = c.loop-k in
    entered_more (rank_by a.run) a.array.now a.order.now a.map.now a.bests.now l.k-index l.map l.bests l.invariant (omega arith) c.version_of.result c.version_of.ensures _ _
    c.enter.auto.map c.enter.auto.bests c.enter.ensures
