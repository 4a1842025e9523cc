-- `reclaim::lowest_from` meets its contract. The loop's invariant: `least` is the lowest of the entries so far that are at least `lo`, or `hi`. Assumes nothing.
use mathlib.Core.Path.{sym, ◌∙◌}
use Rattle.reclaim.proofs.Lowest.{least_first, least_out, least_here, least_end}
use Rattle.reclaim.proofs.lowest_from.Goals as goal
use Rattle.reclaim.proofs.lowest_from.Goals.{then-in_range, else-in_range}

pub loop-e-init : goal.loop-e-init
loop-e-init c = least_first c.args.map.now c.args.lo c.args.hi c.requires

pub loop-e-preserved : goal.loop-e-preserved
loop-e-preserved c =
    let a = c.args in
    let l = c.loop-e in
    let e = sym c.in_range.ensures in
    elim c.if-in_range.branch [
      | then-in_range w ↦ rw w.least-is (least_here a.map.now a.lo a.hi l.e-index l.least l.invariant c.loop-e-test.true (e ∙ w.if-in_range.true))
      | else-in_range w ↦ rw w.least-is (least_out a.map.now a.lo a.hi l.e-index l.least l.invariant (e ∙ w.if-in_range.false))
    ]

pub returns : goal.returns
returns c = least_end c.args.map.now c.args.lo c.args.hi c.loop-e.e-index c.loop-e.least c.loop-e.invariant c.loop-e-test.false
