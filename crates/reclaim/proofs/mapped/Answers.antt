-- `reclaim::mapped` meets its contract. The loop's invariant: the counts are those of the entries so far. Assumes nothing.
use mathlib.Core.Path.{refl}
use native.Mathlib.Omega.{arith}
use Rattle.reclaim.proofs.Counting.{sums_none, sums_skip, sums_more, sums_end, sum_few}
use Rattle.reclaim.proofs.mapped.Goals.{then-b-lt128, else-b-lt128}
use Rattle.reclaim.proofs.mapped.Goals as goal

pub loop-e-init : goal.loop-e-init
loop-e-init c = sums_none c.args.map.now c.args.pages

pub overflow_add-counts : goal.overflow_add-counts
overflow_add-counts c =
    let a = c.args in
    let l = c.loop-e in
    let m = sum_few a.map.now a.pages l.counts l.e-index l.invariant c.requires.1 c.loop-e-test.true _ c.if-b-lt128.true in
    omega arith

pub loop-e-preserved : goal.loop-e-preserved
loop-e-preserved c =
    let a = c.args in
    let l = c.loop-e in
    elim c.if-b-lt128.branch [
      | then-b-lt128 w ↦ rw w.counts-is (sums_more a.map.now a.pages l.counts l.e-index l.invariant c.requires.1 c.loop-e-test.true _ refl w.if-b-lt128.true)
      | else-b-lt128 w ↦ rw w.counts-is (sums_skip a.map.now a.pages l.counts l.e-index l.invariant c.requires.1 c.loop-e-test.true w.if-b-lt128.false)
    ]

pub returns : goal.returns
returns c = sums_end c.args.map.now c.args.pages c.loop-e.counts c.loop-e.e-index c.loop-e.invariant c.loop-e-test.false
