-- `recovery::enter_runs` meets its contract. The loop's invariant: the runs before page i are entered. Assumes nothing.
use mathlib.Core.Path.{refl, ◌∙◌}
use Prim.Native.Nat.{◌-◌, ◌<◌}
use native.Mathlib.Omega.{arith}
use lib.ListN.{length}
use Rattle.ranks.specs.Pass.{best_of}
use Rattle.scan.specs.Taken.{entries_in}
use Rattle.recovery.specs.Redo.{best}
use Rattle.recovery.proofs.Entering.{part_enterable}
use Rattle.recovery.proofs.Running.{run_step, run_bound}
use Rattle.recovery.proofs.enter_runs.Goals as goal

pub loop-i-init : goal.loop-i-init
unfolding best_of entries_in
loop-i-init c = (omega arith, ((λ l. tt), (refl, (refl, refl))))

pub enter_pages-requires : goal.enter_pages-requires
enter_pages-requires c =
    let a = c.args in
    let l = c.loop-i in
    part_enterable a.array.now a.order.now a.map.now a.bests.now (c.run_end-j.result - l.i) l.i c.requires.0 l.map l.bests l.invariant.1.1.0 l.invariant.1.1.1.0

pub loop-i-preserved : goal.loop-i-preserved
loop-i-preserved c =
    let a = c.args in
    let l = c.loop-i in
    let f = c.run_end-j.ensures in
    let j = c.run_end-j.result in
    let h : l.i < length a.order.now = omega arith in
    let v = c.run_version-v.ensures in
    let s = run_step a.array.now a.order.now l.i j c.requires.1 h f.0 l.invariant.1.0 (best a.map.now a.bests.now) in (
      f.1.1,
      (
        run_bound a.array.now a.order.now l.i j c.requires.1 h f.0 l.invariant.1.0,
        (
          omega (arith, l.invariant.1.1.0, c.map-1.given),
          (omega (arith, l.invariant.1.1.1.0, c.bests-1.given), c.enter_pages.ensures ∙ rw (v, l.invariant.1.1.1.1) s),
        ),
      ),
    )
