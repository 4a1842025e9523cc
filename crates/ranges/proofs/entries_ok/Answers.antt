-- `ranges::entries_ok` meets its contract. The loop's invariant: the entries before the next pass, and the flags hold the pages that they name. Assumes nothing.
use mathlib.Core.Path.{◌≡◌, refl, sym, ◌∙◌}
use mathlib.Core.Bool.{true, false}
use native.Mathlib.Omega.{arith}
use lib.ListN.{take, get_or, length-set}
use borrow.Author.Rules.{rules}
use borrow.Author.Tests.{eq-eqb, ne_eqb, le-leb, lt-leb, lt-ltb, le-ltb}
use Rattle.model.specs.Lists.{elem}
use Rattle.blocks.proofs.Loops.{heads_pass, heads_fail, heads_end}
use Rattle.ranges.specs.Ranges.{entry_within}
use Rattle.ranges.proofs.Seen.{marks_none, marks_skip, marks_more}
use Rattle.ranges.proofs.entries_ok.Goals.{then-k-lo-via-then-k-lo, then-k-lo-via-else-k-lo+then-k-hi, then-k-lo-via-else-k-lo+else-k-hi+then-seen-k}
use Rattle.ranges.proofs.entries_ok.Goals as goal

pub loop-x-init : goal.loop-x-init
loop-x-init c = (search rules, (marks_none 8192, refl))

pub loop-x-preserved-then-x : goal.loop-x-preserved-then-x
unfolding entry_within
loop-x-preserved-then-x c =
    let a = c.args in
    let m = a.map.now in
    let i = c.loop-x.x-index in
    let v = c.loop-x.invariant in
    let t = c.if-x.true in
    (v.0, (marks_skip 8192 c.loop-x.seen m i c.loop-x-test.true v.1.0 (omega arith), heads_pass (entry_within a.lo a.hi) m i 0 c.loop-x-test.true v.1.1 (simp (eq-eqb _ _ t))))

pub returns-then-k-lo : goal.returns-then-k-lo
unfolding entry_within
returns-then-k-lo c =
    let a = c.args in
    let m = a.map.now in
    let i = c.loop-x.x-index in
    let v = c.loop-x.invariant in
    let n = ne_eqb _ _ c.if-x.false in
    let fail = heads_fail (entry_within a.lo a.hi) m i 0 c.loop-x-test.true v.1.1 in
    elim c.then-k-lo.branch [
      | then-k-lo-via-then-k-lo w ↦ let l = rw c.from-k.ensures at w.if-k-lo.true in sym (fail (simp (n, lt-leb _ _ l)))
      | then-k-lo-via-else-k-lo+then-k-hi w ↦
          let l = rw c.from-k.ensures at w.if-k-lo.false in
          let h = rw c.from-k.ensures at w.if-k-hi.true in
          sym (fail (simp (n, le-leb _ _ l, le-ltb _ _ h)))
      | then-k-lo-via-else-k-lo+else-k-hi+then-seen-k w ↦
          let l = rw c.from-k.ensures at w.if-k-lo.false in
          let h = rw c.from-k.ensures at w.if-k-hi.false in
          let s : elem (get_or m i 0) (take i m) ≡ true = sym (v.1.0 (get_or m i 0) (omega arith)) ∙ (rw c.from-k.ensures at w.if-seen-k.true) in
          sym (fail (simp (n, le-leb _ _ l, lt-ltb _ _ h, s)))
    ]

pub loop-x-preserved : goal.loop-x-preserved
unfolding entry_within
loop-x-preserved c =
    let a = c.args in
    let m = a.map.now in
    let i = c.loop-x.x-index in
    let v = c.loop-x.invariant in
    let l = rw c.from-k.ensures at c.if-k-lo.false in
    let h = rw c.from-k.ensures at c.if-k-hi.false in
    let s : elem (get_or m i 0) (take i m) ≡ false = sym (v.1.0 (get_or m i 0) (omega arith)) ∙ (rw c.from-k.ensures at c.if-seen-k.false) in
    let n = ne_eqb _ _ c.if-x.false in
    rw c.from-k.ensures
    (simp length-set v.0, (marks_more 8192 c.loop-x.seen m i c.loop-x-test.true v.1.0 (omega arith), heads_pass (entry_within a.lo a.hi) m i 0 c.loop-x-test.true v.1.1 (simp (n, le-leb _ _ l, lt-ltb _ _ h, s))))

pub returns : goal.returns
returns c =
    let a = c.args in
    let m = a.map.now in
    let i = c.loop-x.x-index in
    sym (heads_end (entry_within a.lo a.hi) (take i m) m i c.loop-x-test.false c.loop-x.invariant.1.1)
