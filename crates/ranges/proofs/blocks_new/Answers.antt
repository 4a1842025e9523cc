-- `ranges::blocks_new` meets its contract. The loop's invariant: the blocks before the next pass, and the flags hold them. Assumes nothing.
use mathlib.Core.Path.{◌≡◌, refl, sym, ap, ◌∙◌}
use mathlib.Core.Bool.{true, false}
use mathlib.Core.List.{[]}
use native.Mathlib.Omega.{arith}
use lib.ListN.{take, get_or, length-set}
use borrow.Author.Rules.{rules}
use borrow.Author.Tests.{le-leb, lt-leb, lt-ltb, le-ltb}
use Rattle.model.specs.Lists.{all_heads, elem}
use Rattle.arrays.specs.Ranges.{geometry_in}
use Rattle.blocks.proofs.Loops.{heads_pass, heads_fail, heads_end}
use Rattle.ranges.proofs.Seen.{marks_none, marks_more, new_within, new_within_law}
use Rattle.ranges.proofs.blocks_new.Goals.{then-b-lt-FRONT-via-then-b-lt-FRONT, then-b-lt-FRONT-via-else-b-lt-FRONT+then-b-hi, then-b-lt-FRONT-via-else-b-lt-FRONT+else-b-hi+then-seen-b}
use Rattle.ranges.proofs.blocks_new.Goals as goal

pub loop-b-init : goal.loop-b-init
loop-b-init c = (search rules, (marks_none 128, refl))

pub bounds-seen-b : goal.bounds-seen-b
bounds-seen-b c =
    let h = (geometry_in c.args.g c.requires).blocks_most in
    let f = c.from-hi.ensures in
    let k = c.if-b-hi.false in
    omega arith

pub returns-then-b-lt-FRONT : goal.returns-then-b-lt-FRONT
unfolding new_within
returns-then-b-lt-FRONT c =
    let m = c.args.list.now in
    let n = c.from-hi.result in
    let i = c.loop-b.b-index in
    let v = c.loop-b.invariant in
    let most = (geometry_in c.args.g c.requires).blocks_most in
    let f = c.from-hi.ensures in
    let e = ap (λ u. all_heads u [] m) (new_within_law c.args.g) ∙ ap (λ u. all_heads (new_within u) [] m) (sym c.from-hi.ensures) in
    let fail = heads_fail (new_within n) m i 0 c.loop-b-test.true v.1.1 in
    elim c.then-b-lt-FRONT.branch [
      | then-b-lt-FRONT-via-then-b-lt-FRONT w ↦ let l = rw c.from-b.ensures at w.if-b-lt-FRONT.true in sym (e ∙ fail (simp (lt-leb _ _ l)))
      | then-b-lt-FRONT-via-else-b-lt-FRONT+then-b-hi w ↦
          let l = rw c.from-b.ensures at w.if-b-lt-FRONT.false in
          let h = rw c.from-b.ensures at w.if-b-hi.true in
          sym (e ∙ fail (simp (le-leb _ _ l, le-ltb _ _ h)))
      | then-b-lt-FRONT-via-else-b-lt-FRONT+else-b-hi+then-seen-b w ↦
          let l = rw c.from-b.ensures at w.if-b-lt-FRONT.false in
          let h = rw c.from-b.ensures at w.if-b-hi.false in
          let s : elem (get_or m i 0) (take i m) ≡ true = sym (v.1.0 (get_or m i 0) (omega arith)) ∙ (rw c.from-b.ensures at w.if-seen-b.true) in
          sym (e ∙ fail (simp (le-leb _ _ l, lt-ltb _ _ h, s)))
    ]

pub bounds-seen-b-in-loop-b : goal.bounds-seen-b-in-loop-b
bounds-seen-b-in-loop-b c =
    let h = (geometry_in c.args.g c.requires).blocks_most in
    let f = c.from-hi.ensures in
    let k = c.if-b-hi.false in
    omega arith

pub loop-b-preserved : goal.loop-b-preserved
unfolding new_within
loop-b-preserved c =
    let m = c.args.list.now in
    let n = c.from-hi.result in
    let i = c.loop-b.b-index in
    let v = c.loop-b.invariant in
    let most = (geometry_in c.args.g c.requires).blocks_most in
    let f = c.from-hi.ensures in
    let l = rw c.from-b.ensures at c.if-b-lt-FRONT.false in
    let h = rw c.from-b.ensures at c.if-b-hi.false in
    let s : elem (get_or m i 0) (take i m) ≡ false = sym (v.1.0 (get_or m i 0) (omega arith)) ∙ (rw c.from-b.ensures at c.if-seen-b.false) in
    rw c.from-b.ensures
    (simp length-set v.0, (marks_more 128 c.loop-b.seen m i c.loop-b-test.true v.1.0 (omega arith), heads_pass (new_within n) m i 0 c.loop-b-test.true v.1.1 (simp (le-leb _ _ l, lt-ltb _ _ h, s))))

pub returns : goal.returns
returns c =
    let m = c.args.list.now in
    let n = c.from-hi.result in
    let i = c.loop-b.b-index in
    let e = ap (λ u. all_heads u [] m) (new_within_law c.args.g) ∙ ap (λ u. all_heads (new_within u) [] m) (sym c.from-hi.ensures) in
    sym (e ∙ heads_end (new_within n) (take i m) m i c.loop-b-test.false c.loop-b.invariant.1.1)
