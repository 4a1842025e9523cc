-- `flash::next_in` meets its contract. The loop's invariant: no block before the `b-index`-th has clean pages. Assumes nothing.
use mathlib.Core.Path.{refl, sym, ap, ◌∙◌}
use Prim.Native.Nat.{◌≤◌}
use native.Mathlib.Omega.{arith}
use lib.ListN.{length, drop_of_length-le}
use Rattle.model.specs.Zones.{used_in, next_in}
use Rattle.flash.proofs.Scanning.{next_here, next_more}
use Rattle.flash.proofs.next_in.Goals as goal

pub loop-b-init : goal.loop-b-init
loop-b-init c = (omega arith, refl)

pub used_in-used-requires : goal.used_in-used-requires
used_in-used-requires c = rw c.from-b.ensures (c.requires.each c.loop-b.b-index c.loop-b-test.true)

pub overflow_mul-result : goal.overflow_mul-result
overflow_mul-result c =
    let e = rw (← c.from-b.ensures) at (c.requires.each c.loop-b.b-index c.loop-b-test.true) in
    omega arith

pub overflow_add-result : goal.overflow_add-result
overflow_add-result c =
    let e = rw (← c.from-b.ensures) at (c.requires.each c.loop-b.b-index c.loop-b-test.true) in
    omega arith

pub returns-then-used-pages : goal.returns-then-used-pages
returns-then-used-pages c =
    let a = c.args in
    let u = c.used_in-used.ensures.0 ∙ ap (used_in a.array.now a.pages) c.from-b.ensures in
    let t = c.if-used-pages.true in
    sym (c.loop-b.invariant.1 ∙ next_here a.array.now a.pages a.blocks.now c.loop-b.b-index (omega arith) (omega arith) ∙ rw (← u, ← c.from-b.ensures))

pub loop-b-preserved : goal.loop-b-preserved
loop-b-preserved c =
    let a = c.args in
    let u = c.used_in-used.ensures.0 ∙ ap (used_in a.array.now a.pages) c.from-b.ensures in
    (omega arith, c.loop-b.invariant.1 ∙ next_more a.array.now a.pages a.blocks.now c.loop-b.b-index (omega arith) (omega arith))

pub returns : goal.returns
unfolding next_in
returns c =
    let a = c.args in
    let l : length a.blocks.now ≤ c.loop-b.b-index = omega arith in
    sym (c.loop-b.invariant.1 ∙ ap (next_in a.array.now a.pages) (drop_of_length-le a.blocks.now l))
