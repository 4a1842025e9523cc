-- `change::enter` meets its contract. The loop's invariant: the first `i` pages are entered. Assumes nothing.
use mathlib.Core.Path.{◌≡◌, refl, ◌∙◌, ap}
use native.Mathlib.Omega.{arith}
use lib.ListN.{length}
use lib.Seq.{length-take-le}
use borrow.Author.Rules.{rules}
use Rattle.model.specs.Transactions.{entered}
use Rattle.change.proofs.Entering.{entered_more, page_in}
use Rattle.change.proofs.enter.Goals as goal

pub loop-i-init : goal.loop-i-init
unfolding entered
loop-i-init c = refl

pub bounds-map-lpn : goal.bounds-map-lpn
bounds-map-lpn c =
    let p = c.args.p.now in
    let l = page_in p.lpns p.count c.loop-i.i c.loop-i-test.true (length c.args.map.now) c.requires.1 in
    omega arith

pub loop-i-preserved : goal.loop-i-preserved
loop-i-preserved c =
    let p = c.args.p.now in
    entered_more p.lpns p.count c.loop-i.i c.loop-i-test.true c.args.map.now p.ppns p.drops c.loop-i.map _ c.leads.ensures c.loop-i.invariant

pub returns : goal.returns
returns c =
    let p = c.args.p.now in
    let l : length p.lpns ≡ 64 = search rules in
    let e : c.loop-i.i ≡ p.count = omega (arith, length-take-le p.count p.lpns (omega arith)) in
    c.loop-i.invariant ∙ ap (entered c.args.map.now p.lpns p.ppns p.drops) e
