-- `zones::judge` meets its contract. The loop's invariant: of the blocks before the next, those that hold a page which is wanted are listed. Assumes nothing.
use mathlib.Core.Path.{sym, ap, ◌∙◌}
use native.Mathlib.Omega.{arith}
use lib.ListN.{length}
use Rattle.model.specs.Lists.{those}
use Rattle.zones.specs.Judging.{holds_by}
use Rattle.zones.proofs.Picks.{few_more, picks_yes, picks_no, picks_all}
use Rattle.zones.proofs.judge.Goals.{then-holds_wanted, else-holds_wanted}
use Rattle.zones.proofs.judge.Goals as goal

pub loop-b-init : goal.loop-b-init
unfolding those
loop-b-init c = c.none-kept.ensures

pub holds_wanted-requires : goal.holds_wanted-requires
holds_wanted-requires c = rw c.from.ensures (c.requires.each c.loop-b.b-index c.loop-b-test.true)

pub with-kept-requires : goal.with-kept-requires
with-kept-requires c =
    let a = c.args in
    let f = few_more (holds_by a.array.now a.pages a.ids a.near.now) a.bs.now c.loop-b.b-index c.loop-b-test.true in
    let e = ap length c.loop-b.invariant in
    let n = c.requires.few in
    omega arith

pub loop-b-preserved : goal.loop-b-preserved
loop-b-preserved c =
    let a = c.args in
    let q = holds_by a.array.now a.pages a.ids a.near.now in
    let i = c.loop-b.b-index in
    let t = rw c.from.ensures at (sym c.holds_wanted.ensures) in
    elim c.if-holds_wanted.branch [
      | then-holds_wanted w ↦ picks_yes q a.bs.now i c.loop-b-test.true _ _ c.loop-b.invariant (t ∙ w.if-holds_wanted.true) (w.kept-is ∙ w.with-kept.ensures)
      | else-holds_wanted w ↦ w.kept-is ∙ picks_no q a.bs.now i c.loop-b-test.true _ c.loop-b.invariant (t ∙ w.if-holds_wanted.false)
    ]

pub returns : goal.returns
returns c =
    let a = c.args in
    picks_all (holds_by a.array.now a.pages a.ids a.near.now) a.bs.now c.loop-b.b-index _ c.loop-b-test.false c.loop-b.invariant
