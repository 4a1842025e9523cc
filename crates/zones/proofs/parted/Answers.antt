-- `zones::parted` meets its contract. The loop's invariant: of the blocks before the next, both lists have theirs. Assumes nothing.
use mathlib.Core.Path.{sym, ap, ◌∙◌}
use mathlib.Core.Bool.{Bool, not}
use Prim.Native.Nat.{ℕ}
use native.Mathlib.Omega.{arith}
use lib.ListN.{length}
use Rattle.model.specs.Lists.{those}
use Rattle.model.specs.Zones.{is_full, staying, leaving}
use Rattle.zones.proofs.Picks.{few_more, picks_yes, picks_no, picks_all}
use Rattle.zones.proofs.parted.Goals.{then-is_full, else-is_full}
use Rattle.zones.proofs.parted.Goals as goal

pub loop-b-init : goal.loop-b-init
unfolding staying leaving those
loop-b-init c = (c.none-stay.ensures, c.none-leave.ensures)

pub is_full-requires : goal.is_full-requires
is_full-requires c = (rw c.from.ensures (c.requires.0.each c.loop-b.b-index c.loop-b-test.true), c.requires.1)

pub with-leave-requires : goal.with-leave-requires
unfolding leaving
with-leave-requires c =
    let a = c.args in
    let f = few_more (is_full a.array.now a.pages) a.bs.now c.loop-b.b-index c.loop-b-test.true in
    let e = ap length c.loop-b.invariant.1 in
    let n = c.requires.0.few in
    omega arith

pub with-stay-requires : goal.with-stay-requires
unfolding staying
with-stay-requires c =
    let a = c.args in
    let f = few_more (λ (b : ℕ). not (is_full a.array.now a.pages b)) a.bs.now c.loop-b.b-index c.loop-b-test.true in
    let e = ap length c.loop-b.invariant.0 in
    let n = c.requires.0.few in
    omega arith

pub loop-b-preserved : goal.loop-b-preserved
unfolding staying leaving
loop-b-preserved c =
    let a = c.args in
    let full = is_full a.array.now a.pages in
    let left : ℕ → Bool = λ (b : ℕ). not (is_full a.array.now a.pages b) in
    let i = c.loop-b.b-index in
    let v = c.loop-b.invariant in
    let t = rw c.from.ensures at (sym c.is_full.ensures) in
    elim c.if-is_full.branch [
      | then-is_full w ↦
          let y = t ∙ w.if-is_full.true in
          (w.stay-is ∙ picks_no left a.bs.now i c.loop-b-test.true _ v.0 (ap not y), picks_yes full a.bs.now i c.loop-b-test.true _ _ v.1 y (w.leave-is ∙ w.with-leave.ensures))
      | else-is_full w ↦
          let n = t ∙ w.if-is_full.false in
          (picks_yes left a.bs.now i c.loop-b-test.true _ _ v.0 (ap not n) (w.stay-is ∙ w.with-stay.ensures), w.leave-is ∙ picks_no full a.bs.now i c.loop-b-test.true _ v.1 n)
    ]

pub returns : goal.returns
unfolding staying leaving
returns c =
    let a = c.args in
    let v = c.loop-b.invariant in (
      picks_all (λ (b : ℕ). not (is_full a.array.now a.pages b)) a.bs.now c.loop-b.b-index _ c.loop-b-test.false v.0,
      picks_all (is_full a.array.now a.pages) a.bs.now c.loop-b.b-index _ c.loop-b-test.false v.1,
    )
