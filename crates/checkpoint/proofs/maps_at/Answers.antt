-- `checkpoint::maps_at` meets its contract. The loop's invariant: the first `i` pages are as they should be. Assumes nothing.
use mathlib.Core.Path.{ap, sym, ◌∙◌}
use Prim.Native.Nat.{◌+◌}
use native.Mathlib.Omega.{arith}
use Rattle.model.specs.Checkpoint.{page_is}
use Rattle.checkpoint.proofs.Maps.{maps_start, maps_pass, maps_fail, maps_end}
use Rattle.checkpoint.proofs.maps_at.Goals as goal

pub loop-i-init : goal.loop-i-init
loop-i-init c = maps_start c.args.array.now c.args.k c.args.c c.args.m

pub returns-then-not-page_is : goal.returns-then-not-page_is
returns-then-not-page_is c =
    let a = c.args in
    let t = ap (page_is a.array.now (a.k + c.loop-i.i)) (sym c.map_spare.ensures) ∙ sym c.page_is.ensures ∙ c.if-not-page_is.true in
    sym (maps_fail a.array.now a.k c.loop-i.i a.c a.m (omega arith) c.loop-i.invariant t)

pub loop-i-preserved : goal.loop-i-preserved
loop-i-preserved c =
    let a = c.args in
    let t = ap (page_is a.array.now (a.k + c.loop-i.i)) (sym c.map_spare.ensures) ∙ sym c.page_is.ensures ∙ c.if-not-page_is.false in
    maps_pass a.array.now a.k c.loop-i.i a.c a.m (omega arith) c.loop-i.invariant t

pub returns : goal.returns
returns c =
    let a = c.args in
    sym (maps_end a.array.now a.k c.loop-i.i a.c a.m (omega arith) c.loop-i.invariant)
