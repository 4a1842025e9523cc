-- `refill::data_blocks` meets its contract: one block more at each turn. Assumes nothing.
use mathlib.Core.Path.{◌≡◌, sym, ap, ◌∙◌}
use mathlib.Core.List.{[], ◌∷◌, ◌++◌}
use Prim.Native.Nat.{◌+◌, ◌-◌}
use native.Mathlib.Omega.{arith}
use lib.ListN.{length}
use Rattle.model.specs.Lists.{up_from}
use Rattle.arrays.specs.Tests.{length_up, up_more}
use Rattle.arrays.specs.Ranges.{geometry_in}
use Rattle.refill.proofs.data_blocks.Goals as goal

pub overflow_cast-b-end : goal.overflow_cast-b-end
overflow_cast-b-end c =
    let h = geometry_in c.args.g c.requires in
    let b = h.blocks_most in
    omega arith

pub loop-b-init : goal.loop-b-init
unfolding up_from
loop-b-init c = c.none-all.ensures

pub push-requires : goal.push-requires
push-requires c =
    let h = geometry_in c.args.g c.requires in
    let b = h.blocks_most in
    let l = ap length c.loop-b.invariant in
    let k = length_up 2 (c.loop-b.b - 2) in
    omega arith

pub loop-b-preserved : goal.loop-b-preserved
loop-b-preserved c =
    let b = c.loop-b.b in
    let e : b - 2 + 1 ≡ b + 1 - 2 = omega arith in
    let d : 2 + (b - 2) ≡ b = omega arith in
    let m : up_from 2 (b - 2 + 1) ≡ up_from 2 (b - 2) ++ (b ∷ []) = rw d at (up_more 2 (b - 2)) in
    c.push.ensures ∙ rw c.loop-b.invariant (sym m ∙ ap (up_from 2) e)

pub returns : goal.returns
returns c =
    let h = geometry_in c.args.g c.requires in
    let a = h.blocks_least in
    let e : c.loop-b.b ≡ c.args.g.blocks = omega arith in
    rw e at c.loop-b.invariant
