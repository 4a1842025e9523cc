-- `flash::clean_short` meets its contract. The loop's invariant: what the blocks from the `b-index`-th on leave of `due` is what all blocks leave of `least`. Assumes nothing.
use mathlib.Core.Path.{◌≡◌, refl, ap, ◌∙◌}
use Prim.Native.Nat.{◌-◌, ◌≤◌}
use native.Mathlib.Omega.{arith}
use lib.ListN.{length, drop_of_length-le}
use lib.Dec.{ltb}
use Rattle.model.specs.Zones.{used_in, clean_in}
use Rattle.flash.proofs.Scanning.{clean_more, left_over}
use Rattle.flash.proofs.clean_short.Goals as goal

pub loop-b-init : goal.loop-b-init
loop-b-init c = (omega arith, refl)

pub still_due-due-requires : goal.still_due-due-requires
still_due-due-requires c = rw c.from.ensures (c.requires.each c.loop-b.b-index c.loop-b-test.true)

pub loop-b-preserved : goal.loop-b-preserved
loop-b-preserved c =
    let a = c.args in
    let m = clean_more a.array.now a.pages a.blocks.now c.loop-b.b-index (omega arith) in
    let u = ap (used_in a.array.now a.pages) c.from.ensures in
    (omega arith, omega arith)

pub returns : goal.returns
unfolding clean_in
returns c =
    let a = c.args in
    let l : length a.blocks.now ≤ c.loop-b.b-index = omega arith in
    let e = ap (clean_in a.array.now a.pages) (drop_of_length-le a.blocks.now l) in
    let d : c.loop-b.due ≡ a.least - clean_in a.array.now a.pages a.blocks.now = omega arith in
    ap (ltb 0) d ∙ left_over (clean_in a.array.now a.pages a.blocks.now) a.least
