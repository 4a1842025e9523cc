-- `flash::erase_block` meets its contract: the part of the array that is lent is the block, and comes back erased. Assumes nothing.
use mathlib.Core.Path.{◌≡◌}
use Prim.Native.Nat.{◌+◌, ◌-◌, ◌*◌}
use native.Mathlib.Omega.{arith}
use native.Mathlib.Nat.{add-sub_cancel_left}
use lib.ListN.{length, take, drop, length-take, length-drop}
use lib.Seq.{drop-drop}
use Rattle.model.specs.Lists.{splice}
use Rattle.model.specs.Page.{put_block}
use Rattle.model.specs.World.{apply_op}
use Rattle.flash.proofs.erase_block.Goals as goal

pub returns : goal.returns
unfolding apply_op put_block splice
returns c =
    let g = c.args in
    let a = g.b * g.pages * 528 in
    let n = g.pages * 528 in
    let l : length (take (a + n - a) (drop a g.array.now)) ≡ n = simp (length-take, length-drop) (omega arith) in
    rw (c.erase.ensures, l, add-sub_cancel_left, drop-drop)
