-- `load::load_map` meets its contract. The loop's invariant: the entries of the first `i` map pages are read. Assumes nothing.
use mathlib.Core.Path.{◌≡◌, refl, sym, ap, ◌∙◌}
use native.Mathlib.Nat.{add-sub_cancel_left}
use Prim.Native.Nat.{◌-◌, ◌*◌}
use native.Mathlib.Omega.{arith}
use lib.ListN.{length-take, length-drop}
use lib.Seq.{take_all}
use Rattle.model.specs.Checkpoint.{load_map}
use Rattle.load.proofs.Words.{loaded_more, zeros_behind}
use Rattle.load.proofs.load_map.Goals as goal

pub loop-i-init : goal.loop-i-init
unfolding load_map
loop-i-init c = refl

pub load_page-requires : goal.load_page-requires
load_page-requires c = (omega arith, simp (length-take, length-drop) (omega arith))

pub loop-i-preserved : goal.loop-i-preserved
loop-i-preserved c =
    let a = c.args in
    rw add-sub_cancel_left
    (loaded_more a.array.now a.k c.loop-i.i c.loop-i.entries _ (omega arith) (omega arith) c.load_page.ensures c.loop-i.invariant)

pub returns : goal.returns
returns c =
    let a = c.args in
    let e : c.loop-i.i ≡ a.m = omega arith in
    zeros_behind c.loop-i.entries _ _ (256 * a.m) (1024 - 256 * a.m) (rw e at c.loop-i.invariant) (omega arith) (c.fill.ensures.after (λ y e. e))
