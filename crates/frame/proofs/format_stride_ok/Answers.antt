-- `frame::format_stride_ok` meets its contract: the next front page lies in block 0. Assumes nothing.
use Prim.Native.Nat.{◌+◌, ◌-◌, ◌≤◌}
use mathlib.Core.Path.{sym, ◌∙◌}
use native.Mathlib.Omega.{arith}
use borrow.Author.Tests.{leb-true}
use Rattle.arrays.specs.Ranges.{geometry_in, maps_few}
use Rattle.frame.proofs.Within.{front_page_law}
use Rattle.model.specs.Geometry.{map_pages}
use Rattle.frame.proofs.format_stride_ok.Goals as goal
use Rattle.frame.proofs.format_stride_ok.Goals.{then-n-ge1, else-n-ge1}

pub overflow_add-blocks : goal.overflow_add-blocks
overflow_add-blocks c =
    let h = geometry_in c.args.g c.requires.shape in
    let m = maps_few c.args.g h in
    let e = c.map_pages.ensures in
    omega arith

pub is_blank-requires : goal.is_blank-requires
is_blank-requires c =
    let a = c.args in
    let h = geometry_in a.g c.requires.shape in
    let m = maps_few a.g h in
    let most : a.k ≤ a.g.blocks + map_pages a.g = elim c.if-n-ge1.branch [ then-n-ge1 w ↦ let l = leb-true _ _ (sym w.value-is ∙ c.if-n-blocks.true) in let e = w.map_pages.ensures in omega arith | else-n-ge1 w ↦ let l = leb-true _ _ (sym w.value-is ∙ c.if-n-blocks.true) in omega arith ] in
    let f = front_page_law a.g a.array.now 0 (a.k - a.g.blocks) c.requires (omega arith) (omega arith) in
    omega arith
