-- `frame::checkpoint_stride_ok` meets its contract: the next front page lies in the front block. Assumes nothing.
use mathlib.Core.Bool.{true}
use mathlib.Core.Path.{◌≡◌, sym, ◌∙◌}
use Prim.Native.Nat.{◌+◌, ◌≤◌, ◌<◌}
use native.Mathlib.Omega.{arith}
use borrow.Author.Tests.{leb-true, ltb-true}
use Rattle.arrays.specs.Ranges.{geometry_in, maps_few}
use Rattle.frame.proofs.Within.{next_page_law}
use Rattle.frame.proofs.checkpoint_stride_ok.Goals as goal
use Rattle.frame.proofs.checkpoint_stride_ok.Goals.{then-n-m, else-n-m, then-q-m+then-n-ne0, then-q-m+else-n-ne0, else-q-m}

pub overflow_add-q : goal.overflow_add-q
overflow_add-q c =
    let h = geometry_in c.args.g c.requires.0.shape in
    let m = maps_few c.args.g h in
    let e = c.map_pages-m.ensures in
    omega arith

pub is_blank-requires : goal.is_blank-requires
is_blank-requires c =
    let a = c.args in
    let m = c.map_pages-m.result in
    let both : c.if-n-m.value ≡ true → (a.k ≤ m) × (a.first + m < a.g.pages) = λ t.
    elim c.if-n-m.branch [ then-n-m w ↦ (w.if-n-m.true, ltb-true _ _ (sym w.value-is ∙ t)) | else-n-m w ↦ let l = leb-true _ _ (sym w.value-is ∙ t) in let f = w.if-n-m.false in absurd (omega arith) ] in
    let n : (a.k ≤ m) × (a.first + m < a.g.pages) =
    elim c.if-q-m.branch [
      | then-q-m+then-n-ne0 w ↦ both w.if-q-m.true
      | then-q-m+else-n-ne0 w ↦ both w.if-q-m.true
      | else-q-m w ↦ both (sym w.value-is ∙ c.if-q-eq0.true)
    ] in
    next_page_law a.g a.array.now a.front a.first m a.k c.requires.0 c.requires.1 n.0 n.1
