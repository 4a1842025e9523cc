-- `ranges::lists_ok` meets its contract: the tests that the counts leave, in a row. Assumes nothing.
use mathlib.Core.Path.{◌≡◌, ap, ◌∙◌}
use mathlib.Core.Bool.{◌&&◌}
use mathlib.Core.List.{[]}
use Prim.Native.Nat.{◌+◌}
use lib.Dec.{leb}
use lib.ListN.{drop}
use borrow.Author.Tests.{le-leb, lt-leb}
use Rattle.model.specs.Lists.{all_heads, rising}
use Rattle.model.specs.Zones.{new_block}
use Rattle.std.proofs.lemmas.List.{take_rest}
use Rattle.ranges.proofs.Listed.{laid_row}
use Rattle.ranges.proofs.lists_ok.Goals.{then-na-le3, else-na-le3, then-blocks_new, else-blocks_new, then-is_rising, else-is_rising}
use Rattle.ranges.proofs.lists_ok.Goals as goal

pub returns-then-pointer-ge-FIRST : goal.returns-then-pointer-ge-FIRST
returns-then-pointer-ge-FIRST c =
    let a = c.args in
    let v1 : c.if-na-le3.value ≡ (leb a.na 3 && all_heads (new_block a.g) [] a.list.now) =
    elim c.if-na-le3.branch [
      | then-na-le3 w ↦ w.value-is ∙ rw (le-leb _ _ w.if-na-le3.true) w.blocks_new.ensures
      | else-na-le3 w ↦ w.value-is ∙ rw (lt-leb _ _ w.if-na-le3.false)
    ] in
    let v2 : c.if-blocks_new.value ≡ ((leb a.na 3 && all_heads (new_block a.g) [] a.list.now) && rising (drop (a.na + a.nu) a.list.now)) =
    elim c.if-blocks_new.branch [
      | then-blocks_new w ↦ w.value-is ∙ rw (← v1, w.if-blocks_new.true) (w.is_rising.ensures ∙ ap rising (take_rest a.list.now (a.na + a.nu)))
      | else-blocks_new w ↦ w.value-is ∙ rw (← v1, w.if-blocks_new.false)
    ] in
    let v3 : c.if-is_rising.value ≡ (((leb a.na 3 && all_heads (new_block a.g) [] a.list.now) && rising (drop (a.na + a.nu) a.list.now)) && leb 2 a.pointer) =
    elim c.if-is_rising.branch [
      | then-is_rising w ↦ w.value-is ∙ rw (← v2, w.if-is_rising.true)
      | else-is_rising w ↦ w.value-is ∙ rw (← v2, w.if-is_rising.false)
    ] in
    rw (laid_row a.g a.list.now a.na a.nu a.pointer c.requires, ← v3, c.if-pointer-ge-FIRST.true, c.from.ensures)

pub returns-else-pointer-ge-FIRST : goal.returns-else-pointer-ge-FIRST
returns-else-pointer-ge-FIRST c =
    let a = c.args in
    let v1 : c.if-na-le3.value ≡ (leb a.na 3 && all_heads (new_block a.g) [] a.list.now) =
    elim c.if-na-le3.branch [
      | then-na-le3 w ↦ w.value-is ∙ rw (le-leb _ _ w.if-na-le3.true) w.blocks_new.ensures
      | else-na-le3 w ↦ w.value-is ∙ rw (lt-leb _ _ w.if-na-le3.false)
    ] in
    let v2 : c.if-blocks_new.value ≡ ((leb a.na 3 && all_heads (new_block a.g) [] a.list.now) && rising (drop (a.na + a.nu) a.list.now)) =
    elim c.if-blocks_new.branch [
      | then-blocks_new w ↦ w.value-is ∙ rw (← v1, w.if-blocks_new.true) (w.is_rising.ensures ∙ ap rising (take_rest a.list.now (a.na + a.nu)))
      | else-blocks_new w ↦ w.value-is ∙ rw (← v1, w.if-blocks_new.false)
    ] in
    let v3 : c.if-is_rising.value ≡ (((leb a.na 3 && all_heads (new_block a.g) [] a.list.now) && rising (drop (a.na + a.nu) a.list.now)) && leb 2 a.pointer) =
    elim c.if-is_rising.branch [
      | then-is_rising w ↦ w.value-is ∙ rw (← v2, w.if-is_rising.true)
      | else-is_rising w ↦ w.value-is ∙ rw (← v2, w.if-is_rising.false)
    ] in
    c.if-pointer-ge-FIRST.false ∙ rw (laid_row a.g a.list.now a.na a.nu a.pointer c.requires, ← v3, c.if-pointer-ge-FIRST.false)
