-- `reporting::torn_pages` meets its contract: the blocks in scan order, which lie in the array, are looked through. Assumes nothing.
use mathlib.Core.Path.{ap, ◌∙◌}
use Rattle.model.specs.Zones.{torn_in, torn_of}
use Rattle.reporting.proofs.torn_pages.Goals as goal

pub scan_order-order-requires : goal.scan_order-order-requires
scan_order-order-requires c = c.requires.counts

pub torn_in-requires : goal.torn_in-requires
torn_in-requires c =
    let p = c.requires in
    (rw (c.as_slice.ensures, c.scan_order-order.ensures) p.blocks, p.short)

pub returns : goal.returns
unfolding torn_of
returns c =
    let a = c.args in
    c.torn_in.ensures ∙ ap (torn_in a.array.now a.s.now.geometry.pages) (c.as_slice.ensures ∙ c.scan_order-order.ensures)
