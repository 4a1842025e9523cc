-- `recover::apply` meets its contract: the zone lists are read, and what they list is scanned. Assumes nothing.
use mathlib.Core.Path.{◌∙◌}
use native.Mathlib.Omega.{arith}
use Rattle.recover.proofs.Entries.{zone_fits, zone_long}
use Rattle.recover.proofs.Lists.{counts, counted, scannable}
use Rattle.recover.proofs.Plans.{bad_page_law, recovers}
use Rattle.recover.proofs.apply.Goals as goal

pub zones_in-zones-requires : goal.zones_in-zones-requires
zones_in-zones-requires c = let a = c.args in counts a.g a.array.now a.map.now a.k c.requires.0 a.z.now a.entries.now c.requires.1

pub word32-floor-requires : goal.word32-floor-requires
word32-floor-requires c =
    let a = c.args in
    let l = zone_long a.g a.array.now a.map.now a.k c.requires.0 a.z.now a.entries.now c.requires.1 in
    omega arith

pub scan_order-order-requires : goal.scan_order-order-requires
scan_order-order-requires c =
    let a = c.args in
    counted a.g a.array.now a.map.now a.k c.requires.0 a.z.now a.entries.now c.requires.1 c.zones_in-zones.result c.zones_in-zones.ensures

pub scan_blocks-requires : goal.scan_blocks-requires
scan_blocks-requires c =
    let a = c.args in
    scannable a.g a.array.now a.map.now a.k c.requires.0 a.z.now a.entries.now c.requires.1 c.zones_in-zones.result c.zones_in-zones.ensures c.as_slice.result.now (c.as_slice.ensures ∙ c.scan_order-order.ensures)

pub number_at-requires : goal.number_at-requires
number_at-requires c =
    let a = c.args in
    let f = zone_fits a.g a.array.now a.map.now a.k c.requires.0 in
    omega arith

pub returns-in_err-top : goal.returns-in_err-top
returns-in_err-top c =
    let a = c.args in
    let order = c.as_slice.ensures ∙ c.scan_order-order.ensures in
    rw c.from_residual.ensures
    (λ s. bad_page_law a.g s a.array.now a.map.now a.k a.z.now a.entries.now c.requires.1 c.zones_in-zones.result c.zones_in-zones.ensures c.word32-floor.result
    c.word32-floor.ensures _ order _ (rw c.in_err-top.was at c.scan_blocks.ensures))

pub returns : goal.returns
returns c =
    let a = c.args in
    let order = c.as_slice.ensures ∙ c.scan_order-order.ensures in
    λ s r er. recovers a.g s a.array.now a.map.now a.k a.z.now a.entries.now c.requires.1 c.zones_in-zones.result c.zones_in-zones.ensures c.word32-floor.result
    c.word32-floor.ensures _ order _ c.in_ok-top.top (rw c.in_ok-top.was at c.scan_blocks.ensures) c.max.result c.number_at.result c.max.ensures c.number_at.ensures r er
