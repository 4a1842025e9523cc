-- `recover::recover_from` meets its contract: the map entries and the zone page's data are read, and refusal 3 passes them or not. Assumes nothing.
use mathlib.Core.Path.{ap, sym, ◌∙◌}
use Prim.Native.Nat.{ℕ, ◌*◌}
use native.Mathlib.Omega.{arith}
use lib.ListN.{replicate}
use lib.Seq.{length-take-le}
use Rattle.recover.proofs.Entries.{maps_most, maps_fit, zone_fits, first_small, length_kept, kept_fit}
use Rattle.recover.proofs.Plans.{entries_refused, zones_refused, loaded}
use Rattle.recover.proofs.recover_from.Goals as goal

pub load_map-requires : goal.load_map-requires
load_map-requires c =
    let a = c.args in
    let e = c.map_pages-m.ensures in
    let m = maps_most c.args.g c.args.array.now c.args.map.now c.args.k c.requires in
    let f = maps_fit a.g a.array.now a.map.now a.k c.requires in
    (omega arith, omega arith)

pub slice_bounds-entries-end : goal.slice_bounds-entries-end
slice_bounds-entries-end c =
    let a = c.args in
    let e = c.map_pages-m.ensures in
    let f = maps_fit a.g a.array.now a.map.now a.k c.requires in
    kept_fit a.array.now _ a.k c.map_pages-m.result c.load_map.ensures (omega arith)

pub slice_bounds-entries_ok-end : goal.slice_bounds-entries_ok-end
slice_bounds-entries_ok-end c =
    let a = c.args in
    let e = c.map_pages-m.ensures in
    let f = maps_fit a.g a.array.now a.map.now a.k c.requires in
    sym (length_kept a.array.now _ a.k c.map_pages-m.result c.load_map.ensures (omega arith))

pub entries_ok-requires : goal.entries_ok-requires
entries_ok-requires c =
    let a = c.args in
    let e = c.map_pages-m.ensures in
    let f = maps_fit a.g a.array.now a.map.now a.k c.requires in
    record { shape = c.requires.shape; all = length_kept a.array.now _ a.k c.map_pages-m.result c.load_map.ensures (omega arith) ∙ ap (λ (m : ℕ). 256 * m) e }

pub returns-then-not-entries_ok : goal.returns-then-not-entries_ok
returns-then-not-entries_ok c =
    let a = c.args in
    rw (c.refused.ensures.0, c.refused.ensures.1)
    (entries_refused a.g a.s a.array.now a.map.now a.k c.requires c.map_pages-m.result c.map_pages-m.ensures _ c.load_map.ensures c.entries_ok.result
    c.entries_ok.ensures c.if-not-entries_ok.true)

pub slice_bounds-zone_page_ok-end : goal.slice_bounds-zone_page_ok-end
slice_bounds-zone_page_ok-end c =
    let a = c.args in
    let e = c.map_pages-m.ensures in
    let f = zone_fits a.g a.array.now a.map.now a.k c.requires in
    omega arith

pub returns-then-not-zone_page_ok : goal.returns-then-not-zone_page_ok
returns-then-not-zone_page_ok c =
    let a = c.args in
    rw (c.refused-then-not-zone_page_ok.ensures.0, c.refused-then-not-zone_page_ok.ensures.1)
    (zones_refused a.g a.s a.array.now a.map.now a.k c.requires c.map_pages-m.result c.map_pages-m.ensures _ c.load_map.ensures c.entries_ok.result
    c.entries_ok.ensures c.if-not-entries_ok.false c.zone_page_ok.result c.zone_page_ok.ensures c.if-not-zone_page_ok.true)

pub slice_bounds-apply-end : goal.slice_bounds-apply-end
slice_bounds-apply-end c =
    let a = c.args in
    let e = c.map_pages-m.ensures in
    let f = zone_fits a.g a.array.now a.map.now a.k c.requires in
    omega arith

pub slice_bounds-entries-end-2 : goal.slice_bounds-entries-end-2
slice_bounds-entries-end-2 c =
    let a = c.args in
    let e = c.map_pages-m.ensures in
    let f = maps_fit a.g a.array.now a.map.now a.k c.requires in
    kept_fit a.array.now _ a.k c.map_pages-m.result c.load_map.ensures (omega arith)

pub slice_bounds-apply-end-2 : goal.slice_bounds-apply-end-2
slice_bounds-apply-end-2 c =
    let a = c.args in
    let e = c.map_pages-m.ensures in
    let f = maps_fit a.g a.array.now a.map.now a.k c.requires in
    sym (length_kept a.array.now _ a.k c.map_pages-m.result c.load_map.ensures (omega arith))

pub apply-requires : goal.apply-requires
apply-requires c =
    let a = c.args in (
      c.requires,
      loaded a.g a.s a.array.now a.map.now a.k c.requires c.map_pages-m.result c.map_pages-m.ensures _ c.load_map.ensures c.entries_ok.result
          c.entries_ok.ensures c.if-not-entries_ok.false c.zone_page_ok.result c.zone_page_ok.ensures c.if-not-zone_page_ok.false,
    )

pub recovered-requires : goal.recovered-requires
recovered-requires c = let a = c.args in (c.requires.shape, first_small a.g a.array.now a.map.now a.k c.requires)
