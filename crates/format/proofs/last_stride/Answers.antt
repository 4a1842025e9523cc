-- `format::last_stride` meets its contract: the map is made anew, the zone page programmed, and the state has its zones and number 1. Assumes nothing.
use native.Mathlib.Omega.{arith}
use lib.ListN.{length-replicate}
use Rattle.arrays.specs.Ranges.{geometry_in, maps_few}
use Rattle.format.proofs.Zones.{format_counted}
use Rattle.format.proofs.Strides.{page_in, ends}
use borrow.Author.Rules.{rules}
use Rattle.format.proofs.last_stride.Goals as goal

pub zone_data-d-requires : goal.zone_data-d-requires
zone_data-d-requires c = format_counted c.args.g c.requires.shape _ c.format_zones-z.ensures

pub zone_spare-spare-requires : goal.zone_spare-spare-requires
zone_spare-spare-requires c =
    let m = maps_few c.args.g (geometry_in c.args.g c.requires.shape) in
    let e = c.map_pages-m.ensures in
    omega arith

pub program_at-requires : goal.program_at-requires
program_at-requires c =
    let e = c.map_pages-m.ensures in
    (page_in c.args.g c.args.array.now c.args.map.now _ c.requires _ (omega arith), search rules)

pub shape_of-map : goal.shape_of-map
shape_of-map c = let e = c.blank_map.ensures in simp (e, length-replicate)

pub returns : goal.returns
returns c =
    ends c.args.g c.args.array.now c.args.map.now _ _ _ _ _ _ _ _ _ c.requires
    c.blank_map.ensures
    c.map_pages-m.ensures
    c.format_zones-z.ensures
    c.zone_data-d.ensures
    c.zone_spare-spare.ensures
    c.program_at.ensures
    c.fresh.ensures
    c.with_zones-t.ensures
    c.with_number-t2.ensures
