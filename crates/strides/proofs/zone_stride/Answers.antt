-- `strides::zone_stride` meets its contract: from what its calls ensure; the zones that a checkpoint leaves fit the zone page. Assumes nothing.
use native.Mathlib.Omega.{arith}
use Rattle.strides.proofs.Within.{page_inside, fit_ready}
use Rattle.strides.proofs.Carried.{zone_strode}
use Rattle.strides.proofs.Slides.{slide_counted}
use mathlib.Core.Path.{refl}
use borrow.Author.Rules.{rules}
use Rattle.strides.proofs.zone_stride.Goals as goal

pub zone_data-d-requires : goal.zone_data-d-requires
zone_data-d-requires c = rw c.slide-z.ensures (slide_counted c.args.s.geometry c.args.array.now c.args.s.places c.args.s.zones (fit_ready _ _ _ c.requires.fit))

pub overflow_mul-k : goal.overflow_mul-k
overflow_mul-k c =
    let h = page_inside _ _ _ _ _ c.requires in
    omega arith

pub overflow_add-k : goal.overflow_add-k
overflow_add-k c =
    let h = page_inside _ _ _ _ _ c.requires in
    omega arith

pub overflow_add-k-2 : goal.overflow_add-k-2
overflow_add-k-2 c =
    let h = page_inside _ _ _ _ _ c.requires in
    omega arith

pub program_at-requires : goal.program_at-requires
program_at-requires c = ((page_inside _ _ _ _ _ c.requires).fits, search rules)

pub returns : goal.returns
returns c = zone_strode c.args.s c.args.array.now c.args.map.now c.args.q c.args.i c.requires.blank _ _ _ c.program_at.ensures _ refl _ c.slide-z.ensures c.zone_data-d.ensures _ c.map_pages.ensures c.zone_spare-spare.ensures _ _ _ c.with_work-t1.ensures c.with_zones-t2.ensures c.with_number-t3.ensures
