-- `zones::slide` meets its contract: what stays, what leaves and is kept, and the refill make the zones. Assumes nothing.
use mathlib.Core.Path.{◌≡◌, refl, ap, ◌∙◌}
use mathlib.Core.List.{◌++◌}
use native.Mathlib.Omega.{arith}
use Rattle.model.specs.Zones.{Taken, available_of, unavailable_of, scan_in, staying, leaving, judged, zones_taken, refill, slide}
use Rattle.arrays.specs.Ranges.{geometry_in}
use Rattle.refill.proofs.Taking.{taken_of, refill_fits}
use Rattle.zones.proofs.Listed.{ready_listed, available_within}
use Rattle.zones.proofs.Sliding.{slide_fits, slide_leaving}
use Rattle.zones.proofs.Wanted.{judged_by}
use Rattle.zones.proofs.slide.Goals as goal

pub shared_ref_as_front-parted : goal.shared_ref_as_front-parted
shared_ref_as_front-parted c =
    let k = (ready_listed _ _ _ c.requires).few in
    let f = c.from.ensures in
    omega arith

pub parted-stay-requires : goal.parted-stay-requires
parted-stay-requires c =
    let l = (geometry_in _ c.requires.shape).pages_least in
    let f = c.from-pages.ensures in
    (rw (c.from-pages.ensures, c.from.ensures) (available_within _ _ _ c.requires), omega arith)

pub judged-kept-requires : goal.judged-kept-requires
judged-kept-requires c =
    rw (c.as_slice.ensures, c.as_slice-2.ensures, c.parted-stay.ensures.0, c.parted-stay.ensures.1, c.from-pages.ensures, c.from.ensures)
    (slide_leaving c.args.g c.args.array.now c.args.z c.requires)

pub free-requires : goal.free-requires
free-requires c =
    let k = (ready_listed _ _ _ c.requires).counts in
    omega arith

pub refill-requires : goal.refill-requires
refill-requires c =
    let e = rw (c.from-pages.ensures, c.from.ensures) at c.parted-stay.ensures.0 in
    rw (taken_of _ _ _ _ c.args.z.pointer c.args.z.pointer e c.free.ensures refl) (slide_fits c.args.g c.args.array.now c.args.z c.requires)

pub zones-requires : goal.zones-requires
zones-requires c =
    let e = rw (c.from-pages.ensures, c.from.ensures) at c.parted-stay.ensures.0 in
    rw (c.refill.ensures, taken_of _ _ _ _ c.args.z.pointer c.args.z.pointer e c.free.ensures refl) ((refill_fits c.args.g 3 _ (slide_fits c.args.g c.args.array.now c.args.z c.requires)).few)

pub returns : goal.returns
unfolding slide
returns c =
    let g = c.args.g in
    let z = c.args.z in
    let xs = c.args.array.now in
    let e = rw (c.from-pages.ensures, c.from.ensures) at c.parted-stay.ensures in
    let near = scan_in xs g.pages (staying xs g.pages (available_of z)) in
    let k : c.judged-kept.result ≡ judged xs g.pages c.args.places near (unavailable_of z ++ leaving xs g.pages (available_of z)) =
    c.judged-kept.ensures
    ∙ rw (c.as_slice.ensures, c.as_slice-2.ensures, e.0, e.1, c.from-pages.ensures, c.ids_of-ids.ensures) (judged_by c.args.places near xs g.pages (unavailable_of z ++ leaving xs g.pages (available_of z))) in
    c.zones.ensures
    ∙ rw (k, c.refill.ensures)
    (ap (λ (t : Taken). zones_taken (judged xs g.pages c.args.places near (unavailable_of z ++ leaving xs g.pages (available_of z))) (refill g 3 t)) (taken_of _ _ _ _ z.pointer z.pointer e.0 c.free.ensures refl))
