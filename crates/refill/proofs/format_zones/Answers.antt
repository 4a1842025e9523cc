-- `refill::format_zones` meets its contract: the refill of no available and all free blocks, as zones. Assumes nothing.
use mathlib.Core.Path.{refl, ap, ◌∙◌}
use mathlib.Core.List.{[]}
use Rattle.model.specs.Zones.{Taken, zones_taken, refill, format_zones}
use Rattle.refill.proofs.Taking.{taken_of, refill_fits, all_free}
use Rattle.refill.proofs.format_zones.Goals as goal

pub refill-requires : goal.refill-requires
refill-requires c = rw (taken_of _ _ _ _ 2 2 c.none.ensures c.data_blocks.ensures refl) (all_free c.args.g c.requires)

pub zones-requires : goal.zones-requires
zones-requires c = rw (c.refill.ensures, taken_of _ _ _ _ 2 2 c.none.ensures c.data_blocks.ensures refl) ((refill_fits c.args.g 3 _ (all_free c.args.g c.requires)).few)

pub returns : goal.returns
unfolding format_zones
returns c =
    c.zones.ensures
    ∙ rw (c.none-2.ensures, c.refill.ensures) (ap (λ (t : Taken). zones_taken [] (refill c.args.g 3 t)) (taken_of _ _ _ _ 2 2 c.none.ensures c.data_blocks.ensures refl))
