-- `change::zone_short` meets its contract: the part of the available list that counts lies in the array, and no more than a block has is fewer than one more. Assumes nothing.
use mathlib.Core.Path.{◌∙◌}
use native.Mathlib.Numerals.{add-one}
use native.Mathlib.Omega.{arith}
use lib.Dec.{leb-suc-suc}
use Rattle.zones.proofs.Listed.{ready_listed, available_within}
use Rattle.change.proofs.zone_short.Goals as goal

pub shared_ref_as_front-available : goal.shared_ref_as_front-available
shared_ref_as_front-available c = omega (arith, (ready_listed _ _ _ c.requires).few)

pub clean_short-requires : goal.clean_short-requires
clean_short-requires c = available_within _ _ _ c.requires

pub returns : goal.returns
returns c = c.clean_short.ensures ∙ rw (add-one, leb-suc-suc)
