-- The zone lists of a format are in range: a refill leaves as many blocks listed, and all data blocks are. Assumes nothing.
use mathlib.Core.Path.{◌≡◌}
use mathlib.Core.Bool.{true}
use mathlib.Core.List.{[]}
use Prim.Native.Nat.{◌-◌}
use native.Mathlib.Omega.{arith}
use Rattle.model.specs.Lists.{up_from}
use Rattle.model.specs.Geometry.{geometry_ok}
use Rattle.model.specs.Zones.{Taken, zones_of, zones_taken, format_zones}
use Rattle.model.specs.declared.Geometry.{Geometry}
use Rattle.model.specs.declared.Zones.{Zones}
use Rattle.arrays.specs.Tests.{length_up}
use Rattle.arrays.specs.Ranges.{geometry_in}
use Rattle.blocks.specs.Blocks.{Counted}
use Rattle.refill.proofs.Taking.{refill_fits, all_free}
use Rattle.strides.proofs.Slides.{refill_same}

pub format_counted : (g : Geometry) → geometry_ok g ≡ true → (z : Zones) → z ≡ format_zones g → Counted z
unfolding format_zones zones_taken zones_of
format_counted g s z e =
    let none : Taken = record { available = []; free = up_from 2 (g.blocks - 2); pointer = 2 } in
    let h = (geometry_in g s).blocks_most in
    let few = (refill_fits g 3 none (all_free g s)).few in
    let all = refill_same g 3 none in
    let up = length_up 2 (g.blocks - 2) in
    rw e (record { available = few; all = omega arith })
