-- The zone lists' counts.
use Rattle.std.specs.Prelude.{◌+◌, ◌≤◌}
use Rattle.model.specs.declared.Zones.{Zones}

-- the counts of the zone lists are in range
pub record Counted (z : Zones) : Type 0 where
  pub available : z.na ≤ 3
  pub all : z.na + (z.nu + z.nf) ≤ 126
