-- What is left of the zones: one step of the refill, and which lists it may be made of.
use Rattle.std.specs.Prelude.{◌≤◌, ◌<◌, ◌≡◌, true, not, cond, ◌&&◌, length, eqb, ltb}
use Rattle.model.specs.Lists.{all}
use Rattle.model.specs.Geometry.{geometry_ok, data_block}
use Rattle.model.specs.Zones.{Taken, take_one}
use Rattle.model.specs.declared.Geometry.{Geometry}

-- one step of the refill
unfoldable pub may_take : Geometry → Taken → Taken
may_take g t = cond (ltb (length t.available) 3 && not (eqb (length t.free) 0)) (take_one g t) t

-- no more than three are available, and the free ones are data blocks of the device
pub record Fits (g : Geometry) (t : Taken) : Type 0 where
  pub shape : geometry_ok g ≡ true
  pub few : length t.available ≤ 3
  pub blocks : all (data_block g) t.free ≡ true

-- a free block is there to take, and room for it
pub record Room (g : Geometry) (t : Taken) : Type 0 where
  pub lists : Fits g t
  pub some : 0 < length t.free
  pub space : length t.available < 3
