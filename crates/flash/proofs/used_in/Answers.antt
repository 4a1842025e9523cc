-- `flash::used_in` meets its contract: all pages less the clean ones are those up to the last that is not erased, by `used_le`. Assumes nothing.
use Prim.Native.Nat.{◌*◌}
use native.Mathlib.Omega.{arith}
use Rattle.model.specs.Zones.{used_in}
use Rattle.arrays.specs.Used.{used_le}
use Rattle.flash.proofs.used_in.Goals as goal

pub returns : goal.returns
unfolding used_in
returns c =
    let a = c.args in
    let u = used_le a.array.now (a.b * a.pages) a.pages in
    (omega arith, omega arith)
