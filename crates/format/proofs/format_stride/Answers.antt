-- `format::format_stride` meets its contract: each return by the tests that led to it. Assumes nothing.
use mathlib.Core.Path.{◌≡◌}
use Prim.Native.Nat.{◌+◌}
use native.Mathlib.Omega.{arith}
use Rattle.model.specs.Geometry.{map_pages}
use Rattle.format.proofs.format_stride.Goals as goal

pub last_stride-requires : goal.last_stride-requires
last_stride-requires c =
    let m = c.map_pages.ensures in
    let u = c.requires.upto in
    let e : c.args.k ≡ c.args.g.blocks + map_pages c.args.g = omega arith in
    rw e at c.requires

pub returns : goal.returns
returns c =
    let m = c.map_pages.ensures in
    let u = c.requires.upto in
    let e : c.args.k ≡ c.args.g.blocks + map_pages c.args.g = omega arith in
    rw e c.last_stride.ensures
