-- `frame::frame_ok` meets its contract: where the work is looked at, geometry, lengths and front were passed. Assumes nothing.
use mathlib.Core.Bool.{true}
use mathlib.Core.Path.{◌≡◌, sym, ◌∙◌}
use Prim.Native.Nat.{◌<◌}
use native.Mathlib.Omega.{arith}
use Rattle.model.specs.Geometry.{geometry_ok, lengths_ok}
use Rattle.arrays.specs.Tests.{and_left, and_right}
use Rattle.arrays.specs.Ranges.{lengths_in}
use Rattle.frame.proofs.frame_ok.Goals as goal

pub work_ok-requires : goal.work_ok-requires
work_ok-requires c =
    let a = c.args in
    let g = a.s.now.geometry in
    let lent : c.lent_ok.result ≡ true = grind arith in
    let front : a.s.now.front < 2 = grind arith in
    let both = sym c.lent_ok.ensures ∙ lent in
    let shape = and_left (geometry_ok g) (lengths_ok g a.array.now a.map.now a.hold.now) both in
    let lengths = lengths_in g a.array.now a.map.now a.hold.now (and_right (geometry_ok g) (lengths_ok g a.array.now a.map.now a.hold.now) both) in
    (record { shape = shape; bytes = lengths.array }, front)
