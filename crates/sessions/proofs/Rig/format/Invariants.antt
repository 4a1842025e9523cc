-- `Rig::format` meets its contract. The loop's invariant: the strides that are left lead where all ten do. Assumes nothing.
use mathlib.Core.Path.{◌≡◌}
use Prim.Native.Nat.{◌-◌}
use Rattle.model.specs.Sessions.{small, strides}
use Rattle.sessions.specs.Text.{world_of}
use Rattle.sessions.proofs.Rig.format.Given as goal

abbrev pub invariant-loop : goal.invariant-loop
invariant-loop l = strides small (10 - l.counter) (world_of l.self) ≡ strides small 10 (world_of l.initial.self)
