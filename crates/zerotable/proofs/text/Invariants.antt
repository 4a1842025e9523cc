-- `zerotable::text` meets its contract. The loop's invariant: the lines put and those from value x on are all. Assumes nothing.
use mathlib.Core.Path.{◌≡◌}
use mathlib.Core.List.{◌++◌}
use Prim.Native.Nat.{◌-◌, ◌*◌, ◌≤◌}
use lib.ListN.{length, take}
use Rattle.table.specs.Counts.{counts}
use Rattle.zerotable.specs.Text.{lines_of}
use Rattle.zerotable.proofs.text.Given as goal

abbrev pub invariant-loop-x : goal.invariant-loop-x
invariant-loop-x l = (l.x ≤ 256) × ((l.end ≤ 21 * l.x) × ((l.end ≤ length l.out) × (take l.end l.out ++ lines_of (counts l.x (256 - l.x)) ≡ lines_of (counts 0 256))))
