-- `flash::next_in` meets its contract. The loop's invariant: no block before the `b-index`-th has clean pages. Assumes nothing.
use mathlib.Core.Path.{◌≡◌}
use Prim.Native.Nat.{◌≤◌}
use lib.ListN.{length, drop}
use Rattle.model.specs.Zones.{next_in}
use Rattle.flash.proofs.next_in.Given as goal

abbrev pub invariant-loop-b : goal.invariant-loop-b
invariant-loop-b l = (l.b-index ≤ length l.blocks) × (next_in l.array l.pages l.blocks ≡ next_in l.array l.pages (drop l.b-index l.blocks))
