-- `flash::clean_short` meets its contract. The loop's invariant: what the blocks from the `b-index`-th on leave of `due` is what all blocks leave of `least`. Assumes nothing.
use mathlib.Core.Path.{◌≡◌}
use Prim.Native.Nat.{◌-◌, ◌≤◌}
use lib.ListN.{length, drop}
use Rattle.model.specs.Zones.{clean_in}
use Rattle.flash.proofs.clean_short.Given as goal

abbrev pub invariant-loop-b : goal.invariant-loop-b
invariant-loop-b l = (l.b-index ≤ length l.blocks) × (l.due - clean_in l.array l.pages (drop l.b-index l.blocks) ≡ l.least - clean_in l.array l.pages l.blocks)
