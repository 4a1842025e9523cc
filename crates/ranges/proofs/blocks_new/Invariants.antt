-- `ranges::blocks_new` meets its contract. The loop's invariant: the blocks before the next pass, and the flags hold them. Assumes nothing.
use mathlib.Core.Path.{◌≡◌}
use mathlib.Core.List.{[]}
use lib.ListN.{length, take, drop}
use Rattle.model.specs.Lists.{all_heads}
use Rattle.ranges.proofs.Seen.{Marks, new_within}
use Rattle.ranges.proofs.blocks_new.Given as goal

abbrev pub invariant-loop-b : goal.invariant-loop-b
invariant-loop-b l =
    (length l.seen ≡ 128)
    × (Marks 128 l.seen (take l.b-index l.list) × (all_heads (new_within l.hi) [] l.list ≡ all_heads (new_within l.hi) (take l.b-index l.list) (drop l.b-index l.list)))
