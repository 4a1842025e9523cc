-- `ranges::entries_ok` meets its contract. The loop's invariant: the entries before the next pass, and the flags hold the pages that they name. Assumes nothing.
use mathlib.Core.Path.{◌≡◌}
use mathlib.Core.List.{[]}
use lib.ListN.{length, take, drop}
use Rattle.model.specs.Lists.{all_heads}
use Rattle.ranges.specs.Ranges.{entry_within}
use Rattle.ranges.proofs.Seen.{Marks}
use Rattle.ranges.proofs.entries_ok.Given as goal

abbrev pub invariant-loop-x : goal.invariant-loop-x
invariant-loop-x l =
    (length l.seen ≡ 8192)
    × (Marks 8192 l.seen (take l.x-index l.map) × (all_heads (entry_within l.lo l.hi) [] l.map ≡ all_heads (entry_within l.lo l.hi) (take l.x-index l.map) (drop l.x-index l.map)))
