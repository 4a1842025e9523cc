-- `frame::places_ok` meets its contract. The loop's invariant: the places before the `i`-th are in range, and none shares an identifier with a later one. Assumes nothing.
use mathlib.Core.Path.{◌≡◌}
use lib.ListN.{drop}
use Rattle.model.specs.Lists.{all_tails}
use Rattle.frame.proofs.Places.{place_among}
use Rattle.frame.proofs.places_ok.Given as goal

abbrev pub invariant-loop-i : goal.invariant-loop-i
invariant-loop-i l = all_tails (place_among l.g) l.ps ≡ all_tails (place_among l.g) (drop l.i l.ps)
