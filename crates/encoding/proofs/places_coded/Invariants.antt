-- `encoding::places_coded` meets its contract. The loop's invariant: the test of the first places. Assumes nothing.
use Rattle.std.proofs.Common.{◌≡◌, length}
use Rattle.encoding.specs.Encoding.{places_coded}
use Rattle.encoding.proofs.places_coded.Given as goal

abbrev pub invariant-loop-place : goal.invariant-loop-place
invariant-loop-place l = (length l.from ≡ 2881) × (l.coded ≡ places_coded l.from l.place)
