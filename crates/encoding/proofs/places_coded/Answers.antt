-- `encoding::places_coded` meets its contract. The loop's invariant: the test of the first places. Assumes nothing.
use Rattle.std.proofs.Common.{rules, refl}
use Rattle.encoding.specs.Encoding.{places_coded}
use Rattle.encoding.proofs.Coded.{places_more}
use Rattle.encoding.proofs.places_coded.Goals as goal

pub loop-place-init : goal.loop-place-init
unfolding places_coded
loop-place-init c = (search rules, refl)

pub loop-place-preserved : goal.loop-place-preserved
loop-place-preserved c = (search rules, places_more _ _ _ _ c.loop-place.invariant.1 c.drops_coded-coded.ensures)
