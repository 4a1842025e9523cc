-- `encoding::put_places` meets its contract. The loop's invariant: the first i places are laid. Assumes nothing.
use Rattle.std.proofs.Common.{rules, arith}
use Rattle.encoding.specs.Encoding.{place_bytes}
use Rattle.encoding.proofs.Placed.{each_none, each_next, each_end}
use Rattle.encoding.proofs.put_places.Goals as goal

pub loop-i-init : goal.loop-i-init
loop-i-init c = (search rules, each_none place_bytes _ _ c.args.places.now (omega arith))

pub loop-i-preserved : goal.loop-i-preserved
loop-i-preserved c = (search rules, each_next place_bytes 325 _ _ _ c.loop-i.invariant.1 (omega arith) c.put_place.ensures)

pub returns : goal.returns
returns c = each_end place_bytes 325 8 c.args.places.now c.loop-i.invariant.1 (omega arith) (search rules)
