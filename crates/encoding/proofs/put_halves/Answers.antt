-- `encoding::put_halves` meets its contract. The loop's invariant: the first i numbers are laid. Assumes nothing.
use Rattle.std.proofs.Common.{rules, arith, refl}
use Rattle.model.specs.Bytes.{bytes16}
use Rattle.encoding.proofs.Laid.{laid_sets}
use Rattle.encoding.proofs.Placed.{each_none, each_next, each_end}
use Rattle.encoding.proofs.put_halves.Goals as goal

pub loop-i-init : goal.loop-i-init
loop-i-init c = (search rules, each_none bytes16 _ _ c.args.list.now (omega arith))

pub loop-i-preserved : goal.loop-i-preserved
loop-i-preserved c =
    let s = c.loop-i.invariant.1.same in
    (search rules, each_next bytes16 2 _ _ _ c.loop-i.invariant.1 (omega arith) (laid_sets (bytes16 _) c.put16.ensures (omega arith)))

pub returns : goal.returns
returns c = each_end bytes16 2 _ c.args.list.now c.loop-i.invariant.1 (omega arith) refl
