-- `checkpoint::newest_from` meets its contract. The loop's invariant: `found` is the newest that starts on the first `i` pages. Assumes nothing.
use mathlib.Core.Bool.{◌&&◌}
use mathlib.Core.Path.{sym}
use Prim.Native.Nat.{◌+◌}
use native.Mathlib.Omega.{arith}
use lib.ListN.{length}
use Rattle.model.specs.Checkpoint.{complete_at, newer}
use Rattle.checkpoint.proofs.Search.{found_start, found_more, found_end, in_better}
use Rattle.checkpoint.specs.Found.{found_of}
use Rattle.checkpoint.proofs.newest_from.Goals as goal

pub loop-i-init : goal.loop-i-init
loop-i-init c =
    let a = c.args in
    record { inside = c.requires.1.1.before; newest = found_start a.array.now a.m a.k a.n (found_of a.best) }

pub better-found-requires : goal.better-found-requires
better-found-requires c = (omega arith, (omega arith, record { here = omega arith; before = c.loop-i.invariant.inside }))

pub loop-i-preserved : goal.loop-i-preserved
loop-i-preserved c =
    let a = c.args in
    let xs = a.array.now in
    let k = a.k + c.loop-i.i in
    let best = found_of c.loop-i.found in
    let next = found_of c.better-found.result in
    record {
      inside = in_better (length xs) k (complete_at xs a.m k && newer xs k best) next best c.better-found.ensures (omega arith) c.loop-i.invariant.inside;
      newest = found_more xs a.m a.k a.n c.loop-i.i best next (omega arith) c.loop-i.invariant.newest c.better-found.ensures;
    }

pub returns : goal.returns
returns c =
    let a = c.args in
    sym (found_end a.array.now a.m a.k a.n c.loop-i.i (found_of c.loop-i.found) (omega arith) c.loop-i.invariant.newest)
