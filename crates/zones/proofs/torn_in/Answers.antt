-- `zones::torn_in` meets its contract. The loop's invariant: the torn pages counted with those of the blocks that are left are all. Assumes nothing.
use native.Mathlib.Omega.{arith}
use Rattle.zones.proofs.Torn.{block_torn, blocks_torn}
use Rattle.zones.proofs.torn_in.Goals as goal

pub overflow_add-torn : goal.overflow_add-torn
overflow_add-torn c =
    let f = c.requires.0.few in
    let h = c.block_torn-torn.ensures.1 in
    omega (arith, c.loop-b.invariant.0, c.requires.1)

pub loop-b-preserved : goal.loop-b-preserved
loop-b-preserved c =
    let a = c.args in
    let h = rw c.from.ensures at c.block_torn-torn.ensures in
    let b = block_torn a.array.now a.pages a.bs.now c.loop-b.b-index c.loop-b-test.true in
    (omega (arith, c.loop-b.invariant.0, h.1, c.requires.1), omega (arith, c.loop-b.invariant.1, h.0))

pub returns : goal.returns
returns c =
    let a = c.args in
    let b = blocks_torn a.array.now a.pages a.bs.now c.loop-b.b-index c.loop-b-test.false in
    omega (arith, c.loop-b.invariant.1)
