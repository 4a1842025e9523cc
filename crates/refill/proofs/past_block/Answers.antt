-- `refill::past_block` meets its contract: a device has no block past 128. Assumes nothing.
use native.Mathlib.Omega.{arith}
use borrow.Author.Tests.{lt-ltb, le-ltb}
use Rattle.model.specs.Zones.{past_block}
use Rattle.arrays.specs.Ranges.{geometry_in}
use Rattle.refill.proofs.past_block.Goals as goal

pub overflow_add-result : goal.overflow_add-result
overflow_add-result c =
    let h = geometry_in c.args.g c.requires.0 in
    let b = h.blocks_most in
    omega arith

pub returns-then-from-g : goal.returns-then-from-g
unfolding past_block
returns-then-from-g c = simp (lt-ltb _ _ (rw c.from.ensures at c.if-from-g.true))

pub returns-else-from-g : goal.returns-else-from-g
unfolding past_block
returns-else-from-g c = simp (le-ltb _ _ (rw c.from.ensures at c.if-from-g.false))
