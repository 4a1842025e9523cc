-- `zerotable::zero_count` meets its contract: a byte has at most 8 ones. Assumes nothing.
use native.Mathlib.Omega.{arith}
use lib.Count.{ones-le}
use Rattle.zerotable.proofs.zero_count.Goals as goal

pub overflow_sub-result : goal.overflow_sub-result
overflow_sub-result c = ones-le 8 c.args.x (omega arith)
