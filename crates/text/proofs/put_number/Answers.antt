-- `text::put_number` meets its contract: by the digits that `io` gives. Assumes nothing.
use mathlib.Core.Path.{sym}
use native.Mathlib.Omega.{arith}
use lib.Seq.{length-take-le}
use Rattle.text.proofs.Decimals.{few_digits, put_digits}
use Rattle.text.proofs.put_number.Goals as goal

pub put-requires : goal.put-requires
put-requires c = omega (arith, few_digits c.decimal-k.new.out c.decimal-k.result c.args.n c.ranges.n.fits c.decimal-k.ensures.len (sym (length-take-le c.decimal-k.result c.decimal-k.new.out c.decimal-k.ensures.in_bounds.0)))

pub returns : goal.returns
returns c = put_digits c.decimal-k.new.out c.ranges.n.fits (sym (length-take-le c.decimal-k.result c.decimal-k.new.out c.decimal-k.ensures.in_bounds.0)) c.decimal-k.ensures.len c.decimal-k.ensures.digits c.put.ensures
