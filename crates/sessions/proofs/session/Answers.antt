-- `sessions::session` meets its contract: digit by digit, the last one first. Assumes nothing.
use mathlib.Core.Path.{refl, ◌∙◌}
use Prim.Native.Nat.{◌+◌, ◌-◌, ◌%◌}
use native.Mathlib.Omega.{arith}
use lib.ListN.{length-set}
use Rattle.sessions.proofs.Digits.{digit_again, digits_start, digits_done}
use Rattle.sessions.proofs.session.Goals as goal

pub loop-i-init : goal.loop-i-init
loop-i-init c = (refl, digits_start c.args.n _ _)

pub loop-i-preserved : goal.loop-i-preserved
loop-i-preserved c =
    let l = c.loop-i in (
      length-set l.list (l.i - 1) (l.rest % 10 + 1) ∙ l.invariant.0,
      digit_again c.args.n l.list _ l.i l.rest c.loop-i-test.true l.auto.i (omega (arith, l.invariant.0)) l.invariant.1,
    )

pub returns : goal.returns
returns c = let l = c.loop-i in digits_done c.args.n l.list _ l.i l.rest c.loop-i-test.false l.invariant.1
