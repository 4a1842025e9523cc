-- `lines::value` meets its contract: byte by byte. Assumes nothing.
use mathlib.Core.Path.{sym, ◌∙◌}
use Prim.Native.Nat.{◌+◌}
use native.Mathlib.Omega.{arith}
use Rattle.lines.proofs.Parsing.{value_short, value_bare, value_end, value_long, value_other, value_large, value_more, rest_is}
use Rattle.lines.proofs.value.Goals as goal
use Rattle.lines.proofs.value.Goals.{then-i-ge5-via-then-i-ge5, then-i-ge5-via-else-i-ge5+then-not-is_ascii_digit}

pub returns-then-i-eq0 : goal.returns-then-i-eq0
returns-then-i-eq0 c = sym (value_bare c.args.text.now c.loop-i.v c.loop-i.i c.loop-i-test.true c.if-x-eq10.true c.if-i-eq0.true) ∙ c.loop-i.invariant

pub returns-else-i-eq0 : goal.returns-else-i-eq0
returns-else-i-eq0 c =
    rw (rest_is c.args.text.now (c.loop-i.i + 1)) (sym (value_end c.args.text.now c.loop-i.v c.loop-i.i c.loop-i-test.true c.if-x-eq10.true c.if-i-eq0.false) ∙ c.loop-i.invariant)

pub returns-then-i-ge5 : goal.returns-then-i-ge5
returns-then-i-ge5 c = elim c.then-i-ge5.branch [
  | then-i-ge5-via-then-i-ge5 w ↦ sym (value_long c.args.text.now c.loop-i.v c.loop-i.i c.loop-i-test.true c.if-x-eq10.false w.if-i-ge5.true) ∙ c.loop-i.invariant
  | then-i-ge5-via-else-i-ge5+then-not-is_ascii_digit w ↦
      sym (value_other c.args.text.now c.loop-i.v c.loop-i.i c.loop-i-test.true c.if-x-eq10.false w.if-not-is_ascii_digit.ensures.cases) ∙ c.loop-i.invariant
]

pub returns-in_err-checked_mul : goal.returns-in_err-checked_mul
returns-in_err-checked_mul c =
    let h = c.in_err-checked_mul.ensures in
    rw c.from_residual.ensures (sym (value_large c.args.text.now c.loop-i.v c.loop-i.i c.loop-i-test.true c.if-x-eq10.false (omega (arith, h))) ∙ c.loop-i.invariant)

pub returns-in_err-v : goal.returns-in_err-v
returns-in_err-v c =
    let h = c.in_err-v.ensures in
    let k = c.in_ok-checked_mul.ensures.1 in
    rw c.from_residual-in_err-v.ensures (sym (value_large c.args.text.now c.loop-i.v c.loop-i.i c.loop-i-test.true c.if-x-eq10.false (omega (arith, h, k, c.from.ensures))) ∙ c.loop-i.invariant)

pub loop-i-preserved : goal.loop-i-preserved
loop-i-preserved c =
    let h = c.in_ok-v.ensures in
    let k = c.in_ok-checked_mul.ensures.1 in
    sym (value_more c.args.text.now c.loop-i.v c.loop-i.i c.loop-i-test.true c.if-x-eq10.false c.in_ok-v.v c.if-i-ge5.false c.if-not-is_ascii_digit.ensures.cases
    (omega (arith, h, k, c.from.ensures)) (omega (arith, h))) ∙ c.loop-i.invariant

pub returns : goal.returns
returns c = sym (value_short c.args.text.now c.loop-i.v c.loop-i.i (omega arith)) ∙ c.loop-i.invariant
