-- `sessions::list` meets its contract: length by length. Assumes nothing.
use mathlib.Core.Path.{sym}
use native.Mathlib.Omega.{arith}
use lib.Seq.{length-take-le}
use borrow.Author.Rules.{rules}
use Rattle.sessions.proofs.Lines.{sizes_start, sizes_again, sizes_done, text_longer, power_start, power_next, power_most}
use Rattle.sessions.proofs.list.Goals as goal

pub loop-n-init : goal.loop-n-init
loop-n-init c = (omega arith, (power_start, sizes_start c.args.out.now))

pub put_lines-requires : goal.put_lines-requires
put_lines-requires c =
    let l = c.loop-n in
    (omega arith, (search rules, omega (arith, l.invariant.0)))

pub returns-in_err-end : goal.returns-in_err-end
returns-in_err-end c =
    let l = c.loop-n in
    rw c.from_residual.ensures
    (text_longer l.n l.count l.out c.put_lines.new.out l.end c.in_err-end.ensures c.loop-n-test.true l.invariant.1.0 l.invariant.0 l.invariant.1.1)

pub overflow_mul-count : goal.overflow_mul-count
overflow_mul-count c =
    let l = c.loop-n in
    omega (arith, l.invariant.1.0, power_most l.n (omega arith))

pub loop-n-preserved : goal.loop-n-preserved
loop-n-preserved c =
    let l = c.loop-n in
    let a = sizes_again l.n l.count l.out c.put_lines.new.out l.end c.in_ok-end.end c.in_ok-end.ensures c.loop-n-test.true l.invariant.1.0 l.invariant.1.1 in
    (a.0, (power_next l.n l.count l.invariant.1.0, a.1))

pub returns : goal.returns
returns c =
    let l = c.loop-n in
    (sizes_done l.n l.out l.end c.loop-n-test.false l.invariant.1.1, (l.invariant.0, sym (length-take-le l.end l.out l.invariant.0)))
