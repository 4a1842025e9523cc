-- `sessions::put_lines` meets its contract: session by session. Assumes nothing.
use native.Mathlib.Omega.{arith}
use lib.ListN.{take}
use Rattle.sessions.proofs.Lines.{lines_start, lines_again, lines_done, all_longer}
use Rattle.sessions.proofs.put_lines.Goals as goal

pub loop-k-init : goal.loop-k-init
loop-k-init c = let a = c.args in (omega (arith, c.requires.1.0, c.requires.1.1), lines_start a.n a.count (take a.at a.out.now))

pub returns-then-out-end : goal.returns-then-out-end
returns-then-out-end c =
    let l = c.loop-k in
    all_longer l.out _ c.args.out.now _ l.end c.args.at 29696 l.invariant.0 (omega (arith, c.requires.1.0, c.requires.1.1)) l.invariant.1
    (omega (arith, c.if-out-end.true, c.requires.1.0))

pub loop-k-preserved : goal.loop-k-preserved
loop-k-preserved c =
    let p = c.put_session-end.ensures in (
      omega (arith, p.far, p.same, c.requires.1.0, c.if-out-end.false),
      lines_again c.args.n c.loop-k.k c.args.count _ c.loop-k-test.true c.loop-k.invariant.1 p,
    )

pub returns : goal.returns
returns c =
    let l = c.loop-k in
    let a = c.args in
    (lines_done a.n l.k a.count _ l.out l.end (omega arith) l.invariant.1, l.invariant.0)
