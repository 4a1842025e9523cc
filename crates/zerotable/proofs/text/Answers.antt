-- `zerotable::text` meets its contract. The loop's invariant: the lines put and those from value x on are all. Assumes nothing.
use mathlib.Core.Path.{refl, sym, ap, ◌∙◌}
use mathlib.Core.List.{[]}
use native.Mathlib.Omega.{arith}
use lib.Seq.{length-take-le}
use Rattle.lines.specs.Text.{number_line}
use Rattle.text.proofs.Putting.{put_is}
use Rattle.zerotable.proofs.Printing.{lines_again, lines_done}
use Rattle.zerotable.proofs.text.Goals as goal

pub loop-x-init : goal.loop-x-init
loop-x-init c = (omega arith, (omega arith, (omega arith, refl)))

pub number_line-end-requires : goal.number_line-end-requires
number_line-end-requires c = omega arith

pub loop-x-preserved : goal.loop-x-preserved
loop-x-preserved c =
    let p = c.number_line-end.ensures in
    (omega arith, (omega (arith, p.far), (omega (arith, p.far, p.same), lines_again _ c.loop-x-test.true c.loop-x.invariant.1.1.1 (put_is (ap (number_line []) (c.from.ensures ∙ c.zero_count.ensures)) p))))

pub returns : goal.returns
returns c =
    let l = c.loop-x in
    let n = l.invariant.1.1.0 in
    (lines_done _ l.out l.x l.end (omega arith) l.invariant.1.1.1, (n, sym (length-take-le l.end l.out n)))
