-- `reclaim::with_listed` meets its contract. The loop's invariant: the table, with the blocks from the next on in it, is the whole. Assumes nothing.
use mathlib.Core.Path.{sym, ◌∙◌}
use lib.ListN.{length-set}
use Rattle.reclaim.proofs.Picking.{listed_turn, listed_end}
use Rattle.reclaim.proofs.with_listed.Goals as goal

pub loop-b-preserved : goal.loop-b-preserved
loop-b-preserved c =
    let l = c.loop-b in
    record {
      long = simp length-set l.invariant.long;
      whole = l.invariant.whole ∙ listed_turn c.args.listed.now l.table l.b-index c.loop-b-test.true;
    }

pub returns : goal.returns
returns c = sym (c.loop-b.invariant.whole ∙ listed_end c.args.listed.now c.loop-b.table c.loop-b.b-index c.loop-b-test.false)
