-- `text::put_list` meets its contract. The loop's invariant: the first items are put. Assumes nothing.
use lib.ListN.{take}
use Rattle.text.specs.Text.{PutList}
use Rattle.text.proofs.put_list.Given as goal

abbrev pub invariant-loop-i : goal.invariant-loop-i
invariant-loop-i g l = PutList g.T.Into.converts l.initial.out l.at (take l.i l.list) l.out l.end
