-- `text::put_list` meets its contract: item by item. Assumes nothing.
use native.Mathlib.Omega.{arith}
use lib.Seq.{length-take-le}
use Rattle.text.proofs.Lists.{items_start, items_again, items_done}
use Rattle.text.proofs.put_list.Goals as goal

pub loop-i-init : goal.loop-i-init
loop-i-init g c = items_start _ c.args.list.now c.args.out.now c.args.at

pub put_item-end-requires : goal.put_item-end-requires
put_item-end-requires g c = let p = c.loop-i.invariant.put in omega (arith, p.far, p.same, length-take-le c.loop-i.i c.args.list.now)

pub loop-i-preserved : goal.loop-i-preserved
loop-i-preserved g c = items_again _ c.args.list.now _ _ c.loop-i-test.true c.index-list-i.is c.into.ensures c.loop-i.invariant c.put_item-end.ensures

pub returns : goal.returns
returns g c = items_done _ c.args.list.now (omega arith) c.loop-i.invariant
