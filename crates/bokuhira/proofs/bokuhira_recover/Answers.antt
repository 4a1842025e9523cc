-- `bokuhira::bokuhira_recover` meets its contract: of as many bytes as a state has, by what the device replies of a fresh one. Assumes nothing.
use Rattle.model.specs.Commands.{recover}
use Rattle.bokuhira.proofs.Calls.{unstarted, long, recover_met}
use Rattle.bokuhira.proofs.bokuhira_recover.Goals as goal

pub returns-then-not-sized : goal.returns-then-not-sized
returns-then-not-sized c =
    let g = c.args in
    unstarted recover (record { blocks = g.blocks; pages = g.pages; logical = g.logical; planes = g.planes }) g.array.now g.map.now g.hold.now g.state.now c.sized.result c.sized.ensures c.if-not-sized.true

pub finish-requires : goal.finish-requires
finish-requires c = long _ c.sized.result c.sized.ensures c.if-not-sized.false

pub returns : goal.returns
returns c =
    let g = c.args in
    recover_met (record { blocks = g.blocks; pages = g.pages; logical = g.logical; planes = g.planes }) g.array.now g.map.now g.hold.now g.state.now _ _ _ _ _ _ _ _ (long _ c.sized.result c.sized.ensures c.if-not-sized.false) c.fresh.ensures c.recover-r.ensures c.finish.ensures
