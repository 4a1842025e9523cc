-- `bokuhira::bokuhira_format` meets its contract: of as many bytes as a state has, by what the device replies. Assumes nothing.
use Rattle.model.specs.Commands.{format}
use Rattle.bokuhira.proofs.Calls.{unstarted, long, start_met}
use Rattle.bokuhira.proofs.bokuhira_format.Goals as goal

pub returns-then-not-sized : goal.returns-then-not-sized
returns-then-not-sized c =
    let g = c.args in
    unstarted format (record { blocks = g.blocks; pages = g.pages; logical = g.logical; planes = g.planes }) g.array.now g.map.now g.hold.now g.state.now c.sized.result c.sized.ensures c.if-not-sized.true

pub starting-requires : goal.starting-requires
starting-requires c = long _ c.sized.result c.sized.ensures c.if-not-sized.false

pub finish-requires : goal.finish-requires
finish-requires c = long _ c.sized.result c.sized.ensures c.if-not-sized.false

pub returns : goal.returns
returns c =
    let g = c.args in
    start_met format (record { blocks = g.blocks; pages = g.pages; logical = g.logical; planes = g.planes }) g.array.now g.map.now g.hold.now g.state.now _ _ _ _ _ _ _ _ (long _ c.sized.result c.sized.ensures c.if-not-sized.false) c.starting.ensures c.format-r.ensures c.finish.ensures
