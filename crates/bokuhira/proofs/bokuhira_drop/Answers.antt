-- `bokuhira::bokuhira_drop` meets its contract: of a state, by what the device replies. Assumes nothing.
use Rattle.model.specs.Commands.{drop_page}
use Rattle.bokuhira.proofs.Calls.{uncoded, coded, coded_long, unmet, met}
use Rattle.bokuhira.proofs.bokuhira_drop.Goals as goal

pub returns-then-not-encodes : goal.returns-then-not-encodes
returns-then-not-encodes c =
    let g = c.args in
    unmet (drop_page g.id g.lpn) g.array.now g.map.now g.hold.now g.state.now (uncoded _ c.encodes.result c.encodes.ensures c.if-not-encodes.true)

pub device-requires : goal.device-requires
device-requires c = coded _ c.encodes.result c.encodes.ensures c.if-not-encodes.false

pub finish-requires : goal.finish-requires
finish-requires c = coded_long _ (coded _ c.encodes.result c.encodes.ensures c.if-not-encodes.false)

pub returns : goal.returns
returns c =
    let g = c.args in
    met (drop_page g.id g.lpn) g.array.now g.map.now g.hold.now g.state.now _ _ _ _ _ _ _ _ (coded _ c.encodes.result c.encodes.ensures c.if-not-encodes.false) c.device.ensures c.drop-r.ensures c.finish.ensures
