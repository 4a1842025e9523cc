-- `bokuhira::bokuhira_read` meets its contract: of a state, by what the device answers. Assumes nothing.
use native.Mathlib.Omega.{arith}
use Rattle.bokuhira.proofs.Calls.{uncoded, coded, read_unmet, read_refused, mapped, read_done}
use Rattle.bokuhira.proofs.bokuhira_read.Goals as goal

pub returns-then-not-encodes : goal.returns-then-not-encodes
returns-then-not-encodes c =
    let g = c.args in
    read_unmet g.lpn g.array.now g.map.now g.hold.now g.state.now _ (uncoded _ c.encodes.result c.encodes.ensures c.if-not-encodes.true)

pub device-requires : goal.device-requires
device-requires c = coded _ c.encodes.result c.encodes.ensures c.if-not-encodes.false

pub returns-then-n-ne0 : goal.returns-then-n-ne0
returns-then-n-ne0 c =
    let g = c.args in
    read_refused g.lpn g.array.now g.map.now g.hold.now g.state.now _ _ _ _ _ (coded _ c.encodes.result c.encodes.ensures c.if-not-encodes.false) c.device.ensures c.read.ensures c.number-n.ensures c.if-n-ne0.true

pub bounds-map-from : goal.bounds-map-from
bounds-map-from c = rw c.from.ensures (mapped c.args.lpn _ _ _ _ c.read.ensures c.number-n.ensures c.if-n-ne0.false)

pub overflow_mul-at : goal.overflow_mul-at
overflow_mul-at c = omega (arith, c.type_inv.map c.args.lpn)

pub returns : goal.returns
returns c =
    let g = c.args in
    read_done g.lpn g.array.now g.map.now g.hold.now g.state.now _ _ _ _ _ _ (coded _ c.encodes.result c.encodes.ensures c.if-not-encodes.false) c.device.ensures c.read.ensures c.number-n.ensures c.if-n-ne0.false (rw (c.from-2.ensures, c.from.ensures))
