-- `recovery::redo` meets its contract, return by return. Assumes nothing.
use mathlib.Core.Path.{sym}
use native.Mathlib.Omega.{arith}
use Rattle.model.specs.Zones.{scan_in}
use Rattle.recovery.proofs.Redoing.{redo_none, redo_all}
use Rattle.recovery.proofs.redo.Goals as goal

pub returns-then-highest-floor : goal.returns-then-highest-floor
returns-then-highest-floor c =
    let a = c.args in
    sym (redo_none a.g.planes a.floor (scan_in a.array.now a.g.pages a.bs.now) a.map.now (omega (arith, c.requires.1, c.if-highest-floor.true)))

pub returns : goal.returns
returns c =
    let a = c.args in
    redo_all a.g.planes a.floor 1024 a.map.now a.array.now a.g.pages a.bs.now a.changes.now a.notes.now a.other.now (λ i. (c.type_inv.array i).fits) c.requires.0 c.requires.0.few _ _ c.enter_all.ensures
