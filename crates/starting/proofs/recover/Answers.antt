-- `starting::recover` meets its contract: 1 for geometry and lengths, 2 where no checkpoint is complete (`refused_as`), then the recovery from the newest (`carried_as`).
-- Assumes nothing. `at` is where the lengths were looked at.
use mathlib.Core.Path.{ap}
use Rattle.model.specs.World.{World}
use Rattle.model.specs.Commands.{recover}
use Rattle.checkpoint.specs.Found.{found_of}
use Rattle.recover.specs.Recovering.{from_plan}
use Rattle.frame.proofs.Outcomes.{refused_as, carried_as}
use Rattle.starting.proofs.Starts.{recover_not_lent, searchable, recover_none, recover_at, standing}
use Rattle.starting.proofs.recover.Goals as goal

pub returns-then-not-lent_ok : goal.returns-then-not-lent_ok
returns-then-not-lent_ok c =
    let a = c.args in
    let w : World = record { array = a.array.now; map = a.map.now; hold = a.hold.now; state = a.s } in
    refused_as w (recover a.g) 1 (recover_not_lent a.g w _ c.lent_ok.ensures c.if-not-lent_ok.true) _ _ c.refused.ensures

pub newest-requires : goal.newest-requires
newest-requires c =
    let a = c.args in
    let w : World = record { array = a.array.now; map = a.map.now; hold = a.hold.now; state = a.s } in
    searchable a.g w _ c.lent_ok.ensures c.if-not-lent_ok.false _ c.map_pages.ensures

pub recover_from-requires : goal.recover_from-requires
recover_from-requires c =
    let a = c.args in
    let w : World = record { array = a.array.now; map = a.map.now; hold = a.hold.now; state = a.s } in
    standing a.g w _ c.lent_ok.ensures c.if-not-lent_ok.false _ c.map_pages.ensures _ c.newest.ensures _
    (ap found_of c.in-Some.is)

pub returns-in-None : goal.returns-in-None
returns-in-None c =
    let a = c.args in
    let w : World = record { array = a.array.now; map = a.map.now; hold = a.hold.now; state = a.s } in
    refused_as w (recover a.g) 2
    (recover_none a.g w _ c.lent_ok.ensures c.if-not-lent_ok.false _ c.map_pages.ensures _ c.newest.ensures
    (ap found_of c.in-None.is)) _ _ c.refused-in-None.ensures

pub returns-in-Some : goal.returns-in-Some
returns-in-Some c =
    let a = c.args in
    let w : World = record { array = a.array.now; map = a.map.now; hold = a.hold.now; state = a.s } in
    carried_as w (recover a.g) (from_plan a.g c.in-Some.k w)
    (recover_at a.g w _ c.lent_ok.ensures c.if-not-lent_ok.false _ c.map_pages.ensures _ c.newest.ensures _
    (ap found_of c.in-Some.is)) _
    (c.recover_from.ensures a.hold.now)
