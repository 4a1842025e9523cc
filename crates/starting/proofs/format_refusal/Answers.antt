-- `starting::format_refusal` meets its contract: geometry and lengths, then its own work under way. Assumes nothing.
use Rattle.model.specs.World.{World}
use Rattle.starting.proofs.Starts.{format_not_lent, format_sized, format_bad_work, format_passes}
use Rattle.starting.proofs.format_refusal.Goals.{then-not-lent_ok-via-then-not-lent_ok, then-not-lent_ok-via-else-not-lent_ok+then-not-work_ok}
use Rattle.starting.proofs.format_refusal.Goals as goal

pub work_ok-requires : goal.work_ok-requires
work_ok-requires c =
    let a = c.args in
    let w : World = record { array = a.array.now; map = a.map.now; hold = a.hold.now; state = a.s } in
    format_sized a.g w _ c.lent_ok.ensures c.if-not-lent_ok.false

pub returns-then-not-lent_ok : goal.returns-then-not-lent_ok
returns-then-not-lent_ok c =
    let a = c.args in
    let w : World = record { array = a.array.now; map = a.map.now; hold = a.hold.now; state = a.s } in
    elim c.then-not-lent_ok.branch [
      | then-not-lent_ok-via-then-not-lent_ok b ↦ format_not_lent a.g w _ c.lent_ok.ensures b.if-not-lent_ok.true
      | then-not-lent_ok-via-else-not-lent_ok+then-not-work_ok b ↦ format_bad_work a.g w _ c.lent_ok.ensures b.if-not-lent_ok.false _ (b.work_ok.ensures a.map.now a.hold.now) b.if-not-work_ok.true
    ]

pub returns : goal.returns
returns c =
    let a = c.args in
    let w : World = record { array = a.array.now; map = a.map.now; hold = a.hold.now; state = a.s } in
    format_passes a.g w _ c.lent_ok.ensures c.if-not-lent_ok.false _ (c.work_ok.ensures a.map.now a.hold.now) c.if-not-work_ok.false
