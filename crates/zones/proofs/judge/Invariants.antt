-- `zones::judge` meets its contract. The loop's invariant: of the blocks before the next, those that hold a page which is wanted are listed. Assumes nothing.
use mathlib.Core.Path.{◌≡◌}
use lib.ListN.{take}
use Rattle.model.specs.Lists.{those}
use Rattle.zones.specs.Judging.{holds_by}
use Rattle.zones.proofs.judge.Given as goal

abbrev pub invariant-loop-b : goal.invariant-loop-b
invariant-loop-b l = l.kept ≡ those (holds_by l.array l.pages l.ids l.near) (take l.b-index l.bs)
