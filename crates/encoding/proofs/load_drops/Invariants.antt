-- `encoding::load_drops` meets its contract. The loop's invariant: the first i drops stand in the list. Assumes nothing.
use Rattle.std.proofs.Common.{ℕ, ◌+◌, ◌≤◌, length}
use Rattle.model.specs.Lists.{part}
use Rattle.encoding.specs.Encoding.{drops_from}
use Rattle.page.proofs.Taken.{Filling}
use Rattle.encoding.proofs.load_drops.Given as goal

abbrev pub invariant-loop-i : goal.invariant-loop-i
invariant-loop-i l = (l.at + 64 ≤ length l.from) × Filling (λ (j : ℕ). drops_from (part l.at j l.from)) 64 l.i l.drop-items
