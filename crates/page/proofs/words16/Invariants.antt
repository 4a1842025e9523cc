-- `page::words16` meets its contract. The loop's invariant: the first i numbers are read (`Taken`). Assumes nothing.
use Prim.Native.Nat.{ℕ, ◌+◌, ◌*◌, ◌≤◌}
use lib.ListN.{length}
use Rattle.model.specs.Lists.{part}
use Rattle.model.specs.Bytes.{words}
use Rattle.page.proofs.Taken.{Filling}
use Rattle.page.proofs.words16.Given as goal

abbrev pub invariant-loop-i : goal.invariant-loop-i
invariant-loop-i l = (l.at + 2 * length l.initial.numbers ≤ length l.page) × Filling (λ (j : ℕ). words (part l.at (2 * j) l.page)) (length l.initial.numbers) l.i l.numbers
