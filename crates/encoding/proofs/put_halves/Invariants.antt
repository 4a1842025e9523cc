-- `encoding::put_halves` meets its contract. The loop's invariant: the first i numbers are laid. Assumes nothing.
use Rattle.std.proofs.Common.{◌+◌, ◌*◌, ◌≤◌, length, take}
use Rattle.model.specs.Bytes.{bytes16}
use Rattle.encoding.specs.Encoding.{each, Laid}
use Rattle.encoding.proofs.put_halves.Given as goal

abbrev pub invariant-loop-i : goal.invariant-loop-i
invariant-loop-i l = (l.at + 2 * length l.list ≤ length l.initial.to) × Laid l.initial.to l.at (2 * l.i) (each bytes16 (take l.i l.list)) l.to
