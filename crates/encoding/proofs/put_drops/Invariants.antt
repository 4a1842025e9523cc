-- `encoding::put_drops` meets its contract. The loop's invariant: the first i drops are laid. Assumes nothing.
use Rattle.std.proofs.Common.{◌+◌, ◌≤◌, length, take}
use Rattle.encoding.specs.Encoding.{drop_bytes, Laid}
use Rattle.encoding.proofs.put_drops.Given as goal

abbrev pub invariant-loop-i : goal.invariant-loop-i
invariant-loop-i l = (l.at + length l.list ≤ length l.initial.to) × Laid l.initial.to l.at l.i (take l.i (drop_bytes l.list)) l.to
