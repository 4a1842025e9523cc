-- `checkpoint::maps_at` meets its contract. The loop's invariant: the first `i` pages are as they should be. Assumes nothing.
use mathlib.Core.Path.{◌≡◌}
use Prim.Native.Nat.{◌+◌, ◌-◌}
use Rattle.model.specs.Checkpoint.{maps_at}
use Rattle.checkpoint.proofs.maps_at.Given as goal

abbrev pub invariant-loop-i : goal.invariant-loop-i
invariant-loop-i l = maps_at l.array l.k 0 l.c l.m ≡ maps_at l.array (l.k + l.i) l.i l.c (l.m - l.i)
