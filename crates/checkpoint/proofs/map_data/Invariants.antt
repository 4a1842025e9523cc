-- `checkpoint::map_data` meets its contract. The loop's invariant: the first bytes are those of `j` entries. Assumes nothing.
use mathlib.Core.Path.{◌≡◌}
use Prim.Native.Nat.{◌*◌}
use lib.ListN.{length, take}
use Rattle.model.specs.Checkpoint.{map_bytes}
use Rattle.checkpoint.proofs.map_data.Given as goal

abbrev pub invariant-loop-j : goal.invariant-loop-j
invariant-loop-j l = record {
  page : length l.d ≡ 512;
  stored : take (2 * l.j) l.d ≡ map_bytes l.map (256 * l.i) l.j;
}
