-- `load::load_map` meets its contract. The loop's invariant: the entries of the first `i` map pages are read. Assumes nothing.
use mathlib.Core.Path.{◌≡◌}
use Prim.Native.Nat.{◌*◌}
use lib.ListN.{take}
use Rattle.model.specs.Checkpoint.{load_map}
use Rattle.load.proofs.load_map.Given as goal

abbrev pub invariant-loop-i : goal.invariant-loop-i
invariant-loop-i l = take (256 * l.i) l.entries ≡ load_map l.array l.k l.i
