-- `change::others` meets its contract. The loop's invariant: of the blocks so far, those of the other plane are listed. Assumes nothing.
use mathlib.Core.Path.{◌≡◌}
use Prim.Native.Nat.{◌≤◌}
use lib.ListN.{length, take}
use Rattle.model.specs.Lists.{those}
use Rattle.model.specs.Zones.{other_plane}
use Rattle.change.proofs.others.Given as goal

abbrev pub invariant-loop-b : goal.invariant-loop-b
invariant-loop-b l = record {
  long : length l.room ≡ 3;
  few : l.n ≤ l.b-index;
  listed : take l.n l.room ≡ those (other_plane l.last) (take l.b-index l.available);
}
