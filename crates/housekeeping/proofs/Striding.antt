-- Checkpoint and reclaim: what refusal 1 leaves to a stride, and what a reclaim takes where nothing refuses it. Assumes nothing.
use Prim.Native.Nat.{ℕ}
use mathlib.Core.Path.{◌≡◌, refl}
use mathlib.Core.Bool.{true, false, not, ◌||◌}
use lib.Dec.{eqb}
use Rattle.model.specs.World.{World}
use Rattle.model.specs.Order.{first_number}
use Rattle.model.specs.Frame.{frame_ok, is_idle, work_ok}
use Rattle.model.specs.Checkpoint.{at}
use Rattle.model.specs.Transactions.{versions_spent}
use Rattle.model.specs.Strides.{is_reclaim, mapped_in, picked, copies_due, reserve_short, reclaim_checks}
use Rattle.arrays.specs.Frame.{frame_in}
use Rattle.frame.proofs.Outcomes.{frame_sized}
use Rattle.strides.specs.Strode.{Fit}
use Rattle.reclaim.specs.Copies.{looked, own_checks, Taken, Going}

-- ---- a world that passes refusal 1
module _ (w : World) (f : frame_ok w ≡ true) where
  pub frame_fit : Fit w.state w.array w.map
  frame_fit =
      record {
        shape = (frame_sized w f).shape;
        bytes = (frame_sized w f).bytes;
        entries = (frame_in w f).lengths.map;
        mapped = (frame_in w f).map;
        zones = (frame_in w f).zones;
        places = (frame_in w f).places;
        front = (frame_in w f).block;
      }

  pub frame_work : work_ok w.state w.array w.state.work ≡ true
  frame_work = (frame_in w f).work

-- ---- a reclaim that nothing refuses, which takes block b
pub block_going : (w : World) (b copies : ℕ) → picked w ≡ at b → copies ≡ mapped_in w.map w.state.geometry.pages b
    → (versions_spent (not (eqb (copies_due w) 0)) w.state.version (copies_due w)).when ≡ false → (reserve_short w).when ≡ false
    → Going w.state w.array w.map b copies
unfolding picked first_number
block_going w b copies taken due spent short =
    let v = rw (taken, ← due) at spent in
    let r = rw (taken, ← due) at short in
    record { taken = taken; due = due; passes = rw (v, r) refl }

-- a reclaim's own checks do not look at the hold
pub looked_on : (w : World) → first_number (own_checks (looked w.state w.array w.map)) ≡ first_number (own_checks w)
unfolding picked first_number
looked_on w = refl

pub taken_on : (w : World) (b copies : ℕ) → Taken (looked w.state w.array w.map) b copies → Taken w b copies
unfolding picked
taken_on w b copies t = record { block = t.block; due = t.due }
