-- No command but format and recover alters the geometry; a page that a write programs alters the last plane alone.
use Rattle.std.specs.Prelude.{◌≡◌, Bool, cond, ℕ, List, eqb}
use Rattle.std.proofs.Math.Path.{refl}
use Rattle.std.proofs.Math.Bool.{true, false}
use Rattle.model.specs.World.{World, Op, Plan, refuse}
use Rattle.model.specs.Order.{Check, first_number, checked}
use Rattle.model.specs.Transactions.{with_place, with_version, plan_begin, plan_write, plan_drop, plan_lone, plan_commit, plan_abort, place_with, has_held, begin_checks, write_checks, drop_checks, lone_checks, commit_checks, abort_checks}
use Rattle.model.specs.Transactions.{write_plan, lone_plan, mark_plan, forget_plan, with_last, taking, held_state}
use Rattle.model.specs.Strides.{with_work, with_zones, with_number, plan_checkpoint, plan_reclaim, map_stride, zone_stride, page_stride, copies_due, checkpoint_checks, reclaim_checks}
use Rattle.model.specs.Strides.{other_stride, first_stride, checkpoint_stride, copy_stride, free_stride, reclaim_stride}
use Rattle.model.specs.declared.State.{State}
use Rattle.model.specs.declared.Place.{Place}
use Rattle.model.specs.declared.Work.{Work}
use Rattle.model.specs.declared.Work.TheVariants.{Idle, Format, Checkpoint, Reclaim}

-- the plan keeps the geometry
pub record SameShape (w : World) (p : Plan) : Type 0 where
  pub same : p.state.geometry ≡ w.state.geometry

module _ (w : World) where
  same_refuse : (n : ℕ) → SameShape w (refuse w n)
  same_refuse n = record { same = refl }

  same_cond : (b : Bool) {p q : Plan} → SameShape w p → SameShape w q → SameShape w (cond b p q)
  same_cond true hp hq = hp
  same_cond false hp hq = hq

  same_checks : (cs : List Check) {p : Plan} → SameShape w p → SameShape w (checked cs w p)
  same_checks cs hp = same_cond (eqb (first_number cs) 0) hp (same_refuse (first_number cs))

  same_done : {a : ℕ} {o : Op} {m h : List ℕ} {s : State} → s.geometry ≡ w.state.geometry
      → SameShape w (record { answer = a; op = o; map = m; hold = h; state = s })
  same_done e = record { same = e }

  pub same_begin : (id : ℕ) → SameShape w (plan_begin id w)
  unfolding plan_begin with_place
  same_begin id = same_checks (begin_checks id w) (same_done refl)

  -- a field that is not the last plane
  pub held_same : {A : Type 0} (of : State → A) (p : Place) → of (taking w) ≡ of w.state → of (held_state w p) ≡ of w.state
  unfolding held_state
  held_same of p e = go (eqb p.count 0)
    where
      go : (t : Bool) → of (cond t w.state (taking w)) ≡ of w.state
      go true = refl
      go false = e

  pub held_shape : (p : Place) → (held_state w p).geometry ≡ w.state.geometry
  unfolding with_last
  held_shape p = held_same (λ (s : State). s.geometry) p refl

  pub same_write : (id lpn : ℕ) (d : List ℕ) → SameShape w (plan_write id lpn d w)
  unfolding plan_write write_plan with_place
  same_write id lpn d = same_checks (write_checks id lpn d w) (same_done (held_shape (place_with id w)))

  pub same_drop : (id lpn : ℕ) → SameShape w (plan_drop id lpn w)
  unfolding plan_drop write_plan with_place
  same_drop id lpn = same_checks (drop_checks id lpn w) (same_done (held_shape (place_with id w)))

  pub same_lone : (lpn : ℕ) (d : List ℕ) → SameShape w (plan_lone lpn d w)
  unfolding plan_lone lone_plan with_version with_last
  same_lone lpn d = same_checks (lone_checks lpn d w) (same_done refl)

  pub same_commit : (id : ℕ) → SameShape w (plan_commit id w)
  unfolding plan_commit forget_plan mark_plan with_place with_version with_last
  same_commit id = same_checks (commit_checks id w) (same_cond (has_held id w) (same_done refl) (same_done refl))

  pub same_abort : (id : ℕ) → SameShape w (plan_abort id w)
  unfolding plan_abort forget_plan with_place
  same_abort id = same_checks (abort_checks id w) (same_done refl)

  same_page : (q i : ℕ) → SameShape w (page_stride q i w)
  unfolding page_stride map_stride zone_stride with_work with_zones with_number
  same_page q i = search (same_cond, same_done)

  same_stride : (k : Work) → SameShape w (checkpoint_stride w k)
  unfolding checkpoint_stride first_stride other_stride with_work
  same_stride Idle = search (same_cond, same_done, same_page)
  same_stride (Format k) = same_refuse 17
  same_stride (Checkpoint k) = same_page _ k
  same_stride Reclaim = same_refuse 17

  pub same_checkpoint : SameShape w (plan_checkpoint w)
  unfolding plan_checkpoint
  same_checkpoint = same_checks (checkpoint_checks w) (same_stride w.state.work)

  pub same_reclaim : SameShape w (plan_reclaim w)
  unfolding plan_reclaim reclaim_stride free_stride copy_stride with_work with_zones with_version with_last
  same_reclaim = same_checks (reclaim_checks w) (same_cond (eqb (copies_due w) 0) (same_done refl) (same_done refl))
