-- A refusal does nothing and keeps everything, whatever the command; a read never changes anything; a recover does nothing to the array.
use Rattle.std.specs.Prelude.{ℕ, ◌≡◌, refl, Bool, true, false, cond, List, eqb}
use Rattle.std.proofs.Math.Path.{ap}
use Rattle.std.proofs.lemmas.Bool.{false≢true}
use Rattle.model.specs.Answers.{refused}
use Rattle.model.specs.World.{World, Op, none, Plan, refuse, apply_op}
use Rattle.model.specs.Order.{Check, first_number, checked}
use Rattle.model.specs.Transactions.{plan_begin, plan_write, plan_drop, plan_lone, plan_commit, has_held, begin_checks, write_checks, drop_checks, lone_checks, commit_checks, abort_checks}
use Rattle.model.specs.Transactions.{plan_abort, write_plan, lone_plan, mark_plan, forget_plan}
use Rattle.model.specs.Strides.{plan_checkpoint, plan_reclaim, plan_format, map_stride, zone_stride, page_stride, other_stride, first_stride, copies_due, checkpoint_checks, reclaim_checks, format_checks}
use Rattle.model.specs.Strides.{checkpoint_stride, copy_stride, free_stride, reclaim_stride, format_more, format_last, format_stride}
use Rattle.model.specs.Recover.{plan_recover, recover_plan, page_taken, recover_checks}
use Rattle.model.specs.Commands.{Call, format, recover, begin, write, drop_page, lone, commit, abort, read, checkpoint, reclaim, plan, carried, exec}
use Rattle.model.specs.declared.Geometry.{Geometry}
use Rattle.model.specs.declared.State.{State}
use Rattle.model.specs.declared.Work.{Work}
use Rattle.model.specs.declared.Work.TheVariants.{Idle, Format, Checkpoint, Reclaim}

-- the plan, if it refuses, is no more than the refusal
pub record Keeps (w : World) (p : Plan) : Type 0 where
  pub same : refused p.answer ≡ true → p ≡ refuse w p.answer

module _ (w : World) where
  keeps_refuse : (n : ℕ) → Keeps w (refuse w n)
  keeps_refuse n = record { same = λ h. refl }

  keeps_cond : (b : Bool) {p q : Plan} → Keeps w p → Keeps w q → Keeps w (cond b p q)
  keeps_cond true hp hq = hp
  keeps_cond false hp hq = hq

  keeps_checks : (cs : List Check) {p : Plan} → Keeps w p → Keeps w (checked cs w p)
  keeps_checks cs hp = keeps_cond (eqb (first_number cs) 0) hp (keeps_refuse (first_number cs))

  keeps_done : {o : Op} {m h : List ℕ} {s : State} → Keeps w (record { answer = 0; op = o; map = m; hold = h; state = s })
  unfolding refused
  keeps_done = record { same = λ h. absurd (false≢true h) }

  keeps_more : {o : Op} {m h : List ℕ} {s : State} → Keeps w (record { answer = 255; op = o; map = m; hold = h; state = s })
  unfolding refused
  keeps_more = record { same = λ h. absurd (false≢true h) }

  keeps_begin : (id : ℕ) → Keeps w (plan_begin id w)
  unfolding plan_begin
  keeps_begin id = keeps_checks (begin_checks id w) keeps_done

  keeps_write : (id lpn : ℕ) (d : List ℕ) → Keeps w (plan_write id lpn d w)
  unfolding plan_write write_plan
  keeps_write id lpn d = keeps_checks (write_checks id lpn d w) keeps_done

  keeps_drop : (id lpn : ℕ) → Keeps w (plan_drop id lpn w)
  unfolding plan_drop write_plan
  keeps_drop id lpn = keeps_checks (drop_checks id lpn w) keeps_done

  keeps_lone : (lpn : ℕ) (d : List ℕ) → Keeps w (plan_lone lpn d w)
  unfolding plan_lone lone_plan
  keeps_lone lpn d = keeps_checks (lone_checks lpn d w) keeps_done

  keeps_commit : (id : ℕ) → Keeps w (plan_commit id w)
  unfolding plan_commit forget_plan mark_plan
  keeps_commit id = keeps_checks (commit_checks id w) (keeps_cond (has_held id w) keeps_done keeps_done)

  keeps_abort : (id : ℕ) → Keeps w (plan_abort id w)
  unfolding plan_abort forget_plan
  keeps_abort id = keeps_checks (abort_checks id w) keeps_done

  keeps_page : (q i : ℕ) → Keeps w (page_stride q i w)
  unfolding page_stride map_stride zone_stride
  keeps_page q i = search (keeps_cond, keeps_done, keeps_more)

  keeps_stride : (k : Work) → Keeps w (checkpoint_stride w k)
  unfolding checkpoint_stride first_stride other_stride
  keeps_stride Idle = search (keeps_cond, keeps_more, keeps_page)
  keeps_stride (Format k) = keeps_refuse 17
  keeps_stride (Checkpoint k) = keeps_page _ k
  keeps_stride Reclaim = keeps_refuse 17

  keeps_checkpoint : Keeps w (plan_checkpoint w)
  unfolding plan_checkpoint
  keeps_checkpoint = keeps_checks (checkpoint_checks w) (keeps_stride w.state.work)

  keeps_reclaim : Keeps w (plan_reclaim w)
  unfolding plan_reclaim reclaim_stride free_stride copy_stride
  keeps_reclaim = keeps_checks (reclaim_checks w) (keeps_cond (eqb (copies_due w) 0) keeps_done keeps_more)

  keeps_format : (g : Geometry) → Keeps w (plan_format g w)
  unfolding plan_format format_stride format_more format_last
  keeps_format g = keeps_checks (format_checks g w) (search (keeps_cond, keeps_done, keeps_more) depth 9)

  keeps_recover : (g : Geometry) → Keeps w (plan_recover g w)
  unfolding plan_recover recover_plan
  keeps_recover g = keeps_checks (recover_checks g w) keeps_done

  pub keeps_plan : (c : Call) → Keeps w (plan c w)
  unfolding plan
  keeps_plan (format g) = keeps_format g
  keeps_plan (recover g) = keeps_recover g
  keeps_plan (begin id) = keeps_begin id
  keeps_plan (write id lpn d) = keeps_write id lpn d
  keeps_plan (drop_page id lpn) = keeps_drop id lpn
  keeps_plan (lone lpn d) = keeps_lone lpn d
  keeps_plan (commit id) = keeps_commit id
  keeps_plan (abort id) = keeps_abort id
  keeps_plan (read lpn) = keeps_refuse _
  keeps_plan checkpoint = keeps_checkpoint
  keeps_plan reclaim = keeps_reclaim

  -- a refused call leaves the world as it was
  pub refused_same : (c : Call) → refused (exec c w).answer ≡ true → (exec c w).world ≡ w
  unfolding exec carried apply_op
  refused_same c h = ap (λ (p : Plan). (carried p w).world) ((keeps_plan c).same h)

-- so does a read, done or refused
pub read_same : (lpn : ℕ) (w : World) → (exec (read lpn) w).world ≡ w
unfolding exec plan carried apply_op
read_same lpn w = refl

-- ---- recover "programs nothing"
pub recover_none : (g : Geometry) (w : World) → (plan (recover g) w).op ≡ none
unfolding plan plan_recover recover_plan
recover_none g w = go (eqb (first_number (recover_checks g w)) 0)
  where
    go : (t : Bool) → (cond t (recover_plan g (page_taken g w) w) (refuse w (first_number (recover_checks g w)))).op ≡ none
    go true = refl
    go false = refl
