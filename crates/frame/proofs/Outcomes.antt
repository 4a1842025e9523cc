-- What comes of a call, in one shape for all: the first of its checks that applies leaves the world as it was; where none does, its plan is carried out.
-- Assumes nothing.
use Prim.Native.Nat.{ℕ, ◌+◌, ◌≤◌, ◌<◌}
use mathlib.Core.Path.{◌≡◌, refl, sym, ◌∙◌}
use mathlib.Core.Logic.{inl, inr}
use mathlib.Core.Bool.{true, false, cond}
use mathlib.Core.List.{List}
use lib.Dec.{eqb, ltb}
use borrow.Author.Tests.{ne_eqb, lt-ltb, le-ltb}
use native.Mathlib.Omega.{arith}
use Rattle.model.specs.Lists.{all, those}
use Rattle.model.specs.Geometry.{geometry_ok, lengths_ok}
use Rattle.model.specs.Answers.{in_table, refusal_number}
use Rattle.model.specs.World.{World, Plan, refuse, apply_op}
use Rattle.model.specs.Order.{Check, first_number, leave_out, checked}
use Rattle.model.specs.Frame.{lent_ok, frame_ok}
use Rattle.model.specs.Transactions.{place_of, begin_checks, begin_plan, plan_begin, add_plan, write_checks, plan_write, gone, drop_checks, plan_drop, lone_checks, lone_plan, plan_lone, commit_checks, commit_plan, plan_commit, abort_checks, forget_plan, plan_abort, read_checks, read_answer}
use Rattle.model.specs.Strides.{checkpoint_checks, checkpoint_stride, plan_checkpoint, reclaim_checks, reclaim_stride, plan_reclaim, format_checks, strides_done, format_stride, plan_format}
use Rattle.model.specs.Recover.{page_taken, recover_checks, recover_plan, plan_recover}
use Rattle.model.specs.Commands.{Call, format, recover, begin, write, drop_page, lone, commit, abort, read, checkpoint, reclaim, Outcome, plan, carried, exec}
use Rattle.model.specs.declared.Refusal.{Refusal}
use Rattle.model.specs.declared.State.{State}
use Rattle.answers.proofs.Refusals.{refusal_some}
use Rattle.arrays.specs.Tests.{Is, eqb_cases, and_left}
use Rattle.arrays.specs.Order.{numbered, Unless, none_applies, first_known}
use Rattle.arrays.specs.Frame.{frame_in}
use Rattle.frame.specs.Lent.{Sized}

-- the geometry and the array of a world that passes refusal 1
pub frame_sized : (w : World) → frame_ok w ≡ true → Sized w.state.geometry w.array
unfolding lent_ok
frame_sized w f =
    let g = w.state.geometry in
    let i = frame_in w f in
    record { shape = and_left (geometry_ok g) (lengths_ok g w.array w.map w.hold) i.lent; bytes = i.lengths.array }

-- ---- one shape
-- the checks of a call
abbrev pub checks_of : Call → World → List Check
checks_of (format g) w = format_checks g w
checks_of (recover g) w = recover_checks g w
checks_of (begin id) w = begin_checks id w
checks_of (write id lpn d) w = write_checks id lpn d w
checks_of (drop_page id lpn) w = drop_checks id lpn w
checks_of (lone lpn d) w = lone_checks lpn d w
checks_of (commit id) w = commit_checks id w
checks_of (abort id) w = abort_checks id w
checks_of (read lpn) w = read_checks lpn w
checks_of checkpoint w = checkpoint_checks w
checks_of reclaim w = reclaim_checks w

-- what it does where none applies
abbrev pub does_of : Call → World → Plan
does_of (format g) w = format_stride g (strides_done g w.state w.state.work) w
does_of (recover g) w = recover_plan g (page_taken g w) w
does_of (begin id) w = begin_plan id w
does_of (write id lpn d) w = add_plan id lpn false d w
does_of (drop_page id lpn) w = add_plan id lpn true gone w
does_of (lone lpn d) w = lone_plan lpn d w
does_of (commit id) w = commit_plan id w
does_of (abort id) w = forget_plan (place_of w.state.places id) w
does_of (read lpn) w = refuse w 0
does_of checkpoint w = checkpoint_stride w w.state.work
does_of reclaim w = reclaim_stride w

-- its plan is the one, then the other
one_shape : (c : Call) (w : World) → plan c w ≡ checked (checks_of c w) w (does_of c w)
unfolding plan plan_format plan_recover plan_begin plan_write plan_drop plan_lone plan_commit plan_abort read_answer plan_checkpoint plan_reclaim
one_shape (format g) w = refl
one_shape (recover g) w = refl
one_shape (begin id) w = refl
one_shape (write id lpn d) w = refl
one_shape (drop_page id lpn) w = refl
one_shape (lone lpn d) w = refl
one_shape (commit id) w = refl
one_shape (abort id) w = refl
one_shape (read lpn) w = same (first_number (read_checks lpn w)) (eqb_cases (first_number (read_checks lpn w)) 0)
  where
    same : (n : ℕ) → Is n 0 → refuse w n ≡ cond (eqb n 0) (refuse w 0) (refuse w n)
    same n (inl q) = rw q.0 refl
    same n (inr q) = rw q.1 refl
one_shape checkpoint w = refl
one_shape reclaim w = refl

-- every refusal has its number in the table
all_numbered : (c : Call) (w : World) → numbered (checks_of c w) ≡ true
unfolding numbered all leave_out those
all_numbered (format g) w = refl
all_numbered (recover g) w = refl
all_numbered (begin id) w = refl
all_numbered (write id lpn d) w = refl
all_numbered (drop_page id lpn) w = refl
all_numbered (lone lpn d) w = refl
all_numbered (commit id) w = refl
all_numbered (abort id) w = refl
all_numbered (read lpn) w = refl
all_numbered checkpoint w = refl
all_numbered reclaim w = refl

-- ---- what comes of a plan
module _ (w : World) (c : Call) where
  -- that refuses with n: the answer m, and the state t as it was
  pub refused_as : (n : ℕ) → plan c w ≡ refuse w n → (m : ℕ) (t : State) → (m ≡ n) × (t ≡ w.state)
      → ◌≡◌ {A = Outcome} (record { answer = m; world = record { array = w.array; map = w.map; hold = w.hold; state = t } }) (exec c w)
  unfolding exec carried apply_op
  refused_as n p m t q = rw (q.0, q.1, p) refl

  -- that was carried out
  pub carried_as : (p : Plan) → plan c w ≡ p → (o : Outcome) → o ≡ carried p w → o ≡ exec c w
  unfolding exec
  carried_as p q o d = rw q d

-- ---- the lemmas of every command
-- a number n that its checks give is its answer m, and the state t is as it was
pub refuses : (w : World) (c : Call) (n : ℕ) → n ≡ first_number (checks_of c w) → (n ≡ 0 → ⊥) → (m : ℕ) (t : State) → (m ≡ n) × (t ≡ w.state)
    → ◌≡◌ {A = Outcome} (record { answer = m; world = record { array = w.array; map = w.map; hold = w.hold; state = t } }) (exec c w)
refuses w c n e z = refused_as w c n (rw (one_shape c w, ← e, ne_eqb n 0 z) refl)

-- such a number stands in the table
pub refusal_known : (w : World) (c : Call) (n : ℕ) → n ≡ first_number (checks_of c w) → (n ≡ 0 → ⊥) → in_table n ≡ true
refusal_known w c n e z = rw e (first_known (checks_of c w) (all_numbered c w) (λ q. z (e ∙ q)))

module _ (w : World) (c : Call) where
  -- the same of a refusal
  pub refuses_why : (why : Refusal) → refusal_number why ≡ first_number (checks_of c w) → (m : ℕ) (t : State) → (m ≡ refusal_number why) × (t ≡ w.state)
      → ◌≡◌ {A = Outcome} (record { answer = m; world = record { array = w.array; map = w.map; hold = w.hold; state = t } }) (exec c w)
  refuses_why why e = refuses w c (refusal_number why) e (refusal_some why)

  module _ (e : 0 ≡ first_number (checks_of c w)) where
    -- where none applies
    pub passes : {B : Type 0} → Unless (checks_of c w) B → B
    passes b = none_applies (checks_of c w) (all_numbered c w) (sym e) b

    -- what the command does is carried out
    pub carries : (o : Outcome) → o ≡ carried (does_of c w) w → o ≡ exec c w
    carries = carried_as w c (does_of c w) (rw (one_shape c w, ← e) refl)

-- ---- refusal 13
pub number_spent : (v : ℕ) → 4294967294 ≤ v → ltb 4294967294 (v + 1) ≡ true
number_spent v h = lt-ltb 4294967294 (v + 1) (omega arith)

pub number_left : (v : ℕ) → v < 4294967294 → ltb 4294967294 (v + 1) ≡ false
number_left v h = le-ltb 4294967294 (v + 1) (omega arith)
