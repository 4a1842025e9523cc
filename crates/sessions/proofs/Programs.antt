-- Whether a command that is not refused programs a page: what the state tells beforehand. Assumes nothing.
use mathlib.Core.Path.{◌≡◌, refl, sym}
use mathlib.Core.Bool.{Bool, true, false, not, cond}
use mathlib.Core.List.{List, [], ◌∷◌}
use Prim.Native.Nat.{ℕ, ◌≤◌}
use lib.Dec.{eqb}
use Rattle.model.specs.Lists.{all}
use Rattle.model.specs.Answers.{refused}
use Rattle.model.specs.World.{World, Op, none, Plan, programs}
use Rattle.model.specs.Order.{Check, checked}
use Rattle.model.specs.Transactions.{place_of, held_op, plan_begin, write_plan, add_plan, plan_write, mark_plan, forget_plan, plan_commit, plan_abort, place_with, has_held, begin_checks, begin_plan, write_checks, commit_plan, commit_checks, abort_checks}
use Rattle.model.specs.Commands.{plan, carried, exec}
use Rattle.model.specs.declared.Place.{Place}
use Rattle.model.specs.Sessions.{zeros, commands, command_of}
use Rattle.arrays.specs.Tests.{clash}
use Rattle.arrays.specs.Order.{numbered, Unless, by_checks}
use Rattle.sessions.specs.Text.{holds_page, will_program}
use Rattle.sessions.proofs.Numbers.{ten}

-- x tells of a plan, if that is no refusal, whether a page is programmed
record Tells (x : Bool) (p : Plan) : Type 0 where
  told : refused p.answer ≡ false → x ≡ programs p.op

-- what holds anyway holds where no check applies
anyway : {B : Type 0} (cs : List Check) → B → Unless cs B
unfolding Unless
anyway [] b = b
anyway (c ∷ cs) b = λ e. anyway cs b

-- of a refusal it need tell nothing: by what the command does where no check applies
tells_checked : (x : Bool) (w : World) (p : Plan) (cs : List Check) → numbered cs ≡ true → (refused p.answer ≡ false → x ≡ programs p.op) → Tells x (checked cs w p)
tells_checked x w p cs t told =
    record { told = by_checks (λ (q : Plan). refused q.answer ≡ false → x ≡ programs q.op) w p cs t (λ n r h. clash r h) (anyway cs told) }

-- ---- command by command
begin_tells : (id : ℕ) (w : World) → Tells false (plan_begin id w)
unfolding plan_begin numbered all
begin_tells id w = tells_checked false w (begin_plan id w) (begin_checks id w) refl (λ h. refl)

-- a write programs what is held
held_programs : (w : World) (i : ℕ) (p : Place) → not (eqb p.count 0) ≡ programs (held_op w i p)
unfolding held_op
held_programs w i p = go (eqb p.count 0) _ refl
  where
    go : (b : Bool) (o : Op) → programs o ≡ true → not b ≡ programs (cond b none o)
    go true o e = refl
    go false o e = sym e

write_tells : (id lpn : ℕ) (d : List ℕ) (w : World) → Tells (holds_page w.state.places id) (plan_write id lpn d w)
unfolding plan_write write_plan holds_page numbered all
write_tells id lpn d w = tells_checked (has_held id w) w (add_plan id lpn false d w) (write_checks id lpn d w) refl (λ h. held_programs w _ (place_with id w))

-- so does a commit
commit_tells : (id : ℕ) (w : World) → Tells (holds_page w.state.places id) (plan_commit id w)
unfolding plan_commit mark_plan forget_plan holds_page numbered all
commit_tells id w = tells_checked (has_held id w) w (commit_plan id w) (commit_checks id w) refl (λ h. go (has_held id w))
  where
    go : (t : Bool) → t ≡ programs (cond t (mark_plan (place_of w.state.places id) (place_with id w) w) (forget_plan (place_of w.state.places id) w)).op
    go true = refl
    go false = refl

abort_tells : (id : ℕ) (w : World) → Tells false (plan_abort id w)
unfolding plan_abort forget_plan numbered all
abort_tells id w = tells_checked false w (forget_plan (place_of w.state.places id) w) (abort_checks id w) refl (λ h. refl)

-- of each of the ten
pub program_told : (c : ℕ) → (1 ≤ c) × (c ≤ 10) → (w : World) → refused (exec (command_of c) w).answer ≡ false
    → will_program (command_of c) w.state.places ≡ programs (plan (command_of c) w).op
unfolding exec carried plan will_program
program_told c h w = (ten (λ (k : ℕ). Tells (will_program (command_of k) w.state.places) (plan (command_of k) w))
    (unfold command_of commands in begin_tells 1 w) (unfold command_of commands in begin_tells 2 w)
    (unfold command_of commands in write_tells 1 0 zeros w) (unfold command_of commands in write_tells 1 1 zeros w)
    (unfold command_of commands in write_tells 2 0 zeros w) (unfold command_of commands in write_tells 2 1 zeros w)
    (unfold command_of commands in commit_tells 1 w) (unfold command_of commands in commit_tells 2 w)
    (unfold command_of commands in abort_tells 1 w) (unfold command_of commands in abort_tells 2 w) c h).told
