-- After power-up anything stands in the state's bytes. A recover looks at none of them: it answers the same whatever they are, and where it is
-- done, all that the caller has then is the same. Assumes nothing.
use Rattle.std.specs.Prelude.{ℕ, ◌≡◌, true, List, length}
use Rattle.std.proofs.Math.Path.{refl, ap}
use Rattle.std.proofs.Common.{sym, ◌∙◌, inl, inr}
use borrow.Author.Tests.{eq-eqb}
use Rattle.model.specs.Lists.{all}
use Rattle.model.specs.Answers.{refused}
use Rattle.model.specs.World.{World, Plan, refuse, apply_op}
use Rattle.model.specs.Order.{first_number, checked}
use Rattle.model.specs.Frame.{lent_ok}
use Rattle.model.specs.Recover.{recover_plan, plan_recover, page_taken, recover_checks}
use Rattle.model.specs.Commands.{recover, Outcome, plan, carried, exec}
use Rattle.model.specs.declared.Geometry.{Geometry}
use Rattle.model.specs.declared.State.{State}
use Rattle.arrays.specs.Tests.{Is, eqb_cases}
use Rattle.arrays.specs.Order.{numbered, table_refuses, first_known}
use Rattle.bokuhira.specs.Calls.{Result, world_of, result_of, start_from, sized, started}

-- ---- a recover with either of two states
module _ (g : Geometry) (xs map hold bs : List ℕ) (s t : State) where
  abbrev w : World
  w = world_of xs map hold s

  abbrev v : World
  v = world_of xs map hold t

  -- two plans that leave the caller the same, carried out each on its world
  record Same (p q : Plan) : Type 0 where
    is : result_of bs (carried p w) ≡ result_of bs (carried q v)

  -- refusals 1 to 4 keep the bytes; what a recovery makes hangs on the array alone
  same_refuse : (n : ℕ) → refused n ≡ true → Same (refuse w n) (refuse v n)
  unfolding result_of carried apply_op
  same_refuse n e = record { is = rw e refl }

  same_recover : (k : ℕ) → Same (recover_plan g k w) (recover_plan g k v)
  unfolding recover_plan result_of carried
  same_recover k = record { is = refl }

  -- nor do the checks look at the state
  same_plan : Same (plan_recover g w) (plan_recover g v)
  unfolding plan_recover lent_ok numbered all
  same_plan = go (eqb_cases (first_number (recover_checks g w)) 0)
    where
      go : Is (first_number (recover_checks g w)) 0 → Same (checked (recover_checks g w) w (recover_plan g (page_taken g w) w)) (checked (recover_checks g v) v (recover_plan g (page_taken g w) v))
      go (inl q) = rw q.1 (same_recover (page_taken g w))
      go (inr q) = rw q.1 (same_refuse _ (table_refuses _ (first_known (recover_checks g w) refl q.0)))

  pub blind : result_of bs (exec (recover g) w) ≡ result_of bs (exec (recover g) v)
  unfolding exec plan
  blind = same_plan.is

-- where it is done, nothing of the bytes stays
stored : (bs cs : List ℕ) (o : Outcome) → o.answer ≡ 0 → result_of bs o ≡ result_of cs o
unfolding result_of refused
stored bs cs o e = rw e

-- ---- the laws
module _ (g : Geometry) (xs map hold bs cs : List ℕ) (h : length bs ≡ 2881) (k : length cs ≡ 2881) where
  same_answer : (exec (recover g) (world_of xs map hold (start_from g bs))).answer ≡ (exec (recover g) (world_of xs map hold (start_from g cs))).answer
  unfolding result_of
  same_answer = ap (λ (r : Result). r.answer) (blind g xs map hold bs (start_from g bs) (start_from g cs))

  pub any_bytes_answer : (started recover g xs map hold bs).answer ≡ (started recover g xs map hold cs).answer
  unfolding started sized result_of
  any_bytes_answer = rw (eq-eqb _ _ h, eq-eqb _ _ k) same_answer

  pub any_bytes : (started recover g xs map hold bs).answer ≡ 0 → started recover g xs map hold bs ≡ started recover g xs map hold cs
  unfolding started sized result_of
  any_bytes = rw (eq-eqb _ _ h, eq-eqb _ _ k) (λ e. blind g xs map hold bs (start_from g bs) (start_from g cs) ∙ stored bs cs _ (sym same_answer ∙ e))
