-- A run of the C interface is a run of `model`: phase by phase the bytes are those of the state, and each step is the step of the same name.
-- Assumes nothing.
use Rattle.std.specs.Prelude.{ℕ, ◌≡◌, refl, ◌⊎◌, true, false}
use Rattle.std.proofs.Math.Path.{sym, ap, subst}
use Rattle.std.proofs.Common.{◌∙◌, inl, inr, arith}
use Rattle.std.proofs.lemmas.Bool.{false≢true}
use mathlib.Core.List.{List, []}
use Rattle.model.specs.Answers.{refused}
use Rattle.model.specs.Strides.{plan_format}
use Rattle.model.specs.Recover.{plan_recover}
use Rattle.model.specs.World.{World}
use Rattle.model.specs.Order.{first_number}
use Rattle.model.specs.Frame.{lent_ok, fresh_state}
use Rattle.model.specs.Commands.{Call, format, recover, begin, write, drop_page, lone, commit, abort, read, checkpoint, reclaim, plan, carried, exec}
use Rattle.model.specs.Book.{Event, called}
use Rattle.model.specs.Sequence.{Running, runs_after, Phase, live, dark, Allowed, is_recovery, cut_event, cut_array, early_event, early_array}
use Rattle.model.specs.Sequence.{Step, Run, Formatting, Formatted}
use Rattle.model.specs.declared.Geometry.{Geometry}
use Rattle.arrays.specs.Tests.{decide, not_so}
use Rattle.arrays.specs.Frame.{lent_lengths}
use Rattle.encoding.specs.StateBack.{Shaped}
use Rattle.bokuhira.specs.Calls.{world_of, result_of, sized}
use Rattle.archive.specs.Lent.{Lent, bokuhira, lent_in, after, takes, world_in, early_leaves, cut_leaves, cut_tells, early_tells, lent_runs}
use Rattle.archive.specs.LentRuns.{LentPhase, on, off, LentAllowed, LentStep, LentRun, strides_said, LentFormatting, LentFormatted}
use Rattle.archive.specs.Coded.{lent_of, call_does, takes_it, world_back, start_of, Does, does_answer, format_does}
use Rattle.archive.specs.Coded.{recover_does, started_on, started_sized, started_other}

-- ---- the agreement
-- what is lent is the world, its state as bytes
pub record Says (l : Lent) (w : World) : Type 0 where
  pub is : l ≡ lent_of w
  pub shaped : Shaped w.state

-- of phases: the same pages run
abbrev pub Agrees : LentPhase → Phase → Type 0
Agrees (on l rs) (live w ts) = Says l w × (rs ≡ ts)
Agrees (on l rs) (dark xs) = ⊥
Agrees (off xs) (live w ts) = ⊥
Agrees (off xs) (dark ys) = xs ≡ ys

-- they agree after a call that does what the model's does
pub does_says : (c : Call) (l : Lent) (w : World) → Does c l w → Says (after c l) (exec c w).world
does_says c l w d = record { is = ap lent_in d.is; shaped = d.shaped }

-- ---- a call where they agree
module _ (l : Lent) (w : World) (s : Says l w) where
  pub said_does : (c : Call) → Does c l w
  said_does c = subst (λ (m : Lent). Does c m w) (sym s.is) (call_does w s.shaped c)

  said_takes : (c : Call) → takes c l.bytes ≡ true
  said_takes c = ap (λ (m : Lent). takes c m.bytes) s.is ∙ takes_it w s.shaped c

  said_world : (c : Call) → world_in c l ≡ w
  said_world c = ap (world_in c) s.is ∙ world_back w s.shaped c

  -- what runs after it
  pub said_runs : (c : Call) (rs : List Running) → lent_runs c l rs ≡ runs_after c w rs
  unfolding lent_runs
  said_runs c rs = rw (said_takes c, said_world c)

  -- a cut in it, or before it does anything
  pub early_leaves_law : (rs : List Running) (parts : ℕ → List ℕ) → early_leaves l rs parts ≡ early_array w rs parts
  unfolding early_leaves world_in
  early_leaves_law rs parts = ap (λ (v : World). early_array v rs parts) (said_world checkpoint)

  pub cut_leaves_law : (c : Call) (rs : List Running) (lets : List ℕ) (parts : ℕ → List ℕ) → cut_leaves c l rs lets parts ≡ cut_array c w rs lets parts
  unfolding cut_leaves
  cut_leaves_law c rs lets parts = rw (said_takes c, said_world c)

  pub cut_tells_law : (c : Call) (rs : List Running) (lets : List ℕ) (parts : ℕ → List ℕ) → cut_tells c l rs lets parts ≡ cut_event c w rs lets parts
  unfolding cut_tells
  cut_tells_law c rs lets parts = rw (said_takes c, said_world c)

  pub early_tells_law : (c : Call) → early_tells c l ≡ early_event c w
  unfolding early_tells
  early_tells_law c = rw (said_takes c, said_world c)

-- what is allowed is the same where the answers are
allowed_is : (g : Geometry) (c : Call) (l : Lent) (w : World) → (bokuhira c l).answer ≡ (exec c w).answer → LentAllowed g c l → Allowed g c w
allowed_is g (format h) l w e a = unfold exec carried in (rw e at a)
allowed_is g (recover h) l w e a = a
allowed_is g (begin id) l w e a = tt
allowed_is g (write id lpn d) l w e a = tt
allowed_is g (drop_page id lpn) l w e a = tt
allowed_is g (lone lpn d) l w e a = tt
allowed_is g (commit id) l w e a = tt
allowed_is g (abort id) l w e a = tt
allowed_is g (read lpn) l w e a = tt
allowed_is g checkpoint l w e a = tt
allowed_is g reclaim l w e a = tt

-- ---- a recover or a format after a cut
-- a world with no hold answers 1, as a call does with bytes that are not 2,881
abbrev bare : List ℕ → World
bare xs = world_of xs [] [] (fresh_state (record { blocks = 0; pages = 0; logical = 0; planes = 0 }))

bare_lent : (g : Geometry) (xs : List ℕ) → lent_ok g (bare xs) ≡ false
bare_lent g xs = not_so (lent_ok g (bare xs)) (λ e. omega (arith, (lent_lengths g (bare xs) e).hold))

bare_refused : (c : Call) (xs : List ℕ) → is_recovery c ≡ true → (exec c (bare xs)).answer ≡ 1
unfolding exec plan carried plan_format plan_recover first_number
bare_refused (format g) xs r = rw (bare_lent g xs)
bare_refused (recover g) xs r = rw (bare_lent g xs)
bare_refused (begin id) xs r = absurd (false≢true r)
bare_refused (write id lpn d) xs r = absurd (false≢true r)
bare_refused (drop_page id lpn) xs r = absurd (false≢true r)
bare_refused (lone lpn d) xs r = absurd (false≢true r)
bare_refused (commit id) xs r = absurd (false≢true r)
bare_refused (abort id) xs r = absurd (false≢true r)
bare_refused (read lpn) xs r = absurd (false≢true r)
bare_refused checkpoint xs r = absurd (false≢true r)
bare_refused reclaim xs r = absurd (false≢true r)

-- a world of the same array on which the model's call answers the same
record Answers (c : Call) (l : Lent) : Type 0 where
  world : World
  array : world.array ≡ l.array
  same : (bokuhira c l).answer ≡ (exec c world).answer

started_answers : (c : Geometry → Call) (g : Geometry) (l : Lent) → is_recovery (c g) ≡ true → bokuhira (c g) l ≡ started_on c g l → Answers (c g) l
started_answers c g l r b = go (decide (sized l.bytes))
  where
    go : (sized l.bytes ≡ true) ⊎ (sized l.bytes ≡ false) → Answers (c g) l
    go (inl e) = record { world = start_of g l; array = refl; same = rw b (rw (started_sized c g l e) (unfold result_of in refl)) }
    go (inr e) = record { world = bare l.array; array = refl; same = rw b (started_other c g l e ∙ sym (bare_refused (c g) l.array r)) }

recovery_answers : (c : Call) (l : Lent) → is_recovery c ≡ true → Answers c l
unfolding bokuhira
recovery_answers (format g) l r = started_answers format g l r refl
recovery_answers (recover g) l r = started_answers recover g l r refl
recovery_answers (begin id) l r = absurd (false≢true r)
recovery_answers (write id lpn d) l r = absurd (false≢true r)
recovery_answers (drop_page id lpn) l r = absurd (false≢true r)
recovery_answers (lone lpn d) l r = absurd (false≢true r)
recovery_answers (commit id) l r = absurd (false≢true r)
recovery_answers (abort id) l r = absurd (false≢true r)
recovery_answers (read lpn) l r = absurd (false≢true r)
recovery_answers checkpoint l r = absurd (false≢true r)
recovery_answers reclaim l r = absurd (false≢true r)

-- ---- the steps
-- the step of the same name, and the phase that it leads to
pub record Stepped (g : Geometry) (p : Phase) (e : Event) (q : LentPhase) : Type 0 where
  pub phase : Phase
  pub step : Step g p e phase
  pub agrees : Agrees q phase

-- an answer in an event
told : {c : Call} {m n : ℕ} → m ≡ n → called c n ≡ called c m
told {c} e = ap (called c) (sym e)

pub step_is : (g : Geometry) (p : LentPhase) (e : Event) (q : LentPhase) → LentStep g p e q → (p' : Phase) → Agrees p p' → Stepped g p' e q
step_is g p e q (LentStep.call c l rs f a) (live w ts) s =
    let d = said_does l w s.0 c in
    let m = does_answer c l w d in
    record {
      phase = live (exec c w).world (runs_after c w ts);
      step = subst (λ (t : Event). Step g (live w ts) t (live (exec c w).world (runs_after c w ts))) (told m) (Step.call c w ts f (allowed_is g c l w m a));
      agrees = (does_says c l w d, said_runs l w s.0 c rs ∙ ap (runs_after c w) s.1);
    }
step_is g p e q (LentStep.cut c l rs lets parts f a) (live w ts) s =
    let m = does_answer c l w (said_does l w s.0 c) in
    let tells : cut_tells c l rs lets parts ≡ cut_event c w ts lets parts
    = cut_tells_law l w s.0 c rs lets parts ∙ ap (λ (us : List Running). cut_event c w us lets parts) s.1 in
    record {
      phase = dark (cut_array c w ts lets parts);
      step = subst (λ (t : Event). Step g (live w ts) t (dark (cut_array c w ts lets parts))) (sym tells)
          (Step.cut c w ts lets parts f (allowed_is g c l w m a));
      agrees = cut_leaves_law l w s.0 c rs lets parts ∙ ap (λ (us : List Running). cut_array c w us lets parts) s.1;
    }
step_is g p e q (LentStep.early c l rs parts f a) (live w ts) s =
    let m = does_answer c l w (said_does l w s.0 c) in
    record {
      phase = dark (early_array w ts parts);
      step = subst (λ (t : Event). Step g (live w ts) t (dark (early_array w ts parts))) (sym (early_tells_law l w s.0 c))
          (Step.early c w ts parts f (allowed_is g c l w m a));
      agrees = early_leaves_law l w s.0 rs parts ∙ ap (λ (us : List Running). early_array w us parts) s.1;
    }
step_is g p e q (LentStep.between l rs parts) (live w ts) s = record {
  phase = dark (early_array w ts parts);
  step = Step.between w ts parts;
  agrees = early_leaves_law l w s.0 rs parts ∙ ap (λ (us : List Running). early_array w us parts) s.1;
}
step_is g p e q (LentStep.back l r) (dark xs) s =
    let d = recover_does g l (unfold refused in rw r) in
    let w = start_of g l in
    record {
      phase = live (exec (recover g) w).world [];
      step = subst (λ (ys : List ℕ). Step g (dark ys) (called (recover g) 0) (live (exec (recover g) w).world [])) s
          (Step.back w (sym (does_answer (recover g) l w d) ∙ r));
      agrees = (does_says (recover g) l w d, refl);
    }
step_is g p e q (LentStep.failed c l i f a r) (dark xs) s =
    let k = recovery_answers c l i in
    let w = k.world in
    let t : Step g (dark w.array) (called c (exec c w).answer) (dark w.array)
    = Step.failed c w i f (allowed_is g c l w k.same a) (rw k.same at r) in
    record {
      phase = dark xs;
      step = subst (λ (ys : List ℕ). Step g (dark ys) (called c (bokuhira c l).answer) (dark ys)) (k.array ∙ s)
          (subst (λ (v : Event). Step g (dark w.array) v (dark w.array)) (told k.same) t);
      agrees = s;
    }
step_is g p e q (LentStep.lost c l i f a) (dark xs) s =
    let k = recovery_answers c l i in
    let w = k.world in
    record {
      phase = dark xs;
      step = subst (λ (ys : List ℕ). Step g (dark ys) e (dark ys)) (k.array ∙ s) (Step.lost c w i f (allowed_is g c l w k.same a));
      agrees = s;
    }
step_is g p e q (LentStep.again ys) (dark xs) s = record { phase = dark xs; step = Step.again xs; agrees = s }
step_is g p e q (LentStep.call c l rs f a) (dark xs) s = absurd s
step_is g p e q (LentStep.cut c l rs lets parts f a) (dark xs) s = absurd s
step_is g p e q (LentStep.early c l rs parts f a) (dark xs) s = absurd s
step_is g p e q (LentStep.between l rs parts) (dark xs) s = absurd s
step_is g p e q (LentStep.back l r) (live w ts) s = absurd s
step_is g p e q (LentStep.failed c l i f a r) (live w ts) s = absurd s
step_is g p e q (LentStep.lost c l i f a) (live w ts) s = absurd s
step_is g p e q (LentStep.again ys) (live w ts) s = absurd s

-- ---- the facts
-- a run
pub record Joined (g : Geometry) (p : Phase) (es : List Event) (q : LentPhase) : Type 0 where
  pub phase : Phase
  pub run : Run g p es phase
  pub agrees : Agrees q phase

pub run_is : (g : Geometry) (p : LentPhase) (es : List Event) (q : LentPhase) → LentRun g p es q → (p' : Phase) → Agrees p p' → Joined g p' es q
run_is g p es q (LentRun.stop r) p' s = record { phase = p'; run = Run.stop p'; agrees = s }
run_is g p es q (LentRun.next {q = r} {e = e} {es = fs} t u) p' s =
    let k = step_is g p e r t p' s in
    let j = run_is g r fs q u k.phase k.agrees in
    record { phase = j.phase; run = Run.next k.step j.run; agrees = j.agrees }

-- a format under way, and finished
pub formatting_is : (g : Geometry) (l : Lent) → LentFormatting g l → (w : World) × (Formatting g w × Says l w)
formatting_is g m (LentFormatting.first l z a) =
    let d = format_does g l (unfold refused in rw a) in
    let w = start_of g l in
    ((exec (format g) w).world, (Formatting.first w (unfold strides_said in z) (sym (does_answer (format g) l w d) ∙ a), does_says (format g) l w d))
formatting_is g m (LentFormatting.more l f a) =
    let k = formatting_is g l f in
    let w = k.0 in
    let d = said_does l w k.1.1 (format g) in
    ((exec (format g) w).world, (Formatting.more w k.1.0 (sym (does_answer (format g) l w d) ∙ a), does_says (format g) l w d))

pub formatted_is : (g : Geometry) (l : Lent) → LentFormatted g l → (w : World) × (Formatted g w × Says l w)
formatted_is g m (LentFormatted.finished l f a) =
    let k = formatting_is g l f in
    let w = k.0 in
    let d = said_does l w k.1.1 (format g) in
    ((exec (format g) w).world, (Formatted.finished w k.1.0 (sym (does_answer (format g) l w d) ∙ a), does_says (format g) l w d))
