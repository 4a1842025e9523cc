-- Nothing is lost by going to the C interface: every run of `model` from a formatted world is the run of what a caller lends, with the same events.
-- `model` hands a recover after a cut any state, also one that no bytes encode: it does the same with the bytes of a fresh one. Assumes nothing.
use Rattle.std.specs.Prelude.{ℕ, ◌-◌, ◌≡◌, Bool, not, cond, ◌&&◌, ltb, eqb}
use Rattle.std.proofs.Math.Path.{refl, sym, subst}
use Rattle.std.proofs.Common.{ap, ◌∙◌, arith}
use Rattle.std.proofs.Math.Bool.{true, false}
use Rattle.std.proofs.lemmas.Bool.{false≢true}
use mathlib.Core.List.{List, []}
use Rattle.model.specs.Answers.{refused}
use Rattle.model.specs.Geometry.{map_pages, blank_map}
use Rattle.model.specs.Checkpoint.{map_page}
use Rattle.model.specs.Recover.{recover_plan, plan_recover, page_taken, recover_checks}
use Rattle.model.specs.World.{World, program, erase, refuse, Plan}
use Rattle.model.specs.Order.{first_number}
use Rattle.model.specs.Frame.{lent_ok, fresh_state}
use Rattle.model.specs.Strides.{strides_done, format_work_ok, format_more, format_last, format_stride, plan_format}
use Rattle.model.specs.Commands.{Call, format, recover, begin, write, drop_page, lone, commit, abort, read, checkpoint, reclaim, plan, carried, Outcome, exec}
use Rattle.model.specs.Book.{Event, called, cut_between}
use Rattle.model.specs.Sequence.{Running, Phase, live, dark, Allowed, is_recovery, cut_array, early_array, Step, Run, Formatting, Formatted}
use Rattle.model.specs.declared.Geometry.{Geometry}
use Rattle.encoding.specs.Encoding.{bytes_of}
use Rattle.encoding.specs.StateBack.{Shaped, state_back, coded_back, fresh_shaped}
use Rattle.bokuhira.specs.Calls.{Result, world_of, result_of, start_from, sized}
use Rattle.bokuhira.specs.PowerUp.{blind}
use Rattle.archive.specs.Lent.{Lent, bokuhira, lent_in, cut_tells, early_tells, lent_runs}
use Rattle.archive.specs.LentRuns.{LentPhase, on, off, LentAllowed, LentStep, LentRun, strides_said, LentFormatting, LentFormatted}
use Rattle.archive.specs.Shaped.{shaped_after}
use Rattle.archive.specs.Coded.{lent_of, result_for, stored, coded_sized, call_does, does_answer, started_sized, started_other}
use Rattle.archive.specs.Joined.{Says, said_runs, early_leaves_law, cut_leaves_law, cut_tells_law, early_tells_law}
use Rattle.arrays.specs.Tests.{clash}
use Rattle.arrays.specs.Order.{done_first}

-- ---- a phase as a caller has it
abbrev pub phase_of : Phase → LentPhase
phase_of (live w rs) = on (lent_of w) rs
phase_of (dark xs) = off xs

abbrev pub ShapedPhase : Phase → Type 0
ShapedPhase (live w rs) = Shaped w.state
ShapedPhase (dark xs) = Unit {0}

-- ---- the slices of a world with the bytes of a fresh state: what a recover or a format may be handed in place of the world's own state
abbrev anew : Geometry → World → Lent
anew g w = record { array = w.array; map = w.map; hold = w.hold; bytes = bytes_of (fresh_state g) }

-- they are as many as a state has
anew_sized : (g : Geometry) → sized (bytes_of (fresh_state g)) ≡ true
anew_sized g = coded_sized (bytes_of (fresh_state g)) (coded_back (fresh_state g) (fresh_shaped g))

-- a recover does with them what it does on the world
recover_anew : (g : Geometry) (w : World) → bokuhira (recover g) (anew g w) ≡ result_of (bytes_of (fresh_state g)) (exec (recover g) w)
unfolding bokuhira
recover_anew g w =
    started_sized recover g (anew g w) (anew_sized g)
    ∙ blind g w.array w.map w.hold (bytes_of (fresh_state g)) (start_from g (bytes_of (fresh_state g))) w.state

-- ---- the world with a fresh state
module _ (g : Geometry) (w : World) where
  abbrev fresh : World
  fresh = world_of w.array w.map w.hold (fresh_state g)

  -- a recover that is done makes of it the same world
  recover_same : (exec (recover g) w).answer ≡ 0 → exec (recover g) fresh ≡ exec (recover g) w
  unfolding exec plan plan_recover lent_ok
  recover_same e =
      rw (done_first (recover_checks g w) w (recover_plan g (page_taken g w) w) (unfold carried in e)) (unfold recover_plan carried in refl)

  -- so does the first stride of a format, which looks at no state; a format refuses with 1 alone
  abbrev done : ℕ
  done = strides_done g w.state w.state.work

  fresh_plan : lent_ok g w ≡ true → plan_format g fresh ≡ format_stride g 0 fresh
  unfolding plan_format first_number format_work_ok strides_done fresh_state lent_ok
  fresh_plan l = rw l

  -- a stride is no refusal
  stride_answers : refused (format_stride g done w).answer ≡ false
  unfolding format_stride format_more format_last refused
  stride_answers = go (ltb done g.blocks) (ltb (done - g.blocks) (map_pages g))
    where
      go : (a b : Bool) → refused (cond a (format_more g done (erase done) w)
          (cond b (format_more g done (program (done - g.blocks) (map_page (blank_map g) (done - g.blocks) 1)) w) (format_last g w))).answer ≡ false
      go true b = refl
      go false true = refl
      go false false = refl

  -- its plan, by what 1 looks at
  abbrev by : Bool → Plan
  by b = cond (eqb (cond (not b) 1 0) 0) (format_stride g done w) (refuse w (cond (not b) 1 0))

  taken : (exec (format g) w).answer ≡ 255 → (lent_ok g w ≡ true) × (plan_format g w ≡ format_stride g done w)
  unfolding exec plan carried plan_format first_number
  taken a = go (lent_ok g w) (format_work_ok g w w.state.work) a
    where
      go : (t u : Bool) → (by (t && u)).answer ≡ 255 → (t ≡ true) × (by (t && u) ≡ format_stride g done w)
      go true true a = (refl, refl)
      go true false a = absurd (omega arith)
      go false u a = absurd (omega arith)

  stride_same : carried (format_stride g 0 fresh) fresh ≡ carried (format_stride g 0 w) w
  unfolding carried format_stride format_more format_last
  stride_same = refl

  first_same : done ≡ 0 → (exec (format g) w).answer ≡ 255 → exec (format g) fresh ≡ exec (format g) w
  unfolding exec plan
  first_same z a =
      let t = taken a in
      let e : plan_format g w ≡ format_stride g 0 w = rw z at t.1 in
      rw (fresh_plan t.0, e) stride_same

  refused_one : refused (exec (format g) w).answer ≡ true → (exec (format g) w).answer ≡ 1
  unfolding exec plan carried plan_format first_number
  refused_one r = go (lent_ok g w && format_work_ok g w w.state.work) r
    where
      go : (t : Bool) → refused (by t).answer ≡ true → (by t).answer ≡ 1
      go true r = clash r stride_answers
      go false r = refl

-- the bytes of a fresh state say no stride of a format
fresh_none : (g : Geometry) → strides_said g (bytes_of (fresh_state g)) ≡ 0
unfolding strides_said start_from
fresh_none g = rw (coded_back (fresh_state g) (fresh_shaped g), state_back (fresh_state g) (fresh_shaped g)) (unfold strides_done fresh_state in refl)

-- ---- a recover or a format after a cut: what a caller may lend to have the same answer from the same array
record Asked (c : Call) (w : World) : Type 0 where
  lent : Lent
  array : lent.array ≡ w.array
  same : (bokuhira c lent).answer ≡ (exec c w).answer

-- a format with no bytes for a state
asked_format : (g : Geometry) (w : World) → refused (exec (format g) w).answer ≡ true → Asked (format g) w
unfolding bokuhira
asked_format g w r = record { lent = bare; array = refl; same = started_other format g bare (unfold sized in refl) ∙ sym (refused_one g w r) }
  where
    bare : Lent
    bare = record { array = w.array; map = []; hold = []; bytes = [] }

asked_recover : (g : Geometry) (w : World) → Asked (recover g) w
asked_recover g w = record { lent = anew g w; array = refl; same = ap (λ (r : Result). r.answer) (recover_anew g w) ∙ (unfold result_of in refl) }

asked : (g : Geometry) (c : Call) (w : World) → is_recovery c ≡ true → Allowed g c w → Asked c w
asked g (format h) w i a = asked_format h w (unfold exec carried in a)
asked g (recover h) w i a = asked_recover h w
asked g (begin id) w i a = absurd (false≢true i)
asked g (write id lpn d) w i a = absurd (false≢true i)
asked g (drop_page id lpn) w i a = absurd (false≢true i)
asked g (lone lpn d) w i a = absurd (false≢true i)
asked g (commit id) w i a = absurd (false≢true i)
asked g (abort id) w i a = absurd (false≢true i)
asked g (read lpn) w i a = absurd (false≢true i)
asked g checkpoint w i a = absurd (false≢true i)
asked g reclaim w i a = absurd (false≢true i)

allowed_lent : (g : Geometry) (c : Call) (w : World) (l : Lent) → (bokuhira c l).answer ≡ (exec c w).answer → Allowed g c w → LentAllowed g c l
allowed_lent g (format h) w l e a = rw e (unfold exec carried in a)
allowed_lent g (recover h) w l e a = a
allowed_lent g (begin id) w l e a = tt
allowed_lent g (write id lpn d) w l e a = tt
allowed_lent g (drop_page id lpn) w l e a = tt
allowed_lent g (lone lpn d) w l e a = tt
allowed_lent g (commit id) w l e a = tt
allowed_lent g (abort id) w l e a = tt
allowed_lent g (read lpn) w l e a = tt
allowed_lent g checkpoint w l e a = tt
allowed_lent g reclaim w l e a = tt

-- ---- the steps
-- what a caller has of a world says it
itself : (w : World) → Shaped w.state → Says (lent_of w) w
itself w h = record { is = refl; shaped = h }

step_lent : (g : Geometry) (p : Phase) (e : Event) (q : Phase) → Step g p e q → ShapedPhase p → LentStep g (phase_of p) e (phase_of q) × ShapedPhase q
step_lent g p e q (Step.call c w rs f a) h =
    let d = call_does w h c in
    let a' = allowed_lent g c w (lent_of w) (does_answer c (lent_of w) w d) a in (
      subst (λ (ts : List Running). LentStep g (on (lent_of w) rs) (called c (exec c w).answer) (on (lent_of (exec c w).world) ts))
          (said_runs (lent_of w) w (itself w h) c rs)
          (subst (λ (r : Result). LentStep g (on (lent_of w) rs) (called c r.answer) (on (lent_in r) (lent_runs c (lent_of w) rs))) d.is
          (LentStep.call c (lent_of w) rs f a')),
      d.shaped,
    )
step_lent g p e q (Step.cut c w rs lets parts f a) h =
    let s = itself w h in
    let a' = allowed_lent g c w (lent_of w) (does_answer c (lent_of w) w (call_does w h c)) a in (
      subst (λ (t : Event). LentStep g (on (lent_of w) rs) t (off (cut_array c w rs lets parts))) (cut_tells_law (lent_of w) w s c rs lets parts)
          (subst (λ (xs : List ℕ). LentStep g (on (lent_of w) rs) (cut_tells c (lent_of w) rs lets parts) (off xs)) (cut_leaves_law (lent_of w) w s c rs lets parts)
          (LentStep.cut c (lent_of w) rs lets parts f a')),
      tt,
    )
step_lent g p e q (Step.early c w rs parts f a) h =
    let s = itself w h in
    let a' = allowed_lent g c w (lent_of w) (does_answer c (lent_of w) w (call_does w h c)) a in (
      subst (λ (t : Event). LentStep g (on (lent_of w) rs) t (off (early_array w rs parts))) (early_tells_law (lent_of w) w s c)
          (subst (λ (xs : List ℕ). LentStep g (on (lent_of w) rs) (early_tells c (lent_of w)) (off xs)) (early_leaves_law (lent_of w) w s rs parts)
          (LentStep.early c (lent_of w) rs parts f a')),
      tt,
    )
step_lent g p e q (Step.between w rs parts) h = (
  subst (λ (xs : List ℕ). LentStep g (on (lent_of w) rs) cut_between (off xs)) (early_leaves_law (lent_of w) w (itself w h) rs parts)
      (LentStep.between (lent_of w) rs parts),
  tt,
)
step_lent g p e q (Step.back w r) h =
    let k : bokuhira (recover g) (anew g w) ≡ result_for (exec (recover g) w)
    = recover_anew g w ∙ stored (bytes_of (fresh_state g)) (exec (recover g) w) (unfold refused in rw r) in (
      subst (λ (t : Result). LentStep g (off w.array) (called (recover g) 0) (on (lent_in t) [])) k
          (LentStep.back (anew g w) (ap (λ (t : Result). t.answer) k ∙ r)),
      subst (λ (o : Outcome). Shaped o.world.state) (recover_same g w r) (shaped_after (fresh g w) (fresh_shaped g) (recover g)),
    )
step_lent g p e q (Step.failed c w i f a r) h =
    let k = asked g c w i a in (
      subst (λ (xs : List ℕ). LentStep g (off xs) (called c (exec c w).answer) (off xs)) k.array
          (subst (λ (n : ℕ). LentStep g (off k.lent.array) (called c n) (off k.lent.array)) k.same
          (LentStep.failed c k.lent i f (allowed_lent g c w k.lent k.same a) (rw k.same r))),
      tt,
    )
step_lent g p e q (Step.lost c w i f a) h =
    let k = asked g c w i a in
    (subst (λ (xs : List ℕ). LentStep g (off xs) e (off xs)) k.array (LentStep.lost c k.lent i f (allowed_lent g c w k.lent k.same a)), tt)
step_lent g p e q (Step.again xs) h = (LentStep.again xs, tt)

-- ---- the facts
run_lent : (g : Geometry) (p : Phase) (es : List Event) (q : Phase) → Run g p es q → ShapedPhase p → LentRun g (phase_of p) es (phase_of q)
run_lent g p es q (Run.stop r) h = LentRun.stop (phase_of p)
run_lent g p es q (Run.next {q = r} {e = e} {es = fs} t u) h = let k = step_lent g p e r t h in LentRun.next k.0 (run_lent g r fs q u k.1)

formatting_lent : (g : Geometry) (w : World) → Formatting g w → LentFormatting g (lent_of w) × Shaped w.state
formatting_lent g v (Formatting.first w z a) =
    let e = first_same g w z a in
    let f = fresh g w in
    let k : bokuhira (format g) (lent_of f) ≡ result_for (exec (format g) w) = (call_does f (fresh_shaped g) (format g)).is ∙ ap result_for e in (
      subst (λ (t : Result). LentFormatting g (lent_in t)) k (LentFormatting.first (lent_of f) (fresh_none g) (ap (λ (t : Result). t.answer) k ∙ a)),
      subst (λ (o : Outcome). Shaped o.world.state) e (shaped_after f (fresh_shaped g) (format g)),
    )
formatting_lent g v (Formatting.more w f a) =
    let i = formatting_lent g w f in
    let d = call_does w i.1 (format g) in
    (subst (λ (t : Result). LentFormatting g (lent_in t)) d.is (LentFormatting.more (lent_of w) i.0 (does_answer (format g) (lent_of w) w d ∙ a)), d.shaped)

formatted_lent : (g : Geometry) (w : World) → Formatted g w → LentFormatted g (lent_of w) × Shaped w.state
formatted_lent g v (Formatted.finished w f a) =
    let i = formatting_lent g w f in
    let d = call_does w i.1 (format g) in (
      subst (λ (t : Result). LentFormatted g (lent_in t)) d.is (LentFormatted.finished (lent_of w) i.0 (does_answer (format g) (lent_of w) w d ∙ a)),
      d.shaped,
    )

pub every_run : (g : Geometry) (w : World) (es : List Event) (p : Phase) → Formatted g w → Run g (live w []) es p
    → LentFormatted g (lent_of w) × LentRun g (on (lent_of w) []) es (phase_of p)
every_run g w es p f r = let i = formatted_lent g w f in (i.0, run_lent g (live w []) es p r i.1)
