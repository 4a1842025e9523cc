-- The maps that are told with a short session are those of demand 3's recoveries: the device is freshly formatted, a cut that lets no bit of a program
-- turn leaves the array before the call, one that lets every bit turn the array after it, and both are cuts of the sequence that the session is.
use Rattle.std.specs.Prelude.{◌≡◌, ◌⊎◌, Bool, not, cond, List, [], ◌∷◌, ◌++◌, length, replicate, ltb}
use Rattle.std.proofs.Math.Path.{refl, ap, subst}
use Rattle.std.proofs.Common.{sym, ◌∙◌, inl, inr, arith, append_assoc}
use Rattle.std.proofs.Math.Bool.{true, false}
use Rattle.std.proofs.lemmas.Bool.{false≢true, not-true}
use Prim.Native.Nat.{ℕ, ◌+◌, ◌-◌, ◌≤◌}
use Rattle.std.proofs.Math.ListN.{length-replicate}
use Rattle.model.specs.Lists.{all, keep, those}
use Rattle.model.specs.Bytes.{bytes, minus}
use Rattle.model.specs.Page.{page_at}
use Rattle.model.specs.Geometry.{geometry_ok, map_pages}
use Rattle.model.specs.Answers.{refused}
use Rattle.model.specs.World.{World, Op, none, program, erase, Plan, apply_op, due_bits, turned_bits, turn, cut_op, programs, is_none, every_turned}
use Rattle.model.specs.Frame.{lent_ok, fresh_state}
use Rattle.model.specs.Transactions.{place_of, held_op, write_plan, gone, lone_plan, mark_plan, forget_plan, plan_begin, plan_write, plan_commit, plan_abort}
use Rattle.model.specs.Strides.{plan_checkpoint, free_stride}
use Rattle.model.specs.Commands.{Call, format, recover, begin, write, drop_page, lone, commit, abort, read, checkpoint, reclaim, plan, carried, exec}
use Rattle.model.specs.Book.{Event, called, Book, blank, story}
use Rattle.model.specs.Sequence.{fits, Running, cut_runs, waits, during, runs_after, live, dark, Allowed, cut_event, cut_array}
use Rattle.model.specs.Sequence.{Step, call, cut, Run, stop, next, Formatted}
use Rattle.model.specs.Demand3.{Recovers}
use Rattle.model.specs.Sessions.{zeros, commands, command_of, small, lent_for, strides, fresh, recovered, accepted, call_cuts, cuts, Commands}
use Rattle.model.specs.declared.Geometry.{Geometry}
use Rattle.model.specs.declared.Place.{Place}
use Rattle.model.specs.declared.Spare.{Spare}
use Rattle.arrays.specs.Tests.{Is, eqb_cases, and_left, and_right, and_both, clash, is_same}
use Rattle.arrays.specs.Bytelist.{Bytes, bytes_true, length_minus, ands_none, ands_all, minus_none}
use Rattle.arrays.specs.Pages.{page_most, bytes_page, put_back}
use Rattle.arrays.specs.Ranges.{in_lengths}
use Rattle.arrays.specs.Arrays as operation
use Rattle.arrays.specs.Arrays.{ProgramOk, cut_done}
use Rattle.ranks.specs.Dealt.{Each, each_at, each_append}
use Rattle.front.specs.FormatCalls.{format_finishes}
use Rattle.front.specs.CheckpointStrides.{checkpoint_stride_law}
use Rattle.front.specs.CheckpointOps.{stride_sound}
use Rattle.scanlog.specs.Tidy.{tidy_slide}
use Rattle.sequence.specs.Places.{place_at, place_found}
use Rattle.sequence.specs.Refused.{keeps_plan, recover_none}
use Rattle.sequence.specs.Live.{Live}
use Rattle.sequence.specs.View.{View, no, yes}
use Rattle.sequence.specs.Append.{Appends}
use Rattle.sequence.specs.Begin.{Begins, begin_view}
use Rattle.sequence.specs.Abort.{Aborts, abort_view}
use Rattle.sequence.specs.Lone.{Lones, lone_view, lone_appends}
use Rattle.sequence.specs.Write.{WritesTo, write_view, drop_view, gone_small, write_bytes, page_appends, add_found}
use Rattle.sequence.specs.Commit.{Commits, forgets, marks, commit_view, mark_appends}
use Rattle.sequence.specs.Reclaiming.{Reclaims, copies, frees, reclaim_view, copy_appends}
use Rattle.sequence.specs.Beside.{none_run}
use Rattle.sequence.specs.Start.{format_zones_ok}
use Rattle.sequence.specs.Theorem.{step_holds, demand3}
use Rattle.sequence.specs.Claims.{InSequence, sequence_live, run_append}

-- ---- the device
-- its world is one that a format leaves, "finished"
pub fresh_formatted : Formatted small fresh
unfolding fresh
fresh_formatted =
    let one : map_pages small ≡ 1 = unfold map_pages in refl in
    subst (λ (n : ℕ). Formatted small (strides small (8 + n + 1) (lent_for (replicate 33792 0)))) one
    (format_finishes small (format_zones_ok small) (lent_for (replicate 33792 0)) lent (unfold lent_for fresh_state in refl))
  where
    lent : lent_ok small (lent_for (replicate 33792 0)) ≡ true
    lent =
        unfold lent_ok lent_for in and_both (geometry_ok small) _ (unfold geometry_ok in refl)
        (in_lengths small (replicate 33792 0) (replicate 16 0) (replicate 4096 0)
        (record { array = length-replicate {A = ℕ} 33792 0; map = length-replicate {A = ℕ} 16 0; hold = length-replicate {A = ℕ} 4096 0 }))

-- ---- a cut that lets no bit of a page turn, and one that lets every bit
-- the bits that they let turn
unfoldable pub no_bit : List ℕ
no_bit = replicate 528 0

-- where the list ends every further bit is let
abbrev pub every_bit : List ℕ
every_bit = []

-- of a program: the array as it was, or as if done
no_bit_law : (p : ℕ) (xs : List ℕ) (k : ℕ) (new : List ℕ) → Bytes xs → cut_op p (program k new) no_bit xs ≡ xs
unfolding cut_op turn turned_bits due_bits no_bit
no_bit_law p xs k new y =
    let q = page_at xs k in
    let e = length_minus q new in
    rw (ands_none (minus q new) 528 (omega (arith, page_most xs k)), e, minus_none q (bytes_page xs k y), put_back xs k)

every_bit_law : (p : ℕ) (xs : List ℕ) (k : ℕ) (new : List ℕ) → Bytes xs → ProgramOk xs k new → cut_op p (program k new) every_bit xs ≡ apply_op p (program k new) xs
every_bit_law p xs k new y ok = cut_done p xs k new ok every_bit y (unfold every_turned turned_bits in rw (ands_all (due_bits p (program k new) xs)) (is_same _))

-- ---- what a call programs on a live world
-- a page that an operation programs is whole, on an erased one
abbrev Puts : List ℕ → Op → Type 0
Puts xs none = Unit {0}
Puts xs (program k new) = ProgramOk xs k new
Puts xs (erase c) = Unit {0}

sound_puts : (p : ℕ) (xs : List ℕ) (o : Op) → operation.Sound p o xs → Puts xs o
sound_puts p xs none h = tt
sound_puts p xs (program k new) h = h
sound_puts p xs (erase c) h = tt

module _ (w : World) (b : Book) (h : Live w b) where
  -- what is claimed of a plan
  abbrev PlanPuts : Plan → Type 0
  PlanPuts p = Puts w.array p.op

  -- by its cases, and by what it does
  view_puts : (P : Plan → Type 0) (p : Plan) → View w P p → ((q : Plan) → P q → PlanPuts q) → PlanPuts p
  view_puts P p (no n r) f = tt
  view_puts P p (yes q v) f = f q v

  append_puts : (s : Spare) (p : Plan) → Appends w b h s p → PlanPuts p
  append_puts s p a = rw a.does a.ok

  none_puts : (p : Plan) → p.op ≡ none → PlanPuts p
  none_puts p e = rw e tt

  -- by the command
  add_puts : (id lpn : ℕ) (drop : Bool) (d : List ℕ) → Bytes d → (q : Plan) → WritesTo w id lpn drop d q → PlanPuts q
  add_puts id lpn drop d small q v = rw v.is (go (eqb_cases at.count 0))
    where
      i : ℕ
      i = place_of w.state.places id

      at : Place
      at = place_at w.state.places i

      go : Is at.count 0 → PlanPuts (write_plan i at lpn drop d w)
      go (inl z) = none_puts (write_plan i at lpn drop d w) (unfold write_plan held_op in rw z.1)
      go (inr z) = append_puts _ (write_plan i at lpn drop d w)
          (page_appends w b h id lpn drop d v.idle v.long small v.low i (add_found w b id lpn drop d h small v) v.room z.0 (v.clean z.0))

  commit_puts : (id : ℕ) (p : Plan) → Commits w id p → PlanPuts p
  commit_puts id p (forgets idle found zero') = none_puts p (unfold forget_plan in refl)
  commit_puts id p (marks idle found many more short) =
      append_puts _ p
      (mark_appends w b h id (place_of w.state.places id) idle (place_found w.state.places id h.changing.eight found) many more short)

  lone_puts : (lpn : ℕ) (d : List ℕ) → Bytes d → (p : Plan) → Lones w lpn d p → PlanPuts p
  lone_puts lpn d small p v = rw v.is (append_puts _ (lone_plan lpn d w) (lone_appends w b lpn d h small (subst (Lones w lpn d) v.is v)))

  reclaim_puts : (p : Plan) → Reclaims w p → PlanPuts p
  reclaim_puts p (copies c calm on some) = append_puts _ p (copy_appends w b h c on calm some)
  reclaim_puts p (frees c calm on zero') = unfold free_stride in tt

  checkpoint_puts : PlanPuts (plan_checkpoint w)
  checkpoint_puts =
      let g = w.state.geometry in
      let moved = (tidy_slide g w.array w.state.places w.state.zones h.tidy).ok in
      sound_puts g.pages w.array (plan_checkpoint w).op
      (stride_sound w (record { version = omega (arith, h.sound.last); moved = moved }) (plan_checkpoint w) (checkpoint_stride_law w h.saved h.kept))

  -- every call of a sequence
  call_puts : (g : Geometry) (c : Call) → fits c ≡ true → Allowed g c w → PlanPuts (plan c w)
  unfolding plan
  call_puts g (format k) f a = none_puts (plan (format k) w) (ap (λ (p : Plan). p.op) ((keeps_plan w (format k)).same a))
  call_puts g (recover k) f a = none_puts (plan (recover k) w) (recover_none k w)
  call_puts g (begin id) f a = view_puts (Begins w id) _ (begin_view id w) (λ p v. none_puts p (ap (λ (q : Plan). q.op) v.is))
  call_puts g (write id lpn d) f a = view_puts (WritesTo w id lpn false d) _ (write_view id lpn d w) (add_puts id lpn false d (write_bytes id lpn d f))
  call_puts g (drop_page id lpn) f a = view_puts (WritesTo w id lpn true gone) _ (drop_view id lpn w) (add_puts id lpn true gone gone_small)
  call_puts g (lone lpn d) f a =
      view_puts (Lones w lpn d) _ (lone_view lpn d w) (lone_puts lpn d (bytes_true d (unfold fits in and_right (ltb lpn 65536) (bytes d) f)))
  call_puts g (commit id) f a = view_puts (Commits w id) _ (commit_view id w) (commit_puts id)
  call_puts g (abort id) f a =
      view_puts (Aborts w id) _ (abort_view id w) (λ p v. none_puts p (ap (λ (q : Plan). q.op) v.is ∙ (unfold forget_plan in refl)))
  call_puts g (read lpn) f a = tt
  call_puts g checkpoint f a = checkpoint_puts
  call_puts g reclaim f a = view_puts (Reclaims w) _ (reclaim_view w h.sound.last) reclaim_puts

-- ---- where nothing runs, nothing runs beside a call
during_none : (c : Call) (w : World) → during c w [] ≡ []
unfolding during those
during_none c w = go (is_none (plan c w).op) (waits c)
  where
    go : (s t : Bool) → ◌≡◌ {A = List Running} (cond s [] (cond t [] [])) []
    go true t = refl
    go false true = refl
    go false false = refl

cut_alone : (c : Call) (w : World) (lets : List ℕ) (parts : ℕ → List ℕ)
    → cut_array c w [] lets parts ≡ cut_op (plan c w).state.geometry.pages (plan c w).op lets w.array
unfolding cut_array cut_runs
cut_alone c w lets parts = rw (during_none c w)

-- ---- in a sequence
module _ (g : Geometry) (es : List Event) (w : World) (s : InSequence g es w []) (c : Call) (f : fits c ≡ true) (a : Allowed g c w)
    (t : programs (plan c w).op ≡ true) (parts : ℕ → List ℕ) where
  here : Live w (story (blank g) es)
  here = (sequence_live g es w [] s).world

  -- no due bit is turned: the array before the call
  pub cut_before : cut_array c w [] no_bit parts ≡ w.array
  cut_before = cut_alone c w no_bit parts ∙ go (plan c w).op t
    where
      go : (o : Op) → programs o ≡ true → cut_op (plan c w).state.geometry.pages o no_bit w.array ≡ w.array
      go none t = absurd (false≢true t)
      go (program k new) t = no_bit_law _ w.array k new here.sound.bytes
      go (erase d) t = absurd (false≢true t)

  -- every due bit is turned: the array after it
  pub cut_after : cut_array c w [] every_bit parts ≡ (exec c w).world.array
  unfolding exec carried
  cut_after = cut_alone c w every_bit parts ∙ go (plan c w).op t (call_puts w _ here g c f a)
    where
      n : ℕ
      n = (plan c w).state.geometry.pages

      go : (o : Op) → programs o ≡ true → Puts w.array o → cut_op n o every_bit w.array ≡ apply_op n o w.array
      go none t h = absurd (false≢true t)
      go (program k new) t h = every_bit_law n w.array k new here.sound.bytes h
      go (erase d) t h = absurd (false≢true t)

-- ---- the ten commands
-- one that may be called in every world, and is done where it is not refused
record Callable (c : Call) : Type 0 where
  fitting : fits c ≡ true
  allowed : (w : World) → Allowed small c w
  ends : (w : World) → refused (exec c w).answer ≡ false → (exec c w).answer ≡ 0

view_ends : (w : World) (P : Plan → Type 0) (p : Plan) → View w P p → ((q : Plan) → P q → q.answer ≡ 0) → refused p.answer ≡ false → p.answer ≡ 0
view_ends w P p (no n r) f e = clash r e
view_ends w P p (yes q v) f e = f q v

begin_callable : (id : ℕ) → fits (begin id) ≡ true → Callable (begin id)
begin_callable id f = record {
  fitting = f;
  allowed = λ w. tt;
  ends = λ w. unfold exec carried plan in view_ends w (Begins w id) (plan_begin id w) (begin_view id w) (λ q v. ap (λ (p : Plan). p.answer) v.is);
}

write_callable : (id lpn : ℕ) (d : List ℕ) → fits (write id lpn d) ≡ true → Callable (write id lpn d)
write_callable id lpn d f = record {
  fitting = f;
  allowed = λ w. tt;
  ends = λ w. unfold exec carried plan in view_ends w (WritesTo w id lpn false d) (plan_write id lpn d w) (write_view id lpn d w)
      (λ q v. ap (λ (p : Plan). p.answer) v.is ∙ (unfold write_plan in refl));
}

commit_callable : (id : ℕ) → fits (commit id) ≡ true → Callable (commit id)
commit_callable id f = record {
  fitting = f;
  allowed = λ w. tt;
  ends = λ w. unfold exec carried plan in view_ends w (Commits w id) (plan_commit id w) (commit_view id w) (go w);
}
  where
    go : (w : World) (q : Plan) → Commits w id q → q.answer ≡ 0
    go w q (forgets idle found zero') = unfold forget_plan in refl
    go w q (marks idle found many more short) = unfold mark_plan in refl

abort_callable : (id : ℕ) → fits (abort id) ≡ true → Callable (abort id)
abort_callable id f = record {
  fitting = f;
  allowed = λ w. tt;
  ends = λ w. unfold exec carried plan in view_ends w (Aborts w id) (plan_abort id w) (abort_view id w)
      (λ q v. ap (λ (p : Plan). p.answer) v.is ∙ (unfold forget_plan in refl));
}

commands_callable : Each Callable commands
unfolding commands fits bytes all zeros
commands_callable = search (begin_callable, write_callable, commit_callable, abort_callable) depth 20

command_callable : (c : ℕ) → 1 ≤ c → c ≤ 10 → Callable (command_of c)
unfolding command_of
command_callable c l m =
    let ten : length commands ≡ 10 = unfold commands in refl in
    each_at Callable commands (c - 1) (read 0) commands_callable (omega arith)

-- ---- a session as a sequence
-- its commands, each answered done
abbrev pub calls : List ℕ → List Event
calls [] = []
calls (c ∷ cs) = called (command_of c) 0 ∷ calls cs

calls_last : (cs : List ℕ) (c : ℕ) → calls (cs ++ (c ∷ [])) ≡ calls cs ++ (called (command_of c) 0 ∷ [])
calls_last [] c = refl
calls_last (b ∷ cs) c = ap (λ (es : List Event). called (command_of b) 0 ∷ es) (calls_last cs c)

-- it leads to world w, with nothing running
abbrev pub Comes : List ℕ → World → Type 0
Comes cs w = Run small (live fresh []) (calls cs) (live w [])

comes_in : (cs : List ℕ) (w : World) → Comes cs w → InSequence small (calls cs) w []
comes_in cs w r = record { start = fresh; formatted = fresh_formatted; run = r }

-- ---- one command more
module _ (cs : List ℕ) (w : World) (r : Comes cs w) (c : ℕ) (k : Callable (command_of c)) (n : not (refused (exec (command_of c) w).answer) ≡ true) where
  -- the world after it, and what runs then
  abbrev then : World
  then = (exec (command_of c) w).world

  abbrev runs : List Running
  runs = runs_after (command_of c) w []

  calls_it : Step small (live w []) (called (command_of c) (exec (command_of c) w).answer) (live then runs)
  calls_it = call (command_of c) w [] k.fitting (k.allowed w)

  -- on one plane nothing runs after it
  none_runs : runs ≡ []
  none_runs =
      let h = step_holds small (story (blank small) (calls cs)) (live w []) _ (live then runs) calls_it
      (record { here = sequence_live small (calls cs) w [] (comes_in cs w r); runs = tt }) in
      none_run then runs (ap (λ (g : Geometry). g.planes) h.here.shape) h.runs

  comes_then : Comes (cs ++ (c ∷ [])) then
  comes_then =
      let s : Step small (live w []) (called (command_of c) 0) (live then []) = rw (k.ends w (not-true _ n), none_runs) at calls_it in
      rw (calls_last cs c) (run_append r (next s (stop _)))

-- ---- the maps
-- a cut in command c, where nothing runs: what is told of it, and the array that it leaves
abbrev pub cut_told : ℕ → World → List ℕ → Event
cut_told c w lets = cut_event (command_of c) w [] lets (λ (k : ℕ). [])

abbrev pub cut_left : ℕ → World → List ℕ → List ℕ
cut_left c w lets = cut_array (command_of c) w [] lets (λ (k : ℕ). [])

-- map m is that of a recovery which demand 3 speaks of, after a cut in a command of session cs
pub record CutRecovery (cs : List ℕ) (m : List ℕ) : Type 0 where
  -- the commands before it, which are done, itself, and those that are not called any more
  pub before : List ℕ
  pub command : ℕ
  pub later : List ℕ
  pub session : cs ≡ before ++ (command ∷ later)
  -- the world in which it is cut, while it programs a page
  pub world : World
  pub comes : Comes before world
  pub page : programs (plan (command_of command) world).op ≡ true
  -- with none of the due bits turned, or every one
  pub lets : List ℕ
  pub bits : (lets ≡ no_bit) ⊎ (lets ≡ every_bit)
  pub falls : Step small (live world []) (cut_told command world lets) (dark (cut_left command world lets))
  -- the next recovery is done and every logical page reads as the book has it; m is its map
  pub recovers : Recovers small (story (blank small) (calls before ++ (cut_told command world lets ∷ []))) (lent_for (cut_left command world lets))
  pub map : m ≡ recovered (cut_left command world lets)

-- ---- a command that programs, cut
module _ (before : List ℕ) (c : ℕ) (later : List ℕ) (w : World) (r : Comes before w) (k : Callable (command_of c))
    (t : programs (plan (command_of c) w).op ≡ true) (lets : List ℕ) (bits : (lets ≡ no_bit) ⊎ (lets ≡ every_bit)) where
  falls : Step small (live w []) (cut_told c w lets) (dark (cut_left c w lets))
  falls = cut (command_of c) w [] lets (λ (k : ℕ). []) k.fitting (k.allowed w)

  recovers : Recovers small (story (blank small) (calls before ++ (cut_told c w lets ∷ []))) (lent_for (cut_left c w lets))
  unfolding lent_for
  recovers =
      (demand3 small fresh (calls before ++ (cut_told c w lets ∷ [])) (dark (cut_left c w lets)) fresh_formatted (run_append r (next falls (stop _)))
      ).recovers (replicate 16 0) (replicate 4096 0) (fresh_state small) (length-replicate {A = ℕ} 16 0) (length-replicate {A = ℕ} 4096 0)

  cut_recovery : (xs : List ℕ) → cut_left c w lets ≡ xs → CutRecovery (before ++ (c ∷ later)) (recovered xs)
  cut_recovery xs e = record {
    before = before;
    command = c;
    later = later;
    session = refl;
    world = w;
    comes = r;
    page = t;
    lets = lets;
    bits = bits;
    falls = falls;
    recovers = recovers;
    map = ap recovered (sym e);
  }

-- ---- every map that is told
-- with one command
call_recovers : (before : List ℕ) (c : ℕ) (later : List ℕ) (w : World) → Comes before w → Callable (command_of c)
    → Each (CutRecovery (before ++ (c ∷ later))) (call_cuts (command_of c) w)
unfolding call_cuts
call_recovers before c later w r k = go (programs (plan (command_of c) w).op) refl
  where
    s : InSequence small (calls before) w []
    s = comes_in before w r

    go : (t : Bool) → programs (plan (command_of c) w).op ≡ t
        → Each (CutRecovery (before ++ (c ∷ later))) (keep t (recovered w.array ∷ recovered (exec (command_of c) w).world.array ∷ []))
    go true t =
        let b = cut_before small (calls before) w s (command_of c) k.fitting (k.allowed w) t (λ (k : ℕ). []) in
        let a = cut_after small (calls before) w s (command_of c) k.fitting (k.allowed w) t (λ (k : ℕ). []) in
        (cut_recovery before c later w r k t no_bit (inl refl) _ b, (cut_recovery before c later w r k t every_bit (inr refl) _ a, tt))
    go false t = tt

-- with what is left of a session
rest_recovers : (before later : List ℕ) (w : World) → Comes before w → Commands later → accepted later w ≡ true
    → Each (CutRecovery (before ++ later)) (cuts later w)
unfolding accepted cuts
rest_recovers before [] w r k a = tt
rest_recovers before (c ∷ later) w r k a =
    let v = (exec (command_of c) w).world in
    let p = command_callable c k.0.0 k.0.1 in
    let t = not (refused (exec (command_of c) w).answer) in
    each_append (CutRecovery (before ++ (c ∷ later))) (call_cuts (command_of c) w) (cuts later v) (call_recovers before c later w r p)
    (subst (λ (cs : List ℕ). Each (CutRecovery cs) (cuts later v)) (append_assoc before (c ∷ []) later)
    (rest_recovers (before ++ (c ∷ [])) later v (comes_then before w r c p (and_left t (accepted later v) a)) k.1 (and_right t (accepted later v) a)))

-- with a session in which none is refused
pub cuts_recover : (cs : List ℕ) → Commands cs → accepted cs fresh ≡ true → Each (CutRecovery cs) (cuts cs fresh)
cuts_recover cs k a = rest_recovers [] cs fresh (stop (live fresh [])) k a
