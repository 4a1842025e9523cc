-- What documents 01 and 02 (docs/PAPERS.md) claim beside demand 3, of the worlds of a sequence, each sentence as a theorem.
use Rattle.std.specs.Prelude.{◌≡◌, refl, ◌⊎◌, ◌≢◌, true, false, ◌&&◌, ℕ, ◌<◌, List, [], ◌∷◌, ◌++◌, eqb, ltb, ℤ, pos, ◌≤ℤ◌}
use Rattle.std.proofs.Common.{sym, ◌∙◌, subst, inl, inr, arith, lt-ltb, eqb-true}
use Rattle.std.proofs.lemmas.Bool.{false≢true}
use Rattle.model.specs.Page.{class_of, spare_of, page_at}
use Rattle.model.specs.Geometry.{geometry_ok, data_page}
use Rattle.model.specs.Zones.{entry_of}
use Rattle.model.specs.Answers.{refused}
use Rattle.model.specs.World.{World, Op, program}
use Rattle.model.specs.Order.{first_number}
use Rattle.model.specs.Frame.{lent_ok, is_idle}
use Rattle.model.specs.Transactions.{read_answer}
use Rattle.model.specs.Strides.{is_checkpoint, is_reclaim, picked, plan_format}
use Rattle.model.specs.Commands.{Call, format, recover, begin, write, drop_page, lone, commit, abort, read, checkpoint, reclaim, plan, carried, exec}
use Rattle.model.specs.Book.{Book, Event, called, cut_in, cut_between, blank, tell, story, page_of, content_answer}
use Rattle.model.specs.Sequence.{fits, Running, Phase, live, dark, array_of, runs_after, Allowed, is_recovery, cut_event, cut_array, early_event, early_array}
use Rattle.model.specs.Sequence.{Step, call, cut, early, between, back, failed, lost, again, Run, stop, next, Formatted}
use Rattle.model.specs.Torn.{OwnTorn}
use Rattle.model.specs.declared.Geometry.{Geometry}
use Rattle.model.specs.declared.Class.TheVariants.{Torn}
use Rattle.model.specs.declared.Work.{Work}
use Rattle.arrays.specs.Tests.{and_both, or_cases}
use Rattle.arrays.specs.Ranges.{geometry_in}
use Rattle.arrays.specs.Bytelist.{Bytes, true_bytes}
use Rattle.arrays.specs.Arrays.{Leans}
use Rattle.arrays.specs.Torn.{lean_torn}
use Rattle.scanlog.specs.Sublist.{Sublist}
use Rattle.sequence.specs.Live.{live_reads, scanned}
use Rattle.sequence.specs.Start.{formatted_idle, some_formatted}
use Rattle.sequence.specs.ScanOrder.{added, ScannedLast, InOrder, call_orders}
use Rattle.sequence.specs.UnderWay.{another, GoesOn, More, busy_same, checkpoint_not_refused, reclaim_not_refused, goes_call, goes_recovered}
use Rattle.sequence.specs.UnderWay.{copy_picks_same, checkpoint_more, reclaim_more}
use Rattle.sequence.specs.Theorem.{LiveAt, Holds, step_holds, run_holds, start_holds}

-- ---- the worlds of a sequence
-- calls and cuts es after a format of geometry g have led to phase p
pub record Leads (g : Geometry) (es : List Event) (p : Phase) : Type 0 where
  pub start : World
  pub formatted : Formatted g start
  pub run : Run g (live start []) es p

-- to world w, whose state is not lost, with these pages running
abbrev pub InSequence : Geometry → List Event → World → List Running → Type 0
InSequence g es w rs = Leads g es (live w rs)

-- numbers of 16 bits
abbrev InShape : Geometry → Type 0
InShape g = (g.blocks < 65536) × ((g.pages < 65536) × ((g.logical < 65536) × (g.planes < 65536)))

few_planes : (n : ℕ) → (eqb n 1 ≡ true) ⊎ (eqb n 2 ≡ true) → n < 65536
few_planes n (inl e) = omega (arith, eqb-true n 1 e)
few_planes n (inr e) = omega (arith, eqb-true n 2 e)

-- where a reclaim is under way it can go on to its end
abbrev Goes : Phase → Type 0
Goes (live w rs) = GoesOn w
Goes (dark xs) = Unit {0}

goes_step : (g : Geometry) (b : Book) (p : Phase) (e : Event) (q : Phase) → Step g p e q → Holds g b p → Goes p → Goes q
goes_step g b p e q (call c w rs f a) h on = goes_call g c w b a h.here.world on
goes_step g b p e q (cut c w rs lets parts f a) h on = tt
goes_step g b p e q (early c w rs parts f a) h on = tt
goes_step g b p e q (between w rs parts) h on = tt
goes_step g b p e q (back w r) h on = goes_recovered g w r
goes_step g b p e q (failed c w i f a r) h on = tt
goes_step g b p e q (lost c w i f a) h on = tt
goes_step g b p e q (again xs) h on = tt

goes_run : (g : Geometry) (b : Book) (p : Phase) (es : List Event) (q : Phase) → Run g p es q → Holds g b p → Goes p → Goes q
goes_run g b p es q (stop p') h on = on
goes_run g b p es q (next {q = r} {e = e} {es = fs} s t) h on = goes_run g (tell b e) r fs q t (step_holds g b p e r s h) (goes_step g b p e r s h on)

start_goes : (g : Geometry) (w : World) → Formatted g w → GoesOn w
start_goes g w f i = absurd (false≢true (subst (λ (k : Work). is_reclaim k ≡ true) (formatted_idle g w f) i))

module _ (g : Geometry) (es : List Event) (w : World) (rs : List Running) (s : InSequence g es w rs) where
  -- they are live, with the book of what happened
  pub sequence_live : LiveAt g w (story (blank g) es)
  sequence_live = (run_holds g (blank g) (live s.start []) es (live w rs) s.run (start_holds g s.start s.formatted)).here

  in_shape : InShape g
  in_shape =
      let h = geometry_in g (subst (λ (h : Geometry). geometry_ok h ≡ true) sequence_live.shape sequence_live.world.sound.geometry) in
      let few = few_planes g.planes (or_cases (eqb g.planes 1) _ h.planes) in
      (omega (arith, h.blocks_most), (omega (arith, h.pages_most), (omega (arith, h.logical_most), few)))

  goes : GoesOn w
  goes = goes_run g (blank g) (live s.start []) es (live w rs) s.run (start_holds g s.start s.formatted) (start_goes g s.start s.formatted)

  -- ---- "in scan order, which on a layer's own array is write order", on one plane
  module _ (one : g.planes ≡ 1) (c : Call) (f : fits c ≡ true) (a : Allowed g c w) where
    not_two : w.state.geometry.planes ≢ 2
    not_two = rw sequence_live.shape (λ q. absurd (omega (arith, one, q)))

    ordered : InOrder w (plan c w).op (exec c w).world
    ordered = call_orders w (story (blank g) es) sequence_live.world not_two c f (subst (λ (h : Geometry). Allowed h c w) (sym sequence_live.shape) a)

    -- the data page that a call programs is scanned after all others
    pub scan_order_is_write_order : (k : ℕ) (new : List ℕ) → (plan c w).op ≡ program k new → data_page g k ≡ true
        → scanned (exec c w).world ≡ scanned w ++ (entry_of k (spare_of new) ∷ [])
    scan_order_is_write_order k new e d = subst (λ (o : Op). ScannedLast w o (exec c w).world) e ordered.last (rw sequence_live.shape d)

    -- and no call changes the order of those that stay scanned
    pub scan_keeps_order : Sublist (scanned (exec c w).world) (scanned w ++ added g (plan c w).op)
    scan_keeps_order =
        subst (λ (h : Geometry). Sublist (scanned (exec c w).world) (scanned w ++ added h (plan c w).op)) sequence_live.shape ordered.rest

  -- ---- "in a sequence only the first can refuse"
  -- the strides after the first, as the work under way tells
  pub checkpoint_goes_on : is_checkpoint w.state.work ≡ true → refused (exec checkpoint w).answer ≡ false
  checkpoint_goes_on = checkpoint_not_refused w (story (blank g) es) sequence_live.world

  pub reclaim_goes_on : is_reclaim w.state.work ≡ true → refused (exec reclaim w).answer ≡ false
  reclaim_goes_on = reclaim_not_refused w (story (blank g) es) sequence_live.world goes

  -- a stride that answers more leaves its work under way; and "zones change in the last"
  pub checkpoint_under_way : (exec checkpoint w).answer ≡ 255 → More is_checkpoint w (exec checkpoint w).world
  checkpoint_under_way = checkpoint_more w (story (blank g) es) sequence_live.world

  pub reclaim_under_way : (exec reclaim w).answer ≡ 255 → More is_reclaim w (exec reclaim w).world
  reclaim_under_way = reclaim_more w (story (blank g) es) sequence_live.world

  -- and no other call between two strides alters anything, but a recover
  pub between_strides : (c : Call) → is_idle w.state.work ≡ false → another c w.state.work ≡ true → (exec c w).world ≡ w
  between_strides c = busy_same c w

  -- ---- "Each stride picks anew, in a sequence the same block"
  pub stride_picks_same : (exec reclaim w).answer ≡ 255 → picked (exec reclaim w).world ≡ picked w
  stride_picks_same = copy_picks_same w (story (blank g) es) sequence_live.world

-- ---- no command is shut out of a sequence
-- on every world every command but format and recover is allowed
pub any_call : (g : Geometry) (c : Call) (w : World) → is_recovery c ≡ false → Allowed g c w
any_call g (format h) w i = absurd (false≢true (sym i))
any_call g (recover h) w i = absurd (false≢true (sym i))
any_call g (begin id) w i = tt
any_call g (write id lpn d) w i = tt
any_call g (drop_page id lpn) w i = tt
any_call g (lone lpn d) w i = tt
any_call g (commit id) w i = tt
any_call g (abort id) w i = tt
any_call g (read lpn) w i = tt
any_call g checkpoint w i = tt
any_call g reclaim w i = tt

-- so is the recover of its geometry
pub any_recover : (g : Geometry) (w : World) → Allowed g (recover g) w
any_recover g w = refl

-- and every format that is refused, as one is whose geometry or buffers are out of range
pub any_refused : (g h : Geometry) (w : World) → lent_ok h w ≡ false → Allowed g (format h) w
unfolding plan plan_format first_number refused
any_refused g h w e = rw e refl

-- the arguments that the program's types admit: identifiers of 32 bits, other numbers of 16, data bytes
abbrev pub Admitted : Call → Type 0
Admitted (format g) = InShape g
Admitted (recover g) = InShape g
Admitted (begin id) = id < 4294967296
Admitted (write id lpn d) = (id < 4294967296) × ((lpn < 65536) × Bytes d)
Admitted (drop_page id lpn) = (id < 4294967296) × (lpn < 65536)
Admitted (lone lpn d) = (lpn < 65536) × Bytes d
Admitted (commit id) = id < 4294967296
Admitted (abort id) = id < 4294967296
Admitted (read lpn) = lpn < 65536
Admitted checkpoint = Unit {0}
Admitted reclaim = Unit {0}

shape_fits : (g : Geometry) → InShape g → (ltb g.blocks 65536 && (ltb g.pages 65536 && (ltb g.logical 65536 && ltb g.planes 65536))) ≡ true
shape_fits g h =
    and_both (ltb g.blocks 65536) _ (lt-ltb _ _ h.0) (and_both (ltb g.pages 65536) _ (lt-ltb _ _ h.1.0)
    (and_both (ltb g.logical 65536) _ (lt-ltb _ _ h.1.1.0) (lt-ltb _ _ h.1.1.1)))

-- every call with such arguments fits
pub any_fits : (c : Call) → Admitted c → fits c ≡ true
unfolding fits
any_fits (format g) h = shape_fits g h
any_fits (recover g) h = shape_fits g h
any_fits (begin id) h = lt-ltb _ _ h
any_fits (write id lpn d) h = and_both (ltb id 4294967296) _ (lt-ltb _ _ h.0) (and_both (ltb lpn 65536) _ (lt-ltb _ _ h.1.0) (true_bytes d h.1.1))
any_fits (drop_page id lpn) h = and_both (ltb id 4294967296) _ (lt-ltb _ _ h.0) (lt-ltb _ _ h.1)
any_fits (lone lpn d) h = and_both (ltb lpn 65536) _ (lt-ltb _ _ h.0) (true_bytes d h.1)
any_fits (commit id) h = lt-ltb _ _ h
any_fits (abort id) h = lt-ltb _ _ h
any_fits (read lpn) h = lt-ltb _ _ h
any_fits checkpoint h = refl
any_fits reclaim h = refl

pub run_append : {g : Geometry} {p q r : Phase} {es fs : List Event} → Run g p es q → Run g q fs r → Run g p (es ++ fs) r
run_append (stop p) s = s
run_append (next t u) s = next t (run_append u s)

leads_then : {g : Geometry} {es : List Event} {e : Event} {p q : Phase} → Leads g es p → Step g p e q → Leads g (es ++ (e ∷ [])) q
leads_then l s = record { start = l.start; formatted = l.formatted; run = run_append l.run (next s (stop _)) }

-- in every world of a sequence each of these calls may follow, answered whatever it answers, and may be cut at any bits of what it does and of what runs, or
-- before it does anything
pub record Follows (g : Geometry) (es : List Event) (c : Call) (w : World) (rs : List Running) : Type 0 where
  pub answered : InSequence g (es ++ (called c (exec c w).answer ∷ [])) (exec c w).world (runs_after c w rs)
  pub cut_off : (lets : List ℕ) (parts : ℕ → List ℕ) → Leads g (es ++ (cut_event c w rs lets parts ∷ [])) (dark (cut_array c w rs lets parts))
  pub cut_early : (parts : ℕ → List ℕ) → Leads g (es ++ (early_event c w ∷ [])) (dark (early_array w rs parts))

module _ (g : Geometry) (es : List Event) (w : World) (rs : List Running) (s : InSequence g es w rs) where
  follows : (c : Call) → fits c ≡ true → Allowed g c w → Follows g es c w rs
  follows c f a = record {
    answered = leads_then s (call c w rs f a);
    cut_off = λ lets parts. leads_then s (cut c w rs lets parts f a);
    cut_early = λ parts. leads_then s (early c w rs parts f a);
  }

  pub call_follows : (c : Call) → is_recovery c ≡ false → Admitted c → Follows g es c w rs
  call_follows c i h = follows c (any_fits c h) (any_call g c w i)

  pub recover_follows : Follows g es (recover g) w rs
  recover_follows = follows (recover g) (any_fits (recover g) (in_shape g es w rs s)) (any_recover g w)

  pub format_follows : (h : Geometry) → Admitted (format h) → lent_ok h w ≡ false → Follows g es (format h) w rs
  format_follows h f e = follows (format h) (any_fits (format h) f) (any_refused g h w e)

-- ---- every read within a list of events answers as the book has it then
abbrev pub ReadRight : Geometry → Book → Event → Type 0
ReadRight g b (called (format h) n) = Unit {0}
ReadRight g b (called (recover h) n) = Unit {0}
ReadRight g b (called (begin id) n) = Unit {0}
ReadRight g b (called (write id lpn d) n) = Unit {0}
ReadRight g b (called (drop_page id lpn) n) = Unit {0}
ReadRight g b (called (lone lpn d) n) = Unit {0}
ReadRight g b (called (commit id) n) = Unit {0}
ReadRight g b (called (abort id) n) = Unit {0}
ReadRight g b (called (read lpn) n) = lpn < g.logical → n ≡ content_answer (page_of b lpn)
ReadRight g b (called checkpoint n) = Unit {0}
ReadRight g b (called reclaim n) = Unit {0}
ReadRight g b (cut_in c programs due turned) = Unit {0}
ReadRight g b cut_between = Unit {0}

-- every read of the list
abbrev pub ReadsRight : Geometry → Book → List Event → Type 0
ReadsRight g b [] = Unit {0}
ReadsRight g b (e ∷ es) = ReadRight g b e × ReadsRight g (tell b e) es

read_answers : (lpn : ℕ) (w : World) → (exec (read lpn) w).answer ≡ read_answer lpn w
unfolding exec plan carried
read_answers lpn w = refl

step_right : (g : Geometry) (b : Book) (p : Phase) (e : Event) (q : Phase) → Step g p e q → Holds g b p → ReadRight g b e
step_right g b p e q (call (format h) w rs f a) s = tt
step_right g b p e q (call (recover h) w rs f a) s = tt
step_right g b p e q (call (begin id) w rs f a) s = tt
step_right g b p e q (call (write id lpn d) w rs f a) s = tt
step_right g b p e q (call (drop_page id lpn) w rs f a) s = tt
step_right g b p e q (call (lone lpn d) w rs f a) s = tt
step_right g b p e q (call (commit id) w rs f a) s = tt
step_right g b p e q (call (abort id) w rs f a) s = tt
step_right g b p e q (call (read lpn) w rs f a) s = λ l. read_answers lpn w ∙ (live_reads w b s.here.world lpn (rw s.here.shape l)).answer
step_right g b p e q (call checkpoint w rs f a) s = tt
step_right g b p e q (call reclaim w rs f a) s = tt
step_right g b p e q (cut c w rs lets parts f a) s = unfold cut_event in tt
step_right g b p e q (early c w rs parts f a) s = unfold early_event in tt
step_right g b p e q (between w rs parts) s = tt
step_right g b p e q (back w r) s = tt
step_right g b p e q (failed c w i f a r) s = not_read c i (exec c w).answer
  where
    not_read : (c : Call) → is_recovery c ≡ true → (n : ℕ) → ReadRight g b (called c n)
    not_read (format h) i n = tt
    not_read (recover h) i n = tt
    not_read (begin id) i n = tt
    not_read (write id lpn d) i n = tt
    not_read (drop_page id lpn) i n = tt
    not_read (lone lpn d) i n = tt
    not_read (commit id) i n = tt
    not_read (abort id) i n = tt
    not_read (read lpn) i n = absurd (false≢true i)
    not_read checkpoint i n = tt
    not_read reclaim i n = tt
step_right g b p e q (lost c w i f a) s = tt
step_right g b p e q (again xs) s = tt

run_right : (g : Geometry) (b : Book) (p : Phase) (es : List Event) (q : Phase) → Run g p es q → Holds g b p → ReadsRight g b es
run_right g b p es q (stop p') h = tt
run_right g b p es q (next {q = r} {e = e} {es = fs} s t) h = (step_right g b p e r s h, run_right g (tell b e) r fs q t (step_holds g b p e r s h))

pub reads_right : (g : Geometry) (w : World) (es : List Event) (p : Phase) → Formatted g w → Run g (live w []) es p → ReadsRight g (blank g) es
reads_right g w es p f r = run_right g (blank g) (live w []) es p r (start_holds g w f)

-- ---- "it can be below zero only on pages the layer never wrote"
-- every page of a phase's array is lean
phase_leans : (g : Geometry) (b : Book) (p : Phase) → Holds g b p → Leans (array_of p)
phase_leans g b (live w rs) h = h.here.world.sound.lean
phase_leans g b (dark xs) h = h.sound.lean

pub holds_torn : (g : Geometry) (b : Book) (p : Phase) → Holds g b p → (k : ℕ) (d : ℤ) → class_of (page_at (array_of p) k) ≡ Torn d → pos 1 ≤ℤ d
holds_torn g b p h k d = lean_torn (page_at (array_of p) k) d (phase_leans g b p h k)

pub own_torn : OwnTorn
own_torn g w es p f r = holds_torn g (story (blank g) es) p (run_holds g (blank g) (live w []) es p r (start_holds g w f))

-- ---- there are sequences, for every geometry in range
pub some_sequence : (g : Geometry) → geometry_ok g ≡ true → (w : World) × InSequence g [] w []
some_sequence g ok = let f = some_formatted g ok in (f.0, record { start = f.0; formatted = f.1; run = stop (live f.0 []) })
