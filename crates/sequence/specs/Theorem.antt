-- Demand 3: one invariant for a phase with the book, one lemma for each step, and the theorem.
use Rattle.std.specs.Prelude.{◌≡◌, refl, Bool, true, false, cond, ℕ, List, [], length, eqb}
use Rattle.std.proofs.Math.Path.{sym, subst}
use Rattle.std.proofs.Common.{ap, ◌∙◌}
use Rattle.model.specs.Lists.{all}
use Rattle.std.proofs.lemmas.Bool.{not-false}
use Rattle.model.specs.World.{World, Plan}
use Rattle.model.specs.Frame.{lent_ok}
use Rattle.model.specs.Recover.{plan_recover, recover_checks, recover_plan, page_taken}
use Rattle.model.specs.Transactions.{plan_begin, plan_write, plan_drop, plan_lone, plan_commit, plan_abort}
use Rattle.model.specs.Strides.{plan_checkpoint, plan_reclaim}
use Rattle.model.specs.Commands.{Call, format, recover, begin, write, drop_page, lone, commit, abort, read, checkpoint, reclaim, plan, carried, exec, Outcome}
use Rattle.model.specs.Book.{Book, Event, called, blank, tell, story, entering, changing}
use Rattle.model.specs.Sequence.{fits, Running, Phase, live, dark, array_of, Allowed, cut_event, cut_array, early_event, early_array}
use Rattle.model.specs.Sequence.{Step, call, cut, early, between, back, failed, lost, again, Run, stop, next, Formatted}
use Rattle.model.specs.Demand3.{Recovers, LiveReads, Kept, Demand3, FormatReads}
use Rattle.model.specs.declared.Geometry.{Geometry}
use Rattle.model.specs.declared.State.{State}
use Rattle.model.specs.Zones.{Entry}
use Rattle.arrays.specs.Frame.{lent_lengths}
use Rattle.arrays.specs.Order.{numbered, Unless, none_applies, done_first}
use Rattle.front.specs.Written.{Saved}
use Rattle.front.specs.Recovered.{state_of}
use Rattle.front.specs.FormatReads.{format_reads_law}
use Rattle.sequence.specs.Refused.{refused_same, read_same, recover_none, keeps_plan}
use Rattle.sequence.specs.Sound.{Stored, handed, recovered, sound_recovers}
use Rattle.sequence.specs.Live.{Live, live_reads, closed_book, sound_live}
use Rattle.sequence.specs.View.{told_refused, refused_live}
use Rattle.sequence.specs.SameShape.{SameShape, same_begin, same_write, same_drop, same_lone, same_commit, same_abort, same_checkpoint, same_reclaim}
use Rattle.sequence.specs.Begin.{begin_keeps}
use Rattle.sequence.specs.Abort.{abort_keeps}
use Rattle.sequence.specs.Lone.{lone_keeps}
use Rattle.sequence.specs.Write.{write_keeps, drop_keeps}
use Rattle.sequence.specs.Commit.{commit_keeps}
use Rattle.sequence.specs.Checkpointing.{checkpoint_live}
use Rattle.sequence.specs.Reclaiming.{reclaim_keeps}
use Rattle.sequence.specs.RunsKept.{runs_kept}
use Rattle.sequence.specs.Beside.{live_stored, LiveRuns, early_stored}
use Rattle.sequence.specs.Cuts.{CutKeeps, cut_none, cut_refused, begin_cuts, abort_cuts, read_cuts, lone_cuts, write_cuts, drop_cuts, commit_cuts}
use Rattle.sequence.specs.Cuts.{checkpoint_cuts_kept, reclaim_cuts, early_cuts}
use Rattle.sequence.specs.Start.{formatted_live, format_zones_ok}

-- ---- the invariant
-- a world of geometry g is live
pub record LiveAt (g : Geometry) (w : World) (b : Book) : Type 0 where
  pub shape : w.state.geometry ≡ g
  pub world : Live w b

-- a live world with its pages that run
pub record RunsAt (g : Geometry) (w : World) (rs : List Running) (b : Book) : Type 0 where
  pub here : LiveAt g w b
  pub runs : LiveRuns w rs

-- the invariant of a phase: a live world, or a sound array
abbrev pub Holds : Geometry → Book → Phase → Type 0
Holds g b (live w rs) = RunsAt g w rs b
Holds g b (dark xs) = Stored g xs b.pages

-- ---- a recovery of a sound array
-- the state that it makes has the geometry
state_shape : (g : Geometry) (es : List Entry) (c : Saved) → (state_of g es c).geometry ≡ g
unfolding state_of
state_shape g es c = refl

module _ (g : Geometry) (xs : List ℕ) (b : Book) (s : Stored g xs b.pages) (map hold : List ℕ) (t : State) (wide : length map ≡ g.logical)
    (long : length hold ≡ 4096) where
  -- the world that it leads to
  abbrev found : World
  found = handed xs s.map hold (recovered g xs s.saved s.map s.version b.pages s.sound)

  recovers : exec (recover g) (handed xs map hold t) ≡ record { answer = 0; world = found }
  recovers = sound_recovers g xs s.saved s.map s.version b.pages s.sound map hold t wide long

  again_same : exec (recover g) found ≡ record { answer = 0; world = found }
  again_same = sound_recovers g xs s.saved s.map s.version b.pages s.sound s.map hold _ s.sound.wide long

  found_live : Live found (closed_book b)
  found_live = sound_live g xs s.saved s.map s.version b hold s.sound long

  found_shape : found.state.geometry ≡ g
  found_shape = state_shape g _ s.saved

  pub recovered_live : LiveAt g (exec (recover g) (handed xs map hold t)).world (closed_book b)
  recovered_live = rw recovers (record { shape = found_shape; world = found_live })

  pub recovered_right : Recovers g b (handed xs map hold t)
  recovered_right = record {
    succeeds = ap (λ (o : Outcome). o.answer) recovers;
    reads = rw recovers (λ lpn l. live_reads found (closed_book b) found_live lpn (rw found_shape l));
    again = rw recovers again_same;
  }

-- a recover that is done was handed buffers of the right lengths
recover_lent : (g : Geometry) (w : World) → (exec (recover g) w).answer ≡ 0 → lent_ok g w ≡ true
unfolding exec plan carried plan_recover numbered all Unless
recover_lent g w e =
    none_applies (recover_checks g w) refl (done_first (recover_checks g w) w (recover_plan g (page_taken g w) w) e) (λ l n c p. not-false (lent_ok g w) l)

-- the book after it
recover_told : (g : Geometry) (b : Book) (n : ℕ) → n ≡ 0 → tell b (called (recover g) n) ≡ closed_book b
unfolding tell entering changing
recover_told g b n e = rw e refl

-- ---- a call on a live world
-- the geometry after it
shape_after : (c : Call) (w : World) (g : Geometry) (p : Plan) → plan c w ≡ p → SameShape w p → w.state.geometry ≡ g → (exec c w).world.state.geometry ≡ g
unfolding exec carried
shape_after c w g p e s h = rw e (s.same ∙ h)

-- a recover without a cut
live_recover : (g : Geometry) (w : World) (b : Book) → LiveAt g w b
    → LiveAt g (exec (recover g) w).world (tell b (called (recover g) (exec (recover g) w).answer))
live_recover g w b h =
    let s : Stored g w.array b.pages = rw h.shape at (live_stored w b h.world) in
    let wide : length w.map ≡ g.logical = rw h.shape at h.world.sound.wide in
    let r = recovered_live g w.array b s w.map w.hold w.state wide h.world.hold in
    let e = (recovered_right g w.array b s w.map w.hold w.state wide h.world.hold).succeeds in
    rw (recover_told g b (exec (recover g) w).answer e) r

-- a recover leaves the geometry
recover_shape : (g k : Geometry) (w : World) (b : Book) → k ≡ g → LiveAt g w b → (plan (recover k) w).state.geometry ≡ w.state.geometry
recover_shape g k w b e h =
    let r : (plan (recover g) w).state.geometry ≡ g = unfold exec carried in (live_recover g w b h).shape in
    rw e (r ∙ sym h.shape)

-- a read changes neither the world nor the book
read_live : (w : World) (b : Book) (lpn n : ℕ) → Live w b → Live w (tell b (called (read lpn) n))
unfolding tell entering changing
read_live w b lpn n h = go (eqb n 0)
  where
    go : (t : Bool) → Live w (cond t (record { pages = b.pages; changes = b.changes }) b)
    go true = h
    go false = h

kept_call : (g : Geometry) (c : Call) (w : World) (b : Book) → fits c ≡ true → Allowed g c w → LiveAt g w b
    → LiveAt g (exec c w).world (tell b (called c (exec c w).answer))
kept_call g (format k) w b f a h = record {
  shape = rw (refused_same w (format k) (unfold exec carried in a)) h.shape;
  world = refused_live w b (format k) (unfold exec carried in a) h.world;
}
kept_call g (recover k) w b f a h = rw a (live_recover g w b h)
kept_call g (begin id) w b f a h = record {
  shape = shape_after (begin id) w g (plan_begin id w) (unfold plan in refl) (same_begin w id) h.shape;
  world = begin_keeps w b id h.world f;
}
kept_call g (write id lpn d) w b f a h = record {
  shape = shape_after (write id lpn d) w g (plan_write id lpn d w) (unfold plan in refl) (same_write w id lpn d) h.shape;
  world = write_keeps w b id lpn d h.world f;
}
kept_call g (drop_page id lpn) w b f a h = record {
  shape = shape_after (drop_page id lpn) w g (plan_drop id lpn w) (unfold plan in refl) (same_drop w id lpn) h.shape;
  world = drop_keeps w b id lpn h.world;
}
kept_call g (lone lpn d) w b f a h = record {
  shape = shape_after (lone lpn d) w g (plan_lone lpn d w) (unfold plan in refl) (same_lone w lpn d) h.shape;
  world = lone_keeps w b lpn d h.world f;
}
kept_call g (commit id) w b f a h = record {
  shape = shape_after (commit id) w g (plan_commit id w) (unfold plan in refl) (same_commit w id) h.shape;
  world = commit_keeps w b id h.world;
}
kept_call g (abort id) w b f a h = record {
  shape = shape_after (abort id) w g (plan_abort id w) (unfold plan in refl) (same_abort w id) h.shape;
  world = abort_keeps w b id h.world;
}
kept_call g (read lpn) w b f a h = rw (read_same lpn w) (record { shape = h.shape; world = read_live w b lpn (exec (read lpn) w).answer h.world })
kept_call g checkpoint w b f a h = record {
  shape = shape_after checkpoint w g (plan_checkpoint w) (unfold plan in refl) (same_checkpoint w) h.shape;
  world = checkpoint_live w b h.world;
}
kept_call g reclaim w b f a h = record {
  shape = shape_after reclaim w g (plan_reclaim w) (unfold plan in refl) (same_reclaim w) h.shape;
  world = reclaim_keeps w b h.world;
}

-- ---- a cut in a call
module _ (g : Geometry) (w : World) (rs : List Running) (b : Book) (lets : List ℕ) (parts : ℕ → List ℕ) (h : LiveAt g w b) (x : LiveRuns w rs) where
  kept_cut : (c : Call) → fits c ≡ true → Allowed g c w → CutKeeps c w rs b lets parts
  kept_cut (format k) f a = cut_refused (format k) w rs b lets parts h.world x _ ((keeps_plan w (format k)).same a)
  kept_cut (recover k) f a = cut_none (recover k) w rs b lets parts h.world x (recover_none k w) (recover_shape g k w b a h)
  kept_cut (begin id) f a = begin_cuts w rs b lets parts h.world x id
  kept_cut (write id lpn d) f a = write_cuts w rs b lets parts h.world x id lpn d f
  kept_cut (drop_page id lpn) f a = drop_cuts w rs b lets parts h.world x id lpn
  kept_cut (lone lpn d) f a = lone_cuts w rs b lets parts h.world x lpn d f
  kept_cut (commit id) f a = commit_cuts w rs b lets parts h.world x id
  kept_cut (abort id) f a = abort_cuts w rs b lets parts h.world x id
  kept_cut (read lpn) f a = read_cuts w rs b lets parts h.world x lpn
  kept_cut checkpoint f a = checkpoint_cuts_kept w rs b lets parts h.world x
  kept_cut reclaim f a = reclaim_cuts w rs b lets parts h.world x

-- ---- one step
pub step_holds : (g : Geometry) (b : Book) (p : Phase) (e : Event) (q : Phase) → Step g p e q → Holds g b p → Holds g (tell b e) q
step_holds g b p e q (call c w rs f a) h = record { here = kept_call g c w b f a h.here; runs = runs_kept w b h.here.world rs h.runs c f }
step_holds g b p e q (cut c w rs lets parts f a) h =
    subst (λ (k : Geometry). Stored k (cut_array c w rs lets parts) (tell b (cut_event c w rs lets parts)).pages) h.here.shape
    (kept_cut g w rs b lets parts h.here h.runs c f a)
step_holds g b p e q (early c w rs parts f a) h =
    subst (λ (k : Geometry). Stored k (early_array w rs parts) (tell b (early_event c w)).pages) h.here.shape
    (early_cuts c w rs b parts h.here.world h.runs f)
step_holds g b p e q (between w rs parts) h =
    unfold tell in
    subst (λ (k : Geometry). Stored k (early_array w rs parts) b.pages) h.here.shape (early_stored w b h.here.world rs parts h.runs)
step_holds g b p e q (back w r) h =
    let l = lent_lengths g w (recover_lent g w r) in
    rw (recover_told g b 0 refl) (record { here = recovered_live g w.array b h w.map w.hold w.state l.map l.hold; runs = tt })
step_holds g b p e q (failed c w i f a r) h = rw (told_refused b c (exec c w).answer r) h
step_holds g b p e q (lost c w i f a) h = unfold tell in h
step_holds g b p e q (again xs) h = unfold tell in h

-- ---- a run
pub run_holds : (g : Geometry) (b : Book) (p : Phase) (es : List Event) (q : Phase) → Run g p es q → Holds g b p → Holds g (story b es) q
unfolding story
run_holds g b p es q (stop p') h = h
run_holds g b p es q (next {q = r} {e = e} {es = fs} s t) h = run_holds g (tell b e) r fs q t (step_holds g b p e r s h)

-- what the invariant gives
holds_stored : (g : Geometry) (b : Book) (p : Phase) → Holds g b p → Stored g (array_of p) b.pages
holds_stored g b (live w rs) h = rw h.here.shape at (live_stored w b h.here.world)
holds_stored g b (dark xs) h = h

holds_reads : (g : Geometry) (b : Book) (p : Phase) → Holds g b p → LiveReads g b p
holds_reads g b (live w rs) h = λ lpn l. live_reads w b h.here.world lpn (rw h.here.shape l)
holds_reads g b (dark xs) h = tt

pub holds_kept : (g : Geometry) (es : List Event) (p : Phase) → Holds g (story (blank g) es) p → Kept g es p
holds_kept g es p h = record {
  recovers = λ map hold t wide long. recovered_right g (array_of p) (story (blank g) es) (holds_stored g (story (blank g) es) p h) map hold t wide long;
  reads = holds_reads g (story (blank g) es) p h;
}

-- what a format leaves
pub start_holds : (g : Geometry) (w : World) → Formatted g w → RunsAt g w [] (blank g)
start_holds g w f = let s = formatted_live g w f in record { here = record { shape = s.0; world = s.1 }; runs = tt }

-- ---- the theorem
pub demand3 : Demand3
demand3 g w es p f r = holds_kept g es p (run_holds g (blank g) (live w []) es p r (start_holds g w f))

-- between two strides of the format every page is never written
pub format_reads : FormatReads
format_reads = format_reads_law format_zones_ok
