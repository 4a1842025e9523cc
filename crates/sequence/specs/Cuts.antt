-- A cut in a call, in its operation or before it begins: the array is sound, with the writes of a commit or lone write in the pages of the book exactly
-- when every due bit of the transaction's pages turned.
use Rattle.std.specs.Prelude.{◌≡◌, ◌⊎◌, ◌≢◌, Bool, cond, ◌&&◌, ℕ, ◌+◌, ◌<◌, eqb, ltb}
use Rattle.std.proofs.Math.Path.{refl, sym}
use Rattle.std.proofs.Common.{ap, ◌∙◌, subst, arith}
use Rattle.std.proofs.Math.Logic.{inl, inr}
use Rattle.std.proofs.Math.Bool.{true, false}
use mathlib.Core.List.{List, [], ◌∷◌}
use Rattle.std.proofs.Math.ListN.{length}
use Rattle.model.specs.Lists.{same, those}
use Rattle.model.specs.Bytes.{bytes, minus}
use Rattle.model.specs.Page.{page_at}
use Rattle.model.specs.Frame.{is_idle}
use Rattle.model.specs.World.{World, Plan, Op, refuse, none, program, erase, apply_op, cut_op, due_bits, turned_bits, every_turned, programs, is_none}
use Rattle.model.specs.Transactions.{place_of, with_place, next_page, spent, zone_short, held_op, write_plan, gone, lone_plan, mark_plan, forget_plan}
use Rattle.model.specs.Transactions.{plan_begin, plan_write, plan_drop, plan_lone, plan_commit, plan_abort}
use Rattle.model.specs.Strides.{free_stride, plan_reclaim, with_work, with_zones}
use Rattle.model.specs.Commands.{Call, format, recover, begin, write, drop_page, lone, commit, abort, read, checkpoint, reclaim, plan, carried}
use Rattle.model.specs.Book.{Book, cut_in, tell, entering, close}
use Rattle.model.specs.Sequence.{Running, cut_runs, runs_due, runs_turned, waits, during, of_change, fits, cut_event, cut_array, early_event, early_array}
use Rattle.model.specs.declared.Geometry.{Geometry}
use Rattle.model.specs.declared.Place.{Place}
use Rattle.model.specs.declared.Spare.{Spare}
use Rattle.arrays.specs.Tests.{Is, eqb_cases, and_right, clash, decide}
use Rattle.arrays.specs.Bytelist.{Bytes, bytes_true, length_ands, length_minus}
use Rattle.arrays.specs.Pages.{PageFits, length_page}
use Rattle.ranks.specs.Dealt.{every, those_off}
use Rattle.scanlog.specs.Occ.{occ_no}
use Rattle.sequence.specs.Maps.{occ_set}
use Rattle.sequence.specs.Places.{place_at, Found, place_found}
use Rattle.sequence.specs.Sound.{Stored}
use Rattle.sequence.specs.Running.{turned_append, all_ended, none_ended}
use Rattle.sequence.specs.Live.{Live}
use Rattle.sequence.specs.View.{View, no, yes, after}
use Rattle.sequence.specs.Append.{Appends}
use Rattle.sequence.specs.Begin.{Begins, begin_view}
use Rattle.sequence.specs.Abort.{Aborts, abort_view}
use Rattle.sequence.specs.Lone.{Lones, lone_spare, lone_view, lone_live, lone_appends}
use Rattle.sequence.specs.SameShape.{same_commit, same_checkpoint}
use Rattle.sequence.specs.Write.{WritesTo, write_view, drop_view, gone_small, write_live, page_appends, page_spare, write_bytes, add_found, add_shape}
use Rattle.sequence.specs.Commit.{Commits, forgets, marks, commit_view, mark_live, mark_appends, mark_spare, mark_others}
use Rattle.sequence.specs.Checkpointing.{checkpoint_cuts}
use Rattle.sequence.specs.Reclaiming.{Reclaims, copies, frees, reclaim_view, copy_live, copy_appends, free_cut}
use Rattle.sequence.specs.Beside.{live_stored, LiveRuns, real_page, early_stored, cut_by, besides_none, cut_nothing}
use Rattle.sequence.specs.Beside.{in_other, other_runs, page_turned, cut_other, append_cut, quiet_left, own_left}
use Rattle.sequence.specs.Miscount.{lost_stored}

-- what is claimed of a cut in call c
abbrev pub CutKeeps : Call → World → List Running → Book → List ℕ → (ℕ → List ℕ) → Type 0
CutKeeps c w rs b lets parts = Stored w.state.geometry (cut_array c w rs lets parts) (tell b (cut_event c w rs lets parts)).pages

-- ---- what the book is told
either_same : (b : Book) (t : Bool) → cond t b.pages b.pages ≡ b.pages
either_same b true = refl
either_same b false = refl

-- a call that enters nothing: whatever turned
pub quiet_told : (c : Call) (b : Book) (programmed : Bool) (due turned : List ℕ) → entering c b ≡ b.pages
    → (tell b (cut_in c programmed due turned)).pages ≡ b.pages
unfolding tell
quiet_told c b programmed due turned e = rw e (either_same b (programmed && every_turned due turned))

cut_quiet : (c : Call) (w : World) (rs : List Running) (b : Book) (lets : List ℕ) (parts : ℕ → List ℕ) → entering c b ≡ b.pages
    → Stored w.state.geometry (cut_array c w rs lets parts) b.pages → CutKeeps c w rs b lets parts
unfolding cut_event
cut_quiet c w rs b lets parts e s = rw (quiet_told c b _ _ _ e) s

-- ---- by the operation
module _ (c : Call) (w : World) (rs : List Running) (b : Book) (lets : List ℕ) (parts : ℕ → List ℕ) where
  -- a command that waits: nothing runs beside its operation
  cut_waits : waits c ≡ true → is_none (plan c w).op ≡ false
      → cut_array c w rs lets parts ≡ cut_op (plan c w).state.geometry.pages (plan c w).op lets w.array
  unfolding cut_array during cut_runs
  cut_waits t n = rw (t, n)

  -- one that does not
  cut_beside : waits c ≡ false → cut_array c w rs lets parts ≡ cut_by w (plan c w) rs lets parts
  unfolding cut_array during
  cut_beside t = rw t

  module _ (h : Live w b) (x : LiveRuns w rs) where
    -- no operation
    pub cut_none : (plan c w).op ≡ none → (plan c w).state.geometry ≡ w.state.geometry → CutKeeps c w rs b lets parts
    unfolding cut_array cut_event tell during
    cut_none e s = rw e (rw e at (cut_nothing w b h rs x lets parts (plan c w) e s))

    pub cut_refused : (n : ℕ) → plan c w ≡ refuse w n → CutKeeps c w rs b lets parts
    cut_refused n e = cut_none (ap (λ (p : Plan). p.op) e) (ap (λ (p : Plan). p.state.geometry) e)

    -- a data page appended
    module _ (s : Spare) (p : Plan) (e : plan c w ≡ p) (a : Appends w b h s p) (act : waits c ≡ false) where
      -- pages a block, and the pages of the transaction that run beside it
      abbrev n : ℕ
      n = w.state.geometry.pages

      abbrev mine : List Running
      mine = those (of_change c) (in_other w b h rs x lets parts s p a)

      abbrev turned : Bool
      turned = page_turned w b h rs x lets parts s p a

      told_is : (tell b (cut_event c w rs lets parts)).pages ≡ cond (turned && all_ended n mine parts w.array) (entering c b) b.pages
      unfolding cut_event tell during
      told_is =
          let o = program (next_page w) a.new in
          let l : length (due_bits n o w.array) ≡ length (turned_bits n o lets w.array)
          = unfold turned_bits in sym (length_ands (due_bits n o w.array) lets) in
          rw (
            e,
            act,
            a.geometry,
            a.does,
            turned_append (due_bits n o w.array) (turned_bits n o lets w.array) (runs_due n mine w.array) (runs_turned n mine parts w.array) l,
          )

      cut_append : (turned ≡ true → Stored w.state.geometry (cut_other w b h rs x lets parts s p a)
          (cond (all_ended n mine parts w.array) (entering c b) b.pages))
          → CutKeeps c w rs b lets parts
      cut_append whole = rw (cut_beside act, told_is, e)
          (append_cut w b h rs x lets parts s p a _ (λ t. rw t (whole t)) (λ t. rw t))

-- none of the pages is of the transaction
no_change : (ts : List Running) → those (λ (r : Running). false) ts ≡ []
no_change ts = those_off _ ts (every _ (λ r. refl) ts)

-- ---- by the command
module _ (w : World) (rs : List Running) (b : Book) (lets : List ℕ) (parts : ℕ → List ℕ) (h : Live w b) (x : LiveRuns w rs) where
  -- what is claimed of a cut in a call
  abbrev Kept : Call → Type 0
  Kept c = CutKeeps c w rs b lets parts

  pub begin_cuts : (id : ℕ) → Kept (begin id)
  unfolding plan
  begin_cuts id = go (plan_begin id w) refl (begin_view id w)
    where
      go : (p : Plan) → plan_begin id w ≡ p → View w (Begins w id) p → Kept (begin id)
      go p e (no n r) = cut_refused (begin id) w rs b lets parts h x n e
      go p e (yes q v) =
          cut_none (begin id) w rs b lets parts h x (ap (λ (p : Plan). p.op) (e ∙ v.is))
          (ap (λ (p : Plan). p.state.geometry) (e ∙ v.is) ∙ (unfold with_place in refl))

  pub abort_cuts : (id : ℕ) → Kept (abort id)
  unfolding plan forget_plan with_place
  abort_cuts id = go (plan_abort id w) refl (abort_view id w)
    where
      go : (p : Plan) → plan_abort id w ≡ p → View w (Aborts w id) p → Kept (abort id)
      go p e (no n r) = cut_refused (abort id) w rs b lets parts h x n e
      go p e (yes q v) = cut_none (abort id) w rs b lets parts h x (ap (λ (p : Plan). p.op) (e ∙ v.is)) (ap (λ (p : Plan). p.state.geometry) (e ∙ v.is))

  pub read_cuts : (lpn : ℕ) → Kept (read lpn)
  read_cuts lpn = cut_none (read lpn) w rs b lets parts h x (unfold plan in refl) (unfold plan in refl)

  pub lone_cuts : (lpn : ℕ) (d : List ℕ) → fits (lone lpn d) ≡ true → Kept (lone lpn d)
  unfolding plan fits of_change entering
  lone_cuts lpn d f = go (plan_lone lpn d w) refl (lone_view lpn d w)
    where
      small : Bytes d
      small = bytes_true d (and_right (ltb lpn 65536) (bytes d) f)

      go : (p : Plan) → plan_lone lpn d w ≡ p → View w (Lones w lpn d) p → Kept (lone lpn d)
      go p e (no n r) = cut_refused (lone lpn d) w rs b lets parts h x n e
      go p e (yes q v) =
          let u : Lones w lpn d (lone_plan lpn d w) = subst (Lones w lpn d) v.is v in
          let s = lone_spare lpn (w.state.version + 1) in
          let a = lone_appends w b lpn d h small u in
          cut_append (lone lpn d) w rs b lets parts h x s (lone_plan lpn d w) (e ∙ v.is) a refl (λ t.
          rw (no_change (in_other w b h rs x lets parts s (lone_plan lpn d w) a), none_ended w.state.geometry.pages parts w.array)
          (quiet_left w b h rs x lets parts s (lone_plan lpn d w) a _ (lone_live w b lpn d h small u) (inl refl)
          (λ j n o. unfold lone_plan in omega (arith, occ_set j w.map lpn (next_page w), occ_no j (next_page w) n))))

  -- a plan that adds a page, or refuses
  pub add_cut : (id lpn : ℕ) (drop : Bool) (d : List ℕ) → Bytes d → (q : Plan) → View w (WritesTo w id lpn drop d) q
      → Stored w.state.geometry (cut_by w q rs lets parts) b.pages
  add_cut id lpn drop d small q (no n r) = cut_nothing w b h rs x lets parts q refl refl
  add_cut id lpn drop d small q (yes r v) = rw v.is (does (eqb_cases at.count 0))
    where
      i : ℕ
      i = place_of w.state.places id

      at : Place
      at = place_at w.state.places i

      found : Found w.state.places id i
      found = add_found w b id lpn drop d h small v

      p : Plan
      p = write_plan i at lpn drop d w

      does : Is at.count 0 → Stored w.state.geometry (cut_by w p rs lets parts) b.pages
      does (inl z) =
          cut_nothing w b h rs x lets parts p (unfold write_plan held_op in rw z.1)
          (subst (λ (q : Plan). q.state.geometry ≡ w.state.geometry) v.is (add_shape w b id lpn drop d h small r (yes r v)))
      does (inr z) =
          let s = page_spare w b h id lpn drop d v.idle v.long small v.low i found v.room z.0 (v.clean z.0) in
          let a = page_appends w b h id lpn drop d v.idle v.long small v.low i found v.room z.0 (v.clean z.0) in
          append_cut w b h rs x lets parts s p a b.pages
          (λ t. quiet_left w b h rs x lets parts s p a _ (write_live w b h id lpn drop d v.idle v.long small v.low i found v.room v.clean)
          (inr refl) (λ j n o. unfold write_plan in o))
          (λ t. refl)

  pub write_cuts : (id lpn : ℕ) (d : List ℕ) → fits (write id lpn d) ≡ true → Kept (write id lpn d)
  unfolding plan
  write_cuts id lpn d f =
      cut_quiet (write id lpn d) w rs b lets parts (unfold entering in refl) (rw (cut_beside (write id lpn d) w rs b lets parts refl)
      (add_cut id lpn false d (write_bytes id lpn d f) (plan_write id lpn d w) (write_view id lpn d w)))

  pub drop_cuts : (id lpn : ℕ) → Kept (drop_page id lpn)
  unfolding plan
  drop_cuts id lpn =
      cut_quiet (drop_page id lpn) w rs b lets parts (unfold entering in refl) (rw (cut_beside (drop_page id lpn) w rs b lets parts refl)
      (add_cut id lpn true gone gone_small (plan_drop id lpn w) (drop_view id lpn w)))

  -- ---- a commit
  module _ (id i : ℕ) (idle : is_idle w.state.work ≡ true) (f : Found w.state.places id i) (many : (place_at w.state.places i).count ≢ 0)
      (more : spent w.state.version 1 ≡ false) (short : zone_short w ≡ false) (is : plan (commit id) w ≡ mark_plan i (place_at w.state.places i) w) where
    -- its place, its plan, the spare area of its mark; the pages that run beside it, and those of them that are its own
    abbrev at : Place
    at = place_at w.state.places i

    abbrev p : Plan
    p = mark_plan i at w

    abbrev s : Spare
    s = mark_spare w b h id i idle f many more short

    abbrev a : Appends w b h s p
    a = mark_appends w b h id i idle f many more short

    abbrev others : List Running
    others = in_other w b h rs x lets parts s p a

    abbrev own : List Running → List Running
    own ts = those (λ (r : Running). eqb r.id id) ts

    abbrev g : Geometry
    g = w.state.geometry

    -- where one of them is not ended, something runs: there are two planes
    some_two : (ts : List Running) → LiveRuns w ts → all_ended g.pages (own ts) parts w.array ≡ false → g.planes ≡ 2
    unfolding those
    some_two [] y t = clash (none_ended g.pages parts w.array) t
    some_two (r ∷ ts) y t = y.0.two

    marked_live : Live (after p w) (record { pages = entering (commit id) b; changes = close id b.changes })
    unfolding entering
    marked_live = mark_live w b h id i idle f many more short

    mark_cuts : Kept (commit id)
    unfolding of_change
    mark_cuts = cut_append (commit id) w rs b lets parts h x s p is a refl (λ t. go (decide (all_ended g.pages (own others) parts w.array)))
      where
        go : (all_ended g.pages (own others) parts w.array ≡ true) ⊎ (all_ended g.pages (own others) parts w.array ≡ false)
            → Stored g (cut_other w b h rs x lets parts s p a) (cond (all_ended g.pages (own others) parts w.array) (entering (commit id) b) b.pages)
        go (inl u) = rw u (own_left w b h rs x lets parts s p a _ marked_live id f.is u (λ r q n.
            unfold mark_plan in mark_others w b h id i idle f many more short r.id r.page
            (record { real = real_page w b h r q; whole = q.ok.whole; owner = q.id; free = q.free }) (λ m. n (m ∙ f.is))))
        go (inr u) =
            rw u (lost_stored w b h id i idle f many more short others (other_runs w b h rs x lets parts s p a) parts (rw f.is u)
            (some_two others (other_runs w b h rs x lets parts s p a) u))

  pub commit_cuts : (id : ℕ) → Kept (commit id)
  unfolding plan
  commit_cuts id = go (plan_commit id w) refl (commit_view id w)
    where
      does : (p : Plan) → plan_commit id w ≡ p → Commits w id p → Kept (commit id)
      does p e (forgets idle found zero') =
          cut_none (commit id) w rs b lets parts h x (ap (λ (p : Plan). p.op) e ∙ (unfold forget_plan in refl)) (same_commit w id).same
      does p e (marks idle found many more short) =
          mark_cuts id (place_of w.state.places id) idle (place_found w.state.places id h.changing.eight found) many more short e

      go : (p : Plan) → plan_commit id w ≡ p → View w (Commits w id) p → Kept (commit id)
      go p e (no n r) = cut_refused (commit id) w rs b lets parts h x n e
      go p e (yes q v) = does q e v

  -- ---- the strides
  pub checkpoint_cuts_kept : Kept checkpoint
  checkpoint_cuts_kept = go (plan checkpoint w).op refl
    where
      busy : is_none (plan checkpoint w).op ≡ false → Kept checkpoint
      busy n =
          cut_quiet checkpoint w rs b lets parts (unfold entering in refl) (rw (cut_waits checkpoint w rs b lets parts refl n) (checkpoint_cuts w b h lets))

      go : (o : Op) → (plan checkpoint w).op ≡ o → Kept checkpoint
      go none e = cut_none checkpoint w rs b lets parts h x e (unfold plan in (same_checkpoint w).same)
      go (program k new) e = busy (rw e)
      go (erase c) e = busy (rw e)

  -- a copy: nothing runs beside it
  copy_cut : (s : Spare) (p : Plan) → Appends w b h s p → Live (after p w) b
      → Stored w.state.geometry (cut_op p.state.geometry.pages p.op lets w.array) b.pages
  copy_cut s p a l =
      let u : Stored p.state.geometry (apply_op p.state.geometry.pages p.op w.array) b.pages = unfold carried in live_stored (after p w) b l in
      let done : Stored w.state.geometry (apply_op w.state.geometry.pages (program (next_page w) a.new) w.array) b.pages
      = rw (a.geometry, a.does) at u in
      unfold cut_runs in rw (besides_none w p) at (append_cut w b h [] tt lets parts s p a b.pages (λ t. unfold those in done) (λ t. refl))

  pub reclaim_cuts : Kept reclaim
  unfolding plan
  reclaim_cuts = go (plan_reclaim w) refl (reclaim_view w h.sound.last)
    where
      busy : (p : Plan) → plan_reclaim w ≡ p → is_none p.op ≡ false
          → Stored w.state.geometry (cut_op p.state.geometry.pages p.op lets w.array) b.pages → Kept reclaim
      busy p e n s =
          cut_quiet reclaim w rs b lets parts (unfold entering in refl)
          (rw (cut_waits reclaim w rs b lets parts refl (ap (λ (q : Plan). is_none q.op) e ∙ n), e) s)

      does : (p : Plan) → plan_reclaim w ≡ p → Reclaims w p → Kept reclaim
      does p e (copies c calm' on some) =
          let a = copy_appends w b h c on calm' some in busy p e (ap is_none a.does) (copy_cut _ p a (copy_live w b h c on calm' some))
      does p e (frees c calm' on zero') = busy p e (unfold free_stride in refl) (unfold free_stride with_work with_zones in free_cut w b h c on calm' zero' lets)

      go : (p : Plan) → plan_reclaim w ≡ p → View w (Reclaims w) p → Kept reclaim
      go p e (no n r) = cut_refused reclaim w rs b lets parts h x n e
      go p e (yes q v) = does q e v

-- ---- a cut before the operation begins: the book enters nothing
same_nil : (xs : List ℕ) → 0 < length xs → same xs [] ≡ false
unfolding same
same_nil [] l = absurd (omega arith)
same_nil (x ∷ xs) l = refl

-- the page that an operation programs is in the array
abbrev Inside : Op → List ℕ → Type 0
Inside none xs = Unit {0}
Inside (program k new) xs = PageFits xs k
Inside (erase c) xs = Unit {0}

none_turned : (n : ℕ) (o : Op) (xs : List ℕ) → Inside o xs → (programs o && every_turned (due_bits n o xs) []) ≡ false
unfolding every_turned due_bits
none_turned n none xs f = refl
none_turned n (program k new) xs f = same_nil (minus (page_at xs k) new) (omega (arith, length_minus (page_at xs k) new, length_page xs k f))
none_turned n (erase c) xs f = refl

early_told : (c : Call) (w : World) (b : Book) → (entering c b ≡ b.pages) ⊎ Inside (plan c w).op w.array → (tell b (early_event c w)).pages ≡ b.pages
unfolding early_event
early_told c w b (inl e) = quiet_told c b _ _ _ e
early_told c w b (inr f) = unfold tell in rw (none_turned (plan c w).state.geometry.pages (plan c w).op w.array f)

lone_inside : (w : World) (b : Book) (lpn : ℕ) (d : List ℕ) → Live w b → fits (lone lpn d) ≡ true → Inside (plan (lone lpn d) w).op w.array
unfolding plan fits
lone_inside w b lpn d h f = go (plan_lone lpn d w) (lone_view lpn d w)
  where
    go : (p : Plan) → View w (Lones w lpn d) p → Inside p.op w.array
    go p (no n r) = tt
    go p (yes q v) =
        let u : Lones w lpn d (lone_plan lpn d w) = subst (Lones w lpn d) v.is v in
        let a = lone_appends w b lpn d h (bytes_true d (and_right (ltb lpn 65536) (bytes d) f)) u in
        rw (v.is, a.does) a.ok.fits

commit_inside : (w : World) (b : Book) (id : ℕ) → Live w b → Inside (plan (commit id) w).op w.array
unfolding plan
commit_inside w b id h = go (plan_commit id w) (commit_view id w)
  where
    does : (p : Plan) → Commits w id p → Inside p.op w.array
    does p (forgets idle found zero') = unfold forget_plan in tt
    does p (marks idle found many more short) =
        let a = mark_appends w b h id (place_of w.state.places id) idle (place_found w.state.places id h.changing.eight found) many more short in
        rw a.does a.ok.fits

    go : (p : Plan) → View w (Commits w id) p → Inside p.op w.array
    go p (no n r) = tt
    go p (yes q v) = does q v

pub early_cuts : (c : Call) (w : World) (rs : List Running) (b : Book) (parts : ℕ → List ℕ) → Live w b → LiveRuns w rs → fits c ≡ true
    → Stored w.state.geometry (early_array w rs parts) (tell b (early_event c w)).pages
early_cuts c w rs b parts h x f = rw (early_told c w b (pick c f)) (early_stored w b h rs parts x)
  where
    pick : (c : Call) → fits c ≡ true → (entering c b ≡ b.pages) ⊎ Inside (plan c w).op w.array
    pick (format g) f = inl (unfold entering in refl)
    pick (recover g) f = inl (unfold entering in refl)
    pick (begin id) f = inl (unfold entering in refl)
    pick (write id lpn d) f = inl (unfold entering in refl)
    pick (drop_page id lpn) f = inl (unfold entering in refl)
    pick (lone lpn d) f = inr (lone_inside w b lpn d h f)
    pick (commit id) f = inr (commit_inside w b id h)
    pick (abort id) f = inl (unfold entering in refl)
    pick (read lpn) f = inl (unfold entering in refl)
    pick checkpoint f = inl (unfold entering in refl)
    pick reclaim f = inl (unfold entering in refl)
