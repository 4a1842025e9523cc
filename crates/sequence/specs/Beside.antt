-- The pages that run on a live world: each may be lost in a cut that finds no operation begun, and beside a data page that is programmed, torn or whole.
use Rattle.std.specs.Prelude.{◌≡◌, refl, ◌⊎◌, ◌≢◌, Bool, false, cond, ◌&&◌, ℕ, eqb}
use Rattle.std.proofs.Math.Path.{sym}
use Rattle.std.proofs.Common.{◌∙◌, subst, inl, inr, arith}
use Rattle.std.proofs.Math.Bool.{true}
use mathlib.Core.List.{List, [], ◌∷◌}
use Rattle.model.specs.Lists.{those}
use Rattle.model.specs.Page.{spare_of, whole_at, blank_at}
use Rattle.model.specs.Geometry.{unmapped}
use Rattle.model.specs.Zones.{entry_of, scan_of}
use Rattle.model.specs.World.{World, Plan, Op, none, program, apply_op, cut_op, turn, due_bits, turned_bits, every_turned, is_none}
use Rattle.model.specs.Transactions.{next_page}
use Rattle.model.specs.Commands.{carried}
use Rattle.model.specs.Book.{Book, Content}
use Rattle.model.specs.Sequence.{Running, cut_runs, apart_from, early_array}
use Rattle.model.specs.declared.Geometry.{Geometry}
use Rattle.model.specs.declared.Spare.{Spare}
use Rattle.model.specs.declared.Zones.{Zones}
use Rattle.arrays.specs.Tests.{Is, eqb_cases, and_left, and_right, clash}
use Rattle.arrays.specs.Insert.{Insert}
use Rattle.arrays.specs.Ranges.{page_most, page_small}
use Rattle.arrays.specs.Ops.{length_cut, length_apply, cut_program_other, program_other}
use Rattle.arrays.specs.Arrays.{cut_done}
use Rattle.arrays.specs.Whole.{blank_not_whole}
use Rattle.ranks.specs.Entries.{entries_in_law}
use Rattle.scanlog.specs.Occ.{occ}
use Rattle.scanlog.specs.Tidy.{Within, place_data, scan_program}
use Rattle.scanlog.specs.Free.{Grown, grown_scan}
use Rattle.sequence.specs.Sound.{Sound, Stored}
use Rattle.sequence.specs.Running.{run_keep, ended, ended_same, all_ended, ended_split, Runs, runs_map, runs_those}
use Rattle.sequence.specs.Lost.{Quiet, quiet_keep, Safe, runs_left}
use Rattle.sequence.specs.Live.{Live, live_range, scanned}
use Rattle.sequence.specs.View.{after}
use Rattle.sequence.specs.Append.{Appends}

-- ---- on a live world
pub live_stored : (w : World) (b : Book) → Live w b → Stored w.state.geometry w.array b.pages
live_stored w b h = record { saved = h.saved; map = w.map; version = w.state.version; sound = h.sound }

-- a page that runs may be lost; so may all of them
abbrev pub LiveRun : World → Running → Type 0
LiveRun w r = Quiet w.state.geometry w.array w.state.zones w.map (scanned w) r

abbrev pub LiveRuns : World → List Running → Type 0
LiveRuns w rs = Runs (LiveRun w) rs

-- on one plane there is none
pub none_run : (w : World) (rs : List Running) → w.state.geometry.planes ≡ 1 → LiveRuns w rs → rs ≡ []
none_run w [] one x = refl
none_run w (r ∷ rs) one x = absurd (omega (arith, one, x.0.two))

-- the checkpoint lists the same available blocks
pub within_saved : (z₀ z : Zones) (p k : ℕ) → Grown z₀ z → Within z p k → Within z₀ p k
within_saved z₀ z p k h w = record { block = w.block; index = w.index; room = w.room; page = w.page; among = rw h.available w.among }

pub quiet_saved : (g : Geometry) (xs : List ℕ) (z₀ z : Zones) (map : List ℕ) (r : Running) → Grown z₀ z → Quiet g xs z map (scan_of xs g.pages z) r
    → Quiet g xs z₀ map (scan_of xs g.pages z₀) r
quiet_saved g xs z₀ z map r h q = record {
  two = q.two;
  ok = q.ok;
  place = within_saved z₀ z g.pages r.page h q.place;
  cnt = q.cnt;
  ver = q.ver;
  id = q.id;
  some = q.some;
  quiet = rw (grown_scan z₀ z h xs g.pages) q.quiet;
  free = q.free;
}

-- such a page is not erased, and has a number
pub not_erased : (w : World) (k : ℕ) → blank_at w.array k ≡ true → (r : Running) → LiveRun w r → r.page ≢ k
not_erased w k e r q n = clash (subst (λ (j : ℕ). whole_at w.array j ≡ true) n q.ok.whole) (blank_not_whole w.array k e)

pub real_page : (w : World) (b : Book) → Live w b → (r : Running) → LiveRun w r → r.page ≢ unmapped
real_page w b h r q e =
    let g = w.state.geometry in
    let d = place_data g w.array w.array w.state.zones h.tidy.ok r.page q.place (λ j n. refl) in
    absurd (omega (arith, e, page_small g r.page (live_range w b h) (page_most g r.page d)))

-- the entry of a page that is no mark of identifier i
pub entry_quiet : (k : ℕ) (s : Spare) (i : ℕ) → (s.id ≡ i → s.cnt ≡ 0) → (entry_of k s).id ≡ i → (entry_of k s).cnt ≡ 0
unfolding entry_of
entry_quiet k s i f = f

-- ---- a cut before or between operations
pub early_stored : (w : World) (b : Book) → Live w b → (rs : List Running) (parts : ℕ → List ℕ) → LiveRuns w rs
    → Stored w.state.geometry (early_array w rs parts) b.pages
early_stored w b h rs parts x =
    let g = w.state.geometry in
    let l = runs_left g w.array h.saved w.map w.state.version b.pages h.sound parts rs
    (runs_map _ _ (λ r q. inl (quiet_saved g w.array h.saved.zones w.state.zones w.map r h.grown q)) rs x) in
    record { saved = h.saved; map = w.map; version = w.state.version; sound = l.sound }

-- ---- a cut in the operation of a plan
-- those that run beside it, where none is waited for
abbrev pub besides : World → Plan → List Running → List Running
besides w p rs = cond (is_none p.op) rs (those (apart_from w.state.geometry.pages p.op) rs)

-- the array that the cut leaves
abbrev pub cut_by : World → Plan → List Running → List ℕ → (ℕ → List ℕ) → List ℕ
cut_by w p rs lets parts =
    let n = p.state.geometry.pages in
    cut_runs n (besides w p rs) parts (cut_op n p.op lets w.array)

-- where nothing runs, nothing runs beside it
pub either_none : (t : Bool) → ◌≡◌ {A = List Running} (cond t [] []) []
either_none true = refl
either_none false = refl

pub besides_none : (w : World) (p : Plan) → besides w p [] ≡ []
unfolding those
besides_none w p = either_none (is_none p.op)

-- no operation
pub cut_nothing : (w : World) (b : Book) → Live w b → (rs : List Running) → LiveRuns w rs → (lets : List ℕ) (parts : ℕ → List ℕ) (p : Plan) → p.op ≡ none
    → p.state.geometry ≡ w.state.geometry → Stored w.state.geometry (cut_by w p rs lets parts) b.pages
unfolding cut_op turn
cut_nothing w b h rs x lets parts p e s = rw (e, s) (early_stored w b h rs parts x)

-- a data page is programmed
module _ (w : World) (b : Book) (h : Live w b) (rs : List Running) (x : LiveRuns w rs) (lets : List ℕ) (parts : ℕ → List ℕ) (s : Spare) (p : Plan)
    (a : Appends w b h s p) where
  -- geometry, array, pages a block, the page and what is done to it
  abbrev g : Geometry
  g = w.state.geometry

  abbrev xs : List ℕ
  xs = w.array

  abbrev n : ℕ
  n = g.pages

  abbrev k : ℕ
  k = next_page w

  abbrev op : Op
  op = program k a.new

  -- those that run beside it, and whether every due bit of the page is turned
  abbrev pub in_other : List Running
  in_other = those (apart_from n op) rs

  pub other_runs : LiveRuns w in_other
  other_runs = runs_those _ (apart_from n op) rs x

  abbrev pub page_turned : Bool
  page_turned = every_turned (due_bits n op xs) (turned_bits n op lets xs)

  -- the array with the page whole, and what the cut leaves of those beside it
  abbrev ys : List ℕ
  ys = apply_op n op xs

  abbrev pub cut_other : List ℕ
  cut_other = cut_runs n in_other parts ys

  not_next : (r : Running) → LiveRun w r → r.page ≢ k
  not_next = not_erased w k a.ok.blank

  -- its page is torn: the array is as sound as it was
  torn_left : page_turned ≡ false → Stored g (cut_runs n in_other parts (cut_op n op lets xs)) b.pages
  torn_left f =
      let zs = cut_op n op lets xs in
      let same : scan_of zs n w.state.zones ≡ scanned w = a.still lets f in
      let safe : (r : Running) → LiveRun w r → Quiet g zs h.saved.zones w.map (scan_of zs n h.saved.zones) r
      = λ r q. quiet_saved g zs h.saved.zones w.state.zones w.map r h.grown
      (quiet_keep g xs zs w.state.zones w.map w.map (scanned w) (scan_of zs n w.state.zones) r
      (cut_program_other n xs k a.new a.ok.fits lets r.page (not_next r q)) (length_cut n op lets xs) (rw same q.quiet) q.free q) in
      let l = runs_left g zs h.saved w.map w.state.version b.pages (a.torn lets f) parts in_other
      (runs_map _ _ (λ r q. inl (safe r q)) in_other other_runs) in
      record { saved = h.saved; map = w.map; version = w.state.version; sound = l.sound }

  -- all of the page is there, or none
  pub append_cut : (ps : List Content) → (page_turned ≡ true → Stored g cut_other ps) → (page_turned ≡ false → b.pages ≡ ps)
      → Stored g (cut_by w p rs lets parts) ps
  append_cut ps whole torn = rw (a.does, a.geometry) (go page_turned refl)
    where
      go : (t : Bool) → page_turned ≡ t → Stored g (cut_runs n in_other parts (cut_op n op lets xs)) ps
      go true t = rw (cut_done n xs k a.new a.ok lets h.sound.bytes t) (whole t)
      go false t = rw (← torn t) (torn_left t)

  -- ---- its page is whole
  module _ (b' : Book) (live : Live (after p w) b') where
    after_sound : Sound g ys live.saved p.map p.state.version b'.pages
    after_sound =
        let u : Sound p.state.geometry (apply_op p.state.geometry.pages p.op xs) live.saved p.map p.state.version b'.pages
        = unfold carried in live.sound in
        rw (a.geometry, a.does) at u

    after_grown : Grown live.saved.zones w.state.zones
    after_grown = let u : Grown live.saved.zones p.state.zones = unfold carried in live.grown in rw a.zones at u

    grows : Insert (entry_of k (spare_of a.new)) (scanned w) (scan_of ys n w.state.zones)
    grows = scan_program g xs w.state.zones w.state.last h.tidy a.clean n a.new a.ok

    -- what each of those beside it may be
    abbrev SafeAfter : Running → Type 0
    SafeAfter r = Safe g ys live.saved p.map p.state.version b'.pages after_sound parts r

    -- it may be lost still, unless the page is a mark of its change
    lost_after : (r : Running) → LiveRun w r → (s.id ≡ r.id → s.cnt ≡ 0) → occ r.page p.map ≡ 0 → SafeAfter r
    lost_after r q m o = inl (
        quiet_saved g ys live.saved.zones w.state.zones p.map r after_grown
        (quiet_keep g xs ys w.state.zones w.map p.map (scanned w) (scan_of ys n w.state.zones) r
        (program_other n xs k a.new a.ok.fits r.page (not_next r q)) (length_apply n op xs a.ok.fits)
        (entries_in_law _ _ grows (entry_quiet k (spare_of a.new) r.id (rw a.spare m)) q.quiet) o q)
        )

    -- one that has ended stands as it stood
    done_after : (r : Running) → LiveRun w r → ended n r (parts r.page) xs ≡ true → SafeAfter r
    done_after r q t =
        let same = program_other n xs k a.new a.ok.fits r.page (not_next r q) in
        let ok = run_keep xs ys r same (length_apply n op xs a.ok.fits) q.ok in
        inr (record {
          two = q.two;
          ok = ok;
          place = within_saved live.saved.zones w.state.zones n r.page after_grown q.place;
          turned = ended_same n xs ys r (parts r.page) q.ok ok same ∙ t;
        })

    after_left : Runs SafeAfter in_other → Stored g cut_other b'.pages
    after_left z =
        let l = runs_left g ys live.saved p.map p.state.version b'.pages after_sound parts in_other z in
        record { saved = live.saved; map = p.map; version = p.state.version; sound = l.sound }

    -- the page is no mark of a change: all of them may be lost
    pub quiet_left : (s.id ≡ 0) ⊎ (s.cnt ≡ 0) → ((j : ℕ) → j ≢ k → occ j w.map ≡ 0 → occ j p.map ≡ 0) → Stored g cut_other b'.pages
    quiet_left quiet free = after_left (runs_map _ _ (λ r q. lost_after r q (no_mark quiet r q) (free r.page (not_next r q) q.free)) in_other other_runs)
      where
        no_mark : (s.id ≡ 0) ⊎ (s.cnt ≡ 0) → (r : Running) → LiveRun w r → s.id ≡ r.id → s.cnt ≡ 0
        no_mark (inl z) r q m = absurd (q.some (sym m ∙ z))
        no_mark (inr z) r q m = z

    -- it is the mark of a change whose own pages have all ended: the others may be lost
    module _ (i : ℕ) where
      abbrev own : List Running → List Running
      own ts = those (λ (r : Running). eqb r.id i) ts

      own_ended : (ts : List Running) → LiveRuns w ts → all_ended n (own ts) parts xs ≡ true
          → Runs (λ (r : Running). LiveRun w r × (r.id ≡ i → ended n r (parts r.page) xs ≡ true)) ts
      unfolding those
      own_ended [] y t = tt
      own_ended (r ∷ ts) y t = go (eqb_cases r.id i) (own_ended ts y.1.1)
        where
          go : Is r.id i → (all_ended n (own ts) parts xs ≡ true
              → Runs (λ (r : Running). LiveRun w r × (r.id ≡ i → ended n r (parts r.page) xs ≡ true)) ts)
              → Runs (λ (r : Running). LiveRun w r × (r.id ≡ i → ended n r (parts r.page) xs ≡ true)) (r ∷ ts)
          go (inl j) ih =
              let u : (ended n r (parts r.page) xs && all_ended n (own ts) parts xs) ≡ true = sym (ended_split n parts xs r (own ts)) ∙ (rw j.1 at t) in
              ((y.0, (λ z. and_left _ _ u)), (y.1.0, ih (and_right (ended n r (parts r.page) xs) _ u)))
          go (inr j) ih = ((y.0, (λ z. absurd (j.0 z))), (y.1.0, ih (rw j.1 at t)))

      pub own_left : s.id ≡ i → all_ended n (own in_other) parts xs ≡ true → ((r : Running) → LiveRun w r → r.id ≢ i → occ r.page p.map ≡ 0)
          → Stored g cut_other b'.pages
      own_left mark t free = after_left (runs_map _ _ (λ r y. safe r y.0 y.1 (eqb_cases r.id i)) in_other (own_ended in_other other_runs t))
        where
          safe : (r : Running) → LiveRun w r → (r.id ≡ i → ended n r (parts r.page) xs ≡ true) → Is r.id i → SafeAfter r
          safe r q e (inl j) = done_after r q (e j.0)
          safe r q e (inr j) = lost_after r q (λ m. absurd (j.0 (sym m ∙ mark))) (free r q j.0)
