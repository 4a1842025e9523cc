-- What `Former` claims is not empty: on a flash of 8 blocks of 32 pages there is a sequence in which a change of 64 pages is written, page after page, and
-- committed, every call being answered done.
use Rattle.std.specs.Prelude.{◌≡◌, ◌≢◌, Bool, true, not, ◌&&◌, ℕ, zero, suc, ◌+◌, ◌-◌, ◌≤◌, ◌<◌, List, [], ◌∷◌, replicate, eqb, leb}
use Rattle.std.proofs.Math.Path.{refl}
use Rattle.std.proofs.Common.{sym, ap, ◌∙◌, subst, inl, inr}
use Rattle.std.proofs.Math.Bool.{false}
use native.Mathlib.Omega.{arith}
use Rattle.std.proofs.lemmas.Bool.{lt-leb}
use Rattle.model.specs.Lists.{all, any, find, without, up_from, pad_to}
use Rattle.model.specs.Bytes.{bytes}
use Rattle.model.specs.Geometry.{geometry_ok, data_block}
use Rattle.model.specs.Zones.{active, on_pages, available_of, clean_in, used_in, scan_of, zones_of, free_index, past_block, take_one, refill, zones_taken, format_zones}
use Rattle.model.specs.Answers.{refused}
use Rattle.model.specs.World.{World, Plan, none, apply_op, is_none}
use Rattle.model.specs.Order.{first_number}
use Rattle.model.specs.Frame.{free_place, bad_id, most_pages, is_idle, gate, fresh_state}
use Rattle.model.specs.Transactions.{place_of, with_place, clean_pages, next_page, zone_short, begun, live_id, plan_begin, taking}
use Rattle.model.specs.Transactions.{with_last, written, held_op, held_state, write_plan, mark_plan, plan_commit}
use Rattle.model.specs.Strides.{with_zones, with_number}
use Rattle.model.specs.Commands.{begin, write, commit, plan, carried, exec}
use Rattle.model.specs.Book.{Book, Event, called, blank, tell}
use Rattle.model.specs.Sequence.{fits, Running, live, left, runs_after, Step, call, Formatted}
use Rattle.model.specs.declared.Geometry.{Geometry}
use Rattle.model.specs.declared.Place.{Place}
use Rattle.model.specs.declared.State.{State}
use Rattle.arrays.specs.Tests.{Is, eqb_cases}
use Rattle.arrays.specs.Ranges.{geometry_in}
use Rattle.front.specs.FormatCalls.{Starts, formatted}
use Rattle.scanlog.specs.Start.{scan_format}
use Rattle.sequence.specs.Places.{place_at, place_found}
use Rattle.sequence.specs.PlaceIn.{most_one}
use Rattle.sequence.specs.Live.{live_frame}
use Rattle.sequence.specs.View.{View, after}
use Rattle.sequence.specs.SameShape.{held_same}
use Rattle.sequence.specs.Append.{append_clean}
use Rattle.sequence.specs.Write.{WritesTo, page_appends, write_told, write_bytes, add_shape, add_live}
use Rattle.sequence.specs.Beside.{either_none}
use Rattle.sequence.specs.Start.{format_zones_ok, formatted_idle, fresh_erased, some_formatted}
use Rattle.sequence.specs.Theorem.{LiveAt, step_holds, start_holds}
use Rattle.sequence.specs.Former.{former_write, FormerStep, step, wrote, FormerRun, end, then, former_view, former_done}

-- ---- the flash, and what is written
abbrev pub flash : Geometry
flash = record { blocks = 8; pages = 32; logical = 64; planes = 1 }

abbrev pub zeros : List ℕ
zeros = replicate 512 0

fits_zeros : fits (write 1 0 zeros) ≡ true
unfolding fits bytes all
fits_zeros = refl

-- k writes of logical page 0 and the commit, each answered done
abbrev pub long_events : ℕ → List Event
long_events zero = called (commit 1) 0 ∷ []
long_events (suc k) = called (write 1 0 zeros) 0 ∷ long_events k

-- ---- the world with n pages written: those before the last took a clean page each
record Filled (w : World) (b : Book) (n : ℕ) : Type 0 where
  live : LiveAt flash w b
  idle : is_idle w.state.work ≡ true
  place : Place
  places : w.state.places ≡ place ∷ replicate 7 free_place
  named : place.id ≡ 1
  count : place.count ≡ n
  version : w.state.version ≡ 0
  clean : 96 ≤ clean_pages w + (n - 1)

first_place : (p : Place) (ps : List Place) → p.id ≡ 1 → place_of (p ∷ ps) 1 ≡ 0
unfolding place_of find
first_place p ps e = rw e refl

module _ (w : World) (b : Book) (n : ℕ) (f : Filled w b n) where
  -- the place of the change
  abbrev i : ℕ
  i = place_of w.state.places 1

  abbrev p : Place
  p = place_at w.state.places i

  at_0 : i ≡ 0
  at_0 = rw f.places (first_place f.place _ f.named)

  place_is : p ≡ f.place
  place_is = rw (at_0, f.places) refl

  passes : gate false w ≡ 0
  unfolding gate first_number
  passes = rw (live_frame w b f.live.world, f.idle) refl

  open_at : leb 8 i ≡ false
  open_at = rw at_0 refl

  in_range_law : leb w.state.geometry.logical 0 ≡ false
  in_range_law = rw f.live.shape refl

  -- the zone is not short while no more than 64 are written
  roomy : n ≤ 64 → zone_short w ≡ false
  roomy l = lt-leb (clean_pages w) w.state.geometry.pages (let p = ap (λ (k : Geometry). k.pages) f.live.shape in let c = f.clean in omega arith)

  -- ---- one page more
  module _ (few : n < 64) where
    goes : former_write 1 0 zeros w ≡ write_plan i p 0 false zeros w
    goes = former_done 1 0 zeros w passes refl in_range_law open_at (rw (place_is, f.count) few) (rw (roomy (omega arith)) (either (eqb p.count 0)))
      where
        either : (t : Bool) → (not t && false) ≡ false
        either true = refl
        either false = refl

    more_answer : (former_write 1 0 zeros w).answer ≡ 0
    unfolding write_plan
    more_answer = rw goes refl

    -- the world and the book after it
    abbrev more : World
    more = (carried (former_write 1 0 zeros w) w).world

    abbrev told : Book
    told = tell b (called (write 1 0 zeros) (former_write 1 0 zeros w).answer)

    -- it writes, or refuses
    adds : View w (WritesTo w 1 0 false zeros) (former_write 1 0 zeros w)
    adds = former_view 1 0 zeros w (ap (λ (k : Geometry). k.planes) f.live.shape)

    more_live : LiveAt flash more told
    more_live = record {
      shape = unfold carried in (add_shape w b 1 0 false zeros f.live.world (write_bytes 1 0 zeros fits_zeros) _ adds ∙ f.live.shape);
      world = add_live w b 1 0 false zeros f.live.world (write_bytes 1 0 zeros fits_zeros) (write 1 0 zeros) (write_told b 1 0 zeros) _ adds;
    }

    -- where a page was held, it is programmed: one clean page less
    one_less : n ≢ 0 → clean_pages w ≡ suc (clean_pages more)
    one_less some =
        let h = f.live.world in
        let room : p.count < most_pages w.state.geometry = rw (place_is, f.count, f.live.shape) (omega (arith, most_one flash refl)) in
        subst (λ (q : Plan). clean_pages w ≡ suc (clean_pages (after q w))) (sym goes) (append_clean w b h _ (write_plan i p 0 false zeros w)
        (page_appends w b h 1 0 false zeros f.idle refl (write_bytes 1 0 zeros fits_zeros)
        (let e = ap (λ (k : Geometry). k.logical) f.live.shape in omega arith) i
        (place_found w.state.places 1 h.changing.eight open_at) room (rw (place_is, f.count) some) (roomy (omega arith))))

    more_clean : Is n 0 → 96 ≤ clean_pages more + (suc n - 1)
    more_clean (inl z) = unfold carried write_plan held_op held_state with_place apply_op in rw (goes, place_is, f.count, z.0) (let c = f.clean in omega arith)
    more_clean (inr z) = let e = one_less z.0 in let c = f.clean in omega arith

    -- what a programmed page leaves in the state
    held : {A : Type 0} (of : State → A) → of (taking w) ≡ of w.state → of (held_state w p) ≡ of w.state
    held of = held_same w of p

    filled_more : Filled more told (suc n)
    filled_more = record {
      live = more_live;
      idle = unfold carried write_plan with_place in rw (goes, held (λ (t : State). t.work) (unfold with_last in refl)) f.idle;
      place = written f.place (next_page w) 0 false;
      places = unfold carried write_plan with_place in rw (goes, held (λ (t : State). t.places) (unfold with_last in refl), at_0, f.places) refl;
      named = unfold written in f.named;
      count = unfold written in (let c = f.count in omega arith);
      version = unfold carried write_plan with_place in rw (goes, held (λ (t : State). t.version) (unfold with_last in refl)) f.version;
      clean = more_clean (eqb_cases n 0);
    }

-- ---- the commit of 64
commit_answer : (w : World) (b : Book) → Filled w b 64 → (exec (commit 1) w).answer ≡ 0
unfolding exec carried plan plan_commit first_number mark_plan
commit_answer w b f = rw (live_frame w b f.live.world, f.idle, open_at w b 64 f, place_is w b 64 f, f.count, f.version, roomy w b 64 f (omega arith)) refl

-- nothing runs, nor after it
commit_runs : (w : World) → runs_after (commit 1) w [] ≡ []
unfolding runs_after left
commit_runs w = either_none (refused (plan (commit 1) w).answer && is_none (plan (commit 1) w).op)

fill : (k n : ℕ) → k + n ≡ 64 → (w : World) (b : Book) → Filled w b n → (v : World) × FormerRun flash (live w []) (long_events k) (live v [])
fill zero n e w b f =
    let v = (exec (commit 1) w).world in
    let all : n ≡ 64 = omega arith in
    let done = commit_answer w b (subst (Filled w b) all f) in
    let s : Step flash (live w []) (called (commit 1) (exec (commit 1) w).answer) (live v (runs_after (commit 1) w []))
    = call (commit 1) w [] (unfold fits in refl) tt in
    (v, then (step (rw (done, commit_runs w) at s)) (end (live v [])))
fill (suc k) n e w b f =
    let few : n < 64 = omega arith in
    let r = fill k (suc n) (omega arith) (more w b n f few) (told w b n f few) (filled_more w b n f few) in
    let s : FormerStep flash (live w []) (called (write 1 0 zeros) (former_write 1 0 zeros w).answer) (live (more w b n f few) [])
    = wrote 1 0 zeros w [] fits_zeros in
    (r.0, then (subst (λ (m : ℕ). FormerStep flash (live w []) (called (write 1 0 zeros) m) (live (more w b n f few) [])) (more_answer w b n f few) s) r.1)

-- ---- the begin, after a format
format_available : available_of (format_zones flash) ≡ 2 ∷ 3 ∷ 4 ∷ []
unfolding format_zones zones_taken refill take_one free_index past_block without up_from find zones_of pad_to
format_available = refl

module _ (w : World) (s : Formatted flash w) where
  starts : Starts flash w
  starts = formatted flash (format_zones_ok flash) w s

  -- what the format left in the state
  from_format : {A : Type 0} (of : State → A) → of w.state ≡ of (with_number (with_zones (fresh_state flash) (format_zones flash)) 1)
  from_format of = ap of starts.state

  used : (b : ℕ) → data_block flash b ≡ true → used_in w.array 32 b ≡ 0
  used = fresh_erased flash w.array (geometry_in flash (unfold geometry_ok in refl)) starts.fresh

  clean_blocks : clean_pages w ≡ 96
  unfolding clean_in with_number with_zones fresh_state data_block
  clean_blocks = rw (starts.state, format_available, used 2 refl, used 3 refl, used 4 refl) refl

  nothing_scanned : scan_of w.array w.state.geometry.pages w.state.zones ≡ []
  unfolding with_number with_zones fresh_state
  nothing_scanned = rw starts.state (scan_format flash (omega arith) w.array used)

  begins : plan_begin 1 w ≡ record { answer = 0; op = none; map = w.map; hold = w.hold; state = with_place w.state 0 (begun 1) }
  unfolding plan_begin first_number bad_id live_id on_pages active find any with_number with_zones fresh_state
  begins =
      rw (live_frame w (blank flash) (start_holds flash w s).here.world, formatted_idle flash w s, nothing_scanned, from_format (λ (t : State). t.places))
      refl

  begin_answer : (exec (begin 1) w).answer ≡ 0
  unfolding exec carried plan
  begin_answer = rw begins refl

  -- the world and the book after it
  abbrev begun_world : World
  begun_world = (exec (begin 1) w).world

  abbrev begun_book : Book
  begun_book = tell (blank flash) (called (begin 1) (exec (begin 1) w).answer)

  begin_runs : runs_after (begin 1) w [] ≡ []
  unfolding runs_after left
  begin_runs = either_none (refused (plan (begin 1) w).answer && is_none (plan (begin 1) w).op)

  begin_step : Step flash (live w []) (called (begin 1) (exec (begin 1) w).answer) (live begun_world [])
  begin_step = subst (λ (rs : List Running). Step flash (live w []) (called (begin 1) (exec (begin 1) w).answer) (live begun_world rs)) begin_runs
      (call (begin 1) w [] (unfold fits in refl) tt)

  filled_none : Filled begun_world begun_book 0
  unfolding exec carried plan with_place apply_op
  filled_none = record {
    live = (step_holds flash (blank flash) (live w []) _ (live begun_world []) begin_step (start_holds flash w s)).here;
    idle = rw (begins, formatted_idle flash w s) refl;
    place = begun 1;
    places = unfold with_number with_zones fresh_state in rw (begins, from_format (λ (t : State). t.places)) refl;
    named = unfold begun in refl;
    count = unfold begun in refl;
    version = unfold with_number with_zones fresh_state in rw (begins, from_format (λ (t : State). t.version)) refl;
    clean = rw begins (let e = clean_blocks in omega arith);
  }

-- ---- the fact
pub some_64 : (w : World) × (Formatted flash w × ((v : World) × FormerRun flash (live w []) (called (begin 1) 0 ∷ long_events 64) (live v [])))
some_64 =
    let f = some_formatted flash (unfold geometry_ok in refl) in
    let w = f.0 in
    let s = f.1 in
    let r = fill 64 0 refl (begun_world w s) (begun_book w s) (filled_none w s) in
    let t : Step flash (live w []) (called (begin 1) 0) (live (begun_world w s) []) = rw (begin_answer w s) at (begin_step w s) in
    (w, (s, (r.0, then (step t) r.1)))
