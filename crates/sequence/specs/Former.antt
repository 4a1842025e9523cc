-- "Arrays holding a committed change of up to 64 pages must still recover in full": sequences of calls and cuts in which any write may be document 01's
-- (docs/PAPERS.md), which goes up to 64 pages. What demand 3 says of the layer's own sequences holds of these too, on one plane: a layer that let a change
-- have 64 pages knew one plane.
use Rattle.std.specs.Prelude.{◌≡◌, Bool, not, ◌&&◌, ℕ, ◌≤◌, ◌<◌, length, get_or, ltb, ℤ, pos, ◌≤ℤ◌}
use Rattle.std.proofs.Math.Path.{refl}
use Rattle.std.proofs.Common.{◌∙◌, arith}
use Rattle.std.proofs.Math.Bool.{true, false, cond}
use mathlib.Core.List.{List, [], ◌∷◌}
use Rattle.std.proofs.Math.Dec.{eqb, leb}
use borrow.Author.Tests.{eqb-true, ne_eqb, ltb-true, lt-ltb, le-ltb, leb-true, leb-false, not-false}
use Rattle.model.specs.Page.{class_of, page_at}
use Rattle.model.specs.Answers.{refused}
use Rattle.model.specs.World.{World, Plan, refuse, due_bits, turned_bits, cut_op, programs}
use Rattle.model.specs.Order.{first_number}
use Rattle.model.specs.Frame.{no_place, most_pages, is_idle, gate}
use Rattle.model.specs.Transactions.{place_of, zone_short, longest_change, write_plan, add_plan, plan_write, write_checks}
use Rattle.model.specs.Commands.{write, carried}
use Rattle.model.specs.Book.{Book, Event, called, cut_in, blank, tell, story, entering}
use Rattle.model.specs.Sequence.{fits, Running, cut_runs, Phase, live, dark, array_of, Step, Run, stop, next, Formatted}
use Rattle.model.specs.Demand3.{Kept}
use Rattle.model.specs.declared.Geometry.{Geometry}
use Rattle.model.specs.declared.Place.{Place}
use Rattle.model.specs.declared.Class.TheVariants.{Torn}
use Rattle.arrays.specs.Tests.{and_left, and_right}
use Rattle.arrays.specs.Frame.{gate_passes}
use Rattle.arrays.specs.Order.{past_first}
use Rattle.sequence.specs.Places.{place_at}
use Rattle.sequence.specs.PlaceIn.{most_one}
use Rattle.sequence.specs.View.{View, yes, view_cond, no, idle_only}
use Rattle.sequence.specs.Write.{WritesTo, write_view, write_told, write_bytes, add_shape, add_live}
use Rattle.sequence.specs.Beside.{none_run, besides_none}
use Rattle.sequence.specs.Cuts.{quiet_told, add_cut}
use Rattle.sequence.specs.Theorem.{Holds, step_holds, holds_kept, start_holds}
use Rattle.sequence.specs.Claims.{holds_torn}

-- ---- the former write
-- "64 pages already written" was too long
unfoldable pub has_room : Place → Bool
has_room p = ltb p.count 64

-- where this layer answers 10 and the place has room, it goes on: 12, or one page more
unfoldable pub former_write : ℕ → ℕ → List ℕ → World → Plan
former_write id lpn d w =
    let i = place_of w.state.places id in
    let p = get_or w.state.places i no_place in
    cond (eqb (plan_write id lpn d w).answer 10 && has_room p)
    (cond (zone_short w) (refuse w 12) (write_plan i p lpn false d w))
    (plan_write id lpn d w)

-- a cut in it: what is told of it, and the array that it leaves
unfoldable pub former_event : ℕ → ℕ → List ℕ → World → List ℕ → Event
former_event id lpn d w lets =
    let p = former_write id lpn d w in
    let n = p.state.geometry.pages in
    cut_in (write id lpn d) (programs p.op) (due_bits n p.op w.array) (turned_bits n p.op lets w.array)

unfoldable pub former_array : ℕ → ℕ → List ℕ → World → List ℕ → List ℕ
former_array id lpn d w lets = cut_op (former_write id lpn d w).state.geometry.pages (former_write id lpn d w).op lets w.array

-- ---- sequences
-- a step of a sequence; or a former write, or a cut in one. On one plane nothing runs, beside it or after it
pub data FormerStep (g : Geometry) : Phase → Event → Phase → Type 0 where
  step : {p q : Phase} {e : Event} → Step g p e q → FormerStep g p e q
  wrote : (id lpn : ℕ) (d : List ℕ) (w : World) (rs : List Running) → fits (write id lpn d) ≡ true
      → FormerStep g (live w rs) (called (write id lpn d) (former_write id lpn d w).answer) (live (carried (former_write id lpn d w) w).world rs)
  cut_off : (id lpn : ℕ) (d : List ℕ) (w : World) (rs : List Running) (lets : List ℕ) → fits (write id lpn d) ≡ true
      → FormerStep g (live w rs) (former_event id lpn d w lets) (dark (former_array id lpn d w lets))

pub data FormerRun (g : Geometry) : Phase → List Event → Phase → Type 0 where
  end : (p : Phase) → FormerRun g p [] p
  then : {p q r : Phase} {e : Event} {es : List Event} → FormerStep g p e q → FormerRun g q es r → FormerRun g p (e ∷ es) r

-- every sequence of this layer alone is one of these
pub former_own : {g : Geometry} {p q : Phase} {es : List Event} → Run g p es q → FormerRun g p es q
former_own (stop p) = end p
former_own (next s r) = then (step s) (former_own r)

-- what is claimed, on one plane: after any of them the next recovery is done, and each logical page reads as the book has it
abbrev pub FormerKept : Type 0
FormerKept = (g : Geometry) (w : World) (es : List Event) (p : Phase) → g.planes ≡ 1 → Formatted g w → FormerRun g (live w []) es p → Kept g es p

module _ (id lpn : ℕ) (d : List ℕ) (w : World) where
  -- the place of the change
  abbrev i : ℕ
  i = place_of w.state.places id

  abbrev at : Place
  at = place_at w.state.places i

  -- ---- it is document 01's write: a page up to the 64th goes; at 64, and where this layer answers anything but 10, it is this layer's
  module _ (pass : gate false w ≡ 0) (long : eqb (length d) 512 ≡ true) (in_range_law : leb w.state.geometry.logical lpn ≡ false)
      (open_at : leb 8 i ≡ false) where
    pub former_done : at.count < 64 → (not (eqb at.count 0) && zone_short w) ≡ false → former_write id lpn d w ≡ write_plan i at lpn false d w
    unfolding former_write has_room plan_write first_number write_plan
    former_done room short = by (leb longest_change at.count) refl
      where
        by : (t : Bool) → leb longest_change at.count ≡ t → former_write id lpn d w ≡ write_plan i at lpn false d w
        by true t =
            let some : eqb at.count 0 ≡ false = ne_eqb at.count 0 (λ z. omega (arith, leb-true longest_change at.count t, z)) in
            let none : zone_short w ≡ false = rw some at short in
            rw ((gate_passes false w pass).0, (gate_passes false w pass).1, long, in_range_law, open_at, t, lt-ltb at.count 64 room, none) refl
        by false t = rw ((gate_passes false w pass).0, (gate_passes false w pass).1, long, in_range_law, open_at, t, short) refl

  pub former_full : 64 ≤ at.count → former_write id lpn d w ≡ plan_write id lpn d w
  unfolding former_write has_room
  former_full full = rw (le-ltb at.count 64 full) (either (eqb (plan_write id lpn d w).answer 10))
    where
      either : (t : Bool) → cond (t && false) (cond (zone_short w) (refuse w 12) (write_plan i at lpn false d w)) (plan_write id lpn d w) ≡ plan_write id lpn d w
      either true = refl
      either false = refl

  pub former_same : eqb (plan_write id lpn d w).answer 10 ≡ false → former_write id lpn d w ≡ plan_write id lpn d w
  unfolding former_write
  former_same e = rw e refl

  -- ---- it writes, or refuses
  -- where a write answers 10, nothing but the length stands against it
  longer : (plan_write id lpn d w).answer ≡ 10 → at.count < most_pages w.state.geometry → zone_short w ≡ false
      → WritesTo w id lpn false d (write_plan i at lpn false d w)
  unfolding plan_write write_plan
  longer e room short =
      let ten = answered (first_number (write_checks id lpn d w)) e in
      let frame = past_first 10 _ _ (λ z. omega (arith, z)) ten in
      let idle = past_first 10 _ _ (λ z. omega (arith, z)) frame.1 in
      let long = past_first 10 _ _ (λ z. omega (arith, z)) idle.1 in
      let low = past_first 10 _ _ (λ z. omega (arith, z)) long.1 in
      let begun = past_first 10 _ _ (λ z. omega (arith, z)) low.1 in
      record {
        idle = idle_only (is_idle w.state.work) idle.0;
        long = eqb-true (length d) 512 (not-false (eqb (length d) 512) long.0);
        low = leb-false w.state.geometry.logical lpn low.0;
        begun = begun.0;
        room = room;
        clean = λ z. short;
        is = refl;
      }
    where
      answered : (n : ℕ) → (cond (eqb n 0) (add_plan id lpn false d w) (refuse w n)).answer ≡ 10 → n ≡ 10
      answered n e = go (eqb n 0) e
        where
          go : (t : Bool) → (cond t (add_plan id lpn false d w) (refuse w n)).answer ≡ 10 → n ≡ 10
          go true e = absurd (omega (arith, e))
          go false e = e

  room_in : w.state.geometry.planes ≡ 1 → has_room at ≡ true → at.count < most_pages w.state.geometry
  unfolding has_room
  room_in one h = omega (arith, ltb-true at.count 64 h, most_one w.state.geometry one)

  pub former_view : w.state.geometry.planes ≡ 1 → View w (WritesTo w id lpn false d) (former_write id lpn d w)
  unfolding former_write refused
  former_view one =
      view_cond w (WritesTo w id lpn false d) (eqb (plan_write id lpn d w).answer 10 && has_room at) _ _ (λ t.
      view_cond w (WritesTo w id lpn false d) (zone_short w) _ _ (λ full. no 12 refl) (λ short.
      yes _ (longer (eqb-true _ 10 (and_left (eqb (plan_write id lpn d w).answer 10) _ t)) (room_in one (and_right (eqb (plan_write id lpn d w).answer 10) _ t))
      short)))
      (λ t. write_view id lpn d w)

-- ---- the invariant of demand 3 is kept
module _ (g : Geometry) (one : g.planes ≡ 1) where
  -- nothing runs
  none_runs : (b : Book) (w : World) (rs : List Running) → Holds g b (live w rs) → rs ≡ []
  none_runs b w rs h = none_run w rs (rw h.here.shape one) h.runs

  wrote_holds : (b : Book) (id lpn : ℕ) (d : List ℕ) (w : World) (rs : List Running) → fits (write id lpn d) ≡ true → Holds g b (live w rs)
      → Holds g (tell b (called (write id lpn d) (former_write id lpn d w).answer)) (live (carried (former_write id lpn d w) w).world rs)
  wrote_holds b id lpn d w rs f h =
      let v = former_view id lpn d w (rw h.here.shape one) in
      rw (none_runs b w rs h) (record {
        here = record {
          shape = unfold carried in (add_shape w b id lpn false d h.here.world (write_bytes id lpn d f) _ v ∙ h.here.shape);
          world = add_live w b id lpn false d h.here.world (write_bytes id lpn d f) (write id lpn d) (write_told b id lpn d) _ v;
        };
        runs = tt;
      })

  cut_holds : (b : Book) (id lpn : ℕ) (d : List ℕ) (w : World) (rs : List Running) (lets : List ℕ) → fits (write id lpn d) ≡ true → Holds g b (live w rs)
      → Holds g (tell b (former_event id lpn d w lets)) (dark (former_array id lpn d w lets))
  unfolding former_event former_array cut_runs
  cut_holds b id lpn d w rs lets f h =
      let v = former_view id lpn d w (rw h.here.shape one) in
      rw (quiet_told (write id lpn d) b _ _ _ (unfold entering in refl), ← h.here.shape)
      (rw (besides_none w (former_write id lpn d w)) at (add_cut w [] b lets (λ k. []) h.here.world tt id lpn false d (write_bytes id lpn d f) _ v))

  former_holds : (b : Book) (p : Phase) (e : Event) (q : Phase) → FormerStep g p e q → Holds g b p → Holds g (tell b e) q
  former_holds b p e q (step s) h = step_holds g b p e q s h
  former_holds b p e q (wrote id lpn d w rs f) h = wrote_holds b id lpn d w rs f h
  former_holds b p e q (cut_off id lpn d w rs lets f) h = cut_holds b id lpn d w rs lets f h

  former_run : (b : Book) (p : Phase) (es : List Event) (q : Phase) → FormerRun g p es q → Holds g b p → Holds g (story b es) q
  unfolding story
  former_run b p es q (end p') h = h
  former_run b p es q (then {q = r} {e = e} {es = fs} s t) h = former_run (tell b e) r fs q t (former_holds b p e r s h)

pub former_kept : FormerKept
former_kept g w es p one f r = holds_kept g es p (former_run g one (blank g) (live w []) es p r (start_holds g w f))

-- and a torn page's difference is at least 1 on these arrays too
pub former_torn : (g : Geometry) (w : World) (es : List Event) (p : Phase) → g.planes ≡ 1 → Formatted g w → FormerRun g (live w []) es p
    → (k : ℕ) (d : ℤ) → class_of (page_at (array_of p) k) ≡ Torn d → pos 1 ≤ℤ d
former_torn g w es p one f r = holds_torn g (story (blank g) es) p (former_run g one (blank g) (live w []) es p r (start_holds g w f))
