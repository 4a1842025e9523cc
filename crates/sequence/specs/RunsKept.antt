-- The pages that run when a call has answered: each may still be lost.
use Rattle.std.specs.Prelude.{◌≡◌, ◌≢◌, Bool, cond, ◌&&◌, List, [], ◌∷◌, ◌++◌, eqb}
use Rattle.std.proofs.Math.Path.{refl, ap}
use Rattle.std.proofs.Common.{sym, ◌∙◌, inl, inr}
use Rattle.std.proofs.Math.Bool.{true, false}
use Prim.Native.Nat.{ℕ}
use Rattle.model.specs.Lists.{those, keep}
use Rattle.model.specs.Page.{page_at, spare_of, blank_at}
use Rattle.model.specs.Geometry.{unmapped}
use Rattle.model.specs.Zones.{entry_of, scan_of}
use Rattle.model.specs.Answers.{refused}
use Rattle.model.specs.World.{World, Plan, Op, program, apply_op, is_none}
use Rattle.model.specs.Transactions.{gone, place_of, with_place, next_page, held_op, held_state, write_plan, forget_plan, plan_begin, plan_abort}
use Rattle.model.specs.Commands.{Call, format, recover, begin, write, drop_page, lone, commit, abort, read, checkpoint, reclaim, plan, carried, exec}
use Rattle.model.specs.Book.{Book}
use Rattle.model.specs.Sequence.{Running, apart_from, during, started, left, runs_after, fits}
use Rattle.model.specs.declared.Geometry.{Geometry}
use Rattle.model.specs.declared.Place.{Place}
use Rattle.model.specs.declared.Spare.{Spare}
use Rattle.arrays.specs.Tests.{Is, eqb_cases, and_left}
use Rattle.arrays.specs.Bytelist.{Bytes}
use Rattle.arrays.specs.Insert.{Insert}
use Rattle.arrays.specs.Pages.{length_page}
use Rattle.arrays.specs.Ops.{length_apply, program_other}
use Rattle.arrays.specs.Arrays.{programmed, programmed_whole}
use Rattle.ranks.specs.Entries.{entries_in_law}
use Rattle.scanlog.specs.Log.{NoMark}
use Rattle.scanlog.specs.Open.{open_no_mark}
use Rattle.scanlog.specs.Tidy.{next_place, scan_program}
use Rattle.sequence.specs.Contents.{blank_unmapped}
use Rattle.sequence.specs.Places.{place_at, Found}
use Rattle.sequence.specs.Running.{Runs, runs_map, runs_those, fresh_by}
use Rattle.sequence.specs.Lost.{Quiet, quiet_keep}
use Rattle.sequence.specs.Refused.{refused_same, read_same}
use Rattle.sequence.specs.Live.{Live, scanned}
use Rattle.sequence.specs.View.{View, no, yes, after}
use Rattle.sequence.specs.Append.{Appends}
use Rattle.sequence.specs.Begin.{Begins, begin_view}
use Rattle.sequence.specs.Abort.{Aborts, abort_view}
use Rattle.sequence.specs.Write.{WritesTo, write_view, drop_view, gone_small, page_appends, page_spare, page_mapped, write_bytes, add_found}
use Rattle.sequence.specs.Beside.{LiveRun, LiveRuns, besides, not_erased, entry_quiet}

-- ---- a write programs a page
module _ (w : World) (b : Book) (h : Live w b) (rs : List Running) (x : LiveRuns w rs) (id : ℕ) (s : Spare) (p : Plan) (a : Appends w b h s p)
    (plain : s.cnt ≡ 0) where
  -- geometry, pages a block, the page and what is done to it, and the array after it
  abbrev g : Geometry
  g = w.state.geometry

  abbrev n : ℕ
  n = g.pages

  abbrev k : ℕ
  k = next_page w

  abbrev op : Op
  op = program k a.new

  abbrev ys : List ℕ
  ys = apply_op n op w.array

  -- a page that may be lost from it
  abbrev Still : Running → Type 0
  Still r = Quiet g ys w.state.zones w.map (scan_of ys n w.state.zones) r

  grows : Insert (entry_of k (spare_of a.new)) (scanned w) (scan_of ys n w.state.zones)
  grows = scan_program g w.array w.state.zones w.state.last h.tidy a.clean n a.new a.ok

  apart : (r : Running) → LiveRun w r → r.page ≢ k
  apart = not_erased w k a.ok.blank

  still_no_mark : (i : ℕ) → NoMark i (scanned w) → NoMark i (scan_of ys n w.state.zones)
  still_no_mark i q = entries_in_law _ _ grows (entry_quiet k (spare_of a.new) i (λ m. ap (λ (t : Spare). t.cnt) a.spare ∙ plain)) q

  -- one of those that ran before
  still : (r : Running) → LiveRun w r → Still r
  still r q = quiet_keep g w.array ys w.state.zones w.map w.map (scanned w) (scan_of ys n w.state.zones) r
      (program_other n w.array k a.new a.ok.fits r.page (apart r q)) (length_apply n op w.array a.ok.fits)
      (still_no_mark r.id q.quiet) q.free q

  -- the page that it leaves running
  abbrev new : Running
  new = record { id = id; page = k; before = page_at w.array k }

  module _ (v : s.ver ≡ 0) (i : s.id ≡ id) (some : id ≢ 0) (quiet : NoMark id (scanned w)) (mapped : k ≢ unmapped) where
    new_spare : spare_of (page_at ys k) ≡ s
    new_spare = ap spare_of (programmed n w.array k a.new a.ok) ∙ a.spare

    new_still : g.planes ≡ 2 → Still new
    unfolding blank_at
    new_still two = record {
      two = two;
      ok = record {
        fits = rw (length_apply n op w.array a.ok.fits) a.ok.fits;
        was = a.ok.blank;
        long = length_page w.array k a.ok.fits;
        whole = programmed_whole n w.array k a.new a.ok;
      };
      place = next_place g w.array w.state.zones w.state.last h.tidy a.clean;
      cnt = ap (λ (t : Spare). t.cnt) new_spare ∙ plain;
      ver = ap (λ (t : Spare). t.ver) new_spare ∙ v;
      id = ap (λ (t : Spare). t.id) new_spare ∙ i;
      some = some;
      quiet = still_no_mark id quiet;
      free = blank_unmapped w.array w.map b.pages h.sound.contents k mapped a.ok.blank;
    }

    -- with those of the other plane
    page_runs : Runs Still (started id w op ++ those (apart_from n op) rs)
    unfolding started
    page_runs = go (eqb_cases g.planes 2)
      where
        others : LiveRuns w (those (apart_from n op) rs)
        others = runs_those _ (apart_from n op) rs x

        go : Is g.planes 2 → Runs Still (keep (eqb g.planes 2) (new ∷ []) ++ those (apart_from n op) rs)
        go (inl q) =
            rw q.1 (new_still q.0, (fresh_by k _ apart (those (apart_from n op) rs) others, runs_map _ _ still (those (apart_from n op) rs) others))
        go (inr q) = rw q.1 (runs_map _ _ still (those (apart_from n op) rs) others)

    -- on the world after it
    append_runs : p.map ≡ w.map → LiveRuns (after p w) (started id w p.op ++ besides w p rs)
    unfolding carried
    append_runs same = rw (a.does, a.geometry, a.zones, same) page_runs

-- ---- by the command
module _ (w : World) (b : Book) (h : Live w b) (rs : List Running) (x : LiveRuns w rs) where
  begin_runs : (id : ℕ) → LiveRuns (exec (begin id) w).world rs
  unfolding exec plan
  begin_runs id = go (plan_begin id w) (begin_view id w)
    where
      go : (p : Plan) → View w (Begins w id) p → LiveRuns (after p w) rs
      go p (no n r) = unfold carried apply_op in x
      go p (yes q v) = rw v.is (unfold carried apply_op with_place in x)

  abort_runs : (id : ℕ) → LiveRuns (exec (abort id) w).world rs
  unfolding exec plan
  abort_runs id = go (plan_abort id w) (abort_view id w)
    where
      go : (p : Plan) → View w (Aborts w id) p → LiveRuns (after p w) rs
      go p (no n r) = unfold carried apply_op in x
      go p (yes q v) = rw v.is (unfold carried forget_plan apply_op with_place in x)

  -- a plan that adds a page, or refuses
  add_runs : (id lpn : ℕ) (drop : Bool) (d : List ℕ) → Bytes d → (q : Plan) → View w (WritesTo w id lpn drop d) q
      → LiveRuns (after q w) (started id w q.op ++ besides w q rs)
  add_runs id lpn drop d small q (no n r) = unfold carried apply_op started in x
  add_runs id lpn drop d small q (yes r v) = rw v.is (does (eqb_cases at.count 0))
    where
      i : ℕ
      i = place_of w.state.places id

      at : Place
      at = place_at w.state.places i

      p : Plan
      p = write_plan i at lpn drop d w

      found : Found w.state.places id i
      found = add_found w b id lpn drop d h small v

      quiet : NoMark id (scanned w)
      quiet = rw (← found.is) (open_no_mark w.state.geometry at (scanned w) (h.opens i found.low (λ q. found.some (sym found.is ∙ q))))

      does : Is at.count 0 → LiveRuns (after p w) (started id w p.op ++ besides w p rs)
      does (inl z) = unfold carried write_plan held_op held_state with_place apply_op started in rw z.1 x
      does (inr z) =
          append_runs w b h rs x id (page_spare w b h id lpn drop d v.idle v.long small v.low i found v.room z.0 (v.clean z.0)) p
          (page_appends w b h id lpn drop d v.idle v.long small v.low i found v.room z.0 (v.clean z.0)) refl refl found.is
          found.some quiet
          (page_mapped w b h id lpn drop d v.idle v.long small v.low i found v.room z.0 (v.clean z.0)) (unfold write_plan in refl)

  write_runs : (id lpn : ℕ) (d : List ℕ) → fits (write id lpn d) ≡ true → LiveRuns (exec (write id lpn d) w).world (left (write id lpn d) w rs)
  unfolding exec left during plan
  write_runs id lpn d f = add_runs id lpn false d (write_bytes id lpn d f) _ (write_view id lpn d w)

  drop_runs : (id lpn : ℕ) → LiveRuns (exec (drop_page id lpn) w).world (left (drop_page id lpn) w rs)
  unfolding exec left during plan
  drop_runs id lpn = add_runs id lpn true gone gone_small _ (drop_view id lpn w)

  -- what runs when a call has answered
  pub runs_kept : (c : Call) → fits c ≡ true → LiveRuns (exec c w).world (runs_after c w rs)
  unfolding runs_after
  runs_kept c f = go (refused (plan c w).answer && is_none (plan c w).op) refl
    where
      done : (c : Call) → fits c ≡ true → LiveRuns (exec c w).world (left c w rs)
      done (format g) f = unfold left in tt
      done (recover g) f = unfold left in tt
      done (begin id) f = unfold left in begin_runs id
      done (write id lpn d) f = write_runs id lpn d f
      done (drop_page id lpn) f = drop_runs id lpn
      done (lone lpn d) f = unfold left in tt
      done (commit id) f = unfold left in tt
      done (abort id) f = unfold left in abort_runs id
      done (read lpn) f = unfold left in rw (read_same lpn w) x
      done checkpoint f = unfold left in tt
      done reclaim f = unfold left in tt

      go : (t : Bool) → (refused (plan c w).answer && is_none (plan c w).op) ≡ t → LiveRuns (exec c w).world (cond t rs (left c w rs))
      go true e = rw (refused_same w c (unfold exec carried in and_left (refused (plan c w).answer) _ e)) x
      go false e = done c f
