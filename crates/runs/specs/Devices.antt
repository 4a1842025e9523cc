-- What calls do on a device given by its pages: each law takes tests that compute on the state and on single pages, and says what the call answers
-- and leaves. Beside them the steps of a Run in that form.
use Prim.Native.Nat.{ℕ, zero, suc, ◌+◌, ◌-◌, ◌*◌, ◌/◌, max}
use Rattle.std.specs.Prelude.{◌≡◌, Bool, not, cond, ◌&&◌, ◌||◌, length, take, get_or, set, replicate}
use Rattle.std.proofs.Math.Path.{refl, ap, ap₂}
use Rattle.std.proofs.Common.{sym, ◌∙◌, subst, arith, eq-eqb, leb-false}
use Rattle.std.proofs.Math.Bool.{true, false}
use Rattle.std.proofs.lemmas.Bool.{false≢true}
use mathlib.Core.List.{List, [], ◌∷◌, ◌++◌, append-nil}
use Rattle.std.proofs.Math.Dec.{leb, ltb, eqb}
use Rattle.model.specs.Lists.{find, part, splice, those}
use Rattle.model.specs.Bytes.{all_ff, le32, words, ands, ors, minus, zeros_of}
use Rattle.model.specs.Page.{data_at, block_at, put_page, put_block, blank_at}
use Rattle.model.specs.Answers.{refused}
use Rattle.model.specs.Geometry.{unmapped, blank_map, geometry_ok, lengths_ok, map_pages, map_ok, enter_page}
use Rattle.model.specs.Zones.{Entry, available_of, unavailable_of, zones_ok, format_zones, freed, used_in, next_in, scan_of, on_pages, has_id, active}
use Rattle.model.specs.Checkpoint.{nothing, at, map_page, zone_page, load_map, zones_in, load_ok}
use Rattle.model.specs.Recovery.{pages_good, top, redone}
use Rattle.model.specs.World.{World, Op, none, program, erase, Plan, refuse, apply_op, due_bits, turned_bits, turn, cut_op, programs, is_none}
use Rattle.model.specs.Order.{first_number}
use Rattle.model.specs.Frame.{no_place, free_place, bad_id, places_ok, format_stride_ok, checkpoint_stride_ok, work_ok, lent_ok, frame_ok, is_idle, gate, fresh_state}
use Rattle.model.specs.Transactions.{with_place, with_version, with_last, number_of, data_bytes, change_bytes, held_at, hold_with, held_page, held_drop, place_of, begun, live_id, longest_change, written, held_op, held_state, write_plan, gone, lone_plan, entered, mark_plan, forget_plan, clean_pages, next_page, zone_short, spent, read_part}
use Rattle.model.specs.Strides.{with_work, with_zones, with_number, is_checkpoint, is_reclaim, map_stride, zone_stride, page_stride, checkpoint_stride, mapped_in, picked, lowest_from, copy_stride, free_stride, strides_done, format_work_ok, format_more, format_last, format_stride, plan_format}
use Rattle.model.specs.Recover.{recovered_map, recovered_state, recover_plan, plan_recover}
use Rattle.model.specs.Commands.{Call, format, recover, begin, write, drop_page, lone, commit, abort, read, checkpoint, reclaim, plan, carried, exec, Outcome}
use Rattle.model.specs.Book.{Event, called, cut_in}
use Rattle.model.specs.Sequence.{Running, runs_due, runs_turned, cut_runs, waits, during, started, left, runs_after, Phase, live, dark, Allowed, cut_event, cut_array, is_recovery, Step, call, cut, back, failed, Run, stop, next, Formatting, first, more, Formatted, finished, fits}
use Rattle.model.specs.declared.Geometry.{Geometry}
use Rattle.model.specs.declared.Place.{Place}
use Rattle.model.specs.declared.State.{State}
use Rattle.model.specs.declared.Zones.{Zones}
use Rattle.model.specs.declared.Plane.TheVariants.{Neither}
use Rattle.model.specs.declared.Work.{Work}
use Rattle.model.specs.declared.Work.TheVariants.{Idle, Format, Checkpoint, Reclaim}
use Rattle.examples.specs.Orders.{begin_done, write_done, drop_done, lone_done, commit_done, abort_done, checkpoint_done, front_suffices, reclaim_done, reclaim_frees}
use Rattle.runs.specs.Paged.{flat, Sized, length_flat, page_flat, part_flat, splice_flat, put_flat, used_on, clean_on, next_on, taken_on, scan_on, newest_on, number_on, used_on_law, clean_on_law, next_on_law, taken_on_law, scan_on_law, newest_page, number_on_law, slide_on, slide_on_law}

-- ---- a device: the pages of its array, each of 528 bytes, map, hold and state
pub record Device : Type 0 where
  pub pages : List (List ℕ)
  pub sized : Sized pages
  pub map : List ℕ
  pub hold : List ℕ
  pub state : State

abbrev pub device : List (List ℕ) → List ℕ → List ℕ → State → World
device qs m h s = record { array = flat qs; map = m; hold = h; state = s }

abbrev pub world : Device → World
world x = device x.pages x.map x.hold x.state

-- what a refused call and one that does p leave
pub refused_stays : (c : Call) (w : World) (n : ℕ) → plan c w ≡ refuse w n → exec c w ≡ record { answer = n; world = w }
unfolding exec carried apply_op
refused_stays c w n e = ap (λ (p : Plan). carried p w) e

-- ---- pages that run
-- the bits of running pages that a cut lets turn, where none runs
abbrev pub still : ℕ → List ℕ
still k = []

-- none runs while a call does its operation, if none did before, nor on one plane after it
none_during : (c : Call) (w : World) → during c w [] ≡ []
unfolding during those
none_during c w = go (is_none (plan c w).op) (waits c)
  where
    go : (a b : Bool) → cond {A = List Running} a [] (cond b [] []) ≡ []
    go true b = refl
    go false true = refl
    go false false = refl

none_started : (id : ℕ) (w : World) (o : Op) → eqb w.state.geometry.planes 2 ≡ false → started id w o ≡ []
unfolding started
none_started id w none e = refl
none_started id w (program k new) e = rw e refl
none_started id w (erase b) e = refl

none_left : (c : Call) (w : World) → eqb w.state.geometry.planes 2 ≡ false → left c w [] ≡ []
unfolding left
none_left (format g) w e = refl
none_left (recover g) w e = refl
none_left (begin id) w e = refl
none_left (write id lpn d) w e = rw (none_started id w (plan (write id lpn d) w).op e, none_during (write id lpn d) w) refl
none_left (drop_page id lpn) w e = rw (none_started id w (plan (drop_page id lpn) w).op e, none_during (drop_page id lpn) w) refl
none_left (lone lpn d) w e = refl
none_left (commit id) w e = refl
none_left (abort id) w e = refl
none_left (read lpn) w e = refl
none_left checkpoint w e = refl
none_left reclaim w e = refl

none_after : (c : Call) (w : World) → eqb w.state.geometry.planes 2 ≡ false → runs_after c w [] ≡ []
unfolding runs_after
none_after c w e = go (refused (plan c w).answer && is_none (plan c w).op) (none_left c w e)
  where
    go : (t : Bool) → left c w [] ≡ [] → cond t [] (left c w []) ≡ []
    go true h = refl
    go false h = h

-- refusal 1 of a device that no format is under way on
unfoldable pub work_on : Device → Work → Bool
work_on x Idle = eqb x.state.first 0
work_on x (Format k) = false
work_on x (Checkpoint k) =
    leb k (map_pages x.state.geometry)
    && (ltb (x.state.first + map_pages x.state.geometry) x.state.geometry.pages
    && ((not (eqb k 0) || eqb x.state.first 0)
    && all_ff (get_or x.pages (x.state.front * x.state.geometry.pages + (x.state.first + k)) [])))
work_on x Reclaim = eqb x.state.first 0

unfoldable pub lent_on : Geometry → Device → Bool
lent_on g x = geometry_ok g && (eqb (length x.pages * 528) (g.blocks * g.pages * 528) && (eqb (length x.map) g.logical && eqb (length x.hold) 4096))

unfoldable pub frame_on : Device → Bool
frame_on x =
    lent_on x.state.geometry x
    && (map_ok x.state.geometry x.map
    && (zones_ok x.state.geometry x.state.zones
    && (places_ok x.state.geometry x.state.places
    && (ltb x.state.front 2
    && work_on x x.state.work))))

abbrev pub formatting : Work → Bool
formatting Idle = false
formatting (Format k) = true
formatting (Checkpoint k) = false
formatting Reclaim = false

module _ (x : Device) where
  abbrev qs : List (List ℕ)
  qs = x.pages

  abbrev sized : Sized qs
  sized = x.sized

  abbrev m : List ℕ
  m = x.map

  abbrev h : List ℕ
  h = x.hold

  abbrev s : State
  s = x.state

  abbrev available : List ℕ
  available = available_of s.zones

  abbrev scanned : List Entry
  scanned = scan_on qs s.geometry.pages (unavailable_of s.zones ++ available_of s.zones)

  -- the clean pages, and the page that is taken next
  abbrev clean : ℕ
  clean = clean_on qs s.geometry.pages available

  abbrev next_free : ℕ
  next_free = next_on qs s.geometry.pages (taken_on s.geometry s.last qs available)

  -- the state when page k was the last data block page
  abbrev taken : ℕ → State
  taken k = with_last s (k / s.geometry.pages)

  pub lent_on_law : (g : Geometry) → lent_ok g (world x) ≡ lent_on g x
  unfolding lent_ok lengths_ok lent_on
  lent_on_law g = ap (λ (n : ℕ). geometry_ok g && (eqb n (g.blocks * g.pages * 528) && (eqb (length m) g.logical && eqb (length h) 4096))) (length_flat qs sized)

  work_on_law : (k : Work) → formatting k ≡ false → work_ok s (flat qs) k ≡ work_on x k
  unfolding work_ok work_on checkpoint_stride_ok blank_at
  work_on_law Idle f = refl
  work_on_law (Format k) f = absurd (false≢true (sym f))
  work_on_law (Checkpoint k) f = ap (λ (q : List ℕ). leb k (map_pages s.geometry) && (ltb (s.first + map_pages s.geometry) s.geometry.pages && ((not (eqb k 0) || eqb s.first 0) && all_ff q))) (page_flat qs sized (s.front * s.geometry.pages + (s.first + k)))
  work_on_law Reclaim f = refl

  frame_on_law : formatting s.work ≡ false → frame_ok (world x) ≡ frame_on x
  unfolding frame_ok frame_on
  frame_on_law f = ap₂ (λ (a b : Bool). a && (map_ok s.geometry m && (zones_ok s.geometry s.zones && (places_ok s.geometry s.places && (ltb s.front 2 && b))))) (lent_on_law s.geometry) (work_on_law s.work f)

  -- 1 and 17 pass
  pub passes : (own : Bool) → formatting s.work ≡ false → frame_on x ≡ true → (is_idle s.work || own) ≡ true → gate own (world x) ≡ 0
  unfolding gate first_number
  passes own f e i = rw (frame_on_law f, e, i) refl

  -- 1 passes
  pub framed : formatting s.work ≡ false → frame_on x ≡ true → frame_ok (world x) ≡ true
  framed f e = frame_on_law f ∙ e

  clean_pages_law : clean_pages (world x) ≡ clean
  clean_pages_law = clean_on_law (flat qs) qs (page_flat qs sized) s.geometry.pages available

  pub zone_on : leb clean s.geometry.pages ≡ false → zone_short (world x) ≡ false
  zone_on e = ap (λ (n : ℕ). leb n s.geometry.pages) clean_pages_law ∙ e

  pub next_page_law : (k : ℕ) → next_free ≡ k → next_page (world x) ≡ k
  next_page_law k e =
      ap (next_in (flat qs) s.geometry.pages) (taken_on_law (flat qs) qs (page_flat qs sized) s.geometry s.last available)
      ∙ next_on_law (flat qs) qs (page_flat qs sized) s.geometry.pages (taken_on s.geometry s.last qs available) ∙ e

  pub scanned_on : scan_of (flat qs) s.geometry.pages s.zones ≡ scanned
  unfolding scan_of
  scanned_on = scan_on_law (flat qs) qs (page_flat qs sized) s.geometry.pages (unavailable_of s.zones ++ available_of s.zones)

  pub live_on : (id : ℕ) (t : Bool) → (active id s.places || on_pages id scanned) ≡ t → live_id id (world x) ≡ t
  unfolding live_id
  live_on id t e = ap (λ (es : List Entry). active id s.places || on_pages id es) scanned_on ∙ e

  -- reading a logical page that is mapped to page k hands back its data
  pub reads_part : (lpn k : ℕ) (d : List ℕ) → plan (read lpn) (world x) ≡ refuse (world x) 0 → get_or m lpn unmapped ≡ k → take 512 (get_or qs k []) ≡ d → read_part lpn (world x) ≡ d
  unfolding plan read_part data_at
  reads_part lpn k d a e t = rw (ap (λ (p : Plan). p.answer) a, e, page_flat qs sized k) t

  -- programming page k so that it reads q
  pub programs_on : (p k : ℕ) (new q : List ℕ) → ands (get_or qs k []) new ≡ q → apply_op p (program k new) (flat qs) ≡ flat (splice qs k 1 (q ∷ []))
  unfolding apply_op
  programs_on p k new q e = ap (λ (x : List ℕ). put_page (flat qs) k (ands x new)) (page_flat qs sized k) ∙ (ap (λ (x : List ℕ). put_page (flat qs) k x) e ∙ put_flat qs sized k q)

  -- ---- the calls that are done
  module _ (still : formatting s.work ≡ false) (frame : frame_on x ≡ true) (idle : (is_idle s.work || false) ≡ true) where
    pass : gate false (world x) ≡ 0
    pass = passes false still frame idle

    pub begins : (id : ℕ) → bad_id id ≡ false → (active id s.places || on_pages id scanned) ≡ false → leb 8 (find (has_id 0) s.places) ≡ false
        → exec (begin id) (world x) ≡ record { answer = 0; world = device qs m h (with_place s (find (has_id 0) s.places) (begun id)) }
    unfolding exec carried apply_op
    begins id b l f = ap (λ (p : Plan). carried p (world x)) (begin_done (world x) pass id b (live_on id false l) f)

    pub begin_op : (id : ℕ) → bad_id id ≡ false → (active id s.places || on_pages id scanned) ≡ false → leb 8 (find (has_id 0) s.places) ≡ false
        → (plan (begin id) (world x)).op ≡ none
    begin_op id b l f = ap (λ (p : Plan). p.op) (begin_done (world x) pass id b (live_on id false l) f)

    module _ (lpn : ℕ) (d : List ℕ) (long : eqb (length d) 512 ≡ true) (in_range_law : leb s.geometry.logical lpn ≡ false) where
      pub lone_op_law : (k : ℕ) → spent s.version 1 ≡ false → leb clean s.geometry.pages ≡ false
          → next_free ≡ k → (plan (lone lpn d) (world x)).op ≡ program k (data_bytes d lpn 1 0 (s.version + 1))
      unfolding lone_plan
      lone_op_law k v z n = ap (λ (p : Plan). p.op) (lone_done (world x) pass 0 lpn d long in_range_law v (zone_on z)) ∙ ap (λ (j : ℕ). program j (data_bytes d lpn 1 0 (s.version + 1))) (next_page_law k n)

      -- a lone write on page k
      pub lone_writes : (k : ℕ) (q : List ℕ) → spent s.version 1 ≡ false → leb clean s.geometry.pages ≡ false
          → next_free ≡ k → ands (get_or qs k []) (data_bytes d lpn 1 0 (s.version + 1)) ≡ q
          → exec (lone lpn d) (world x) ≡ record { answer = 0; world = device (splice qs k 1 (q ∷ [])) (enter_page m lpn k) h (with_version (taken k) (s.version + 1)) }
      unfolding exec carried lone_plan with_version with_last
      lone_writes k q v z n e =
          ap (λ (p : Plan). carried p (world x)) (lone_done (world x) pass 0 lpn d long in_range_law v (zone_on z))
          ∙ (ap (λ (j : ℕ). record { answer = 0; world = record { array = apply_op s.geometry.pages (program j (data_bytes d lpn 1 0 (s.version + 1))) (flat qs); map = enter_page m lpn j; hold = h; state = with_version (taken j) (s.version + 1) } }) (next_page_law k n)
          ∙ ap (λ (xs : List ℕ). record { answer = 0; world = record { array = xs; map = enter_page m lpn k; hold = h; state = with_version (taken k) (s.version + 1) } }) (programs_on s.geometry.pages k (data_bytes d lpn 1 0 (s.version + 1)) q e))

    module _ (id : ℕ) (open_at : leb 8 (place_of s.places id) ≡ false) where
      abbrev i : ℕ
      i = place_of s.places id

      abbrev place : Place
      place = get_or s.places i no_place

      -- the held page as it is programmed with this TxCnt and TxVer
      abbrev held : ℕ → ℕ → List ℕ
      held cnt ver = change_bytes (held_at i h) (held_drop place) (held_page place) cnt place.id ver (number_of s.geometry place.count)

      -- a call that adds a page to the change
      module _ (c : Call) (lpn : ℕ) (adds : Bool) (d : List ℕ) (k : ℕ) (n : next_free ≡ k) where
        -- the world after it, if the array undergoes o, the state becomes t and page j is next
        after : Op → State → ℕ → Outcome
        after o t j = record { answer = 0; world = record { array = apply_op t.geometry.pages o (flat qs); map = m; hold = hold_with h i d; state = with_place t i (written place j lpn adds) } }

        -- the first one is held
        first_page : place.count ≡ 0 → plan c (world x) ≡ write_plan i place lpn adds d (world x)
            → exec c (world x) ≡ record { answer = 0; world = device qs m (hold_with h i d) (with_place s i (written place k lpn adds)) }
        unfolding exec carried write_plan held_op held_state with_place with_last apply_op after
        first_page z p =
            ap (λ (p : Plan). carried p (world x)) p
            ∙ (ap (λ (t : Bool). after (cond t none (program (next_page (world x)) (held 0 0))) (cond t s (taken (next_page (world x)))) (next_page (world x))) (eq-eqb place.count 0 z)
            ∙ ap (after none s) (next_page_law k n))

        -- a later one programs the held page on page k
        later_page : (q : List ℕ) → eqb place.count 0 ≡ false → ands (get_or qs k []) (held 0 0) ≡ q → plan c (world x) ≡ write_plan i place lpn adds d (world x)
            → exec c (world x) ≡ record { answer = 0; world = device (splice qs k 1 (q ∷ [])) m (hold_with h i d) (with_place (taken k) i (written place k lpn adds)) }
        unfolding exec carried write_plan held_op held_state with_place with_last after
        later_page q z e p =
            ap (λ (p : Plan). carried p (world x)) p
            ∙ (ap (λ (y : Bool). after (cond y none (program (next_page (world x)) (held 0 0))) (cond y s (taken (next_page (world x)))) (next_page (world x))) z
            ∙ (ap (λ (j : ℕ). after (program j (held 0 0)) (taken j) j) (next_page_law k n)
            ∙ ap (λ (xs : List ℕ). record { answer = 0; world = record { array = xs; map = m; hold = hold_with h i d; state = with_place (taken k) i (written place k lpn adds) } }) (programs_on s.geometry.pages k (held 0 0) q e)))

      module _ (lpn : ℕ) (d : List ℕ) (long : eqb (length d) 512 ≡ true) (in_range_law : leb s.geometry.logical lpn ≡ false) (k : ℕ) (n : next_free ≡ k) where
        pub first_write : place.count ≡ 0
            → exec (write id lpn d) (world x) ≡ record { answer = 0; world = device qs m (hold_with h i d) (with_place s i (written place k lpn false)) }
        first_write c = first_page (write id lpn d) lpn false d k n c (write_done (world x) pass id lpn d long in_range_law open_at (omega (arith, c)) (rw c refl))

        -- what they program: the first one nothing
        pub first_op : place.count ≡ 0 → (plan (write id lpn d) (world x)).op ≡ none
        unfolding write_plan held_op
        first_op c =
            ap (λ (p : Plan). p.op) (write_done (world x) pass id lpn d long in_range_law open_at (omega (arith, c)) (rw c refl))
            ∙ rw (eq-eqb place.count 0 c) refl

        pub write_op : eqb place.count 0 ≡ false → leb longest_change place.count ≡ false → leb clean s.geometry.pages ≡ false
            → (plan (write id lpn d) (world x)).op ≡ program k (held 0 0)
        unfolding write_plan held_op
        write_op c t z =
            ap (λ (p : Plan). p.op) (write_done (world x) pass id lpn d long in_range_law open_at (leb-false longest_change place.count t) (rw (c, zone_on z) refl))
            ∙ rw (c, next_page_law k n) refl

        pub next_write : (q : List ℕ) → eqb place.count 0 ≡ false → leb longest_change place.count ≡ false → leb clean s.geometry.pages ≡ false
            → ands (get_or qs k []) (held 0 0) ≡ q
            → exec (write id lpn d) (world x) ≡ record { answer = 0; world = device (splice qs k 1 (q ∷ [])) m (hold_with h i d) (with_place (taken k) i (written place k lpn false)) }
        next_write q c t z e =
            later_page (write id lpn d) lpn false d k n q c e
            (write_done (world x) pass id lpn d long in_range_law open_at (leb-false longest_change place.count t) (rw (c, zone_on z) refl))

      module _ (lpn : ℕ) (in_range_law : leb s.geometry.logical lpn ≡ false) (k : ℕ) (n : next_free ≡ k) where
        pub first_drop : place.count ≡ 0
            → exec (drop_page id lpn) (world x) ≡ record { answer = 0; world = device qs m (hold_with h i gone) (with_place s i (written place k lpn true)) }
        first_drop c = first_page (drop_page id lpn) lpn true gone k n c (drop_done (world x) pass id lpn in_range_law open_at (omega (arith, c)) (rw c refl))

        pub next_drop : (q : List ℕ) → eqb place.count 0 ≡ false → leb longest_change place.count ≡ false → leb clean s.geometry.pages ≡ false
            → ands (get_or qs k []) (held 0 0) ≡ q
            → exec (drop_page id lpn) (world x) ≡ record { answer = 0; world = device (splice qs k 1 (q ∷ [])) m (hold_with h i gone) (with_place (taken k) i (written place k lpn true)) }
        next_drop q c t z e =
            later_page (drop_page id lpn) lpn true gone k n q c e
            (drop_done (world x) pass id lpn in_range_law open_at (leb-false longest_change place.count t) (rw (c, zone_on z) refl))

      -- a commit programs the held page as the mark, on page k
      module _ (k : ℕ) (c : eqb place.count 0 ≡ false) (v : spent s.version 1 ≡ false) (z : leb clean s.geometry.pages ≡ false)
          (n : next_free ≡ k) where
        marked : ℕ → List ℕ → Outcome
        marked j xs = record { answer = 0; world = record { array = xs; map = entered m place.lpns (set place.ppns (place.count - 1) j) place.drops place.count; hold = h; state = with_place (with_version (taken j) (s.version + 1)) i free_place } }

        pub commit_op : (plan (commit id) (world x)).op ≡ program k (held place.count (s.version + 1))
        unfolding mark_plan
        commit_op = ap (λ (p : Plan). p.op) (commit_done (world x) pass id open_at c v (zone_on z)) ∙ ap (λ (j : ℕ). program j (held place.count (s.version + 1))) (next_page_law k n)

        pub commit_shape : (plan (commit id) (world x)).state.geometry.pages ≡ s.geometry.pages
        unfolding mark_plan with_place with_version with_last
        commit_shape = ap (λ (p : Plan). p.state.geometry.pages) (commit_done (world x) pass id open_at c v (zone_on z))

        pub commits : (q : List ℕ) → ands (get_or qs k []) (held place.count (s.version + 1)) ≡ q
            → exec (commit id) (world x) ≡ record { answer = 0; world = device (splice qs k 1 (q ∷ [])) (entered m place.lpns (set place.ppns (place.count - 1) k) place.drops place.count) h (with_place (with_version (taken k) (s.version + 1)) i free_place) }
        unfolding exec carried mark_plan with_place with_version with_last marked
        commits q e =
            ap (λ (p : Plan). carried p (world x)) (commit_done (world x) pass id open_at c v (zone_on z))
            ∙ (ap (λ (j : ℕ). marked j (apply_op s.geometry.pages (program j (held place.count (s.version + 1))) (flat qs))) (next_page_law k n)
            ∙ ap (marked k) (programs_on s.geometry.pages k (held place.count (s.version + 1)) q e))

      pub aborts : exec (abort id) (world x) ≡ record { answer = 0; world = device qs m h (with_place s i free_place) }
      unfolding exec carried forget_plan apply_op
      aborts = ap (λ (p : Plan). carried p (world x)) (abort_done (world x) pass id open_at)

    -- the first stride of a checkpoint, its map page on page u of the front block
    pub checkpoint_begins : (u : ℕ) (q : List ℕ) → s.work ≡ Idle → spent s.checkpoint 1 ≡ false → used_on qs (s.front * s.geometry.pages) s.geometry.pages ≡ u
        → ltb (s.geometry.pages - u) (map_pages s.geometry + 1) ≡ false → ltb 0 (map_pages s.geometry) ≡ true
        → ands (get_or qs (s.front * s.geometry.pages + (u + 0)) []) (map_page m 0 (s.checkpoint + 1)) ≡ q
        → exec checkpoint (world x) ≡ record { answer = 255; world = device (splice qs (s.front * s.geometry.pages + (u + 0)) 1 (q ∷ [])) m h (with_work s s.front u (Checkpoint 1)) }
    unfolding exec carried page_stride map_stride with_work used_in checkpoint_stride
    checkpoint_begins u q k v e f t o =
        ap (λ (p : Plan). carried p (world x)) (checkpoint_done (world x) (passes (is_checkpoint s.work) still frame (rw k refl)) v)
        ∙ (ap (λ (y : Work). carried (checkpoint_stride (world x) y) (world x)) k
        ∙ (ap (λ (p : Plan). carried p (world x)) (front_suffices (world x) u (used_on_law (flat qs) qs (page_flat qs sized) (s.front * s.geometry.pages) s.geometry.pages ∙ e) f)
        ∙ (ap (λ (y : Bool). carried (cond y (map_stride u 0 (world x)) (zone_stride u 0 (world x))) (world x)) t
        ∙ ap (λ (xs : List ℕ). record { answer = 255; world = record { array = xs; map = m; hold = h; state = with_work s s.front u (Checkpoint 1) } }) (programs_on s.geometry.pages (s.front * s.geometry.pages + (u + 0)) (map_page m 0 (s.checkpoint + 1)) q o))))

  -- the last stride of a checkpoint under way
  pub checkpoint_ends : (i : ℕ) (z : Zones) (q : List ℕ) → s.work ≡ Checkpoint i → formatting s.work ≡ false → frame_on x ≡ true → spent s.checkpoint 1 ≡ false → ltb i (map_pages s.geometry) ≡ false
      → slide_on s.geometry qs s.places s.zones ≡ z
      → ands (get_or qs (s.front * s.geometry.pages + (s.first + i)) []) (zone_page (map_pages s.geometry) s.version z (s.checkpoint + 1)) ≡ q
      → exec checkpoint (world x) ≡ record { answer = 0; world = device (splice qs (s.front * s.geometry.pages + (s.first + i)) 1 (q ∷ [])) m h (with_number (with_zones (with_work s s.front 0 Idle) z) (s.checkpoint + 1)) }
  unfolding exec carried page_stride zone_stride with_work with_zones with_number checkpoint_stride
  checkpoint_ends i z q k still frame v t e o =
      ap (λ (p : Plan). carried p (world x)) (checkpoint_done (world x) (passes (is_checkpoint s.work) still frame (rw k refl)) v)
      ∙ (ap (λ (y : Work). carried (checkpoint_stride (world x) y) (world x)) k
      ∙ (ap (λ (y : Bool). carried (cond y (map_stride s.first i (world x)) (zone_stride s.first i (world x))) (world x)) t
      ∙ (ap (λ (y : Zones). record { answer = 0; world = record { array = apply_op s.geometry.pages (program (s.front * s.geometry.pages + (s.first + i)) (zone_page (map_pages s.geometry) s.version y (s.checkpoint + 1))) (flat qs); map = m; hold = h; state = with_number (with_zones (with_work s s.front 0 Idle) y) (s.checkpoint + 1) } })
      (slide_on_law (flat qs) qs (page_flat qs sized) s.geometry s.places s.zones ∙ e)
      ∙ ap (λ (xs : List ℕ). record { answer = 0; world = record { array = xs; map = m; hold = h; state = with_number (with_zones (with_work s s.front 0 Idle) z) (s.checkpoint + 1) } }) (programs_on s.geometry.pages (s.front * s.geometry.pages + (s.first + i)) (zone_page (map_pages s.geometry) s.version z (s.checkpoint + 1)) q o))))

  -- ---- reclaim of block b
  module _ (b : ℕ) (still : formatting s.work ≡ false) (frame : frame_on x ≡ true) (own : (is_idle s.work || is_reclaim s.work) ≡ true)
      (pick : picked (world x) ≡ at b) (some : leb s.geometry.pages (mapped_in m s.geometry.pages b) ≡ false) where
    pass_reclaim : gate (is_reclaim s.work) (world x) ≡ 0
    pass_reclaim = passes (is_reclaim s.work) still frame own

    -- a copy of page j, which logical page l has, on page k
    pub reclaim_copies : (j l k : ℕ) (d q : List ℕ) → eqb (mapped_in m s.geometry.pages b) 0 ≡ false → spent s.version (mapped_in m s.geometry.pages b) ≡ false
        → ltb clean (mapped_in m s.geometry.pages b) ≡ false
        → lowest_from m (b * s.geometry.pages) s.geometry.pages ≡ j → find (eqb j) m ≡ l → take 512 (get_or qs j []) ≡ d
        → next_free ≡ k → ands (get_or qs k []) (data_bytes d l 1 0 (s.version + 1)) ≡ q
        → exec reclaim (world x) ≡ record { answer = 255; world = device (splice qs k 1 (q ∷ [])) (enter_page m l k) h (with_work (with_version (taken k) (s.version + 1)) s.front s.first Reclaim) }
    unfolding exec carried copy_stride with_work with_version with_last data_at
    reclaim_copies j l k d q c v z low f e n o =
        ap (λ (p : Plan). carried p (world x)) (reclaim_done (world x) pass_reclaim b pick some c v (ap (λ (x : ℕ). ltb x (mapped_in m s.geometry.pages b)) clean_pages_law ∙ z))
        ∙ (ap (λ (y : ℕ). carried (copy_stride y (world x)) (world x)) low
        ∙ rw (f, page_flat qs sized j, e, next_page_law k n, programs_on s.geometry.pages k (data_bytes d l 1 0 (s.version + 1)) q o) refl)

    abbrev blank_page : List ℕ
    blank_page = replicate 528 255

    free_op : eqb (mapped_in m s.geometry.pages b) 0 ≡ true → plan reclaim (world x) ≡ free_stride b (world x)
    free_op e = reclaim_frees (world x) pass_reclaim b pick some e

    -- the erase
    pub reclaim_erases : (rs : List (List ℕ)) → eqb (mapped_in m s.geometry.pages b) 0 ≡ true → replicate (s.geometry.pages * 528) 255 ≡ flat rs
        → exec reclaim (world x) ≡ record { answer = 0; world = device (splice qs (b * s.geometry.pages) s.geometry.pages rs) m h (with_zones (with_work s s.front s.first Idle) (freed s.zones b)) }
    unfolding exec carried free_stride with_work with_zones apply_op put_block
    reclaim_erases rs e r =
        ap (λ (p : Plan). carried p (world x)) (free_op e)
        ∙ ap (λ (xs : List ℕ). record { answer = 0; world = record { array = xs; map = m; hold = h; state = with_zones (with_work s s.front s.first Idle) (freed s.zones b) } })
        (ap (λ (ys : List ℕ). splice (flat qs) (b * s.geometry.pages * 528) (s.geometry.pages * 528) ys) r ∙ splice_flat qs sized (b * s.geometry.pages) s.geometry.pages rs)

    pub reclaim_op : eqb (mapped_in m s.geometry.pages b) 0 ≡ true → (plan reclaim (world x)).op ≡ erase b
    unfolding free_stride
    reclaim_op e = ap (λ (p : Plan). p.op) (free_op e)

    pub reclaim_shape : eqb (mapped_in m s.geometry.pages b) 0 ≡ true → (plan reclaim (world x)).state.geometry.pages ≡ s.geometry.pages
    unfolding free_stride with_work with_zones
    reclaim_shape e = ap (λ (p : Plan). p.state.geometry.pages) (free_op e)

  -- ---- recover, from the checkpoint on page k
  unfoldable pub load_on : List (List ℕ) → ℕ → ℕ → List ℕ
  load_on ps k zero = []
  load_on ps k (suc n) = words (take 512 (get_or ps k [])) ++ load_on ps (suc k) n

  load_on_law : (k n : ℕ) → load_map (flat qs) k n ≡ load_on qs k n
  unfolding load_map load_on data_at
  load_on_law k zero = refl
  load_on_law k (suc n) = ap₂ (λ (q es : List ℕ). words (take 512 q) ++ es) (page_flat qs sized k) (load_on_law (suc k) n)

  pub recovers : (g : Geometry) (k : ℕ) (entries z : List ℕ) (es : List Entry) (number : ℕ) → lent_on g x ≡ true
      → newest_on qs (map_pages g) g.pages (g.pages - map_pages g) (newest_on qs (map_pages g) 0 (g.pages - map_pages g) nothing) ≡ at k
      → load_on qs k (map_pages g) ≡ entries → take 512 (get_or qs (k + map_pages g) []) ≡ z
      → scan_on qs g.pages (unavailable_of (zones_in z) ++ available_of (zones_in z)) ≡ es → number_on qs k ≡ number
      → load_ok g entries z ≡ true → pages_good g.planes g.logical es ≡ true
      → exec (recover g) (world x) ≡ record { answer = 0; world = device qs (redone g.planes (le32 z 0) es (take g.logical entries)) h (record { geometry = g; zones = zones_in z; version = max (le32 z 0) (top es); checkpoint = number; front = k / g.pages; first = 0; work = Idle; last = Neither; places = replicate 8 free_place }) }
  unfolding exec carried plan plan_recover first_number recover_plan recovered_map recovered_state scan_of apply_op data_at
  recovers g k entries z es number len new load zone scan num three four =
      rw (lent_on_law g, len, newest_page (flat qs) qs (page_flat qs sized) (map_pages g) g.pages, new, load_on_law k (map_pages g), load, page_flat qs sized (k + map_pages g), zone, scan_on_law (flat qs) qs (page_flat qs sized) g.pages (unavailable_of (zones_in z) ++ available_of (zones_in z)), scan, number_on_law (flat qs) qs (page_flat qs sized) k, num, three, four) refl

  -- ---- the strides of a format
  module _ (g : Geometry) (k : ℕ) (len : lent_on g x ≡ true) (done : strides_done g s s.work ≡ k) (ready : format_work_ok g (world x) s.work ≡ true) where
    format_strides_law : plan (format g) (world x) ≡ format_stride g k (world x)
    unfolding plan plan_format first_number
    format_strides_law = rw (lent_on_law g, len, ready, done) refl

    -- an erase, of block k
    pub format_erases : (rs : List (List ℕ)) → ltb k g.blocks ≡ true → replicate (g.pages * 528) 255 ≡ flat rs
        → exec (format g) (world x) ≡ record { answer = 255; world = device (splice qs (k * g.pages) g.pages rs) (blank_map g) h (with_work (fresh_state g) 0 0 (Format (k + 1))) }
    unfolding exec carried format_stride format_more with_work fresh_state apply_op put_block
    format_erases rs b r =
        ap (λ (p : Plan). carried p (world x)) format_strides_law
        ∙ rw (b, r, splice_flat qs sized (k * g.pages) g.pages rs) refl

    -- a map page
    pub format_maps : (q : List ℕ) → ltb k g.blocks ≡ false → ltb (k - g.blocks) (map_pages g) ≡ true → ands (get_or qs (k - g.blocks) []) (map_page (blank_map g) (k - g.blocks) 1) ≡ q
        → exec (format g) (world x) ≡ record { answer = 255; world = device (splice qs (k - g.blocks) 1 (q ∷ [])) (blank_map g) h (with_work (fresh_state g) 0 0 (Format (k + 1))) }
    unfolding exec carried format_stride format_more with_work fresh_state
    format_maps q b c e =
        ap (λ (p : Plan). carried p (world x)) format_strides_law
        ∙ rw (b, c, programs_on g.pages (k - g.blocks) (map_page (blank_map g) (k - g.blocks) 1) q e) refl

    -- the zone page
    pub format_ends : (q : List ℕ) → ltb k g.blocks ≡ false → ltb (k - g.blocks) (map_pages g) ≡ false → ands (get_or qs (map_pages g) []) (zone_page (map_pages g) 0 (format_zones g) 1) ≡ q
        → exec (format g) (world x) ≡ record { answer = 0; world = device (splice qs (map_pages g) 1 (q ∷ [])) (blank_map g) h (with_number (with_zones (fresh_state g) (format_zones g)) 1) }
    unfolding exec carried format_stride format_last with_zones with_number fresh_state
    format_ends q b c e =
        ap (λ (p : Plan). carried p (world x)) format_strides_law
        ∙ rw (b, c, programs_on g.pages (map_pages g) (zone_page (map_pages g) 0 (format_zones g) 1) q e) refl

  -- the next front page is looked at
  pub format_ready : (g : Geometry) (k : ℕ) → (leb 1 k && (leb k (g.blocks + map_pages g) && (ltb k g.blocks || all_ff (get_or qs (k - g.blocks) [])))) ≡ true → format_stride_ok g (flat qs) k ≡ true
  unfolding format_stride_ok blank_at
  format_ready g k e = ap (λ (q : List ℕ). leb 1 k && (leb k (g.blocks + map_pages g) && (ltb k g.blocks || all_ff q))) (page_flat qs sized (k - g.blocks)) ∙ e

  -- ---- cuts
  -- in a call that programs page k, while nothing runs: the due bits of which those in `lets` turn, so that the page reads q
  module _ (c : Call) (lets : List ℕ) where
    abbrev cut_in_law : Op → Event
    cut_in_law o = cut_in c (programs o) (due_bits (plan c (world x)).state.geometry.pages o (flat qs)) (turned_bits (plan c (world x)).state.geometry.pages o lets (flat qs))

    told_by : (o : Op) → (plan c (world x)).op ≡ o → cut_event c (world x) [] lets still ≡ cut_in_law o
    unfolding cut_event runs_due runs_turned those
    told_by o e =
        rw (
          none_during c (world x),
          append-nil (due_bits (plan c (world x)).state.geometry.pages (plan c (world x)).op (flat qs)),
          append-nil (turned_bits (plan c (world x)).state.geometry.pages (plan c (world x)).op lets (flat qs)),
        ) (ap cut_in_law e)

    left_by : (o : Op) → (plan c (world x)).op ≡ o → cut_array c (world x) [] lets still ≡ cut_op (plan c (world x)).state.geometry.pages o lets (flat qs)
    unfolding cut_array cut_runs
    left_by o e = rw (none_during c (world x)) (ap (λ (y : Op). cut_op (plan c (world x)).state.geometry.pages y lets (flat qs)) e)

    -- nothing is programmed
    pub idle_told : (plan c (world x)).op ≡ none → cut_event c (world x) [] lets still ≡ cut_in c false [] []
    unfolding due_bits turned_bits ands
    idle_told e = told_by none e

    pub idle_left : (plan c (world x)).op ≡ none → cut_array c (world x) [] lets still ≡ flat qs
    unfolding cut_op turn
    idle_left e = left_by none e

    module _ (k : ℕ) (new old : List ℕ) (o : (plan c (world x)).op ≡ program k new) (stood : get_or qs k [] ≡ old) where
      pub page_told : cut_event c (world x) [] lets still ≡ cut_in c true (minus old new) (ands (minus old new) lets)
      unfolding due_bits turned_bits
      page_told = told_by (program k new) o ∙ ap (λ (x : List ℕ). cut_in c true (minus x new) (ands (minus x new) lets)) (page_flat qs sized k ∙ stood)

      pub page_left : (q : List ℕ) → minus old (ands (minus old new) lets) ≡ q → cut_array c (world x) [] lets still ≡ flat (splice qs k 1 (q ∷ []))
      unfolding cut_op turn turned_bits due_bits
      page_left q e =
          left_by (program k new) o
          ∙ (ap (λ (x : List ℕ). put_page (flat qs) k (minus x (ands (minus x new) lets))) (page_flat qs sized k ∙ stood)
          ∙ (ap (put_page (flat qs) k) e ∙ put_flat qs sized k q))

    -- block b is erased
    module _ (b p : ℕ) (old : List ℕ) (o : (plan c (world x)).op ≡ erase b) (pages : (plan c (world x)).state.geometry.pages ≡ p) (stood : flat (part (b * p) p qs) ≡ old) where
      pub block_told : cut_event c (world x) [] lets still ≡ cut_in c false (zeros_of old) (ands (zeros_of old) lets)
      unfolding due_bits turned_bits block_at
      block_told =
          told_by (erase b) o
          ∙ (ap (λ (n : ℕ). cut_in c false (zeros_of (part (b * n * 528) (n * 528) (flat qs))) (ands (zeros_of (part (b * n * 528) (n * 528) (flat qs))) lets)) pages
          ∙ ap (λ (x : List ℕ). cut_in c false (zeros_of x) (ands (zeros_of x) lets)) (part_flat qs sized (b * p) p ∙ stood))

      pub block_left : (rs : List (List ℕ)) → ors old (ands (zeros_of old) lets) ≡ flat rs → cut_array c (world x) [] lets still ≡ flat (splice qs (b * p) p rs)
      unfolding cut_op turn turned_bits due_bits block_at put_block
      block_left rs e =
          left_by (erase b) o
          ∙ (ap (λ (n : ℕ). splice (flat qs) (b * n * 528) (n * 528) (ors (part (b * n * 528) (n * 528) (flat qs)) (ands (zeros_of (part (b * n * 528) (n * 528) (flat qs))) lets))) pages
          ∙ (ap (λ (x : List ℕ). splice (flat qs) (b * p * 528) (p * 528) (ors x (ands (zeros_of x) lets))) (part_flat qs sized (b * p) p ∙ stood)
          ∙ (ap (splice (flat qs) (b * p * 528) (p * 528)) e ∙ splice_flat qs sized (b * p) p rs)))

-- ---- steps of a Run
module _ {g : Geometry} where
  -- a call that answers n and leaves v; pages rs run before it, and ss after it
  pub answering : {w v : World} {rs ss : List Running} {es : List Event} {p : Phase} (c : Call) (n : ℕ) → exec c w ≡ record { answer = n; world = v } → fits c ≡ true → Allowed g c w
      → runs_after c w rs ≡ ss → Run g (live v ss) es p → Run g (live w rs) (called c n ∷ es) p
  answering {w = w} {v = v} {rs = rs} c n e f a u r =
      next (subst (λ (ts : List Running). Step g (live w rs) (called c n) (live v ts)) u
      (subst (λ (o : Outcome). Step g (live w rs) (called c o.answer) (live o.world (runs_after c w rs))) e (call c w rs f a))) r

  -- on one plane, where nothing runs
  pub answered : {w v : World} {es : List Event} {p : Phase} (c : Call) (n : ℕ) → exec c w ≡ record { answer = n; world = v } → fits c ≡ true → Allowed g c w
      → eqb w.state.geometry.planes 2 ≡ false → Run g (live v []) es p → Run g (live w []) (called c n ∷ es) p
  answered {w = w} c n e f a one r = answering c n e f a (none_after c w one) r

  -- a cut, of which this is told and which leaves xs; pages rs run, of which it lets these parts turn
  pub cut_beside : {w : World} {rs : List Running} {xs : List ℕ} {e : Event} {es : List Event} {p : Phase} (c : Call) (lets : List ℕ) (parts : ℕ → List ℕ)
      → cut_event c w rs lets parts ≡ e → cut_array c w rs lets parts ≡ xs → fits c ≡ true → Allowed g c w → Run g (dark xs) es p → Run g (live w rs) (e ∷ es) p
  cut_beside {w = w} {rs = rs} {xs = xs} c lets parts t l f a r =
      next (subst (λ (y : Event). Step g (live w rs) y (dark xs)) t
      (subst (λ (ys : List ℕ). Step g (live w rs) (cut_event c w rs lets parts) (dark ys)) l (cut c w rs lets parts f a))) r

  -- while nothing runs
  pub cut_short : {w : World} {xs : List ℕ} {e : Event} {es : List Event} {p : Phase} (c : Call) (lets : List ℕ) → cut_event c w [] lets still ≡ e → cut_array c w [] lets still ≡ xs
      → fits c ≡ true → Allowed g c w → Run g (dark xs) es p → Run g (live w []) (e ∷ es) p
  cut_short c lets = cut_beside c lets still

  -- after a cut: a recover that leaves v
  pub recovered : {v : World} {es : List Event} {p : Phase} (w : World) → exec (recover g) w ≡ record { answer = 0; world = v } → Run g (live v []) es p → Run g (dark w.array) (called (recover g) 0 ∷ es) p
  recovered w e r = next (subst (λ (o : Outcome). Step g (dark w.array) (called (recover g) 0) (live o.world [])) e (back w (ap (λ (o : Outcome). o.answer) e))) r

  -- a format: its first stride, one more, its last
  pub format_first : {v : World} (w : World) → strides_done g w.state w.state.work ≡ 0 → exec (format g) w ≡ record { answer = 255; world = v } → Formatting g v
  format_first w d e = subst (λ (o : Outcome). Formatting g o.world) e (first w d (ap (λ (o : Outcome). o.answer) e))

  pub format_more_law : {w v : World} → Formatting g w → exec (format g) w ≡ record { answer = 255; world = v } → Formatting g v
  format_more_law {w} f e = subst (λ (o : Outcome). Formatting g o.world) e (more w f (ap (λ (o : Outcome). o.answer) e))

  pub format_finished : {w v : World} → Formatting g w → exec (format g) w ≡ record { answer = 0; world = v } → Formatted g v
  format_finished {w} f e = subst (λ (o : Outcome). Formatted g o.world) e (finished w f (ap (λ (o : Outcome). o.answer) e))

  -- or a recover or format that is refused
  pub turned_down : {v : World} {es : List Event} {p : Phase} (c : Call) (w : World) (n : ℕ) → exec c w ≡ record { answer = n; world = v } → is_recovery c ≡ true → fits c ≡ true → Allowed g c w → refused n ≡ true
      → Run g (dark w.array) es p → Run g (dark w.array) (called c n ∷ es) p
  turned_down c w n e i f a r t =
      next (subst (λ (x : ℕ). Step g (dark w.array) (called c x) (dark w.array)) (ap (λ (o : Outcome). o.answer) e) (failed c w i f a (ap (λ (o : Outcome). refused o.answer) e ∙ r))) t

  pub joined : {p q r : Phase} {es fs : List Event} → Run g p es q → Run g q fs r → Run g p (es ++ fs) r
  joined (stop p) t = t
  joined (next s u) t = next s (joined u t)
