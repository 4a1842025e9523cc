-- "Order: 1 first, then 17", then each command's own refusals, over all worlds: each law says which refusal is given whatever comes later in
-- the order. Beside them: what buffers that fit make of a format, and what a commit and a checkpoint's strides leave alone.
use Rattle.std.specs.Prelude.{ℕ, ◌+◌, ◌-◌, ◌*◌, ◌≤◌, ◌<◌, ◌≡◌, Bool, true, not, cond, ◌&&◌, ◌||◌, List, length, get_or, replicate, leb, eqb}
use Rattle.std.proofs.Math.Path.{refl, ap}
use Rattle.std.proofs.Math.Bool.{false}
use Rattle.std.proofs.lemmas.Bool.{false≢true}
use Rattle.std.proofs.lemmas.List.{length-replicate}
use Rattle.std.proofs.Math.Dec.{ltb}
use borrow.Author.Tests.{leb-true, le-leb, lt-leb, lt-ltb, le-ltb, eq-eqb, eqb-true, not-true}
use Rattle.std.proofs.Common.{arith}
use Rattle.model.specs.Lists.{find, those}
use Rattle.model.specs.Geometry.{unmapped, geometry_ok, lengths_ok, map_pages}
use Rattle.model.specs.Zones.{has_id, used_in}
use Rattle.model.specs.Checkpoint.{nothing, at, newest, load_ok}
use Rattle.model.specs.Recovery.{pages_good}
use Rattle.model.specs.World.{World, none, Plan, refuse}
use Rattle.model.specs.Order.{first_number, leave_out}
use Rattle.model.specs.Frame.{no_place, bad_id, lent_ok, frame_ok, is_idle, gate, fresh_state}
use Rattle.model.specs.Transactions.{with_place, place_of, zone_short, clean_pages, spent, begun, live_id, longest_change, write_plan, has_held, drop_checks, commit_checks, abort_checks, gone, lone_plan, mark_plan, forget_plan, plan_begin, plan_write, plan_drop, plan_lone, plan_commit, plan_abort, read_answer}
use Rattle.model.specs.Strides.{is_checkpoint, with_work, with_zones, with_number, map_stride, zone_stride, page_stride, other_stride, first_stride, checkpoint_stride, plan_checkpoint, mapped_in, picked, lowest_from, is_reclaim, copy_stride, free_stride, reclaim_stride, plan_reclaim, strides_done, format_work_ok, format_more, format_stride, plan_format}
use Rattle.model.specs.Recover.{entries_at, zones_at, scanned_at, plan_recover}
use Rattle.model.specs.Commands.{format, recover, begin, write, drop_page, lone, commit, abort, read, checkpoint, reclaim, plan, Call}
use Rattle.model.specs.declared.Geometry.{Geometry}
use Rattle.model.specs.declared.Place.{Place}
use Rattle.model.specs.declared.Work.{Work}

-- ---- 1 first, then 17
-- whatever is under way, and for every command but format and recover
pub bad_frame_first : (own : Bool) (w : World) → frame_ok w ≡ false → gate own w ≡ 1
unfolding gate first_number
bad_frame_first own w f = rw f refl

pub busy_next : (w : World) → frame_ok w ≡ true → is_idle w.state.work ≡ false → gate false w ≡ 17
unfolding gate first_number
busy_next w f i = rw (f, i) refl

-- the commands that are refused with 1 for the state too
abbrev takes_state : Call → Bool
takes_state (format g) = false
takes_state (recover g) = false
takes_state (begin id) = true
takes_state (write id lpn d) = true
takes_state (drop_page id lpn) = true
takes_state (lone lpn d) = true
takes_state (commit id) = true
takes_state (abort id) = true
takes_state (read lpn) = true
takes_state checkpoint = true
takes_state reclaim = true

-- each of them, whatever else is wrong
pub frame_first : (c : Call) (w : World) → takes_state c ≡ true → frame_ok w ≡ false → plan c w ≡ refuse w 1
unfolding plan plan_begin plan_write plan_drop plan_lone plan_commit plan_abort read_answer plan_checkpoint plan_reclaim first_number leave_out those
frame_first (format g) w t f = absurd (false≢true t)
frame_first (recover g) w t f = absurd (false≢true t)
frame_first (begin id) w t f = rw f refl
frame_first (write id lpn d) w t f = rw f refl
frame_first (drop_page id lpn) w t f = rw f refl
frame_first (lone lpn d) w t f = rw f refl
frame_first (commit id) w t f = rw f refl
frame_first (abort id) w t f = rw f refl
frame_first (read lpn) w t f = rw f refl
frame_first checkpoint w t f = rw f refl
frame_first reclaim w t f = rw f refl

-- what another's work under way refuses: every one but read, "format, recover or the command's own next stride"
abbrev waits_for : Call → Work → Bool
waits_for (format g) k = false
waits_for (recover g) k = false
waits_for (begin id) k = true
waits_for (write id lpn d) k = true
waits_for (drop_page id lpn) k = true
waits_for (lone lpn d) k = true
waits_for (commit id) k = true
waits_for (abort id) k = true
waits_for (read lpn) k = false
waits_for checkpoint k = not (is_checkpoint k)
waits_for reclaim k = not (is_reclaim k)

-- behind 1 it is the next, whatever else is wrong
pub busy_17 : (c : Call) (w : World) → frame_ok w ≡ true → is_idle w.state.work ≡ false → waits_for c w.state.work ≡ true → plan c w ≡ refuse w 17
unfolding plan plan_begin plan_write plan_drop plan_lone plan_commit plan_abort plan_checkpoint plan_reclaim first_number leave_out those
busy_17 (format g) w f i t = absurd (false≢true t)
busy_17 (recover g) w f i t = absurd (false≢true t)
busy_17 (begin id) w f i t = rw (f, i) refl
busy_17 (write id lpn d) w f i t = rw (f, i) refl
busy_17 (drop_page id lpn) w f i t = rw (f, i) refl
busy_17 (lone lpn d) w f i t = rw (f, i) refl
busy_17 (commit id) w f i t = rw (f, i) refl
busy_17 (abort id) w f i t = rw (f, i) refl
busy_17 (read lpn) w f i t = absurd (false≢true t)
busy_17 checkpoint w f i t = rw (f, i, not-true (is_checkpoint w.state.work) t) refl
busy_17 reclaim w f i t = rw (f, i, not-true (is_reclaim w.state.work) t) refl

-- "not for read .. or the command's own next stride"
pub own_passes : (w : World) → frame_ok w ≡ true → gate true w ≡ 0
unfolding gate first_number
own_passes w f = rw f (go (is_idle w.state.work))
  where
    go : (t : Bool) → ◌≡◌ {A = ℕ} (cond (not (t || true)) 17 0) 0
    go true = refl
    go false = refl

-- what a world has that passes
passed : (own : Bool) (w : World) → gate own w ≡ 0 → (frame_ok w ≡ true) × ((is_idle w.state.work || own) ≡ true)
unfolding gate first_number
passed own w z = go (frame_ok w) (is_idle w.state.work || own) z
  where
    go : (f i : Bool) → ◌≡◌ {A = ℕ} (cond (not f) 1 (cond (not i) 17 0)) 0 → (f ≡ true) × (i ≡ true)
    go true true z = (refl, refl)
    go true false z = absurd (omega (arith, z))
    go false i z = absurd (omega (arith, z))

-- ---- drop: "Its other checks are those of a write without 11"
-- whatever the world, it answers what a write of 512 bytes answers
pub drop_checks_law : (w : World) (id lpn : ℕ) (d : List ℕ) → eqb (length d) 512 ≡ true → (plan (drop_page id lpn) w).answer ≡ (plan (write id lpn d) w).answer
unfolding plan plan_drop plan_write leave_out those first_number write_plan
drop_checks_law w id lpn d long = rw long (same (eqb (first_number (drop_checks id lpn w)) 0) _ _ _ refl)
  where
    same : (t : Bool) (p q r : Plan) → p.answer ≡ q.answer → (cond t p r).answer ≡ (cond t q r).answer
    same true p q r h = h
    same false p q r h = refl

-- ---- each command, where 1 and 17 pass
module _ (w : World) (pass : gate false w ≡ 0) where
  frame : frame_ok w ≡ true
  frame = (passed false w pass).0

  idle : (is_idle w.state.work || false) ≡ true
  idle = (passed false w pass).1

  -- begin 6, 7, 9
  pub begin_6 : (id : ℕ) → bad_id id ≡ true → plan (begin id) w ≡ refuse w 6
  unfolding plan plan_begin first_number
  begin_6 id h = rw (frame, idle, h) refl

  pub begin_7 : (id : ℕ) → bad_id id ≡ false → live_id id w ≡ true → plan (begin id) w ≡ refuse w 7
  unfolding plan plan_begin first_number
  begin_7 id h k = rw (frame, idle, h, k) refl

  pub begin_9 : (id : ℕ) → bad_id id ≡ false → live_id id w ≡ false → leb 8 (find (has_id 0) w.state.places) ≡ true → plan (begin id) w ≡ refuse w 9
  unfolding plan plan_begin first_number
  begin_9 id h k f = rw (frame, idle, h, k, f) refl

  pub begin_done : (id : ℕ) → bad_id id ≡ false → live_id id w ≡ false → leb 8 (find (has_id 0) w.state.places) ≡ false
      → plan (begin id) w ≡ record { answer = 0; op = none; map = w.map; hold = w.hold; state = with_place w.state (find (has_id 0) w.state.places) (begun id) }
  unfolding plan plan_begin first_number
  begin_done id h k f = rw (frame, idle, h, k, f) refl

  -- write 11, 5, 8, 10, 12
  pub write_11 : (id lpn : ℕ) (d : List ℕ) → eqb (length d) 512 ≡ false → plan (write id lpn d) w ≡ refuse w 11
  unfolding plan plan_write first_number
  write_11 id lpn d l = rw (frame, idle, l) refl

  pub write_5 : (id lpn : ℕ) (d : List ℕ) → eqb (length d) 512 ≡ true → leb w.state.geometry.logical lpn ≡ true → plan (write id lpn d) w ≡ refuse w 5
  unfolding plan plan_write first_number
  write_5 id lpn d l h = rw (frame, idle, l, h) refl

  module _ (id lpn : ℕ) (d : List ℕ) (long : eqb (length d) 512 ≡ true) (in_range_law : leb w.state.geometry.logical lpn ≡ false) where
    pub write_8 : leb 8 (place_of w.state.places id) ≡ true → plan (write id lpn d) w ≡ refuse w 8
    unfolding plan plan_write first_number
    write_8 h = rw (frame, idle, long, in_range_law, h) refl

    module _ (open_at : leb 8 (place_of w.state.places id) ≡ false) where
      abbrev place : Place
      place = get_or w.state.places (place_of w.state.places id) no_place

      -- 10 from 41 pages on, whatever is clean
      pub write_10 : 41 ≤ place.count → plan (write id lpn d) w ≡ refuse w 10
      unfolding plan plan_write first_number
      write_10 n = rw (frame, idle, long, in_range_law, open_at, le-leb longest_change place.count (omega arith)) refl

      -- a page up to the 41st goes, and 12 is for a place with a held page alone
      pub write_done : place.count < 41 → (not (eqb place.count 0) && zone_short w) ≡ false → plan (write id lpn d) w ≡ write_plan (place_of w.state.places id) place lpn false d w
      unfolding plan plan_write first_number
      write_done n z = rw (frame, idle, long, in_range_law, open_at, lt-leb longest_change place.count (omega arith), z) refl

      pub write_12 : place.count < 41 → eqb place.count 0 ≡ false → zone_short w ≡ true → plan (write id lpn d) w ≡ refuse w 12
      unfolding plan plan_write first_number
      write_12 n c z = rw (frame, idle, long, in_range_law, open_at, lt-leb longest_change place.count (omega arith), c, z) refl

      pub write_41st : place.count ≡ 40 → zone_short w ≡ false → (plan (write id lpn d) w).answer ≡ 0
      unfolding write_plan
      write_41st n z = ap (λ (p : Plan). p.answer) (write_done (omega (arith, n)) (rw (n, z) refl))

      pub write_first : place.count ≡ 0 → (plan (write id lpn d) w).answer ≡ 0
      unfolding plan plan_write first_number write_plan
      write_first n = rw (frame, idle, long, in_range_law, open_at, n) refl

    -- lone write 11, 5, 13, 12
    pub lone_13 : spent w.state.version 1 ≡ true → plan (lone lpn d) w ≡ refuse w 13
    unfolding plan plan_lone first_number
    lone_13 v = rw (frame, idle, long, in_range_law, v) refl

    pub lone_12 : spent w.state.version 1 ≡ false → zone_short w ≡ true → plan (lone lpn d) w ≡ refuse w 12
    unfolding plan plan_lone first_number
    lone_12 v z = rw (frame, idle, long, in_range_law, v, z) refl

    pub lone_done : spent w.state.version 1 ≡ false → zone_short w ≡ false → plan (lone lpn d) w ≡ lone_plan lpn d w
    unfolding plan plan_lone first_number
    lone_done v z = rw (frame, idle, long, in_range_law, v, z) refl

  pub lone_11 : (lpn : ℕ) (d : List ℕ) → eqb (length d) 512 ≡ false → plan (lone lpn d) w ≡ refuse w 11
  unfolding plan plan_lone first_number
  lone_11 lpn d l = rw (frame, idle, l) refl

  pub lone_5 : (lpn : ℕ) (d : List ℕ) → eqb (length d) 512 ≡ true → leb w.state.geometry.logical lpn ≡ true → plan (lone lpn d) w ≡ refuse w 5
  unfolding plan plan_lone first_number
  lone_5 lpn d l h = rw (frame, idle, l, h) refl

  -- a drop goes where a write does: its page is held, 512 bytes 0xFF, and counted
  module _ (id lpn : ℕ) (in_range_law : leb w.state.geometry.logical lpn ≡ false) (open_at : leb 8 (place_of w.state.places id) ≡ false) where
    abbrev dropping : Place
    dropping = get_or w.state.places (place_of w.state.places id) no_place

    pub drop_done : dropping.count < 41 → (not (eqb dropping.count 0) && zone_short w) ≡ false
        → plan (drop_page id lpn) w ≡ write_plan (place_of w.state.places id) dropping lpn true gone w
    unfolding plan plan_drop first_number leave_out those
    drop_done n z = rw (frame, idle, in_range_law, open_at, lt-leb longest_change dropping.count (omega arith), z) refl

  -- commit 8, 13, 12, "the last two only with a held page"
  pub commit_8 : (id : ℕ) → leb 8 (place_of w.state.places id) ≡ true → plan (commit id) w ≡ refuse w 8
  unfolding plan plan_commit first_number
  commit_8 id h = rw (frame, idle, h) refl

  module _ (id : ℕ) (open_at : leb 8 (place_of w.state.places id) ≡ false) where
    abbrev committing : Place
    committing = get_or w.state.places (place_of w.state.places id) no_place

    pub commit_empty : committing.count ≡ 0 → (plan (commit id) w).answer ≡ 0
    unfolding plan plan_commit first_number forget_plan
    commit_empty n = rw (frame, idle, open_at, n) refl

    pub commit_13 : eqb committing.count 0 ≡ false → spent w.state.version 1 ≡ true → plan (commit id) w ≡ refuse w 13
    unfolding plan plan_commit first_number
    commit_13 n v = rw (frame, idle, open_at, n, v) refl

    pub commit_12 : eqb committing.count 0 ≡ false → spent w.state.version 1 ≡ false → zone_short w ≡ true → plan (commit id) w ≡ refuse w 12
    unfolding plan plan_commit first_number
    commit_12 n v z = rw (frame, idle, open_at, n, v, z) refl

    pub commit_done : eqb committing.count 0 ≡ false → spent w.state.version 1 ≡ false → zone_short w ≡ false → plan (commit id) w ≡ mark_plan (place_of w.state.places id) committing w
    unfolding plan plan_commit first_number
    commit_done n v z = rw (frame, idle, open_at, n, v, z) refl

    -- abort 8
    pub abort_done : plan (abort id) w ≡ forget_plan (place_of w.state.places id) w
    unfolding plan plan_abort first_number
    abort_done = rw (frame, idle, open_at) refl

-- read 5, 14
module _ (w : World) (frame : frame_ok w ≡ true) where
  pub read_5 : (lpn : ℕ) → leb w.state.geometry.logical lpn ≡ true → plan (read lpn) w ≡ refuse w 5
  unfolding plan read_answer first_number
  read_5 lpn h = rw (frame, h) refl

  pub read_14 : (lpn : ℕ) → leb w.state.geometry.logical lpn ≡ false → get_or w.map lpn unmapped ≡ unmapped → plan (read lpn) w ≡ refuse w 14
  unfolding plan read_answer first_number
  read_14 lpn h e = rw (frame, h, e) refl

  pub read_0 : (lpn : ℕ) → leb w.state.geometry.logical lpn ≡ false → eqb (get_or w.map lpn unmapped) unmapped ≡ false → plan (read lpn) w ≡ refuse w 0
  unfolding plan read_answer first_number
  read_0 lpn h e = rw (frame, h, e) refl

-- ---- checkpoint 13
module _ (w : World) (pass : gate (is_checkpoint w.state.work) w ≡ 0) where
  own_checkpoint : (frame_ok w ≡ true) × ((is_idle w.state.work || is_checkpoint w.state.work) ≡ true)
  own_checkpoint = passed (is_checkpoint w.state.work) w pass

  pub checkpoint_13 : spent w.state.checkpoint 1 ≡ true → plan checkpoint w ≡ refuse w 13
  unfolding plan plan_checkpoint first_number
  checkpoint_13 n = rw (own_checkpoint.0, own_checkpoint.1, n) refl

  pub checkpoint_done : spent w.state.checkpoint 1 ≡ false → plan checkpoint w ≡ checkpoint_stride w w.state.work
  unfolding plan plan_checkpoint first_number
  checkpoint_done n = rw (own_checkpoint.0, own_checkpoint.1, n) refl

-- ---- reclaim 15, 13, 16
module _ (w : World) (pass : gate (is_reclaim w.state.work) w ≡ 0) where
  own_reclaim : (frame_ok w ≡ true) × ((is_idle w.state.work || is_reclaim w.state.work) ≡ true)
  own_reclaim = passed (is_reclaim w.state.work) w pass

  pub reclaim_none : picked w ≡ nothing → plan reclaim w ≡ refuse w 15
  unfolding plan plan_reclaim first_number
  reclaim_none p = rw (own_reclaim.0, own_reclaim.1, p) refl

  -- the block b being picked
  module _ (b : ℕ) (pick : picked w ≡ at b) where
    abbrev due : ℕ
    due = mapped_in w.map w.state.geometry.pages b

    pub reclaim_15 : leb w.state.geometry.pages due ≡ true → plan reclaim w ≡ refuse w 15
    unfolding plan plan_reclaim first_number
    reclaim_15 h = rw (own_reclaim.0, own_reclaim.1, pick, h) refl

    module _ (some : leb w.state.geometry.pages due ≡ false) where
      -- no copy is due: the block is erased, whatever else
      pub reclaim_frees : eqb due 0 ≡ true → plan reclaim w ≡ free_stride b w
      unfolding plan plan_reclaim reclaim_stride first_number
      reclaim_frees e = rw (own_reclaim.0, own_reclaim.1, pick, some, e, none_due) refl
        where
          none_due : ltb (clean_pages w) due ≡ false
          none_due = rw (eqb-true due 0 e) (le-ltb (clean_pages w) 0 (omega arith))

      module _ (copies : eqb due 0 ≡ false) where
        pub reclaim_13 : spent w.state.version due ≡ true → plan reclaim w ≡ refuse w 13
        unfolding plan plan_reclaim first_number
        reclaim_13 v = rw (own_reclaim.0, own_reclaim.1, pick, some, copies, v) refl

        pub reclaim_16 : spent w.state.version due ≡ false → ltb (clean_pages w) due ≡ true → plan reclaim w ≡ refuse w 16
        unfolding plan plan_reclaim first_number
        reclaim_16 v c = rw (own_reclaim.0, own_reclaim.1, pick, some, copies, v, c) refl

        pub reclaim_done : spent w.state.version due ≡ false → ltb (clean_pages w) due ≡ false → plan reclaim w ≡ copy_stride (lowest_from w.map (b * w.state.geometry.pages) w.state.geometry.pages) w
        unfolding plan plan_reclaim reclaim_stride first_number
        reclaim_done v c = rw (own_reclaim.0, own_reclaim.1, pick, some, copies, v, c) refl

-- ---- recover 1, 2, 3, 4, and format 1
pub recover_1 : (g : Geometry) (w : World) → lent_ok g w ≡ false → plan (recover g) w ≡ refuse w 1
unfolding plan plan_recover first_number
recover_1 g w e = rw e refl

pub recover_2 : (g : Geometry) (w : World) → lent_ok g w ≡ true → newest w.array (map_pages g) g.pages ≡ nothing → plan (recover g) w ≡ refuse w 2
unfolding plan plan_recover first_number
recover_2 g w e n = rw (e, n) refl

module _ (g : Geometry) (w : World) (k : ℕ) (len : lent_ok g w ≡ true) (found : newest w.array (map_pages g) g.pages ≡ at k) where
  pub recover_3 : load_ok g (entries_at g w.array k) (zones_at g w.array k) ≡ false → plan (recover g) w ≡ refuse w 3
  unfolding plan plan_recover first_number
  recover_3 o = rw (len, found, o) refl

  pub recover_4 : load_ok g (entries_at g w.array k) (zones_at g w.array k) ≡ true → pages_good g.planes g.logical (scanned_at g w.array k) ≡ false → plan (recover g) w ≡ refuse w 4
  unfolding plan plan_recover first_number
  recover_4 o p = rw (len, found, o, p) refl

pub format_1 : (g : Geometry) (w : World) → lent_ok g w ≡ false → plan (format g) w ≡ refuse w 1
unfolding plan plan_format first_number
format_1 g w e = rw e refl

-- ---- 13: "a number above 0xFFFFFFFE would be needed", not before
pub last_version : spent 0xFFFFFFFD 1 ≡ false
last_version = refl

pub past_last_version : spent 0xFFFFFFFE 1 ≡ true
past_last_version = refl

-- ---- "Hold bytes are unchanged by commit and abort"
either_hold : (h : List ℕ) (t : Bool) (p q : Plan) → p.hold ≡ h → q.hold ≡ h → (cond t p q).hold ≡ h
either_hold h true p q x y = x
either_hold h false p q x y = y

pub commit_hold : (id : ℕ) (w : World) → (plan (commit id) w).hold ≡ w.hold
unfolding plan plan_commit forget_plan mark_plan
commit_hold id w = either_hold _ (eqb (first_number (commit_checks id w)) 0) _ _ (either_hold _ (has_held id w) _ _ refl refl) refl

pub abort_hold : (id : ℕ) (w : World) → (plan (abort id) w).hold ≡ w.hold
unfolding plan plan_abort forget_plan
abort_hold id w = either_hold _ (eqb (first_number (abort_checks id w)) 0) _ _ refl refl

-- ---- the front block: "otherwise the other front block is erased first and becomes current in that stride", in no other
pub page_keeps_front : (q i : ℕ) (w : World) → (page_stride q i w).state.front ≡ w.state.front
unfolding page_stride map_stride zone_stride with_work with_zones with_number
page_keeps_front q i w = go (ltb i (map_pages w.state.geometry))
  where
    go : (t : Bool) → (cond t (map_stride q i w) (zone_stride q i w)).state.front ≡ w.state.front
    go true = refl
    go false = refl

-- "Written in the current front block if its clean pages suffice": M + 1 do, M do not
module _ (w : World) (used : ℕ) (u : used_in w.array w.state.geometry.pages w.state.front ≡ used) where
  pub front_suffices : ltb (w.state.geometry.pages - used) (map_pages w.state.geometry + 1) ≡ false → first_stride w ≡ page_stride used 0 w
  unfolding first_stride
  front_suffices h = rw (u, h) refl

  pub front_short : ltb (w.state.geometry.pages - used) (map_pages w.state.geometry + 1) ≡ true → first_stride w ≡ other_stride w
  unfolding first_stride
  front_short h = rw (u, h) refl

pub erase_switches_front : (w : World) → (other_stride w).state.front ≡ 1 - w.state.front
unfolding other_stride with_work
erase_switches_front w = refl

-- ---- format with buffers that fit
-- array, map and hold of the lengths that geometry g wants
unfoldable pub lent : Geometry → World
lent g = record { array = replicate (g.blocks * g.pages * 528) 7; map = replicate g.logical 0; hold = replicate 4096 0; state = fresh_state (record { blocks = 0; pages = 0; logical = 0; planes = 1 }) }

fits_lent : (g : Geometry) → lengths_ok g (lent g).array (lent g).map (lent g).hold ≡ true
unfolding lent lengths_ok
fits_lent g = rw (length-replicate {A = ℕ} (g.blocks * g.pages * 528) 7, length-replicate {A = ℕ} g.logical 0, eq-eqb (g.blocks * g.pages * 528) _ refl, eq-eqb g.logical _ refl) refl

some_blocks : (g : Geometry) → geometry_ok g ≡ true → ltb 0 g.blocks ≡ true
unfolding geometry_ok
some_blocks g ok = lt-ltb 0 g.blocks (go (leb 8 g.blocks) _ refl ok)
  where
    go : (t u : Bool) → leb 8 g.blocks ≡ t → (t && u) ≡ true → 0 < g.blocks
    go true u e h = let l = leb-true 8 g.blocks e in omega (arith, l)
    go false u e h = absurd (false≢true h)

-- its first stride answers 1 where the geometry is out of range, and more where it is not
pub format_answers : (g : Geometry) → (plan (format g) (lent g)).answer ≡ cond (geometry_ok g) 255 1
unfolding plan plan_format first_number lent_ok
format_answers g = go (geometry_ok g) refl
  where
    go : (t : Bool) → geometry_ok g ≡ t → (plan (format g) (lent g)).answer ≡ cond t 255 1
    go true e = rw (e, fits_lent g) (unfold lent fresh_state format_work_ok strides_done format_stride format_more in rw (some_blocks g e) refl)
    go false e = rw e refl
