-- The commands of an open change: begin, write, drop, lone write, commit, abort, read. Each has its checks in the order of document 01's
-- paragraph "Order" (docs/PAPERS.md), and says what it plans on what it is handed where none of them applies.
use Rattle.std.specs.Prelude.{ℕ, zero, suc, ◌+◌, ◌-◌, ◌*◌, ◌/◌, Bool, true, false, not, cond, ◌&&◌, ◌||◌, List, [], ◌∷◌, length, get_or, set, replicate, leb, ltb, eqb}
use Rattle.model.specs.Lists.{find, part, splice}
use Rattle.model.specs.Page.{page_bytes, data_at}
use Rattle.model.specs.Geometry.{unmapped, enter_page, leads}
use Rattle.model.specs.Zones.{available_of, clean_in, next_in, plane_of, taken_from, scan_of, on_pages, has_id, active}
use Rattle.model.specs.World.{World, Op, none, program, Plan}
use Rattle.model.specs.Order.{Check, first_number, leave_out, checked}
use Rattle.model.specs.Frame.{no_place, free_place, bad_id, bad_frame, busy}
use Rattle.model.specs.declared.Geometry.{Geometry}
use Rattle.model.specs.declared.Place.{Place}
use Rattle.model.specs.declared.State.{State}

-- ---- places
-- the place of an active identifier, or 8
unfoldable pub place_of : List Place → ℕ → ℕ
place_of ps id = cond (eqb id 0) 8 (find (has_id id) ps)

-- the place of a change that was begun
abbrev pub place_with : ℕ → World → Place
place_with id w = get_or w.state.places (place_of w.state.places id) no_place

-- "with a held page"
abbrev pub has_held : ℕ → World → Bool
has_held id w = not (eqb (place_with id w).count 0)

-- the state with another place i
unfoldable pub with_place : State → ℕ → Place → State
with_place s i p =
    record {
      geometry = s.geometry;
      zones = s.zones;
      version = s.version;
      checkpoint = s.checkpoint;
      front = s.front;
      first = s.first;
      work = s.work;
      last = s.last;
      places = set s.places i p;
    }

-- the state with another last version
unfoldable pub with_version : State → ℕ → State
with_version s v =
    record {
      geometry = s.geometry;
      zones = s.zones;
      version = v;
      checkpoint = s.checkpoint;
      front = s.front;
      first = s.first;
      work = s.work;
      last = s.last;
      places = s.places;
    }

-- the state when a page of block b was the last data block page
unfoldable pub with_last : State → ℕ → State
with_last s b =
    record {
      geometry = s.geometry;
      zones = s.zones;
      version = s.version;
      checkpoint = s.checkpoint;
      front = s.front;
      first = s.first;
      work = s.work;
      last = cond (eqb s.geometry.planes 2) (plane_of b) s.last;
      places = s.places;
    }

-- ---- taking pages
abbrev pub clean_pages : World → ℕ
clean_pages w = clean_in w.array w.state.geometry.pages (available_of w.state.zones)

-- the page to be programmed next
abbrev pub next_page : World → ℕ
next_page w =
    next_in w.array w.state.geometry.pages (taken_from w.state.geometry w.state.last w.array (available_of w.state.zones))

-- the state when it is programmed
abbrev pub taking : World → State
taking w = with_last w.state (next_page w / w.state.geometry.pages)

-- "clean available pages ≤ P"
abbrev pub zone_short : World → Bool
zone_short w = leb (clean_pages w) w.state.geometry.pages

-- "a number above 0xFFFFFFFE", n numbers after v
abbrev pub spent : ℕ → ℕ → Bool
spent v n = ltb 4294967294 (v + n)

-- ---- the checks, by number
-- 5: "LPN ≥ L"
abbrev pub bad_logical_page : ℕ → World → Check
bad_logical_page lpn w = record { number = 5; when = leb w.state.geometry.logical lpn }

-- 6: "0 or 0xFFFFFFFF"
abbrev pub bad_identifier : ℕ → Check
bad_identifier id = record { number = 6; when = bad_id id }

-- 7: "active, or on a whole page in scan order"
unfoldable pub live_id : ℕ → World → Bool
live_id id w = active id w.state.places || on_pages id (scan_of w.array w.state.geometry.pages w.state.zones)

abbrev pub identifier_live : ℕ → World → Check
identifier_live id w = record { number = 7; when = live_id id w }

-- 8: "no active transaction of that TxID"
abbrev pub not_begun : ℕ → World → Check
not_begun id w = record { number = 8; when = leb 8 (place_of w.state.places id) }

-- 9: "eight active"
abbrev pub places_full : World → Check
places_full w = record { number = 9; when = leb 8 (find (has_id 0) w.state.places) }

-- the longest change: "the 41st page goes, the 42nd answers 10"; a place has room for 64
abbrev pub longest_change : ℕ
longest_change = 41

-- 10
abbrev pub too_long : ℕ → World → Check
too_long id w = record { number = 10; when = leb longest_change (place_with id w).count }

-- 11: "data not 512 bytes"
abbrev pub bad_length : List ℕ → Check
bad_length d = record { number = 11; when = not (eqb (length d) 512) }

-- 12: "a page must be programmed and clean available pages ≤ P"
abbrev pub short_zone : Bool → World → Check
short_zone programs w = record { number = 12; when = programs && zone_short w }

-- 13: "a number above 0xFFFFFFFE would be needed", n numbers after v
abbrev pub versions_spent : Bool → ℕ → ℕ → Check
versions_spent needed v n = record { number = 13; when = needed && spent v n }

-- 14: "unmapped"
abbrev pub never_written : ℕ → World → Check
never_written lpn w = record { number = 14; when = eqb (get_or w.map lpn unmapped) unmapped }

-- ---- pages
-- Reserved of the n-th page of a transaction: "the write number within the transaction" on two planes, else 0
unfoldable pub number_of : Geometry → ℕ → ℕ
number_of g n = cond (eqb g.planes 2) n 0

-- a data page: Kind and Reserved 0
unfoldable pub data_bytes : List ℕ → ℕ → ℕ → ℕ → ℕ → List ℕ
data_bytes d lpn cnt id ver = page_bytes d (record { lpn = lpn; cnt = cnt; id = id; ver = ver; kind = 0; reserved = 0 })

-- a page of a change: of Kind 3 if it drops its logical page
abbrev pub page_kind : Bool → ℕ
page_kind true = 3
page_kind false = 0

unfoldable pub change_bytes : List ℕ → Bool → ℕ → ℕ → ℕ → ℕ → ℕ → List ℕ
change_bytes d drop lpn cnt id ver number = page_bytes d (record { lpn = lpn; cnt = cnt; id = id; ver = ver; kind = page_kind drop; reserved = number })

-- the held bytes of place i: "at 512 bytes times its place"
unfoldable pub held_at : ℕ → List ℕ → List ℕ
held_at i hold = part (512 * i) 512 hold

-- the hold with other bytes there
unfoldable pub hold_with : List ℕ → ℕ → List ℕ → List ℕ
hold_with hold i d = splice hold (512 * i) 512 d

-- the logical page that a place holds
abbrev pub held_page : Place → ℕ
held_page p = get_or p.lpns (p.count - 1) 0

-- whether it drops it
abbrev pub held_drop : Place → Bool
held_drop p = get_or p.drops (p.count - 1) false

-- ---- begin: it "takes the lowest free one, counted from 0"
unfoldable pub begun : ℕ → Place
begun id = record { id = id; count = 0; lpns = replicate 64 0; ppns = replicate 64 0; drops = replicate 64 false }

-- "Begin 6, 7, 9"
abbrev pub begin_checks : ℕ → World → List Check
begin_checks id w = bad_frame w ∷ busy false w ∷ bad_identifier id ∷ identifier_live id w ∷ places_full w ∷ []

-- what a begin does
abbrev pub begin_plan : ℕ → World → Plan
begin_plan id w =
    record {
      answer = 0;
      op = none;
      map = w.map;
      hold = w.hold;
      state = with_place w.state (find (has_id 0) w.state.places) (begun id);
    }

-- begin
unfoldable pub plan_begin : ℕ → World → Plan
plan_begin id w = checked (begin_checks id w) w (begin_plan id w)

-- ---- write
-- the place with one more page, held, the one held before being programmed on page k
unfoldable pub written : Place → ℕ → ℕ → Bool → Place
written p k lpn drop =
    record {
      id = p.id;
      count = p.count + 1;
      lpns = set p.lpns p.count lpn;
      ppns = cond (eqb p.count 0) p.ppns (set p.ppns (p.count - 1) k);
      drops = set p.drops p.count drop;
    }

-- "The next write first programs the held page with TxCnt 0 and TxVer 0"
unfoldable pub held_op : World → ℕ → Place → Op
held_op w i p =
    cond (eqb p.count 0) none
    (program (next_page w) (change_bytes (held_at i w.hold) (held_drop p) (held_page p) 0 p.id 0 (number_of w.state.geometry p.count)))

-- the state when it is
unfoldable pub held_state : World → Place → State
held_state w p = cond (eqb p.count 0) w.state (taking w)

-- the held page is programmed, the new one held
unfoldable pub write_plan : ℕ → Place → ℕ → Bool → List ℕ → World → Plan
write_plan i p lpn drop d w =
    record {
      answer = 0;
      op = held_op w i p;
      map = w.map;
      hold = hold_with w.hold i d;
      state = with_place (held_state w p) i (written p (next_page w) lpn drop);
    }

-- the same in the place of a change
abbrev pub add_plan : ℕ → ℕ → Bool → List ℕ → World → Plan
add_plan id lpn drop d w = write_plan (place_of w.state.places id) (place_with id w) lpn drop d w

-- "Write 11, 5, 8, 10, 12"
abbrev pub write_checks : ℕ → ℕ → List ℕ → World → List Check
write_checks id lpn d w =
    bad_frame w ∷ busy false w ∷ bad_length d ∷ bad_logical_page lpn w ∷ not_begun id w ∷ too_long id w ∷ short_zone (has_held id w) w ∷ []

-- write
unfoldable pub plan_write : ℕ → ℕ → List ℕ → World → Plan
plan_write id lpn d w = checked (write_checks id lpn d w) w (add_plan id lpn false d w)

-- ---- drop: "data all 0xFF, counted and held like any other"
unfoldable pub gone : List ℕ
gone = replicate 512 255

-- "Its other checks are those of a write without 11"
abbrev pub drop_checks : ℕ → ℕ → World → List Check
drop_checks id lpn w = leave_out 11 (write_checks id lpn gone w)

-- drop
unfoldable pub plan_drop : ℕ → ℕ → World → Plan
plan_drop id lpn w = checked (drop_checks id lpn w) w (add_plan id lpn true gone w)

-- ---- lone write: "TxID 0, TxCnt 1, next TxVer"
-- programming d as the only page of its transaction, and the map and version that follow
abbrev pub lone_op : ℕ → List ℕ → World → Op
lone_op lpn d w = program (next_page w) (data_bytes d lpn 1 0 (w.state.version + 1))

-- the map with its page entered
abbrev pub lone_map : ℕ → World → List ℕ
lone_map lpn w = enter_page w.map lpn (next_page w)

-- what a lone write does
unfoldable pub lone_plan : ℕ → List ℕ → World → Plan
lone_plan lpn d w =
    record {
      answer = 0;
      op = lone_op lpn d w;
      map = lone_map lpn w;
      hold = w.hold;
      state = with_version (taking w) (w.state.version + 1);
    }

-- "Lone write 11, 5, 13, 12"
abbrev pub lone_checks : ℕ → List ℕ → World → List Check
lone_checks lpn d w =
    bad_frame w ∷ busy false w ∷ bad_length d ∷ bad_logical_page lpn w ∷ versions_spent true w.state.version 1 ∷ short_zone true w ∷ []

-- lone write
unfoldable pub plan_lone : ℕ → List ℕ → World → Plan
plan_lone lpn d w = checked (lone_checks lpn d w) w (lone_plan lpn d w)

-- ---- commit
-- the map with the first n pages of a place entered "in write order"
unfoldable pub entered : List ℕ → List ℕ → List ℕ → List Bool → ℕ → List ℕ
entered map lpns ppns drops zero = map
entered map lpns ppns drops (suc n) = enter_page (entered map lpns ppns drops n) (get_or lpns n 0) (leads (get_or drops n false) (get_or ppns n 0))

-- "Commit programs the held page with TxCnt = all pages of the transaction and TxVer = last version + 1 .., then sets the map"
unfoldable pub mark_plan : ℕ → Place → World → Plan
mark_plan i p w =
    let s = w.state in
    let k = next_page w in
    record {
      answer = 0;
      op = program k (change_bytes (held_at i w.hold) (held_drop p) (held_page p) p.count p.id (s.version + 1) (number_of s.geometry p.count));
      map = entered w.map p.lpns (set p.ppns (p.count - 1) k) p.drops p.count;
      hold = w.hold;
      state = with_place (with_version (taking w) (s.version + 1)) i free_place;
    }

-- "Abort forgets the place"; "With nothing written, commit is done with no page and no version"
unfoldable pub forget_plan : ℕ → World → Plan
forget_plan i w = record { answer = 0; op = none; map = w.map; hold = w.hold; state = with_place w.state i free_place }

-- "Commit 8, 13, 12, the last two only with a held page"
abbrev pub commit_checks : ℕ → World → List Check
commit_checks id w =
    bad_frame w ∷ busy false w ∷ not_begun id w ∷ versions_spent (has_held id w) w.state.version 1 ∷ short_zone (has_held id w) w ∷ []

-- what a commit does
abbrev pub commit_plan : ℕ → World → Plan
commit_plan id w =
    let i = place_of w.state.places id in
    cond (has_held id w) (mark_plan i (place_with id w) w) (forget_plan i w)

-- commit
unfoldable pub plan_commit : ℕ → World → Plan
plan_commit id w = checked (commit_checks id w) w (commit_plan id w)

-- ---- abort: "Abort 8"
abbrev pub abort_checks : ℕ → World → List Check
abort_checks id w = bad_frame w ∷ busy false w ∷ not_begun id w ∷ []

-- abort
unfoldable pub plan_abort : ℕ → World → Plan
plan_abort id w = checked (abort_checks id w) w (forget_plan (place_of w.state.places id) w)

-- ---- read: "Read 5, 14"; it is never busy, and changes nothing
abbrev pub read_checks : ℕ → World → List Check
read_checks lpn w = bad_frame w ∷ bad_logical_page lpn w ∷ never_written lpn w ∷ []

-- what it answers
unfoldable pub read_answer : ℕ → World → ℕ
read_answer lpn w = first_number (read_checks lpn w)

-- "the 512 bytes of the mapped page as they stand in the array", "empty where refused"
unfoldable pub read_part : ℕ → World → List ℕ
read_part lpn w = cond (eqb (read_answer lpn w) 0) (data_at w.array (get_or w.map lpn unmapped)) []
