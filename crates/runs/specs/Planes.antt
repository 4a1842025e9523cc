-- A sequence of an 8 × 8 × 16 device of two planes: pages are taken from the planes in turn, two of them run at once, and the power fails while the mark
-- of their change is programmed. Where the page that still runs is torn, the whole mark commits nothing; where it is whole, all of the change is there.
use Rattle.std.specs.Prelude.{ℕ, ◌≡◌, Bool, true, false, cond, ◌&&◌, take, set, get_or, replicate, length, eqb}
use Rattle.std.proofs.Math.Path.{refl, ap}
use Rattle.std.proofs.Common.{◌∙◌}
use Rattle.std.proofs.Math.Bool.{and-false}
use mathlib.Core.List.{List, [], ◌∷◌, ◌++◌}
use borrow.Author.Tests.{eq-eqb}
use Rattle.model.specs.Lists.{those, splice}
use Rattle.model.specs.Bytes.{bytes, ands, minus}
use Rattle.model.specs.Answers.{refused}
use Rattle.model.specs.Zones.{Entry}
use Rattle.model.specs.Checkpoint.{map_page, zone_data}
use Rattle.model.specs.World.{World, none, program, due_bits, turned_bits, turn, cut_op, is_none}
use Rattle.model.specs.Transactions.{change_bytes}
use Rattle.model.specs.Commands.{Call, Outcome, recover, begin, write, commit, checkpoint, plan, carried, exec}
use Rattle.model.specs.Book.{Event, called, cut_in, never, holds, blank as noBook, story}
use Rattle.model.specs.Sequence.{Running, run_due, run_turned, cut_run, cut_runs, runs_due, runs_turned, apart_from, waits, during, started, left, runs_after, of_change, cut_event, cut_array, live, Run, stop, fits}
use Rattle.model.specs.declared.Geometry.{Geometry}
use Rattle.model.specs.declared.Place.{Place}
use Rattle.model.specs.declared.Plane.{Plane}
use Rattle.model.specs.declared.Plane.TheVariants.{Neither, Even, Odd}
use Rattle.model.specs.declared.Work.TheVariants.{Idle}
use Rattle.examples.specs.Unfolded.{go, told}
use Rattle.examples.specs.Rules.{planed}
use Rattle.examples.specs.Orders.{checkpoint_13}
use Rattle.examples.specs.Running.{refused_keeps}
use Rattle.runs.specs.Paged.{flat, Sized, page_flat, put_flat, sized_splice, sized_take, taken_on, next_on}
use Rattle.runs.specs.Devices.{Device, world, passes, begins, first_op, first_write, write_op, next_write, commit_op, commit_shape, checkpoint_begins, recovers, answering, cut_beside, recovered, joined}
use Rattle.runs.specs.Runs.{blank, block, pages, paged, sized_pages, zeros, ones, hold, lost, zones1, map0, map1, zone1, opened, free8, but_one}

-- ---- what runs after a write that programs, and while a call programs
module _ (x : Device) (rs : List Running) (two : eqb x.state.geometry.planes 2 ≡ true) (k : ℕ) (new : List ℕ) where
  -- the page that is programmed, and those in the other plane
  abbrev onward : ℕ → List Running
  onward id = record { id = id; page = k; before = get_or x.pages k [] } ∷ those (apart_from x.state.geometry.pages (program k new)) rs

  pub write_runs : (id lpn : ℕ) (d : List ℕ) → (plan (write id lpn d) (world x)).op ≡ program k new → runs_after (write id lpn d) (world x) rs ≡ onward id
  unfolding runs_after left started during
  write_runs id lpn d o = rw (o, two, page_flat x.pages x.sized k, and-false (refused (plan (write id lpn d) (world x)).answer)) refl

  pub while_programs : (c : Call) → waits c ≡ false → (plan c (world x)).op ≡ program k new
      → during c (world x) rs ≡ those (apart_from x.state.geometry.pages (program k new)) rs
  unfolding during
  while_programs c w o = rw (o, w) refl

-- a begin and a write that is held alone leave what runs
pub begin_keeps : (w : World) (id : ℕ) (rs : List Running) → runs_after (begin id) w rs ≡ rs
unfolding runs_after left
begin_keeps w id rs = go (refused (plan (begin id) w).answer && is_none (plan (begin id) w).op)
  where
    go : (t : Bool) → cond t rs rs ≡ rs
    go true = refl
    go false = refl

pub held_keeps : (w : World) (id lpn : ℕ) (d : List ℕ) (rs : List Running) → (plan (write id lpn d) w).op ≡ none → runs_after (write id lpn d) w rs ≡ rs
unfolding runs_after left during started
held_keeps w id lpn d rs o = rw o (go (refused (plan (write id lpn d) w).answer))
  where
    go : (t : Bool) → cond (t && true) rs rs ≡ rs
    go true = refl
    go false = refl

-- ---- a cut in a commit that programs page k, while page j runs
module _ (x : Device) (id k j : ℕ) (new old before : List ℕ) (lets : List ℕ) (parts : ℕ → List ℕ) (rs : List Running)
    (o : (plan (commit id) (world x)).op ≡ program k new) (stood : get_or x.pages k [] ≡ old) (long : length before ≡ 528)
    (beside : during (commit id) (world x) rs ≡ record { id = id; page = j; before = before } ∷ []) (p : ℕ)
    (shape : (plan (commit id) (world x)).state.geometry.pages ≡ p) where
  abbrev run : Running
  run = record { id = id; page = j; before = before }

  -- the pages with page i replaced
  abbrev put : List (List ℕ) → ℕ → List ℕ → List (List ℕ)
  put qs i q = splice qs i 1 (q ∷ [])

  -- page j before its program, and what it is to become
  module _ (qs : List (List ℕ)) (sized : Sized qs) (back : get_or (put qs j before) j [] ≡ before) where
    abbrev was : Sized (put qs j before)
    was = sized_splice qs (before ∷ []) j 1 sized (long, tt)

    due_is : run_due p run (flat qs) ≡ minus before (get_or qs j [])
    unfolding run_due due_bits
    due_is = rw (put_flat qs sized j before, page_flat (put qs j before) was j, back, page_flat qs sized j) refl

    turned_is : run_turned p run (parts j) (flat qs) ≡ ands (minus before (get_or qs j [])) (parts j)
    unfolding run_turned turned_bits due_bits
    turned_is = rw (put_flat qs sized j before, page_flat (put qs j before) was j, back, page_flat qs sized j) refl

    cut_is : cut_run p run (parts j) (flat qs) ≡ flat (put (put qs j before) j (minus before (ands (minus before (get_or qs j [])) (parts j))))
    unfolding cut_run cut_op turn turned_bits due_bits
    cut_is =
        rw (put_flat qs sized j before, page_flat (put qs j before) was j, back, page_flat qs sized j)
        (put_flat (put qs j before) was j (minus before (ands (minus before (get_or qs j [])) (parts j))))

  abbrev due : List ℕ
  due = minus old new

  pub mark_told : (q : List ℕ) → get_or x.pages j [] ≡ q → get_or (put x.pages j before) j [] ≡ before
      → cut_event (commit id) (world x) rs lets parts ≡ cut_in (commit id) true (due ++ (minus before q ++ [])) (ands due lets ++ (ands (minus before q) (parts j) ++ []))
  unfolding cut_event runs_due runs_turned those of_change due_bits turned_bits
  mark_told q e back =
      rw (beside, o, shape, eq-eqb id id refl, page_flat x.pages x.sized k, stood, due_is x.pages x.sized back, turned_is x.pages x.sized back, e) refl

  -- the array that it leaves: the mark reads m, page j reads q
  pub mark_left : (m q : List ℕ) → minus old (ands due lets) ≡ m → (sm : length m ≡ 528) → get_or (put (put x.pages k m) j before) j [] ≡ before
      → minus before (ands (minus before (get_or (put x.pages k m) j [])) (parts j)) ≡ q
      → cut_array (commit id) (world x) rs lets parts ≡ flat (put (put (put x.pages k m) j before) j q)
  unfolding cut_array cut_runs cut_op turn turned_bits due_bits
  mark_left m q em sm back eq =
      rw (beside, o, shape, page_flat x.pages x.sized k, stood, em, put_flat x.pages x.sized k m)
      (cut_is (put x.pages k m) (sized_splice x.pages (m ∷ []) k 1 x.sized (sm, tt)) back
      ∙ ap (λ (z : List ℕ). flat (put (put (put x.pages k m) j before) j z)) eq)

-- ---- the pages of change 5: of number 1 on page 16, of number 2 on page 24, torn by one bit too, the mark with number 3 on page 17
abbrev pub twin : Geometry
twin = planed 2

unfoldable pub t16 : List ℕ
t16 = change_bytes zeros false 3 0 5 0 1

unfoldable pub t24 : List ℕ
t24 = change_bytes ones false 4 0 5 0 2

unfoldable pub u24 : List ℕ
u24 = set t24 0 3

unfoldable pub t17 : List ℕ
t17 = change_bytes zeros false 5 3 5 1 3

-- pages 16 and 24 as they run
abbrev pub run16 : Running
run16 = record { id = 5; page = 16; before = blank }

abbrev pub run24 : Running
run24 = record { id = 5; page = 24; before = blank }

-- ---- the devices: the first i pages of block 2, those of block 3, the last plane
pub sized_even : Sized (t16 ∷ t17 ∷ [])
unfolding go t16 t17
sized_even = (refl, (refl, tt))

pub sized_odd : Sized (t24 ∷ u24 ∷ [])
unfolding go t24 u24
sized_odd = (refl, (refl, tt))

pub sized_fronts : Sized (map1 ∷ zone1 ∷ [])
unfolding go map1 zone1
sized_fronts = (refl, (refl, tt))

abbrev pub stage : ℕ → (odd : List (List ℕ)) → Sized odd → List ℕ → List ℕ → ℕ → Plane → List Place → Device
stage i odd sized m h v p ps =
    record {
      pages = pages (map1 ∷ zone1 ∷ []) (take i (t16 ∷ t17 ∷ [])) odd;
      sized = sized_pages (map1 ∷ zone1 ∷ []) (take i (t16 ∷ t17 ∷ [])) odd sized_fronts (sized_take i (t16 ∷ t17 ∷ []) sized_even) sized;
      map = m;
      hold = h;
      state = record { geometry = twin; zones = zones1; version = v; checkpoint = 1; front = 0; first = 0; work = Idle; last = p; places = ps };
    }

abbrev pub v0 : Device
v0 = stage 0 [] tt map0 (hold zeros) 0 Neither free8

abbrev pub v1 : Device
v1 = stage 0 [] tt map0 (hold zeros) 0 Neither (opened 5 [] [])

abbrev pub v2 : Device
v2 = stage 0 [] tt map0 (hold zeros) 0 Neither (opened 5 (3 ∷ []) [])

abbrev pub v3 : Device
v3 = stage 1 [] tt map0 (hold ones) 0 Even (opened 5 (3 ∷ 4 ∷ []) (16 ∷ []))

abbrev pub v4 : Device
v4 = stage 1 (t24 ∷ []) (sized_odd.0, tt) map0 (hold zeros) 0 Odd (opened 5 (3 ∷ 4 ∷ 5 ∷ []) (16 ∷ 24 ∷ []))

-- after the cut: the mark stands, page 24 is torn or whole
abbrev pub torn : Device
torn = stage 2 (u24 ∷ []) (sized_odd.1.0, tt) map0 (hold zeros) 1 Neither free8

abbrev pub whole : Device
whole = stage 2 (t24 ∷ []) (sized_odd.0, tt) (65535 ∷ 65535 ∷ 65535 ∷ 16 ∷ 24 ∷ 17 ∷ replicate 10 65535) (hold zeros) 1 Neither free8

-- what a recover is handed there
abbrev pub handed : Device → Device
handed x = record { pages = x.pages; sized = x.sized; map = map0; hold = x.hold; state = lost }

-- ---- the planes in turn: block 2, block 3, block 2 again, block 3 again
next_even : taken_on twin Neither v2.pages (2 ∷ 3 ∷ 4 ∷ []) ≡ 2 ∷ 3 ∷ 4 ∷ []
unfolding paged
next_even = refl

next_odd : taken_on twin Even v3.pages (2 ∷ 3 ∷ 4 ∷ []) ≡ 3 ∷ []
unfolding paged t16
next_odd = refl

pub pages_in_turn : next_on v2.pages 8 (2 ∷ 3 ∷ 4 ∷ []) ∷ next_on v3.pages 8 (3 ∷ []) ∷ next_on v4.pages 8 (2 ∷ 4 ∷ []) ∷ next_on whole.pages 8 (3 ∷ []) ∷ [] ≡ 16 ∷ 24 ∷ 17 ∷ 25 ∷ []
unfolding paged t16 t17 t24
pages_in_turn = refl

-- ---- the calls
begin_5 : exec (begin 5) (world v0) ≡ record { answer = 0; world = world v1 }
unfolding paged
begin_5 = begins v0 refl refl refl 5 refl refl refl

write_3 : exec (write 5 3 zeros) (world v1) ≡ record { answer = 0; world = world v2 }
unfolding paged
write_3 = first_write v1 refl refl refl 5 refl 3 zeros refl refl 16 refl refl

write_4 : exec (write 5 4 ones) (world v2) ≡ record { answer = 0; world = world v3 }
unfolding paged t16
write_4 = next_write v2 refl refl refl 5 refl 4 ones refl refl 16 refl t16 refl refl refl refl

write_5 : exec (write 5 5 zeros) (world v3) ≡ record { answer = 0; world = world v4 }
unfolding paged t16 t24
write_5 = next_write v3 refl refl refl 5 refl 5 zeros refl refl 24 refl t24 refl refl refl refl

-- ---- what runs: nothing after a begin and a write that is held alone, one page after the next write, then two, one in each plane
begin_runs : runs_after (begin 5) (world v0) [] ≡ []
begin_runs = begin_keeps (world v0) 5 []

held_runs : runs_after (write 5 3 zeros) (world v1) [] ≡ []
unfolding paged
held_runs = held_keeps (world v1) 5 3 zeros [] (first_op v1 refl refl refl 5 refl 3 zeros refl refl 16 refl refl)

one_runs : runs_after (write 5 4 ones) (world v2) [] ≡ run16 ∷ []
unfolding paged t16
one_runs = write_runs v2 [] refl 16 t16 5 4 ones (write_op v2 refl refl refl 5 refl 4 ones refl refl 16 refl refl refl refl)

two_run : runs_after (write 5 5 zeros) (world v3) (run16 ∷ []) ≡ run24 ∷ run16 ∷ []
unfolding paged t16 t24 apart_from
two_run = write_runs v3 (run16 ∷ []) refl 24 t24 5 5 zeros (write_op v3 refl refl refl 5 refl 5 zeros refl refl 24 refl refl refl refl)

-- a third one would end page 16, which is in its plane, and leave page 24
pub third_ends : runs_after (write 5 6 ones) (world v4) (run24 ∷ run16 ∷ []) ≡ record { id = 5; page = 17; before = blank } ∷ run24 ∷ []
unfolding paged t16 t24 apart_from
third_ends =
    write_runs v4 (run24 ∷ run16 ∷ []) refl 17 (change_bytes zeros false 5 0 5 0 3) 5 6 ones
    (write_op v4 refl refl refl 5 refl 6 ones refl refl 17 refl refl refl refl)

-- a checkpoint that is refused, since its number would be too high, waits for nothing; one that begins waits for both
abbrev pub spent_out : Device
spent_out =
    record {
      pages = v4.pages;
      sized = v4.sized;
      map = map0;
      hold = hold zeros;
      state = record { geometry = twin; zones = zones1; version = 0; checkpoint = 0xFFFFFFFE; front = 0; first = 0; work = Idle; last = Odd; places = v4.state.places };
    }

pub refused_waits_not : runs_after checkpoint (world spent_out) (run24 ∷ run16 ∷ []) ≡ run24 ∷ run16 ∷ []
unfolding paged t16 t24 refused
refused_waits_not = refused_keeps checkpoint (world spent_out) (run24 ∷ run16 ∷ []) 13 (checkpoint_13 (world spent_out) (passes spent_out true refl refl refl) refl) refl

pub checkpoint_waits : runs_after checkpoint (world v4) (run24 ∷ run16 ∷ []) ≡ []
unfolding paged t16 t24 map1 zone1 exec carried refused runs_after left
checkpoint_waits =
    let e : (plan checkpoint (world v4)).answer ≡ 255
    = ap (λ (o : Outcome). o.answer) (checkpoint_begins v4 refl refl refl 2 (map_page map0 0 2) refl refl refl refl refl refl) in
    rw e refl

-- ---- the cut: page 17 is in the plane of page 16, which has ended; page 24 runs beside the mark
commit_op_5 : (plan (commit 5) (world v4)).op ≡ program 17 t17
unfolding paged t16 t24 t17
commit_op_5 = commit_op v4 refl refl refl 5 refl 17 refl refl refl refl

beside_5 : during (commit 5) (world v4) (run24 ∷ run16 ∷ []) ≡ run24 ∷ []
unfolding apart_from those
beside_5 = while_programs v4 (run24 ∷ run16 ∷ []) refl 17 t17 (commit 5) refl commit_op_5

shape_5 : (plan (commit 5) (world v4)).state.geometry.pages ≡ 8
unfolding paged t16 t24
shape_5 = commit_shape v4 refl refl refl 5 refl 17 refl refl refl refl

-- of page 24 all bits are let turn but one, or all
abbrev pub but_one_of24 : ℕ → List ℕ
but_one_of24 k = but_one

abbrev pub all24 : ℕ → List ℕ
all24 k = []

torn_told : cut_event (commit 5) (world v4) (run24 ∷ run16 ∷ []) [] but_one_of24
    ≡ cut_in (commit 5) true (minus blank t17 ++ (minus blank t24 ++ [])) (minus blank t17 ++ (ands (minus blank t24) but_one ++ []))
unfolding go t17 t24 pages block
torn_told = mark_told v4 5 17 24 t17 blank blank [] but_one_of24 (run24 ∷ run16 ∷ []) commit_op_5 refl refl beside_5 8 shape_5 t24 refl refl

torn_left : cut_array (commit 5) (world v4) (run24 ∷ run16 ∷ []) [] but_one_of24 ≡ flat torn.pages
unfolding go t17 t24 u24 pages block
torn_left = mark_left v4 5 17 24 t17 blank blank [] but_one_of24 (run24 ∷ run16 ∷ []) commit_op_5 refl refl beside_5 8 shape_5 t17 u24 refl refl refl refl

whole_told : cut_event (commit 5) (world v4) (run24 ∷ run16 ∷ []) [] all24
    ≡ cut_in (commit 5) true (minus blank t17 ++ (minus blank t24 ++ [])) (minus blank t17 ++ (minus blank t24 ++ []))
unfolding go t17 t24 pages block
whole_told = mark_told v4 5 17 24 t17 blank blank [] all24 (run24 ∷ run16 ∷ []) commit_op_5 refl refl beside_5 8 shape_5 t24 refl refl

whole_left : cut_array (commit 5) (world v4) (run24 ∷ run16 ∷ []) [] all24 ≡ flat whole.pages
unfolding go t17 t24 pages block
whole_left = mark_left v4 5 17 24 t17 blank blank [] all24 (run24 ∷ run16 ∷ []) commit_op_5 refl refl beside_5 8 shape_5 t17 t24 refl refl refl refl

-- ---- recovery: a mark that counts three pages of which two are whole commits nothing; where all three are, each reads
abbrev pub of5 : ℕ → ℕ → ℕ → ℕ → ℕ → Entry
of5 k lpn cnt ver n = record { ppn = k; lpn = lpn; cnt = cnt; id = 5; ver = ver; kind = 0; reserved = n }

recover_torn : exec (recover twin) (world (handed torn)) ≡ record { answer = 0; world = world torn }
unfolding paged map1 zone1 t16 t17 u24 t24
recover_torn = recovers (handed torn) twin 0 (replicate 256 65535) (zone_data 0 zones1) (of5 16 3 0 0 1 ∷ of5 17 5 3 1 3 ∷ []) 1 refl refl refl refl refl refl refl refl

recover_whole : exec (recover twin) (world (handed whole)) ≡ record { answer = 0; world = world whole }
unfolding paged map1 zone1 t16 t17 t24
recover_whole =
    recovers (handed whole) twin 0 (replicate 256 65535) (zone_data 0 zones1) (of5 16 3 0 0 1 ∷ of5 17 5 3 1 3 ∷ of5 24 4 0 0 2 ∷ []) 1
    refl refl refl refl refl refl refl refl

-- ---- the two sequences
abbrev pub written : List Event
written = called (begin 5) 0 ∷ called (write 5 3 zeros) 0 ∷ called (write 5 4 ones) 0 ∷ called (write 5 5 zeros) 0 ∷ []

pub run_written : Run twin (live (world v0) []) written (live (world v4) (run24 ∷ run16 ∷ []))
unfolding go fits bytes
run_written =
    answering (begin 5) 0 begin_5 refl tt begin_runs
    (answering (write 5 3 zeros) 0 write_3 refl tt held_runs
    (answering (write 5 4 ones) 0 write_4 refl tt one_runs
    (answering (write 5 5 zeros) 0 write_5 refl tt two_run
    (stop _))))

abbrev pub torn_events : List Event
torn_events = cut_in (commit 5) true (minus blank t17 ++ (minus blank t24 ++ [])) (minus blank t17 ++ (ands (minus blank t24) but_one ++ [])) ∷ called (recover twin) 0 ∷ []

abbrev pub whole_events : List Event
whole_events = cut_in (commit 5) true (minus blank t17 ++ (minus blank t24 ++ [])) (minus blank t17 ++ (minus blank t24 ++ [])) ∷ called (recover twin) 0 ∷ []

pub run_torn : Run twin (live (world v0) []) (written ++ torn_events) (live (world torn) [])
unfolding go fits
run_torn = joined run_written (cut_beside (commit 5) [] but_one_of24 torn_told torn_left refl tt (recovered (world (handed torn)) recover_torn (stop _)))

pub run_whole : Run twin (live (world v0) []) (written ++ whole_events) (live (world whole) [])
unfolding go fits
run_whole = joined run_written (cut_beside (commit 5) [] all24 whole_told whole_left refl tt (recovered (world (handed whole)) recover_whole (stop _)))

-- ---- and their books: nothing was committed; all three pages were
pub book_torn : story (noBook twin) (written ++ torn_events) ≡ noBook twin
unfolding told story t17 t24
book_torn = refl

pub book_whole : story (noBook twin) (written ++ whole_events) ≡ record { pages = never ∷ never ∷ never ∷ holds zeros ∷ holds ones ∷ holds zeros ∷ replicate 10 never; changes = [] }
unfolding told story t17 t24
book_whole = refl
