-- One sequence of an 8 × 8 × 16 device from the first stride of its format on: every command is answered done, each refusal that a sequence can
-- give at little cost occurs, and each kind of cut falls. Each device is written out, each call has its equation, the events are plain data.
use Rattle.std.specs.Prelude.{ℕ, zero, suc, ◌+◌, ◌-◌, ◌*◌, ◌≡◌, Bool, true, false, ◌||◌, length, take, drop, set, replicate, pos, leb, ltb}
use Rattle.std.proofs.Math.Path.{refl, ap}
use Rattle.std.proofs.Common.{◌∙◌}
use mathlib.Core.List.{List, [], ◌∷◌, ◌++◌}
use Rattle.model.specs.Lists.{find, pad_to, splice}
use Rattle.model.specs.Bytes.{bytes, ands, minus, zeros_of}
use Rattle.model.specs.Page.{class_of, page_at}
use Rattle.model.specs.Geometry.{geometry_ok, blank_map}
use Rattle.model.specs.Zones.{zones_of, on_pages, has_id, active}
use Rattle.model.specs.Checkpoint.{map_page, zone_page, zone_data}
use Rattle.model.specs.World.{World, Plan, refuse}
use Rattle.model.specs.Frame.{free_place, fresh_state, bad_id}
use Rattle.model.specs.Transactions.{read_part, data_bytes, change_bytes, gone, with_place, begun}
use Rattle.model.specs.Strides.{with_work, strides_done, format_work_ok}
use Rattle.model.specs.Commands.{format, recover, begin, write, drop_page, lone, commit, abort, read, checkpoint, reclaim, plan, exec}
use Rattle.model.specs.Book.{Event, called, cut_in, cut_between, never, holds, Book, blank as noBook, story}
use Rattle.model.specs.Answers.{refused}
use Rattle.model.specs.Sequence.{cut_runs, live, between, lost as lost-in, again, cut_event, cut_array, Run, stop, next, Formatting, Formatted, fits}
use Rattle.model.specs.declared.Geometry.{Geometry}
use Rattle.model.specs.declared.Place.{Place}
use Rattle.model.specs.declared.State.{State}
use Rattle.model.specs.declared.Zones.{Zones}
use Rattle.model.specs.declared.Class.TheVariants.{Torn}
use Rattle.model.specs.declared.Plane.TheVariants.{Neither}
use Rattle.model.specs.declared.Work.TheVariants.{Idle, Format, Checkpoint, Reclaim}
use Rattle.examples.specs.Unfolded.{go, told}
use Rattle.examples.specs.Rules.{small}
use Rattle.examples.specs.Orders.{begin_6 as begin-6-law, begin_7 as begin-7-law, begin_9 as begin-9-law, busy_17, write_5, write_8, write_11, read_14, read_0, reclaim_none, recover_1, format_1}
use Rattle.runs.specs.Paged.{flat, Sized, page_flat, sized_take, sized_append, sized_replicate, used_on, clean_on, next_on, taken_on, entry_on, whole_on, scan_on, is_on, maps_on, complete_on, newer_on, newest_on, full_on, slide_on}
use Rattle.runs.specs.Devices.{Device, world, device, still, lent_on, frame_on, work_on, format_erases, format_maps, format_ends, format_ready, format_first, format_more_law, format_finished, refused_stays, passes, framed, reads_part, lent_on_law, live_on, begins, begin_op, lone_op_law, lone_writes, first_write, next_write, first_drop, next_drop, commit_op, commits, aborts, checkpoint_begins, checkpoint_ends, reclaim_copies, reclaim_erases, reclaim_op, reclaim_shape, load_on, recovers, idle_told, idle_left, page_told, page_left, block_told, block_left, answered, cut_short, recovered, turned_down, joined}

-- ---- pages
abbrev pub blank : List ℕ
blank = replicate 528 255

-- the pages of a block, those behind them erased
unfoldable pub block : List (List ℕ) → List (List ℕ)
block qs = qs ++ replicate (8 - length qs) blank

-- front block 0, then blocks 2 and 3; the others are erased
unfoldable pub pages : List (List ℕ) → List (List ℕ) → List (List ℕ) → List (List ℕ)
pages f x y = block f ++ (block [] ++ (block x ++ (block y ++ replicate 32 blank)))

-- what is read of a device, opened so that it computes
unfoldable pub paged : Device → Bool
unfolding go lent_on frame_on work_on used_on clean_on next_on taken_on entry_on whole_on scan_on pages block slide_on full_on is_on maps_on complete_on newer_on newest_on load_on
paged x = frame_on x

pub sized_block : (qs : List (List ℕ)) → Sized qs → Sized (block qs)
unfolding block
sized_block qs h = sized_append qs (replicate (8 - length qs) blank) h (sized_replicate (8 - length qs) blank refl)

pub sized_pages : (f x y : List (List ℕ)) → Sized f → Sized x → Sized y → Sized (pages f x y)
unfolding pages
sized_pages f x y a b c =
    sized_append (block f) (block [] ++ (block x ++ (block y ++ replicate 32 blank))) (sized_block f a)
    (sized_append (block []) (block x ++ (block y ++ replicate 32 blank)) (sized_block [] tt)
    (sized_append (block x) (block y ++ replicate 32 blank) (sized_block x b)
    (sized_append (block y) (replicate 32 blank) (sized_block y c) (sized_replicate 32 blank refl))))

-- data bytes that are cheap to count
abbrev pub zeros : List ℕ
zeros = replicate 512 0

abbrev pub ones : List ℕ
ones = replicate 512 1

-- the hold with these bytes in place 0
abbrev pub hold : List ℕ → List ℕ
hold d = d ++ replicate 3584 0

-- a state that a cut may leave
abbrev pub nowhere : Geometry
nowhere = record { blocks = 0; pages = 0; logical = 0; planes = 1 }

abbrev pub lost : State
lost = fresh_state nowhere

-- ---- the pages that are programmed: of the front
abbrev pub zones1 : Zones
zones1 = zones_of (2 ∷ 3 ∷ 4 ∷ []) [] (5 ∷ 6 ∷ 7 ∷ []) 5

abbrev pub zones2 : Zones
zones2 = zones_of (3 ∷ 4 ∷ 5 ∷ []) [] (6 ∷ 7 ∷ []) 6

-- with block 2 free again
abbrev pub zones3 : Zones
zones3 = zones_of (3 ∷ 4 ∷ 5 ∷ []) [] (2 ∷ 6 ∷ 7 ∷ []) 6

-- the map with logical pages 3 and 4 on these pages
abbrev pub mapped : ℕ → ℕ → List ℕ
mapped x y = 65535 ∷ 65535 ∷ 65535 ∷ x ∷ y ∷ replicate 11 65535

abbrev pub map0 : List ℕ
map0 = replicate 16 65535

unfoldable pub map1 : List ℕ
map1 = map_page (blank_map small) 0 1

unfoldable pub zone1 : List ℕ
zone1 = zone_page 1 0 zones1 1

unfoldable pub map2 : List ℕ
map2 = map_page (mapped 22 23) 0 2

unfoldable pub zone2 : List ℕ
zone2 = zone_page 1 4 zones2 2

-- ---- of blocks 2 and 3
-- change 5, of which the mark is torn by one bit
unfoldable pub p16 : List ℕ
p16 = data_bytes zeros 3 0 5 0

unfoldable pub p17 : List ℕ
p17 = set (data_bytes ones 4 2 5 1) 0 3

-- change 6 with its mark
unfoldable pub p18 : List ℕ
p18 = data_bytes zeros 3 0 6 0

unfoldable pub p19 : List ℕ
p19 = data_bytes ones 4 2 6 1

-- change 7 with its mark
unfoldable pub p20 : List ℕ
p20 = data_bytes ones 3 0 7 0

unfoldable pub p21 : List ℕ
p21 = data_bytes zeros 4 2 7 2

-- two lone writes
unfoldable pub p22 : List ℕ
p22 = data_bytes zeros 3 1 0 3

unfoldable pub p23 : List ℕ
p23 = data_bytes ones 4 1 0 4

-- reclaim's copies of them
unfoldable pub p24 : List ℕ
p24 = data_bytes zeros 3 1 0 5

unfoldable pub p25 : List ℕ
p25 = data_bytes ones 4 1 0 6

-- change 21 with a mark that is a drop and is torn by one bit, and change 22, whose only page is a drop
unfoldable pub p26 : List ℕ
p26 = data_bytes ones 4 0 21 0

unfoldable pub p27 : List ℕ
p27 = set (change_bytes gone true 3 2 21 7 0) 512 7

unfoldable pub p28 : List ℕ
p28 = change_bytes gone true 3 1 22 7 0

-- page 16 with its first byte erased
unfoldable pub e16 : List ℕ
e16 = set (data_bytes zeros 3 0 5 0) 0 255

abbrev pub fronts : List (List ℕ)
fronts = map1 ∷ zone1 ∷ map2 ∷ zone2 ∷ []

abbrev pub block2 : List (List ℕ)
block2 = p16 ∷ p17 ∷ p18 ∷ p19 ∷ p20 ∷ p21 ∷ p22 ∷ p23 ∷ []

abbrev pub block3 : List (List ℕ)
block3 = p24 ∷ p25 ∷ p26 ∷ p27 ∷ p28 ∷ []

pub sized_fronts : Sized fronts
unfolding go map1 zone1 map2 zone2
sized_fronts = (refl, (refl, (refl, (refl, tt))))

pub sized_2 : Sized block2
unfolding go p16 p17 p18 p19 p20 p21 p22 p23
sized_2 = (refl, (refl, (refl, (refl, (refl, (refl, (refl, (refl, tt))))))))

pub sized_3 : Sized block3
unfolding go p24 p25 p26 p27 p28
sized_3 = (refl, (refl, (refl, (refl, (refl, tt)))))

pub size_e16 : length e16 ≡ 528
unfolding go e16
size_e16 = refl

-- ---- devices
-- nothing under way: zones, last version, checkpoint number, places
abbrev pub idle : Zones → ℕ → ℕ → List Place → State
idle z v n ps = record { geometry = small; zones = z; version = v; checkpoint = n; front = 0; first = 0; work = Idle; last = Neither; places = ps }

abbrev pub free8 : List Place
free8 = replicate 8 free_place

-- a change: its identifier, its logical pages, the pages that they lie on, and which of the first of them it drops
abbrev pub change : ℕ → List ℕ → List ℕ → List Bool → Place
change id ls ps ds = record { id = id; count = length ls; lpns = pad_to 64 ls; ppns = pad_to 64 ps; drops = ds ++ replicate (64 - length ds) false }

-- one in place 0
abbrev pub dropping : ℕ → List ℕ → List ℕ → List Bool → List Place
dropping id ls ps ds = change id ls ps ds ∷ replicate 7 free_place

-- one of writes alone
abbrev pub opened : ℕ → List ℕ → List ℕ → List Place
opened id ls ps = dropping id ls ps []

-- of the pages above the first i of the front, the first j of block 2 and the first k of block 3 are programmed
abbrev pub stage : ℕ → ℕ → ℕ → List ℕ → List ℕ → State → Device
stage i j k m h s =
    record {
      pages = pages (take i fronts) (take j block2) (take k block3);
      sized = sized_pages (take i fronts) (take j block2) (take k block3) (sized_take i fronts sized_fronts) (sized_take j block2 sized_2) (sized_take k block3 sized_3);
      map = m;
      hold = h;
      state = s;
    }

-- two of block 3, and the first byte of block 2 erased
abbrev pub etched : List ℕ → List ℕ → State → Device
etched m h s =
    record {
      pages = pages fronts (e16 ∷ drop 1 block2) (take 2 block3);
      sized = sized_pages fronts (e16 ∷ drop 1 block2) (take 2 block3) sized_fronts (size_e16, sized_2.1) (sized_take 2 block3 sized_3);
      map = m;
      hold = h;
      state = s;
    }

abbrev pub w0 : Device
w0 = stage 2 0 0 map0 (hold zeros) (idle zones1 0 1 free8)

abbrev pub w1 : Device
w1 = stage 2 0 0 map0 (hold zeros) (idle zones1 0 1 (opened 5 [] []))

abbrev pub w2 : Device
w2 = stage 2 0 0 map0 (hold zeros) (idle zones1 0 1 (opened 5 (3 ∷ []) []))

abbrev pub w3 : Device
w3 = stage 2 1 0 map0 (hold ones) (idle zones1 0 1 (opened 5 (3 ∷ 4 ∷ []) (16 ∷ [])))

abbrev pub w4 : Device
w4 = stage 2 2 0 map0 (hold ones) (idle zones1 0 1 free8)

abbrev pub w5 : Device
w5 = stage 2 2 0 map0 (hold ones) (idle zones1 0 1 (opened 6 [] []))

abbrev pub w6 : Device
w6 = stage 2 2 0 map0 (hold zeros) (idle zones1 0 1 (opened 6 (3 ∷ []) []))

abbrev pub w7 : Device
w7 = stage 2 3 0 map0 (hold ones) (idle zones1 0 1 (opened 6 (3 ∷ 4 ∷ []) (18 ∷ [])))

abbrev pub w8 : Device
w8 = stage 2 4 0 (mapped 18 19) (hold ones) (idle zones1 1 1 free8)

abbrev pub w9 : Device
w9 = stage 2 4 0 (mapped 18 19) (hold ones) (idle zones1 1 1 (opened 7 [] []))

abbrev pub w10 : Device
w10 = stage 2 4 0 (mapped 18 19) (hold ones) (idle zones1 1 1 (opened 7 (3 ∷ []) []))

abbrev pub w11 : Device
w11 = stage 2 5 0 (mapped 18 19) (hold zeros) (idle zones1 1 1 (opened 7 (3 ∷ 4 ∷ []) (20 ∷ [])))

abbrev pub w12 : Device
w12 = stage 2 6 0 (mapped 20 21) (hold zeros) (idle zones1 2 1 free8)

abbrev pub w13 : Device
w13 = stage 2 6 0 (mapped 20 21) (hold zeros) (idle zones1 2 1 (opened 8 [] []))

abbrev pub w14 : Device
w14 = stage 2 7 0 (mapped 22 21) (hold zeros) (idle zones1 3 1 free8)

abbrev pub w15 : Device
w15 = stage 2 8 0 (mapped 22 23) (hold zeros) (idle zones1 4 1 free8)

abbrev pub w16 : Device
w16 = stage 3 8 0 (mapped 22 23) (hold zeros) (with_work (idle zones1 4 1 free8) 0 2 (Checkpoint 1))

abbrev pub w17 : Device
w17 = stage 4 8 0 (mapped 22 23) (hold zeros) (idle zones2 4 2 free8)

abbrev pub w18 : Device
w18 = stage 4 8 1 (mapped 24 23) (hold zeros) (with_work (idle zones2 5 2 free8) 0 0 Reclaim)

abbrev pub w19 : Device
w19 = stage 4 8 2 (mapped 24 25) (hold zeros) (with_work (idle zones2 6 2 free8) 0 0 Reclaim)

abbrev pub w20 : Device
w20 = etched (mapped 24 25) (hold zeros) (idle zones2 6 2 free8)

abbrev pub w21 : Device
w21 = stage 4 0 2 (mapped 24 25) (hold zeros) (idle zones3 6 2 free8)

abbrev pub w22 : Device
w22 = stage 4 0 2 (mapped 24 25) (hold zeros) (idle zones2 6 2 free8)

abbrev pub w23 : Device
w23 = stage 4 0 2 (mapped 24 25) (hold zeros) (idle zones2 6 2 (opened 21 [] []))

abbrev pub w24 : Device
w24 = stage 4 0 2 (mapped 24 25) (hold ones) (idle zones2 6 2 (opened 21 (4 ∷ []) []))

abbrev pub w25 : Device
w25 = stage 4 0 3 (mapped 24 25) (hold gone) (idle zones2 6 2 (dropping 21 (4 ∷ 3 ∷ []) (26 ∷ []) (false ∷ true ∷ [])))

abbrev pub w26 : Device
w26 = stage 4 0 4 (mapped 24 25) (hold gone) (idle zones2 6 2 free8)

abbrev pub w27 : Device
w27 = stage 4 0 4 (mapped 24 25) (hold gone) (idle zones2 6 2 (opened 22 [] []))

abbrev pub w28 : Device
w28 = stage 4 0 4 (mapped 24 25) (hold gone) (idle zones2 6 2 (dropping 22 (3 ∷ []) [] (true ∷ [])))

abbrev pub w29 : Device
w29 = stage 4 0 5 (mapped 65535 25) (hold gone) (idle zones2 7 2 free8)

-- ---- the format, of an array of one byte
erased_block : replicate 4224 255 ≡ flat (replicate 8 blank)
unfolding flat
erased_block = refl

-- k strides done
abbrev pub strode : ℕ → State
strode k = with_work (fresh_state small) 0 0 (Format k)

-- with its map page
abbrev pub with_map : Device
with_map = record { pages = map1 ∷ replicate 63 blank; sized = (sized_fronts.0, sized_replicate 63 blank refl); map = blank_map small; hold = hold zeros; state = strode 9 }

module _ (byte : ℕ) where
  -- the first k blocks are erased
  unfoldable pub wiped : ℕ → List (List ℕ)
  wiped k = replicate (8 * k) blank ++ replicate (64 - 8 * k) (replicate 528 byte)

  pub sized_wiped : (k : ℕ) → Sized (wiped k)
  unfolding wiped
  sized_wiped k = sized_append (replicate (8 * k) blank) (replicate (64 - 8 * k) (replicate 528 byte)) (sized_replicate (8 * k) blank refl) (sized_replicate (64 - 8 * k) (replicate 528 byte) refl)

  -- any map, and a state with nothing under way
  abbrev pub whatever : Geometry → Device
  whatever g = record { pages = wiped 0; sized = sized_wiped 0; map = replicate 16 0; hold = hold zeros; state = fresh_state g }

  abbrev pub under_way : ℕ → Device
  under_way k = record { pages = wiped k; sized = sized_wiped k; map = blank_map small; hold = hold zeros; state = strode k }

  pub first_erase : (g : Geometry) → exec (format small) (world (whatever g)) ≡ record { answer = 255; world = world (under_way 1) }
  unfolding go lent_on wiped
  first_erase g = format_erases (whatever g) small 0 refl refl refl (replicate 8 blank) refl erased_block

  erases : (k : ℕ) → lent_on small (under_way k) ≡ true → strides_done small (strode k) (Format k) ≡ k → format_work_ok small (world (under_way k)) (Format k) ≡ true → ltb k 8 ≡ true
      → splice (wiped k) (k * 8) 8 (replicate 8 blank) ≡ wiped (k + 1) → exec (format small) (world (under_way k)) ≡ record { answer = 255; world = world (under_way (k + 1)) }
  unfolding with_work
  erases k len done ready b e =
      format_erases (under_way k) small k len done ready (replicate 8 blank) b erased_block
      ∙ ap (λ (qs : List (List ℕ)). record { answer = 255; world = device qs (blank_map small) (hold zeros) (strode (k + 1)) }) e

  map_programmed : exec (format small) (world (under_way 8)) ≡ record { answer = 255; world = world with_map }
  unfolding go lent_on wiped map1
  map_programmed = format_maps (under_way 8) small 8 refl refl (format_ready (under_way 8) small 8 refl) map1 refl refl refl

  -- what holds after the first stride and each stride hands on holds before the last; n more strides are to come
  pub every_stride : (P : ℕ → World → Type 0) → ((n : ℕ) (w v : World) → exec (format small) w ≡ record { answer = 255; world = v } → P (suc n) w → P n v)
      → P 9 (world (under_way 1)) → P 1 (world with_map)
  unfolding go lent_on wiped
  every_stride P on p =
      on 1 _ _ map_programmed (on 2 _ _ (erases 7 refl refl refl refl refl) (on 3 _ _ (erases 6 refl refl refl refl refl) (on 4 _ _ (erases 5 refl refl refl refl refl)
      (on 5 _ _ (erases 4 refl refl refl refl refl) (on 6 _ _ (erases 3 refl refl refl refl refl) (on 7 _ _ (erases 2 refl refl refl refl refl) (on 8 _ _ (erases 1 refl refl refl refl refl) p)))))))

pub last_stride : exec (format small) (world with_map) ≡ record { answer = 0; world = world w0 }
unfolding go lent_on zone1 pages block
last_stride = format_ends with_map small 9 refl refl (format_ready with_map small 9 refl) zone1 refl refl refl

-- of sevens, with a lost state
pub formatted : Formatted small (world w0)
unfolding go
formatted = format_finished (every_stride 7 (λ n w. Formatting small w) (λ n w v e f. format_more_law f e) (format_first (world (whatever 7 nowhere)) refl (first_erase 7 nowhere))) last_stride

-- what a recover is handed after a cut: any map and state
abbrev pub handed : Device → Device
handed x = record { pages = x.pages; sized = x.sized; map = replicate 16 5; hold = x.hold; state = lost }

-- ---- 1: a change opened, its commit cut one bit short
read_3_never : exec (read 3) (world w0) ≡ record { answer = 14; world = world w0 }
unfolding paged
read_3_never = refused_stays (read 3) (world w0) 14 (read_14 (world w0) (framed w0 refl refl) 3 refl refl)

begin_0 : exec (begin 0) (world w0) ≡ record { answer = 6; world = world w0 }
unfolding paged
begin_0 = refused_stays (begin 0) (world w0) 6 (begin-6-law (world w0) (passes w0 false refl refl refl) 0 refl)

begin_5 : exec (begin 5) (world w0) ≡ record { answer = 0; world = world w1 }
unfolding paged
begin_5 = begins w0 refl refl refl 5 refl refl refl

begin_5_again : exec (begin 5) (world w1) ≡ record { answer = 7; world = world w1 }
unfolding paged
begin_5_again = refused_stays (begin 5) (world w1) 7 (begin-7-law (world w1) (passes w1 false refl refl refl) 5 refl (live_on w1 5 true refl))

write_5_3 : exec (write 5 3 zeros) (world w1) ≡ record { answer = 0; world = world w2 }
unfolding paged
write_5_3 = first_write w1 refl refl refl 5 refl 3 zeros refl refl 16 refl refl

write_9_3 : exec (write 9 3 zeros) (world w2) ≡ record { answer = 8; world = world w2 }
unfolding paged
write_9_3 = refused_stays (write 9 3 zeros) (world w2) 8 (write_8 (world w2) (passes w2 false refl refl refl) 9 3 zeros refl refl refl)

write_5_16 : exec (write 5 16 zeros) (world w2) ≡ record { answer = 5; world = world w2 }
unfolding paged
write_5_16 = refused_stays (write 5 16 zeros) (world w2) 5 (write_5 (world w2) (passes w2 false refl refl refl) 5 16 zeros refl refl)

write_5_short : exec (write 5 3 []) (world w2) ≡ record { answer = 11; world = world w2 }
unfolding paged
write_5_short = refused_stays (write 5 3 []) (world w2) 11 (write_11 (world w2) (passes w2 false refl refl refl) 5 3 [] refl)

write_5_4 : exec (write 5 4 ones) (world w2) ≡ record { answer = 0; world = world w3 }
unfolding paged p16
write_5_4 = next_write w2 refl refl refl 5 refl 4 ones refl refl 16 refl p16 refl refl refl refl

-- its mark, of which bit 1 of byte 0 is not let turn
unfoldable pub mark5 : List ℕ
mark5 = data_bytes ones 4 2 5 1

abbrev pub but_one : List ℕ
but_one = 253 ∷ []

commit_5_told : cut_event (commit 5) (world w3) [] but_one still ≡ cut_in (commit 5) true (minus blank mark5) (ands (minus blank mark5) but_one)
unfolding paged mark5 p16
commit_5_told = page_told w3 (commit 5) but_one 17 mark5 blank (commit_op w3 refl refl refl 5 refl 17 refl refl refl refl) refl

commit_5_left : cut_array (commit 5) (world w3) [] but_one still ≡ flat w4.pages
unfolding paged mark5 p16 p17
commit_5_left = page_left w3 (commit 5) but_one 17 mark5 blank (commit_op w3 refl refl refl 5 refl 17 refl refl refl refl) refl p17 refl

-- so the mark is torn by 1, the least that `OwnTorn` of `model` leaves for a torn page of a sequence
commit_5_torn : class_of (page_at (cut_array (commit 5) (world w3) [] but_one still) 17) ≡ Torn (pos 1)
unfolding paged mark5 p16 p17
commit_5_torn = ap (λ (xs : List ℕ). class_of (page_at xs 17)) commit_5_left ∙ ap class_of (page_flat w4.pages w4.sized 17)

recover_4 : exec (recover small) (world (handed w4)) ≡ record { answer = 0; world = world w4 }
unfolding paged map1 zone1 p16 p17
recover_4 = recovers (handed w4) small 0 (replicate 256 65535) (zone_data 0 zones1) (record { ppn = 16; lpn = 3; cnt = 0; id = 5; ver = 0; kind = 0; reserved = 0 } ∷ []) 1 refl refl refl refl refl refl refl refl

abbrev pub events1 : List Event
events1 =
    called (read 3) 14
    ∷ called (begin 0) 6
    ∷ called (begin 5) 0
    ∷ called (begin 5) 7
    ∷ called (write 5 3 zeros) 0
    ∷ called (write 9 3 zeros) 8
    ∷ called (write 5 16 zeros) 5
    ∷ called (write 5 3 []) 11
    ∷ called (write 5 4 ones) 0
    ∷ cut_in (commit 5) true (minus blank mark5) (ands (minus blank mark5) but_one)
    ∷ called (recover small) 0
    ∷ []

pub run1 : Run small (live (world w0) []) events1 (live (world w4) [])
unfolding go fits bytes refused
run1 =
    answered (read 3) 14 read_3_never refl tt refl
    (answered (begin 0) 6 begin_0 refl tt refl
    (answered (begin 5) 0 begin_5 refl tt refl
    (answered (begin 5) 7 begin_5_again refl tt refl
    (answered (write 5 3 zeros) 0 write_5_3 refl tt refl
    (answered (write 9 3 zeros) 8 write_9_3 refl tt refl
    (answered (write 5 16 zeros) 5 write_5_16 refl tt refl
    (answered (write 5 3 []) 11 write_5_short refl tt refl
    (answered (write 5 4 ones) 0 write_5_4 refl tt refl
    (cut_short (commit 5) but_one commit_5_told commit_5_left refl tt
    (recovered (world (handed w4)) recover_4
    (stop _)))))))))))

-- ---- 2: nothing of it reads back and its identifier is live still; the same writes in another change, its commit cut at its last bit
read_3_still : exec (read 3) (world w4) ≡ record { answer = 14; world = world w4 }
unfolding paged
read_3_still = refused_stays (read 3) (world w4) 14 (read_14 (world w4) (framed w4 refl refl) 3 refl refl)

begin_5_on_page : exec (begin 5) (world w4) ≡ record { answer = 7; world = world w4 }
unfolding paged p16 p17
begin_5_on_page = refused_stays (begin 5) (world w4) 7 (begin-7-law (world w4) (passes w4 false refl refl refl) 5 refl (live_on w4 5 true refl))

begin_6 : exec (begin 6) (world w4) ≡ record { answer = 0; world = world w5 }
unfolding paged p16 p17
begin_6 = begins w4 refl refl refl 6 refl refl refl

write_6_3 : exec (write 6 3 zeros) (world w5) ≡ record { answer = 0; world = world w6 }
unfolding paged p16 p17
write_6_3 = first_write w5 refl refl refl 6 refl 3 zeros refl refl 18 refl refl

write_6_4 : exec (write 6 4 ones) (world w6) ≡ record { answer = 0; world = world w7 }
unfolding paged p16 p17 p18
write_6_4 = next_write w6 refl refl refl 6 refl 4 ones refl refl 18 refl p18 refl refl refl refl

commit_6_told : cut_event (commit 6) (world w7) [] [] still ≡ cut_in (commit 6) true (minus blank p19) (minus blank p19)
unfolding paged p16 p17 p18 p19
commit_6_told = page_told w7 (commit 6) [] 19 p19 blank (commit_op w7 refl refl refl 6 refl 19 refl refl refl refl) refl

commit_6_left : cut_array (commit 6) (world w7) [] [] still ≡ flat w8.pages
unfolding paged p16 p17 p18 p19
commit_6_left = page_left w7 (commit 6) [] 19 p19 blank (commit_op w7 refl refl refl 6 refl 19 refl refl refl refl) refl p19 refl

recover_8 : exec (recover small) (world (handed w8)) ≡ record { answer = 0; world = world w8 }
unfolding paged map1 zone1 p16 p17 p18 p19
recover_8 = recovers (handed w8) small 0 (replicate 256 65535) (zone_data 0 zones1) (record { ppn = 16; lpn = 3; cnt = 0; id = 5; ver = 0; kind = 0; reserved = 0 } ∷ record { ppn = 18; lpn = 3; cnt = 0; id = 6; ver = 0; kind = 0; reserved = 0 } ∷ record { ppn = 19; lpn = 4; cnt = 2; id = 6; ver = 1; kind = 0; reserved = 0 } ∷ []) 1 refl refl refl refl refl refl refl refl

-- both its pages read back
read_zeros : read_part 3 (world w8) ≡ zeros
unfolding paged p18
read_zeros = reads_part w8 3 18 zeros (read_0 (world w8) (framed w8 refl refl) 3 refl refl) refl refl

read_ones : read_part 4 (world w8) ≡ ones
unfolding paged p19
read_ones = reads_part w8 4 19 ones (read_0 (world w8) (framed w8 refl refl) 4 refl refl) refl refl

abbrev pub events2 : List Event
events2 =
    called (read 3) 14
    ∷ called (begin 5) 7
    ∷ called (begin 6) 0
    ∷ called (write 6 3 zeros) 0
    ∷ called (write 6 4 ones) 0
    ∷ cut_in (commit 6) true (minus blank p19) (minus blank p19)
    ∷ called (recover small) 0
    ∷ []

pub run2 : Run small (live (world w4) []) events2 (live (world w8) [])
unfolding go fits bytes refused
run2 =
    answered (read 3) 14 read_3_still refl tt refl
    (answered (begin 5) 7 begin_5_on_page refl tt refl
    (answered (begin 6) 0 begin_6 refl tt refl
    (answered (write 6 3 zeros) 0 write_6_3 refl tt refl
    (answered (write 6 4 ones) 0 write_6_4 refl tt refl
    (cut_short (commit 6) [] commit_6_told commit_6_left refl tt
    (recovered (world (handed w8)) recover_8
    (stop _)))))))

-- ---- 3: read, a commit, an abort, a lone write
read_3 : exec (read 3) (world w8) ≡ record { answer = 0; world = world w8 }
unfolding paged
read_3 = refused_stays (read 3) (world w8) 0 (read_0 (world w8) (framed w8 refl refl) 3 refl refl)

begin_7 : exec (begin 7) (world w8) ≡ record { answer = 0; world = world w9 }
unfolding paged p16 p17 p18 p19
begin_7 = begins w8 refl refl refl 7 refl refl refl

write_7_3 : exec (write 7 3 ones) (world w9) ≡ record { answer = 0; world = world w10 }
unfolding paged p16 p17 p18 p19
write_7_3 = first_write w9 refl refl refl 7 refl 3 ones refl refl 20 refl refl

write_7_4 : exec (write 7 4 zeros) (world w10) ≡ record { answer = 0; world = world w11 }
unfolding paged p16 p17 p18 p19 p20
write_7_4 = next_write w10 refl refl refl 7 refl 4 zeros refl refl 20 refl p20 refl refl refl refl

commit_7 : exec (commit 7) (world w11) ≡ record { answer = 0; world = world w12 }
unfolding paged p16 p17 p18 p19 p20 p21
commit_7 = commits w11 refl refl refl 7 refl 21 refl refl refl refl p21 refl

begin_8 : exec (begin 8) (world w12) ≡ record { answer = 0; world = world w13 }
unfolding paged p16 p17 p18 p19 p20 p21
begin_8 = begins w12 refl refl refl 8 refl refl refl

abort_8 : exec (abort 8) (world w13) ≡ record { answer = 0; world = world w12 }
unfolding paged
abort_8 = aborts w13 refl refl refl 8 refl

lone_3 : exec (lone 3 zeros) (world w12) ≡ record { answer = 0; world = world w14 }
unfolding paged p16 p17 p18 p19 p20 p21 p22
lone_3 = lone_writes w12 refl refl refl 3 zeros refl refl 22 p22 refl refl refl refl

abbrev pub events3 : List Event
events3 =
    called (read 3) 0
    ∷ called (begin 7) 0
    ∷ called (write 7 3 ones) 0
    ∷ called (write 7 4 zeros) 0
    ∷ called (commit 7) 0
    ∷ called (begin 8) 0
    ∷ called (abort 8) 0
    ∷ called (lone 3 zeros) 0
    ∷ []

pub run3 : Run small (live (world w8) []) events3 (live (world w14) [])
unfolding go fits bytes refused
run3 =
    answered (read 3) 0 read_3 refl tt refl
    (answered (begin 7) 0 begin_7 refl tt refl
    (answered (write 7 3 ones) 0 write_7_3 refl tt refl
    (answered (write 7 4 zeros) 0 write_7_4 refl tt refl
    (answered (commit 7) 0 commit_7 refl tt refl
    (answered (begin 8) 0 begin_8 refl tt refl
    (answered (abort 8) 0 abort_8 refl tt refl
    (answered (lone 3 zeros) 0 lone_3 refl tt refl
    (stop _))))))))

-- ---- 4: a lone write cut before its first bit, a begin cut, a cut between two calls; after a cut a recover of short buffers, a recover that is cut,
-- another cut, a format of seven blocks
abbrev pub no_bit : List ℕ
no_bit = replicate 528 0

abbrev pub bare : Device
bare = record { pages = w14.pages; sized = w14.sized; map = []; hold = []; state = lost }

abbrev pub seven : Geometry
seven = record { blocks = 7; pages = 8; logical = 8; planes = 1 }

lone_4_cut_told : cut_event (lone 4 ones) (world w14) [] no_bit still ≡ cut_in (lone 4 ones) true (minus blank p23) no_bit
unfolding paged p16 p17 p18 p19 p20 p21 p22 p23
lone_4_cut_told = page_told w14 (lone 4 ones) no_bit 23 p23 blank (lone_op_law w14 refl refl refl 4 ones refl refl 23 refl refl refl) refl

lone_4_cut_left : cut_array (lone 4 ones) (world w14) [] no_bit still ≡ flat w14.pages
unfolding paged p16 p17 p18 p19 p20 p21 p22 p23
lone_4_cut_left = page_left w14 (lone 4 ones) no_bit 23 p23 blank (lone_op_law w14 refl refl refl 4 ones refl refl 23 refl refl refl) refl blank refl

begin_9_told : cut_event (begin 9) (world w14) [] [] still ≡ cut_in (begin 9) false [] []
unfolding paged p16 p17 p18 p19 p20 p21 p22
begin_9_told = idle_told w14 (begin 9) [] (begin_op w14 refl refl refl 9 refl refl refl)

begin_9_left : cut_array (begin 9) (world w14) [] [] still ≡ flat w14.pages
unfolding paged p16 p17 p18 p19 p20 p21 p22
begin_9_left = idle_left w14 (begin 9) [] (begin_op w14 refl refl refl 9 refl refl refl)

recover_bare : exec (recover small) (world bare) ≡ record { answer = 1; world = world bare }
unfolding go lent_on pages block
recover_bare = refused_stays (recover small) (world bare) 1 (recover_1 small (world bare) (lent_on_law bare small))

seven_refused : plan (format seven) (world (handed w14)) ≡ refuse (world (handed w14)) 1
unfolding lent_on geometry_ok
seven_refused = format_1 seven (world (handed w14)) (lent_on_law (handed w14) seven)

recover_14 : exec (recover small) (world (handed w14)) ≡ record { answer = 0; world = world w14 }
unfolding paged map1 zone1 p16 p17 p18 p19 p20 p21 p22
recover_14 = recovers (handed w14) small 0 (replicate 256 65535) (zone_data 0 zones1) (record { ppn = 16; lpn = 3; cnt = 0; id = 5; ver = 0; kind = 0; reserved = 0 } ∷ record { ppn = 18; lpn = 3; cnt = 0; id = 6; ver = 0; kind = 0; reserved = 0 } ∷ record { ppn = 19; lpn = 4; cnt = 2; id = 6; ver = 1; kind = 0; reserved = 0 } ∷ record { ppn = 20; lpn = 3; cnt = 0; id = 7; ver = 0; kind = 0; reserved = 0 } ∷ record { ppn = 21; lpn = 4; cnt = 2; id = 7; ver = 2; kind = 0; reserved = 0 } ∷ record { ppn = 22; lpn = 3; cnt = 1; id = 0; ver = 3; kind = 0; reserved = 0 } ∷ []) 1 refl refl refl refl refl refl refl refl

abbrev pub events4 : List Event
events4 =
    cut_in (lone 4 ones) true (minus blank p23) no_bit
    ∷ called (recover small) 0
    ∷ cut_in (begin 9) false [] []
    ∷ called (recover small) 1
    ∷ cut_in (recover small) false [] []
    ∷ cut_between
    ∷ called (format seven) 1
    ∷ called (recover small) 0
    ∷ cut_between
    ∷ called (recover small) 0
    ∷ []

pub run4 : Run small (live (world w14) []) events4 (live (world w14) [])
unfolding go fits bytes refused cut_runs
run4 =
    cut_short (lone 4 ones) no_bit lone_4_cut_told lone_4_cut_left refl tt
    (recovered (world (handed w14)) recover_14
    (cut_short (begin 9) [] begin_9_told begin_9_left refl tt
    (turned_down (recover small) (world bare) 1 recover_bare refl refl refl refl
    (next (lost-in (recover small) (world bare) refl refl refl)
    (next (again (flat w14.pages))
    (turned_down (format seven) (world (handed w14)) 1 (refused_stays (format seven) (world (handed w14)) 1 seven_refused) refl refl (ap (λ (p : Plan). refused p.answer) seven_refused) refl
    (recovered (world (handed w14)) recover_14
    (next (between (world w14) [] still)
    (recovered (world (handed w14)) recover_14
    (stop _))))))))))

-- ---- 5: a checkpoint, a reclaim, its erase cut, its end
reclaim_none_left : exec reclaim (world w14) ≡ record { answer = 15; world = world w14 }
unfolding paged
reclaim_none_left = refused_stays reclaim (world w14) 15 (reclaim_none (world w14) (passes w14 false refl refl refl) refl)

lone_4 : exec (lone 4 ones) (world w14) ≡ record { answer = 0; world = world w15 }
unfolding paged p16 p17 p18 p19 p20 p21 p22 p23
lone_4 = lone_writes w14 refl refl refl 4 ones refl refl 23 p23 refl refl refl refl

checkpoint_1 : exec checkpoint (world w15) ≡ record { answer = 255; world = world w16 }
unfolding paged map1 zone1 map2
checkpoint_1 = checkpoint_begins w15 refl refl refl 2 map2 refl refl refl refl refl refl

begin_busy : exec (begin 9) (world w16) ≡ record { answer = 17; world = world w16 }
unfolding paged
begin_busy = refused_stays (begin 9) (world w16) 17 (busy_17 (begin 9) (world w16) (framed w16 refl refl) refl refl)

checkpoint_2 : exec checkpoint (world w16) ≡ record { answer = 0; world = world w17 }
unfolding paged zone2 p16 p17 p18 p19 p20 p21 p22 p23
checkpoint_2 = checkpoint_ends w16 1 zones2 zone2 refl refl refl refl refl refl refl

reclaim_1 : exec reclaim (world w17) ≡ record { answer = 255; world = world w18 }
unfolding paged p22 p24
reclaim_1 = reclaim_copies w17 2 refl refl refl refl refl 22 3 24 zeros p24 refl refl refl refl refl refl refl refl

reclaim_2 : exec reclaim (world w18) ≡ record { answer = 255; world = world w19 }
unfolding paged p23 p24 p25
reclaim_2 = reclaim_copies w18 2 refl refl refl refl refl 23 4 25 ones p25 refl refl refl refl refl refl refl refl

-- of the bits of block 2 those of its first byte are let turn
abbrev pub one_byte : List ℕ
one_byte = 255 ∷ replicate 4223 0

erase_2_told : cut_event reclaim (world w19) [] one_byte still ≡ cut_in reclaim false (zeros_of (flat block2)) one_byte
unfolding paged flat p16 p17 p18 p19 p20 p21 p22 p23
erase_2_told = block_told w19 reclaim one_byte 2 8 (flat block2) (reclaim_op w19 2 refl refl refl refl refl refl) (reclaim_shape w19 2 refl refl refl refl refl refl) refl

erase_2_left : cut_array reclaim (world w19) [] one_byte still ≡ flat w20.pages
unfolding paged flat e16 p16 p17 p18 p19 p20 p21 p22 p23
erase_2_left = block_left w19 reclaim one_byte 2 8 (flat block2) (reclaim_op w19 2 refl refl refl refl refl refl) (reclaim_shape w19 2 refl refl refl refl refl refl) refl (e16 ∷ drop 1 block2) refl

recover_20 : exec (recover small) (world (handed w20)) ≡ record { answer = 0; world = world w20 }
unfolding paged map1 zone1 map2 zone2 p24 p25
recover_20 = recovers (handed w20) small 2 (mapped 22 23 ++ replicate 240 65535) (zone_data 4 zones2) (record { ppn = 24; lpn = 3; cnt = 1; id = 0; ver = 5; kind = 0; reserved = 0 } ∷ record { ppn = 25; lpn = 4; cnt = 1; id = 0; ver = 6; kind = 0; reserved = 0 } ∷ []) 2 refl refl refl refl refl refl refl refl

reclaim_3 : exec reclaim (world w20) ≡ record { answer = 0; world = world w21 }
unfolding paged
reclaim_3 = reclaim_erases w20 2 refl refl refl refl refl (replicate 8 blank) refl erased_block

recover_22 : exec (recover small) (world w21) ≡ record { answer = 0; world = world w22 }
unfolding paged map1 zone1 map2 zone2 p24 p25
recover_22 = recovers w21 small 2 (mapped 22 23 ++ replicate 240 65535) (zone_data 4 zones2) (record { ppn = 24; lpn = 3; cnt = 1; id = 0; ver = 5; kind = 0; reserved = 0 } ∷ record { ppn = 25; lpn = 4; cnt = 1; id = 0; ver = 6; kind = 0; reserved = 0 } ∷ []) 2 refl refl refl refl refl refl refl refl

abbrev pub events5 : List Event
events5 =
    called reclaim 15
    ∷ called (lone 4 ones) 0
    ∷ called checkpoint 255
    ∷ called (begin 9) 17
    ∷ called checkpoint 0
    ∷ called reclaim 255
    ∷ called reclaim 255
    ∷ cut_in reclaim false (zeros_of (flat block2)) one_byte
    ∷ called (recover small) 0
    ∷ called reclaim 0
    ∷ called (recover small) 0
    ∷ []

pub run5 : Run small (live (world w14) []) events5 (live (world w22) [])
unfolding go fits bytes refused
run5 =
    answered reclaim 15 reclaim_none_left refl tt refl
    (answered (lone 4 ones) 0 lone_4 refl tt refl
    (answered checkpoint 255 checkpoint_1 refl tt refl
    (answered (begin 9) 17 begin_busy refl tt refl
    (answered checkpoint 0 checkpoint_2 refl tt refl
    (answered reclaim 255 reclaim_1 refl tt refl
    (answered reclaim 255 reclaim_2 refl tt refl
    (cut_short reclaim one_byte erase_2_told erase_2_left refl tt
    (recovered (world (handed w20)) recover_20
    (answered reclaim 0 reclaim_3 refl tt refl
    (answered (recover small) 0 recover_22 refl refl refl
    (stop _)))))))))))

-- ---- 6: eight changes are opened, a ninth is refused
unfoldable pub begun_from : ℕ → ℕ → List Place
begun_from k zero = []
begun_from k (suc n) = begun k ∷ begun_from (suc k) n

-- n of them
abbrev pub many_open : ℕ → State
many_open n = idle zones2 6 2 (begun_from 11 n ++ replicate (8 - n) free_place)

abbrev pub many : ℕ → Device
many n = stage 4 0 2 (mapped 24 25) (hold zeros) (many_open n)

begin_next : (n : ℕ) → frame_on (many n) ≡ true → bad_id (11 + n) ≡ false
    → (active (11 + n) (many_open n).places || on_pages (11 + n) (scan_on (many n).pages 8 (3 ∷ 4 ∷ 5 ∷ []))) ≡ false → leb 8 (find (has_id 0) (many_open n).places) ≡ false
    → with_place (many_open n) (find (has_id 0) (many_open n).places) (begun (11 + n)) ≡ many_open (n + 1) → exec (begin (11 + n)) (world (many n)) ≡ record { answer = 0; world = world (many (n + 1)) }
unfolding zones_of pad_to
begin_next n f b l p e =
    begins (many n) refl f refl (11 + n) b l p
    ∙ ap (λ (s : State). record { answer = 0; world = device (many n).pages (mapped 24 25) (hold zeros) s }) e

begin_ninth : exec (begin 19) (world (many 8)) ≡ record { answer = 9; world = world (many 8) }
unfolding paged p24 p25 begun_from
begin_ninth = refused_stays (begin 19) (world (many 8)) 9 (begin-9-law (world (many 8)) (passes (many 8) false refl refl refl) 19 refl (live_on (many 8) 19 false refl) refl)

abbrev pub events6 : List Event
events6 =
    called (begin 11) 0
    ∷ called (begin 12) 0
    ∷ called (begin 13) 0
    ∷ called (begin 14) 0
    ∷ called (begin 15) 0
    ∷ called (begin 16) 0
    ∷ called (begin 17) 0
    ∷ called (begin 18) 0
    ∷ called (begin 19) 9
    ∷ []

pub run6 : Run small (live (world w22) []) events6 (live (world (many 8)) [])
unfolding paged fits p24 p25 begun_from
run6 =
    answered (begin 11) 0 (begin_next 0 refl refl refl refl refl) refl tt refl
    (answered (begin 12) 0 (begin_next 1 refl refl refl refl refl) refl tt refl
    (answered (begin 13) 0 (begin_next 2 refl refl refl refl refl) refl tt refl
    (answered (begin 14) 0 (begin_next 3 refl refl refl refl refl) refl tt refl
    (answered (begin 15) 0 (begin_next 4 refl refl refl refl refl) refl tt refl
    (answered (begin 16) 0 (begin_next 5 refl refl refl refl refl) refl tt refl
    (answered (begin 17) 0 (begin_next 6 refl refl refl refl refl) refl tt refl
    (answered (begin 18) 0 (begin_next 7 refl refl refl refl refl) refl tt refl
    (answered (begin 19) 9 begin_ninth refl tt refl (stop _)))))))))

-- ---- 7: a change whose mark is a drop, the commit cut one bit short; then one of a drop alone, its commit cut at its last bit
recover_many : exec (recover small) (world (many 8)) ≡ record { answer = 0; world = world w22 }
unfolding paged map1 zone1 map2 zone2 p24 p25 begun_from
recover_many = recovers (many 8) small 2 (mapped 22 23 ++ replicate 240 65535) (zone_data 4 zones2) (record { ppn = 24; lpn = 3; cnt = 1; id = 0; ver = 5; kind = 0; reserved = 0 } ∷ record { ppn = 25; lpn = 4; cnt = 1; id = 0; ver = 6; kind = 0; reserved = 0 } ∷ []) 2 refl refl refl refl refl refl refl refl

begin_21 : exec (begin 21) (world w22) ≡ record { answer = 0; world = world w23 }
unfolding paged p24 p25
begin_21 = begins w22 refl refl refl 21 refl refl refl

write_21_4 : exec (write 21 4 ones) (world w23) ≡ record { answer = 0; world = world w24 }
unfolding paged p24 p25
write_21_4 = first_write w23 refl refl refl 21 refl 4 ones refl refl 26 refl refl

drop_21_3 : exec (drop_page 21 3) (world w24) ≡ record { answer = 0; world = world w25 }
unfolding paged p24 p25 p26
drop_21_3 = next_drop w24 refl refl refl 21 refl 3 refl 26 refl p26 refl refl refl refl

-- its mark, of which bit 2 of byte 512 is not let turn: the data have no zero bit
unfoldable pub mark21 : List ℕ
mark21 = change_bytes gone true 3 2 21 7 0

abbrev pub but_later : List ℕ
but_later = replicate 512 255 ++ (251 ∷ [])

commit_21_told : cut_event (commit 21) (world w25) [] but_later still ≡ cut_in (commit 21) true (minus blank mark21) (ands (minus blank mark21) but_later)
unfolding paged mark21 p24 p25 p26
commit_21_told = page_told w25 (commit 21) but_later 27 mark21 blank (commit_op w25 refl refl refl 21 refl 27 refl refl refl refl) refl

commit_21_left : cut_array (commit 21) (world w25) [] but_later still ≡ flat w26.pages
unfolding paged mark21 p24 p25 p26 p27
commit_21_left = page_left w25 (commit 21) but_later 27 mark21 blank (commit_op w25 refl refl refl 21 refl 27 refl refl refl refl) refl p27 refl

recover_26 : exec (recover small) (world (handed w26)) ≡ record { answer = 0; world = world w26 }
unfolding paged map1 zone1 map2 zone2 p24 p25 p26 p27
recover_26 = recovers (handed w26) small 2 (mapped 22 23 ++ replicate 240 65535) (zone_data 4 zones2) (record { ppn = 24; lpn = 3; cnt = 1; id = 0; ver = 5; kind = 0; reserved = 0 } ∷ record { ppn = 25; lpn = 4; cnt = 1; id = 0; ver = 6; kind = 0; reserved = 0 } ∷ record { ppn = 26; lpn = 4; cnt = 0; id = 21; ver = 0; kind = 0; reserved = 0 } ∷ []) 2 refl refl refl refl refl refl refl refl

read_3_kept : exec (read 3) (world w26) ≡ record { answer = 0; world = world w26 }
unfolding paged
read_3_kept = refused_stays (read 3) (world w26) 0 (read_0 (world w26) (framed w26 refl refl) 3 refl refl)

begin_22 : exec (begin 22) (world w26) ≡ record { answer = 0; world = world w27 }
unfolding paged p24 p25 p26 p27
begin_22 = begins w26 refl refl refl 22 refl refl refl

drop_22_3 : exec (drop_page 22 3) (world w27) ≡ record { answer = 0; world = world w28 }
unfolding paged p24 p25 p26 p27
drop_22_3 = first_drop w27 refl refl refl 22 refl 3 refl 28 refl refl

commit_22_told : cut_event (commit 22) (world w28) [] [] still ≡ cut_in (commit 22) true (minus blank p28) (minus blank p28)
unfolding paged p24 p25 p26 p27 p28
commit_22_told = page_told w28 (commit 22) [] 28 p28 blank (commit_op w28 refl refl refl 22 refl 28 refl refl refl refl) refl

commit_22_left : cut_array (commit 22) (world w28) [] [] still ≡ flat w29.pages
unfolding paged p24 p25 p26 p27 p28
commit_22_left = page_left w28 (commit 22) [] 28 p28 blank (commit_op w28 refl refl refl 22 refl 28 refl refl refl refl) refl p28 refl

recover_29 : exec (recover small) (world (handed w29)) ≡ record { answer = 0; world = world w29 }
unfolding paged map1 zone1 map2 zone2 p24 p25 p26 p27 p28
recover_29 = recovers (handed w29) small 2 (mapped 22 23 ++ replicate 240 65535) (zone_data 4 zones2) (record { ppn = 24; lpn = 3; cnt = 1; id = 0; ver = 5; kind = 0; reserved = 0 } ∷ record { ppn = 25; lpn = 4; cnt = 1; id = 0; ver = 6; kind = 0; reserved = 0 } ∷ record { ppn = 26; lpn = 4; cnt = 0; id = 21; ver = 0; kind = 0; reserved = 0 } ∷ record { ppn = 28; lpn = 3; cnt = 1; id = 22; ver = 7; kind = 3; reserved = 0 } ∷ []) 2 refl refl refl refl refl refl refl refl

read_3_dropped : exec (read 3) (world w29) ≡ record { answer = 14; world = world w29 }
unfolding paged
read_3_dropped = refused_stays (read 3) (world w29) 14 (read_14 (world w29) (framed w29 refl refl) 3 refl refl)

abbrev pub events7 : List Event
events7 =
    called (recover small) 0
    ∷ called (begin 21) 0
    ∷ called (write 21 4 ones) 0
    ∷ called (drop_page 21 3) 0
    ∷ cut_in (commit 21) true (minus blank mark21) (ands (minus blank mark21) but_later)
    ∷ called (recover small) 0
    ∷ called (read 3) 0
    ∷ called (begin 22) 0
    ∷ called (drop_page 22 3) 0
    ∷ cut_in (commit 22) true (minus blank p28) (minus blank p28)
    ∷ called (recover small) 0
    ∷ called (read 3) 14
    ∷ []

pub run7 : Run small (live (world (many 8)) []) events7 (live (world w29) [])
unfolding go fits bytes refused
run7 =
    answered (recover small) 0 recover_many refl refl refl
    (answered (begin 21) 0 begin_21 refl tt refl
    (answered (write 21 4 ones) 0 write_21_4 refl tt refl
    (answered (drop_page 21 3) 0 drop_21_3 refl tt refl
    (cut_short (commit 21) but_later commit_21_told commit_21_left refl tt
    (recovered (world (handed w26)) recover_26
    (answered (read 3) 0 read_3_kept refl tt refl
    (answered (begin 22) 0 begin_22 refl tt refl
    (answered (drop_page 22 3) 0 drop_22_3 refl tt refl
    (cut_short (commit 22) [] commit_22_told commit_22_left refl tt
    (recovered (world (handed w29)) recover_29
    (answered (read 3) 14 read_3_dropped refl tt refl
    (stop _))))))))))))

-- ---- the whole of it
abbrev pub events : List Event
events = events1 ++ (events2 ++ (events3 ++ (events4 ++ (events5 ++ (events6 ++ events7)))))

pub every_command_done : Run small (live (world w0) []) events (live (world w29) [])
every_command_done = joined run1 (joined run2 (joined run3 (joined run4 (joined run5 (joined run6 run7)))))

-- ---- its book
-- the open changes apart: logical pages 3 and 4 hold these bytes
abbrev pub book_of : List ℕ → List ℕ → Book
book_of x y = record { pages = never ∷ never ∷ never ∷ holds x ∷ holds y ∷ replicate 11 never; changes = [] }

-- the commit that was cut one bit short is not in it, the one cut at its last bit is
book1 : story (noBook small) events1 ≡ noBook small
unfolding told story mark5
book1 = refl

book2 : story (noBook small) events2 ≡ book_of zeros ones
unfolding told story p19
book2 = refl

book3 : story (book_of zeros ones) events3 ≡ book_of zeros zeros
unfolding told story
book3 = refl

-- the lone write of which no bit was turned is not, the one that is done is
book4 : story (book_of zeros zeros) events4 ≡ book_of zeros zeros
unfolding told story p23
book4 = refl

book5 : story (book_of zeros zeros) events5 ≡ book_of zeros ones
unfolding told story
book5 = refl

-- the drop whose commit was cut one bit short is not in it, the one cut at its last bit is: logical page 3 is as never written
book7 : story (book_of zeros ones) events7 ≡ record { pages = never ∷ never ∷ never ∷ never ∷ holds ones ∷ replicate 11 never; changes = [] }
unfolding told story mark21 p28
book7 = refl
