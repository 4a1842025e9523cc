-- Rows of the rules: a second table beside the starred one. A row is a sentence of document 01 or 02 (docs/PAPERS.md) that neither demand 3 nor a bench
-- case tells from a wrong one: its name, what the definitions give for small inputs, and what the paper says. One theorem says that every row
-- holds. The orders of refusals stand in `Orders`, as laws over all worlds.
use Rattle.std.specs.Prelude.{ℕ, zero, suc, ◌+◌, ◌*◌, ◌≡◌, refl, Bool, true, false, cond, List, [], ◌∷◌, ◌++◌, length, take, drop, get_or, set, replicate, ℤ, pos, negsuc, eqb}
use Rattle.std.proofs.Common.{ap}
use Rattle.model.specs.Lists.{all, up_from, pad_to}
use Rattle.model.specs.Bytes.{all_ff}
use Rattle.model.specs.Page.{torn_by, spare_of, page_bytes, spare_bytes}
use Rattle.model.specs.Geometry.{geometry_ok}
use Rattle.model.specs.Zones.{Entry, Taken, zones_of, listed_in, zone_lists_ok, free_index, past_block, refill, slide, torn_of, next_in, taken_from}
use Rattle.model.specs.Checkpoint.{Found, nothing, at, map_spare, zone_spare, map_bytes, zone_data, complete_at, newest, zones_in, load_ok}
use Rattle.model.specs.Recovery.{entry_good, pages_good, applied, redone}
use Rattle.model.specs.World.{World}
use Rattle.model.specs.Frame.{free_place, place_ok, places_ok, format_stride_ok, checkpoint_stride_ok, work_ok, fresh_state}
use Rattle.model.specs.Transactions.{with_last, number_of, data_bytes, change_bytes, held_at, hold_with, gone, entered}
use Rattle.model.specs.Strides.{with_work, mapped_in, pick_from, lowest_from, strides_done, format_work_ok}
use Rattle.model.specs.Commands.{format, plan}
use Rattle.model.specs.declared.Geometry.{Geometry}
use Rattle.model.specs.declared.Spare.{Spare}
use Rattle.model.specs.declared.Zones.{Zones}
use Rattle.model.specs.declared.Place.{Place}
use Rattle.model.specs.declared.Plane.{Plane}
use Rattle.model.specs.declared.Plane.TheVariants.{Neither, Even, Odd}
use Rattle.model.specs.declared.Work.TheVariants.{Idle, Format, Reclaim}
use Rattle.examples.specs.Unfolded.{go}
use Rattle.examples.specs.Orders.{lent, format_answers}

-- ---- the table's form
-- the rules by name
pub data Rule : Type 0 where
  pointer_wraps : Rule
  free_from_pointer : Rule
  free_wraps_to_first : Rule
  refilled_to_three : Rule
  refilled_from_few : Rule
  judged_again : Rule
  near_kept : Rule
  leaving_not_near : Rule
  active_kept : Rule
  lone_by_itself : Rule
  leavers_last : Rule
  reclaim_ties : Rule
  reclaim_fewest : Rule
  reclaim_checkpointed : Rule
  copies_lowest : Rule
  zone_counts_written : Rule
  zone_counts_read : Rule
  kind_reserved_written : Rule
  spare_read : Rule
  map_spare_law : Rule
  zone_spare_law : Rule
  map_unused : Rule
  newest_first : Rule
  newest_highest : Rule
  complete_spare : Rule
  load_passes : Rule
  load_map_outside : Rule
  load_map_repeated : Rule
  load_unused_entry : Rule
  load_counts : Rule
  load_pointer : Rule
  load_block_outside : Rule
  load_block_repeated : Rule
  load_four_available : Rule
  load_not_ascending : Rule
  load_rest : Rule
  page_passes : Rule
  page_kind_law : Rule
  drop_passes : Rule
  page_reserved : Rule
  page_logical : Rule
  page_one_zero : Rule
  page_highest : Rule
  page_lone_count : Rule
  page_second_mark : Rule
  page_version_twice : Rule
  place_passes : Rule
  place_too_long : Rule
  place_identifier : Rule
  place_logical_page : Rule
  place_data_page : Rule
  identifier_twice : Rule
  checkpoint_stride_law : Rule
  stride_zero : Rule
  stride_past : Rule
  ends_in_block : Rule
  next_page_erased : Rule
  format_stride_law : Rule
  format_anew : Rule
  no_first_page : Rule
  hold_by_place : Rule
  later_holds : Rule
  drop_unmaps : Rule
  drop_bytes_law : Rule
  rising_versions : Rule
  long_passes : Rule
  long_entered : Rule
  torn_difference : Rule
  torn_below_zero : Rule
  torn_in_scan_order : Rule
  other_plane_law : Rule
  other_plane_full : Rule
  one_plane_order : Rule
  last_plane : Rule
  number_written : Rule
  number_passes : Rule
  number_range : Rule
  number_twice : Rule
  number_lone : Rule
  higher_holds : Rule
  place_two_planes : Rule
  planes_range : Rule
  blocks_range : Rule
  pages_range : Rule
  logical_range : Rule
  spared_blocks : Rule
  format_blocks : Rule
  format_pages : Rule
  format_logical : Rule
  format_spared : Rule
  format_planes : Rule

pub record Row : Type 0 where
  pub rule : Rule
  pub gives : List ℕ
  pub says : List ℕ

abbrev pub Every : List Row → Type 0
Every [] = Unit {0}
Every (r ∷ rs) = (r.gives ≡ r.says) × Every rs

abbrev pub EveryGroup : List (List Row) → Type 0
EveryGroup [] = Unit {0}
EveryGroup (g ∷ gs) = Every g × EveryGroup gs

-- a test as a number: 1 passes, 0 does not
abbrev pub flag : Bool → ℕ
flag true = 1
flag false = 0

-- a signed number: 1 and the number, 0 and how much it is below zero
abbrev pub signed : ℤ → List ℕ
signed (pos n) = 1 ∷ n ∷ []
signed (negsuc n) = 0 ∷ suc n ∷ []

-- a page or block that was found, if one was
abbrev pub found_in : Found → List ℕ
found_in nothing = []
found_in (at k) = k ∷ []

-- the numbers of the three lists, the pointer, then the blocks of the lists
abbrev pub zones_given : Zones → List ℕ
zones_given z = z.na ∷ z.nu ∷ z.nf ∷ z.pointer ∷ listed_in z

abbrev pub taken_given : Taken → List ℕ
taken_given t = length t.available ∷ length t.free ∷ t.pointer ∷ (t.available ++ t.free)

-- ---- small inputs
-- geometries of one plane, and of n
abbrev pub shape : ℕ → ℕ → ℕ → Geometry
shape b p l = record { blocks = b; pages = p; logical = l; planes = 1 }

abbrev pub planed : ℕ → Geometry
planed n = record { blocks = 8; pages = 8; logical = 16; planes = n }

abbrev pub small : Geometry
small = shape 8 8 16

abbrev pub erased_page : List ℕ
erased_page = replicate 528 255

-- a page of the change with this identifier, without a mark
abbrev pub page_of : ℕ → List ℕ
page_of id = data_bytes (replicate 512 0) 0 0 id 0

-- blocks of two pages: both of these changes, or one of it and a clean page
abbrev pub both : ℕ → ℕ → List ℕ
both i j = page_of i ++ page_of j

abbrev pub half : ℕ → List ℕ
half i = page_of i ++ erased_page

-- the front, then blocks 2, 3, 4 of two pages
abbrev pub array3 : List ℕ → List ℕ → List ℕ → List ℕ
array3 x y z = replicate (4 * 528) 255 ++ (x ++ (y ++ z))

abbrev pub empty2 : List ℕ
empty2 = replicate (2 * 528) 255

-- a place of this identifier and count, with these logical pages and page numbers
abbrev pub placed : ℕ → ℕ → List ℕ → List ℕ → Place
placed id n ls ps = record { id = id; count = n; lpns = pad_to 64 ls; ppns = pad_to 64 ps; drops = replicate 64 false }

-- what a checkpoint makes of zones with the pointer at 4
abbrev pub slid : List ℕ → List Place → List ℕ → List ℕ → List ℕ → List ℕ
slid xs ps a u f = zones_given (slide (shape 8 2 1) xs ps (zones_of a u f 4))

-- a page of zeros with this spare area
abbrev pub zoned : Spare → List ℕ
zoned s = page_bytes (replicate 512 0) s

abbrev pub completes : Spare → ℕ
completes s = flag (complete_at (zoned s) 0 0)

-- whether refusal 3 passes map entries of two logical pages and an unused one, and the bytes of a zone page
abbrev pub loads : List ℕ → List ℕ → ℕ
loads entries z = flag (load_ok (shape 8 8 2) entries z)

abbrev pub map_fine : List ℕ
map_fine = 16 ∷ 65535 ∷ 65535 ∷ []

abbrev pub zone_fine : List ℕ
zone_fine = 0 ∷ 0 ∷ 0 ∷ 0 ∷ 5 ∷ 2 ∷ 1 ∷ 2 ∷ 3 ∷ 2 ∷ 4 ∷ 5 ∷ 6 ∷ 0 ∷ 0 ∷ []

-- a scanned page
abbrev pub entry : ℕ → ℕ → ℕ → ℕ → Entry
entry lpn cnt id ver = record { ppn = 16; lpn = lpn; cnt = cnt; id = id; ver = ver; kind = 0; reserved = 0 }

-- one of this kind, of logical page 3
abbrev pub of_kind : ℕ → ℕ → ℕ → ℕ → Entry
of_kind kind cnt id ver = record { ppn = 17; lpn = 3; cnt = cnt; id = id; ver = ver; kind = kind; reserved = 0 }

-- whether refusal 4 passes it, L being 16, after those seen
abbrev pub good : List Entry → Entry → ℕ
good seen e = flag (entry_good 1 16 seen e)

-- the scan of a change of n pages, k of them from logical page i on: logical page i on page 16 + i, the last being the mark
abbrev pub change_from : ℕ → ℕ → ℕ → List Entry
change_from n i zero = []
change_from n i (suc k) = record { ppn = 16 + i; lpn = i; cnt = cond (eqb k 0) n 0; id = 5; ver = cond (eqb k 0) 1 0; kind = 0; reserved = 0 } ∷ change_from n (suc i) k

abbrev pub change_of : ℕ → List Entry
change_of n = change_from n 0 n

-- whether refusal 1 passes a checkpoint under way: front block, first page, pages programmed
abbrev pub strides : ℕ → ℕ → ℕ → List ℕ → ℕ
strides f q k xs = flag (checkpoint_stride_ok small xs f q k)

abbrev pub versions_of : List Entry → List ℕ
versions_of [] = []
versions_of (e ∷ es) = e.ver ∷ versions_of es

abbrev pub spare_given : Spare → List ℕ
spare_given s = s.lpn ∷ s.cnt ∷ s.id ∷ s.ver ∷ s.kind ∷ s.reserved ∷ []

abbrev pub erased3 : List ℕ
erased3 = replicate (3 * 528) 255

abbrev pub used1 : List ℕ
used1 = replicate 528 255 ++ (replicate 528 0 ++ replicate 528 255)

abbrev pub format_strides : ℕ → List ℕ → ℕ
format_strides k xs = flag (format_stride_ok small xs k)

-- a format of this geometry under way, k strides done
abbrev pub striding : Geometry → ℕ → World
striding g k = record { array = []; map = []; hold = []; state = with_work (fresh_state g) 0 0 (Format k) }

abbrev pub two_held : List ℕ
two_held = replicate 512 0 ++ replicate 512 1

abbrev pub in_range : ℕ → ℕ → ℕ → ℕ
in_range b p l = flag (geometry_ok (shape b p l))

abbrev pub formats : Geometry → List ℕ
formats g = (plan (format g) (lent g)).answer ∷ []

-- ---- zones: free blocks, the pointer, what a checkpoint moves
abbrev pub free_rows : List Row
free_rows =
    record { rule = pointer_wraps; gives = past_block small 6 ∷ past_block small 7 ∷ []; says = 7 ∷ 2 ∷ [] }
    ∷ record { rule = free_from_pointer; gives = free_index 3 (2 ∷ 5 ∷ 6 ∷ []) ∷ free_index 5 (2 ∷ 5 ∷ 6 ∷ []) ∷ []; says = 1 ∷ 1 ∷ [] }
    ∷ record { rule = free_wraps_to_first; gives = free_index 7 (3 ∷ 5 ∷ 6 ∷ []) ∷ []; says = 0 ∷ [] }
    ∷ record {
      rule = refilled_to_three;
      gives = taken_given (refill small 3 (record { available = 4 ∷ []; free = 3 ∷ 5 ∷ 7 ∷ []; pointer = 6 }));
      says = 3 ∷ 1 ∷ 4 ∷ 4 ∷ 7 ∷ 3 ∷ 5 ∷ [];
    }
    ∷ record {
      rule = refilled_from_few;
      gives = taken_given (refill small 3 (record { available = 4 ∷ []; free = 3 ∷ []; pointer = 6 }));
      says = 2 ∷ 0 ∷ 4 ∷ 4 ∷ 3 ∷ [];
    }
    ∷ []

abbrev pub slide_rows : List Row
slide_rows =
    record { rule = judged_again; gives = slid (array3 (both 5 5) (half 7) empty2) [] (3 ∷ []) (2 ∷ []) (4 ∷ []); says = 2 ∷ 0 ∷ 0 ∷ 5 ∷ 3 ∷ 4 ∷ [] }
    ∷ record { rule = near_kept; gives = slid (array3 (both 7 5) (half 5) empty2) [] (2 ∷ 3 ∷ []) [] (4 ∷ []); says = 2 ∷ 1 ∷ 0 ∷ 5 ∷ 3 ∷ 4 ∷ 2 ∷ [] }
    ∷ record { rule = leaving_not_near; gives = slid (array3 (both 5 5) (both 5 5) empty2) [] (2 ∷ 3 ∷ []) [] (4 ∷ []); says = 1 ∷ 0 ∷ 0 ∷ 5 ∷ 4 ∷ [] }
    ∷ record { rule = active_kept; gives = slid (array3 (both 5 7) (half 9) empty2) (placed 7 0 [] [] ∷ []) (2 ∷ 3 ∷ []) [] (4 ∷ []); says = 2 ∷ 1 ∷ 0 ∷ 5 ∷ 3 ∷ 4 ∷ 2 ∷ [] }
    ∷ record { rule = lone_by_itself; gives = slid (array3 (both 0 0) (half 0) empty2) (free_place ∷ []) (2 ∷ 3 ∷ []) [] (4 ∷ []); says = 2 ∷ 0 ∷ 0 ∷ 5 ∷ 3 ∷ 4 ∷ [] }
    ∷ record {
      rule = leavers_last;
      gives = slid (array3 (both 7 7) (both 7 7) (both 7 7)) (placed 7 0 [] [] ∷ []) (3 ∷ 2 ∷ []) (4 ∷ []) [];
      says = 0 ∷ 3 ∷ 0 ∷ 4 ∷ 4 ∷ 3 ∷ 2 ∷ [];
    }
    ∷ []

abbrev pub reclaim_rows : List Row
reclaim_rows =
    record { rule = reclaim_ties; gives = found_in (pick_from (zones_of (4 ∷ 5 ∷ []) [] (6 ∷ 7 ∷ []) 2) (24 ∷ 16 ∷ []) 8 2 6 nothing); says = 2 ∷ [] }
    ∷ record { rule = reclaim_fewest; gives = found_in (pick_from (zones_of (5 ∷ []) [] (6 ∷ 7 ∷ []) 2) (24 ∷ 16 ∷ 23 ∷ 32 ∷ 33 ∷ []) 8 2 6 nothing); says = 3 ∷ [] }
    ∷ record { rule = reclaim_checkpointed; gives = found_in (pick_from (zones_of (2 ∷ []) (3 ∷ []) (4 ∷ []) 2) [] 8 2 6 nothing); says = 5 ∷ [] }
    ∷ record { rule = copies_lowest; gives = lowest_from (20 ∷ 65535 ∷ 18 ∷ 9 ∷ []) 16 8 ∷ mapped_in (15 ∷ 16 ∷ 23 ∷ 24 ∷ []) 8 2 ∷ []; says = 18 ∷ 2 ∷ [] }
    ∷ []

-- ---- the pages of a checkpoint
abbrev pub checkpoint_rows : List Row
checkpoint_rows =
    record {
      rule = zone_counts_written;
      gives = flag (all (eqb 0) (drop 14 (zone_data 0x04030201 (zones_of (2 ∷ []) (3 ∷ 4 ∷ []) (5 ∷ 6 ∷ 7 ∷ []) 6))))
          ∷ take 14 (zone_data 0x04030201 (zones_of (2 ∷ []) (3 ∷ 4 ∷ []) (5 ∷ 6 ∷ 7 ∷ []) 6));
      says = 1 ∷ 1 ∷ 2 ∷ 3 ∷ 4 ∷ 6 ∷ 1 ∷ 2 ∷ 3 ∷ 2 ∷ 3 ∷ 4 ∷ 5 ∷ 6 ∷ 7 ∷ [];
    }
    ∷ record {
      rule = zone_counts_read;
      gives = zones_given (zones_in (1 ∷ 2 ∷ 3 ∷ 4 ∷ 6 ∷ 1 ∷ 2 ∷ 3 ∷ 2 ∷ 3 ∷ 4 ∷ 5 ∷ 6 ∷ 7 ∷ 0 ∷ []));
      says = 1 ∷ 2 ∷ 3 ∷ 6 ∷ 2 ∷ 3 ∷ 4 ∷ 5 ∷ 6 ∷ 7 ∷ [];
    }
    ∷ record {
      rule = kind_reserved_written;
      gives = spare_bytes (record { lpn = 0x0102; cnt = 0x0304; id = 0x05060708; ver = 0x090A0B0C; kind = 0x0D; reserved = 0x0E });
      says = 0x02 ∷ 0x01 ∷ 0x04 ∷ 0x03 ∷ 0x08 ∷ 0x07 ∷ 0x06 ∷ 0x05 ∷ 0x0C ∷ 0x0B ∷ 0x0A ∷ 0x09 ∷ 0x0D ∷ 0x0E ∷ [];
    }
    ∷ record {
      rule = spare_read;
      gives = spare_given (spare_of (replicate 512 0 ++ (0x02 ∷ 0x01 ∷ 0x04 ∷ 0x03 ∷ 0x08 ∷ 0x07 ∷ 0x06 ∷ 0x05 ∷ 0x0C ∷ 0x0B ∷ 0x0A ∷ 0x09 ∷ 0x0D ∷ 0x0E ∷ 0 ∷ 0 ∷ [])));
      says = 0x0102 ∷ 0x0304 ∷ 0x05060708 ∷ 0x090A0B0C ∷ 0x0D ∷ 0x0E ∷ [];
    }
    ∷ record { rule = map_spare_law; gives = spare_given (map_spare 3 9); says = 3 ∷ 0 ∷ 0 ∷ 9 ∷ 1 ∷ 0 ∷ [] }
    ∷ record { rule = zone_spare_law; gives = spare_given (zone_spare 3 9); says = 3 ∷ 4 ∷ 0 ∷ 9 ∷ 2 ∷ 0 ∷ [] }
    ∷ record { rule = map_unused; gives = map_bytes (0x0102 ∷ []) 0 2; says = 0x02 ∷ 0x01 ∷ 0xFF ∷ 0xFF ∷ [] }
    ∷ []

-- two front blocks of one page, with zone pages alone
abbrev pub newest_rows : List Row
newest_rows =
    record { rule = newest_first; gives = found_in (newest (zoned (zone_spare 0 4) ++ zoned (zone_spare 0 4)) 0 1); says = 0 ∷ [] }
    ∷ record { rule = newest_highest; gives = found_in (newest (zoned (zone_spare 0 4) ++ zoned (zone_spare 0 5)) 0 1); says = 1 ∷ [] }
    ∷ record { rule = newest_highest; gives = found_in (newest (zoned (zone_spare 0 5) ++ zoned (zone_spare 0 4)) 0 1); says = 0 ∷ [] }
    ∷ record {
      rule = complete_spare;
      gives = completes (record { lpn = 0; cnt = 1; id = 0; ver = 4; kind = 2; reserved = 0 })
          ∷ completes (record { lpn = 1; cnt = 1; id = 0; ver = 4; kind = 2; reserved = 0 })
          ∷ completes (record { lpn = 0; cnt = 0; id = 0; ver = 4; kind = 2; reserved = 0 })
          ∷ completes (record { lpn = 0; cnt = 1; id = 1; ver = 4; kind = 2; reserved = 0 })
          ∷ completes (record { lpn = 0; cnt = 1; id = 0; ver = 4; kind = 1; reserved = 0 })
          ∷ completes (record { lpn = 0; cnt = 1; id = 0; ver = 4; kind = 2; reserved = 1 })
          ∷ [];
      says = 1 ∷ 0 ∷ 0 ∷ 0 ∷ 0 ∷ 0 ∷ [];
    }
    ∷ []

-- ---- refusal 3: what passes, then a row for each clause
abbrev pub load_rows : List Row
load_rows =
    record { rule = load_passes; gives = loads map_fine zone_fine ∷ []; says = 1 ∷ [] }
    ∷ record { rule = load_map_outside; gives = loads (15 ∷ 65535 ∷ 65535 ∷ []) zone_fine ∷ loads (64 ∷ 65535 ∷ 65535 ∷ []) zone_fine ∷ loads (63 ∷ 65535 ∷ 65535 ∷ []) zone_fine ∷ []; says = 0 ∷ 0 ∷ 1 ∷ [] }
    ∷ record { rule = load_map_repeated; gives = loads (16 ∷ 16 ∷ 65535 ∷ []) zone_fine ∷ []; says = 0 ∷ [] }
    ∷ record { rule = load_unused_entry; gives = loads (16 ∷ 65535 ∷ 17 ∷ []) zone_fine ∷ []; says = 0 ∷ [] }
    ∷ record {
      rule = load_counts;
      gives = flag (zone_lists_ok small 3 3 1 (2 ∷ 3 ∷ 4 ∷ []) (5 ∷ 6 ∷ []) (7 ∷ []) 5) ∷ flag (zone_lists_ok small 3 2 1 (2 ∷ 3 ∷ 4 ∷ []) (5 ∷ 6 ∷ []) (7 ∷ []) 5) ∷ [];
      says = 0 ∷ 1 ∷ [];
    }
    ∷ record {
      rule = load_pointer;
      gives = loads map_fine (set zone_fine 4 1) ∷ loads map_fine (set zone_fine 4 8) ∷ loads map_fine (set zone_fine 4 2) ∷ loads map_fine (set zone_fine 4 7) ∷ [];
      says = 0 ∷ 0 ∷ 1 ∷ 1 ∷ [];
    }
    ∷ record { rule = load_block_outside; gives = loads map_fine (set zone_fine 8 1) ∷ loads map_fine (set zone_fine 8 8) ∷ loads map_fine (set zone_fine 8 7) ∷ []; says = 0 ∷ 0 ∷ 1 ∷ [] }
    ∷ record { rule = load_block_repeated; gives = loads map_fine (set zone_fine 8 4) ∷ []; says = 0 ∷ [] }
    ∷ record { rule = load_four_available; gives = loads map_fine (0 ∷ 0 ∷ 0 ∷ 0 ∷ 5 ∷ 4 ∷ 0 ∷ 0 ∷ 2 ∷ 3 ∷ 4 ∷ 5 ∷ []) ∷ []; says = 0 ∷ [] }
    ∷ record { rule = load_not_ascending; gives = loads map_fine (set (set zone_fine 11 6) 12 5) ∷ []; says = 0 ∷ [] }
    ∷ record { rule = load_rest; gives = loads map_fine (set zone_fine 13 1) ∷ loads map_fine (set zone_fine 14 1) ∷ []; says = 0 ∷ 0 ∷ [] }
    ∷ []

-- ---- refusal 4: what passes, then a row for each clause
abbrev pub page_rows : List Row
page_rows =
    record {
      rule = page_passes;
      gives = good [] (entry 15 0 5 0) ∷ good (entry 3 0 5 0 ∷ []) (entry 3 2 5 7) ∷ good (entry 3 1 0 6 ∷ []) (entry 3 1 0 0xFFFFFFFE) ∷ [];
      says = 1 ∷ 1 ∷ 1 ∷ [];
    }
    ∷ record { rule = page_kind_law; gives = good [] (of_kind 1 1 0 7) ∷ good [] (of_kind 2 1 0 7) ∷ good [] (of_kind 4 1 0 7) ∷ good [] (of_kind 255 1 0 7) ∷ []; says = 0 ∷ 0 ∷ 0 ∷ 0 ∷ [] }
    ∷ record { rule = drop_passes; gives = good [] (of_kind 3 0 5 0) ∷ good [] (of_kind 3 2 5 7) ∷ good [] (of_kind 3 1 0 7) ∷ good [] (of_kind 3 2 0 7) ∷ []; says = 1 ∷ 1 ∷ 1 ∷ 0 ∷ [] }
    ∷ record { rule = page_reserved; gives = flag (entry_good 1 16 [] (record { ppn = 16; lpn = 3; cnt = 1; id = 0; ver = 7; kind = 0; reserved = 1 })) ∷ []; says = 0 ∷ [] }
    ∷ record { rule = page_logical; gives = good [] (entry 16 1 0 7) ∷ []; says = 0 ∷ [] }
    ∷ record { rule = page_one_zero; gives = good [] (entry 3 0 5 7) ∷ good [] (entry 3 1 5 0) ∷ []; says = 0 ∷ 0 ∷ [] }
    ∷ record { rule = page_highest; gives = good [] (entry 3 1 0xFFFFFFFF 7) ∷ good [] (entry 3 1 5 0xFFFFFFFF) ∷ []; says = 0 ∷ 0 ∷ [] }
    ∷ record { rule = page_lone_count; gives = good [] (entry 3 2 0 7) ∷ good [] (entry 3 0 0 0) ∷ []; says = 0 ∷ 0 ∷ [] }
    ∷ record { rule = page_second_mark; gives = good (entry 3 2 5 7 ∷ []) (entry 3 2 5 8) ∷ good (entry 3 2 5 7 ∷ []) (entry 3 2 6 8) ∷ []; says = 0 ∷ 1 ∷ [] }
    ∷ record { rule = page_version_twice; gives = good (entry 3 2 5 7 ∷ []) (entry 3 2 6 7) ∷ good (entry 3 1 0 7 ∷ []) (entry 3 1 0 7) ∷ []; says = 0 ∷ 0 ∷ [] }
    ∷ []

-- ---- refusal 1: places, strides under way
abbrev pub place_rows : List Row
place_rows =
    record {
      rule = place_passes;
      gives = flag (place_ok small free_place) ∷ flag (place_ok small (placed 5 2 (15 ∷ 0 ∷ []) (16 ∷ []))) ∷ flag (place_ok small (placed 5 1 (3 ∷ []) [])) ∷ flag (place_ok small (placed 5 64 [] (replicate 63 63))) ∷ [];
      says = 1 ∷ 1 ∷ 1 ∷ 1 ∷ [];
    }
    ∷ record { rule = place_too_long; gives = flag (place_ok small (placed 5 65 [] (replicate 64 63))) ∷ []; says = 0 ∷ [] }
    ∷ record { rule = place_identifier; gives = flag (place_ok small (placed 0 1 [] [])) ∷ flag (place_ok small (placed 0xFFFFFFFF 0 [] [])) ∷ []; says = 0 ∷ 0 ∷ [] }
    ∷ record { rule = place_logical_page; gives = flag (place_ok small (placed 5 1 (16 ∷ []) [])) ∷ []; says = 0 ∷ [] }
    ∷ record {
      rule = place_data_page;
      gives = flag (place_ok small (placed 5 2 [] (15 ∷ []))) ∷ flag (place_ok small (placed 5 2 [] (64 ∷ []))) ∷ flag (place_ok small (placed 5 3 [] (16 ∷ 0 ∷ []))) ∷ [];
      says = 0 ∷ 0 ∷ 0 ∷ [];
    }
    ∷ record {
      rule = identifier_twice;
      gives = flag (places_ok small (placed 5 0 [] [] ∷ free_place ∷ placed 5 0 [] [] ∷ [])) ∷ flag (places_ok small (placed 5 0 [] [] ∷ free_place ∷ placed 6 0 [] [] ∷ free_place ∷ [])) ∷ [];
      says = 0 ∷ 1 ∷ [];
    }
    ∷ []

-- M is 1; pages 0 to 2 of block 0, of which all or all but page 1 are erased
abbrev pub stride_rows : List Row
stride_rows =
    record { rule = checkpoint_stride_law; gives = strides 0 0 0 erased3 ∷ strides 0 0 1 erased3 ∷ strides 0 1 1 erased3 ∷ []; says = 1 ∷ 1 ∷ 1 ∷ [] }
    ∷ record { rule = stride_zero; gives = strides 0 1 0 erased3 ∷ []; says = 0 ∷ [] }
    ∷ record { rule = stride_past; gives = strides 0 0 2 erased3 ∷ []; says = 0 ∷ [] }
    ∷ record { rule = ends_in_block; gives = strides 0 6 1 [] ∷ strides 0 7 1 [] ∷ []; says = 1 ∷ 0 ∷ [] }
    ∷ record { rule = next_page_erased; gives = strides 0 0 0 used1 ∷ strides 0 0 1 used1 ∷ []; says = 1 ∷ 0 ∷ [] }
    ∷ record {
      rule = format_stride_law;
      gives = format_strides 0 erased3 ∷ format_strides 1 used1 ∷ format_strides 8 used1 ∷ format_strides 9 used1 ∷ format_strides 9 erased3 ∷ format_strides 10 erased3 ∷ [];
      says = 0 ∷ 1 ∷ 1 ∷ 0 ∷ 1 ∷ 0 ∷ [];
    }
    ∷ record {
      rule = format_anew;
      gives = flag (format_work_ok small (striding (shape 9 8 8) 99) (Format 99)) ∷ flag (format_work_ok small (striding small 99) (Format 99))
          ∷ strides_done small (striding (shape 9 8 8) 3).state (Format 3) ∷ strides_done small (striding small 3).state (Format 3)
          ∷ strides_done (planed 2) (striding small 3).state (Format 3) ∷ [];
      says = 1 ∷ 0 ∷ 0 ∷ 3 ∷ 0 ∷ [];
    }
    ∷ record {
      rule = no_first_page;
      gives = flag (work_ok (with_work (fresh_state small) 0 1 Idle) [] Idle) ∷ flag (work_ok (with_work (fresh_state small) 0 1 Reclaim) [] Reclaim)
          ∷ flag (work_ok (with_work (fresh_state small) 0 1 (Format 1)) [] (Format 1)) ∷ flag (work_ok (with_work (fresh_state small) 0 0 (Format 1)) [] (Format 1)) ∷ [];
      says = 0 ∷ 0 ∷ 0 ∷ 1 ∷ [];
    }
    ∷ []

-- ---- transactions
abbrev pub change_rows : List Row
change_rows =
    record { rule = hold_by_place; gives = take 2 (held_at 1 two_held) ++ (take 2 (drop 511 (hold_with two_held 1 (replicate 512 9))) ++ (length (hold_with two_held 1 (replicate 512 9)) ∷ [])); says = 1 ∷ 1 ∷ 0 ∷ 9 ∷ 1024 ∷ [] }
    ∷ record { rule = later_holds; gives = entered (65535 ∷ 65535 ∷ []) (1 ∷ 1 ∷ []) (16 ∷ 17 ∷ []) (false ∷ false ∷ []) 2; says = 65535 ∷ 17 ∷ [] }
    ∷ record { rule = rising_versions; gives = versions_of (applied 1 0 (entry 3 1 0 2 ∷ entry 3 1 0 1 ∷ [])); says = 1 ∷ 2 ∷ [] }
    ∷ []

-- ---- drops: document 02, "Applied at commit or recovery, it unmaps"; logical pages 0 and 1 are mapped, and the change has page 20 and 21
-- at commit: of one page each; one page dropped and then written, and written and then dropped
abbrev pub drop_rows : List Row
drop_rows =
    record { rule = drop_unmaps; gives = entered (16 ∷ 17 ∷ []) (0 ∷ 1 ∷ []) (20 ∷ 21 ∷ []) (true ∷ false ∷ []) 2; says = 65535 ∷ 21 ∷ [] }
    ∷ record { rule = drop_unmaps; gives = entered (16 ∷ 17 ∷ []) (1 ∷ 1 ∷ []) (20 ∷ 21 ∷ []) (true ∷ false ∷ []) 2; says = 16 ∷ 21 ∷ [] }
    ∷ record { rule = drop_unmaps; gives = entered (16 ∷ 17 ∷ []) (1 ∷ 1 ∷ []) (20 ∷ 21 ∷ []) (false ∷ true ∷ []) 2; says = 16 ∷ 65535 ∷ [] }
    -- at recovery: a change whose mark is a drop, and one whose mark counts a page too many
    ∷ record { rule = drop_unmaps; gives = redone 1 0 (entry 1 0 5 0 ∷ of_kind 3 2 5 7 ∷ []) (16 ∷ 17 ∷ 18 ∷ 19 ∷ []); says = 16 ∷ 16 ∷ 18 ∷ 65535 ∷ [] }
    ∷ record { rule = drop_unmaps; gives = redone 1 0 (entry 1 0 5 0 ∷ of_kind 3 3 5 7 ∷ []) (16 ∷ 17 ∷ 18 ∷ 19 ∷ []); says = 16 ∷ 17 ∷ 18 ∷ 19 ∷ [] }
    -- "a page of Kind 3, data all 0xFF": whether they are, and the spare area, with its 103 Zeros
    ∷ record {
      rule = drop_bytes_law;
      gives = flag (all_ff (take 512 (change_bytes gone true 3 1 7 1 0))) ∷ drop 512 (change_bytes gone true 3 1 7 1 0);
      says = 1 ∷ 3 ∷ 0 ∷ 1 ∷ 0 ∷ 7 ∷ 0 ∷ 0 ∷ 0 ∷ 1 ∷ 0 ∷ 0 ∷ 0 ∷ 3 ∷ 0 ∷ 103 ∷ 0 ∷ [];
    }
    ∷ []

-- ---- a committed change of 41 pages, or more, in a scan: document 02, "must still recover in full"
abbrev pub long_rows : List Row
long_rows =
    record {
      rule = long_passes;
      gives = flag (pages_good 1 80 (change_of 41)) ∷ flag (pages_good 1 80 (change_of 42)) ∷ flag (pages_good 1 80 (change_of 64)) ∷ flag (pages_good 1 80 (change_of 65)) ∷ [];
      says = 1 ∷ 1 ∷ 1 ∷ 1 ∷ [];
    }
    ∷ record { rule = long_entered; gives = redone 1 0 (change_of 64) (replicate 64 65535); says = up_from 16 64 }
    ∷ []

-- ---- how torn a page is: document 02, "the difference Zeros minus counted zero bits"
-- a page whose program was cut before the bit of this value in the byte at i was turned
abbrev pub left : ℕ → ℕ → List ℕ
left i bit = set (page_of 5) i (get_or (page_of 5) i 0 + bit)

-- a bit of the data, of TxID, of Zeros: each counts by its value in Zeros, every other as one
abbrev pub torn_rows : List Row
torn_rows =
    record { rule = torn_difference; gives = signed (torn_by (left 0 128)) ++ (signed (torn_by (left 517 1)) ++ signed (torn_by (left 527 128))); says = 1 ∷ 1 ∷ 1 ∷ 1 ∷ 1 ∷ 32768 ∷ [] }
    ∷ record { rule = torn_difference; gives = signed (torn_by (replicate 526 255 ++ (254 ∷ 255 ∷ []))); says = 1 ∷ 65534 ∷ [] }
    ∷ record { rule = torn_below_zero; gives = signed (torn_by (replicate 528 0)) ++ signed (torn_by (set (page_of 5) 516 4)); says = 0 ∷ 4208 ∷ 0 ∷ 1 ∷ [] }
    ∷ []

-- blocks of two pages: 3 unavailable, 4 and 2 available; then the same with 4 free, and with 3 in no list
abbrev pub torn_scan_rows : List Row
torn_scan_rows =
    record {
      rule = torn_in_scan_order;
      gives =
          torn_of some_torn 2 (zones_of (4 ∷ 2 ∷ []) (3 ∷ []) [] 2)
          ∷ torn_of some_torn 2 (zones_of (2 ∷ []) (3 ∷ []) (4 ∷ []) 2)
          ∷ torn_of some_torn 2 (zones_of (2 ∷ 4 ∷ []) [] [] 2)
          ∷ [];
      says = 3 ∷ 2 ∷ 1 ∷ [];
    }
    ∷ []
  where
    -- 2: a whole page and an erased one; 3: two torn ones; 4: an erased and a torn one; a torn one in the front
    some_torn : List ℕ
    some_torn = left 0 128 ++ (replicate (3 * 528) 255 ++ (half 5 ++ ((left 0 128 ++ replicate 528 0) ++ (erased_page ++ left 527 1))))

-- ---- two planes: document 02, "the next data block page comes from the other plane than the last, if it has clean pages"
-- blocks of two pages on two planes
abbrev pub twin : Geometry
twin = record { blocks = 8; pages = 2; logical = 1; planes = 2 }

-- the blocks 2, 3, 4 from which the next page is taken
abbrev pub taken : Geometry → Plane → List ℕ → List ℕ → List ℕ → List ℕ
taken g last x y z = taken_from g last (array3 x y z) (2 ∷ 3 ∷ 4 ∷ [])

-- 0 neither, 1 even, 2 odd
abbrev pub plane_number : Plane → ℕ
plane_number Neither = 0
plane_number Even = 1
plane_number Odd = 2

abbrev pub last_after : Geometry → ℕ → ℕ
last_after g b = plane_number (with_last (fresh_state g) b).last

-- a scanned page with a write number, and whether refusal 4 passes it on two planes
abbrev pub nth : ℕ → ℕ → ℕ → ℕ → Entry
nth n cnt id ver = record { ppn = 16 + n; lpn = 1; cnt = cnt; id = id; ver = ver; kind = 0; reserved = n }

abbrev pub good_two : List Entry → Entry → ℕ
good_two seen e = flag (entry_good 2 16 seen e)

abbrev pub plane_rows : List Row
plane_rows =
    record { rule = other_plane_law; gives = taken twin Even empty2 empty2 empty2 ++ taken twin Odd empty2 empty2 empty2; says = 3 ∷ 2 ∷ 4 ∷ [] }
    ∷ record { rule = other_plane_law; gives = next_in (array3 (both 5 5) empty2 (half 5)) 2 (taken twin Odd (both 5 5) empty2 (half 5)) ∷ []; says = 9 ∷ [] }
    ∷ record { rule = other_plane_full; gives = taken twin Even empty2 (both 5 5) empty2; says = 2 ∷ 3 ∷ 4 ∷ [] }
    ∷ record { rule = one_plane_order; gives = taken (shape 8 2 1) Even empty2 empty2 empty2 ++ taken twin Neither empty2 empty2 empty2; says = 2 ∷ 3 ∷ 4 ∷ 2 ∷ 3 ∷ 4 ∷ [] }
    ∷ record { rule = place_two_planes; gives = flag (place_ok (planed 2) (placed 5 41 [] (replicate 40 63))) ∷ flag (place_ok (planed 2) (placed 5 42 [] (replicate 41 63))) ∷ []; says = 1 ∷ 0 ∷ [] }
    ∷ []

-- the plane of the last data block page
abbrev pub last_rows : List Row
last_rows = record { rule = last_plane; gives = last_after (planed 2) 4 ∷ last_after (planed 2) 5 ∷ last_after small 5 ∷ []; says = 1 ∷ 2 ∷ 0 ∷ [] } ∷ []

-- "Reserved becomes the write number within the transaction, 1 to 41": of the fifth page of a change, and of a lone page
abbrev pub number_rows : List Row
number_rows =
    record {
      rule = number_written;
      gives = get_or (change_bytes gone true 3 1 7 1 (number_of (planed 2) 5)) 525 0 ∷ get_or (change_bytes gone true 3 1 7 1 (number_of small 5)) 525 0 ∷ get_or (data_bytes gone 3 1 0 1) 525 7 ∷ [];
      says = 5 ∷ 0 ∷ 0 ∷ [];
    }
    ∷ []

-- refusal 4 of write numbers
abbrev pub numbered_rows : List Row
numbered_rows =
    record {
      rule = number_passes;
      gives = good_two [] (nth 1 0 5 0) ∷ good_two [] (nth 41 0 5 0) ∷ good_two (nth 2 2 5 7 ∷ []) (nth 1 0 5 0) ∷ good_two (nth 1 0 6 0 ∷ []) (nth 1 0 5 0) ∷ good_two [] (nth 0 1 0 7) ∷ [];
      says = 1 ∷ 1 ∷ 1 ∷ 1 ∷ 1 ∷ [];
    }
    ∷ record { rule = number_range; gives = good_two [] (nth 0 0 5 0) ∷ good_two [] (nth 42 0 5 0) ∷ []; says = 0 ∷ 0 ∷ [] }
    ∷ record { rule = number_twice; gives = good_two (nth 3 0 5 0 ∷ []) (nth 3 2 5 7) ∷ good_two (nth 3 0 5 0 ∷ nth 1 0 5 0 ∷ []) (nth 3 0 5 0) ∷ []; says = 0 ∷ 0 ∷ [] }
    ∷ record { rule = number_lone; gives = good_two [] (nth 1 1 0 7) ∷ good [] (nth 1 0 5 0) ∷ []; says = 0 ∷ 0 ∷ [] }
    ∷ []

-- the page with number 1 is scanned behind the mark, which has number 2; on one plane the later would hold
abbrev pub turn_rows : List Row
turn_rows =
    record { rule = higher_holds; gives = redone 2 0 (nth 2 2 5 7 ∷ nth 1 0 5 0 ∷ []) (65535 ∷ 65535 ∷ []); says = 65535 ∷ 18 ∷ [] }
    ∷ []

-- ---- geometry: the bounds, and a format of buffers that fit
abbrev pub geometry_rows : List Row
geometry_rows =
    record { rule = blocks_range; gives = in_range 7 8 8 ∷ in_range 8 8 8 ∷ in_range 128 8 8 ∷ in_range 129 8 8 ∷ []; says = 0 ∷ 1 ∷ 1 ∷ 0 ∷ [] }
    ∷ record { rule = pages_range; gives = in_range 8 7 8 ∷ in_range 8 8 8 ∷ in_range 8 64 8 ∷ in_range 8 65 8 ∷ []; says = 0 ∷ 1 ∷ 1 ∷ 0 ∷ [] }
    ∷ record { rule = logical_range; gives = in_range 128 64 0 ∷ in_range 128 64 1 ∷ in_range 128 64 1024 ∷ in_range 128 64 1025 ∷ []; says = 0 ∷ 1 ∷ 1 ∷ 0 ∷ [] }
    ∷ record { rule = planes_range; gives = flag (geometry_ok (planed 0)) ∷ flag (geometry_ok (planed 1)) ∷ flag (geometry_ok (planed 2)) ∷ flag (geometry_ok (planed 3)) ∷ []; says = 0 ∷ 1 ∷ 1 ∷ 0 ∷ [] }
    ∷ record { rule = spared_blocks; gives = in_range 8 8 16 ∷ in_range 8 8 17 ∷ in_range 16 10 100 ∷ in_range 16 10 101 ∷ []; says = 1 ∷ 0 ∷ 1 ∷ 0 ∷ [] }
    ∷ []

abbrev pub format_rows : List Row
format_rows =
    record { rule = format_blocks; gives = formats (shape 7 8 8); says = 1 ∷ [] }
    ∷ record { rule = format_blocks; gives = formats (shape 8 8 8); says = 255 ∷ [] }
    ∷ record { rule = format_blocks; gives = formats (shape 128 8 8); says = 255 ∷ [] }
    ∷ record { rule = format_blocks; gives = formats (shape 129 8 8); says = 1 ∷ [] }
    ∷ record { rule = format_pages; gives = formats (shape 8 7 8); says = 1 ∷ [] }
    ∷ record { rule = format_pages; gives = formats (shape 8 64 8); says = 255 ∷ [] }
    ∷ record { rule = format_pages; gives = formats (shape 8 65 8); says = 1 ∷ [] }
    ∷ record { rule = format_logical; gives = formats (shape 128 64 0); says = 1 ∷ [] }
    ∷ record { rule = format_logical; gives = formats (shape 128 64 1); says = 255 ∷ [] }
    ∷ record { rule = format_logical; gives = formats (shape 128 64 1024); says = 255 ∷ [] }
    ∷ record { rule = format_logical; gives = formats (shape 128 64 1025); says = 1 ∷ [] }
    ∷ record { rule = format_spared; gives = formats (shape 8 8 16); says = 255 ∷ [] }
    ∷ record { rule = format_spared; gives = formats (shape 8 8 17); says = 1 ∷ [] }
    ∷ record { rule = format_planes; gives = formats (planed 0); says = 1 ∷ [] }
    ∷ record { rule = format_planes; gives = formats (planed 2); says = 255 ∷ [] }
    ∷ record { rule = format_planes; gives = formats (planed 3); says = 1 ∷ [] }
    ∷ []

-- ---- every row holds
free_rows_law : Every free_rows
unfolding go
free_rows_law = (refl, (refl, (refl, (refl, (refl, tt)))))

slide_rows_law : Every slide_rows
unfolding go
slide_rows_law = (refl, (refl, (refl, (refl, (refl, (refl, tt))))))

reclaim_rows_law : Every reclaim_rows
unfolding go
reclaim_rows_law = (refl, (refl, (refl, (refl, tt))))

checkpoint_rows_law : Every checkpoint_rows
unfolding go
checkpoint_rows_law = (refl, (refl, (refl, (refl, (refl, (refl, (refl, tt)))))))

newest_rows_law : Every newest_rows
unfolding go
newest_rows_law = (refl, (refl, (refl, (refl, tt))))

load_rows_law : Every load_rows
unfolding go
load_rows_law = (refl, (refl, (refl, (refl, (refl, (refl, (refl, (refl, (refl, (refl, (refl, tt)))))))))))

page_rows_law : Every page_rows
unfolding go
page_rows_law = (refl, (refl, (refl, (refl, (refl, (refl, (refl, (refl, (refl, (refl, tt))))))))))

place_rows_law : Every place_rows
unfolding go
place_rows_law = (refl, (refl, (refl, (refl, (refl, (refl, tt))))))

stride_rows_law : Every stride_rows
unfolding go
stride_rows_law = (refl, (refl, (refl, (refl, (refl, (refl, (refl, (refl, tt))))))))

change_rows_law : Every change_rows
unfolding go
change_rows_law = (refl, (refl, (refl, tt)))

drop_rows_law : Every drop_rows
unfolding go
drop_rows_law = (refl, (refl, (refl, (refl, (refl, (refl, tt))))))

long_rows_law : Every long_rows
unfolding go
long_rows_law = (refl, (refl, tt))

torn_rows_law : Every torn_rows
unfolding go
torn_rows_law = (refl, (refl, (refl, tt)))

torn_scan_rows_law : Every torn_scan_rows
unfolding go
torn_scan_rows_law = (refl, tt)

plane_rows_law : Every plane_rows
unfolding go
plane_rows_law = (refl, (refl, (refl, (refl, (refl, tt)))))

last_rows_law : Every last_rows
unfolding go
last_rows_law = (refl, tt)

number_rows_law : Every number_rows
unfolding go
number_rows_law = (refl, tt)

numbered_rows_law : Every numbered_rows
unfolding go
numbered_rows_law = (refl, (refl, (refl, (refl, tt))))

turn_rows_law : Every turn_rows
unfolding go
turn_rows_law = (refl, tt)

geometry_rows_law : Every geometry_rows
unfolding go
geometry_rows_law = (refl, (refl, (refl, (refl, (refl, tt)))))

abbrev only : ℕ → List ℕ
only n = n ∷ []

format_rows_law : Every format_rows
unfolding geometry_ok
format_rows_law = (ap only (format_answers (shape 7 8 8)), (ap only (format_answers (shape 8 8 8)), (ap only (format_answers (shape 128 8 8)), (ap only (format_answers (shape 129 8 8)), (ap only (format_answers (shape 8 7 8)), (ap only (format_answers (shape 8 64 8)), (ap only (format_answers (shape 8 65 8)), (ap only (format_answers (shape 128 64 0)), (ap only (format_answers (shape 128 64 1)), (ap only (format_answers (shape 128 64 1024)), (ap only (format_answers (shape 128 64 1025)), (ap only (format_answers (shape 8 8 16)), (ap only (format_answers (shape 8 8 17)), (ap only (format_answers (planed 0)), (ap only (format_answers (planed 2)), (ap only (format_answers (planed 3)), tt))))))))))))))))

abbrev pub table : List (List Row)
table =
    free_rows ∷ slide_rows ∷ reclaim_rows ∷ checkpoint_rows ∷ newest_rows ∷ load_rows ∷ page_rows ∷ place_rows ∷ stride_rows ∷ change_rows ∷ drop_rows ∷ long_rows ∷ torn_rows ∷ torn_scan_rows ∷ plane_rows ∷ last_rows ∷ number_rows ∷ numbered_rows ∷ turn_rows ∷ geometry_rows ∷ format_rows ∷ []

pub rules : EveryGroup table
rules = (free_rows_law, (slide_rows_law, (reclaim_rows_law, (checkpoint_rows_law, (newest_rows_law, (load_rows_law, (page_rows_law, (place_rows_law, (stride_rows_law, (change_rows_law, (drop_rows_law, (long_rows_law, (torn_rows_law, (torn_scan_rows_law, (plane_rows_law, (last_rows_law, (number_rows_law, (numbered_rows_law, (turn_rows_law, (geometry_rows_law, (format_rows_law, tt)))))))))))))))))))))
