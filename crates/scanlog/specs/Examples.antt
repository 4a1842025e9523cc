-- A small array, and logs of one plane and of two, on which the hypotheses of the laws hold, so that none of them is empty.
use Rattle.std.specs.Prelude.{false, ℕ, zero, suc, ◌≡◌, refl, List, [], ◌∷◌, replicate}
use Rattle.std.proofs.Common.{arith}
use Rattle.std.specs.Int.Count.{ones, ones_in}
use Rattle.model.specs.Lists.{all, any, all_heads, all_tails, elem, rising, pad_to, find, those, count, without, part, splice}
use Rattle.model.specs.Bytes.{all_ff, zero_bits, ands}
use Rattle.model.specs.Geometry.{data_block}
use Rattle.model.specs.Page.{class_of, spare_of, page_at, put_page, page_bytes, sealed, used_from, blank_at, whole_at}
use Rattle.model.specs.World.{program, apply_op}
use Rattle.model.specs.Zones.{Entry, entry_of, entry_at, whole_from, used_in, is_full, scan_in, scan_of, zones_of, new_block, zone_lists_ok, zones_ok, slide, staying}
use Rattle.model.specs.Zones.{leaving, judged, holds_wanted, wanted, active, on_pages, zones_taken, refill, take_one, free_index, past_block, checkpointed}
use Rattle.model.specs.Strides.{mapped_in, fewer, pick_from}
use Rattle.model.specs.Recovery.{of_id, pages_of, committed, txns_in, span, top, applied, enter, redone}
use Rattle.model.specs.Recovery.{pages_good, entry_good, number_good, in_turn, by_number, mark_new}
use Rattle.model.specs.declared.Geometry.{Geometry}
use Rattle.model.specs.declared.Place.{Place}
use Rattle.model.specs.declared.Zones.{Zones}
use Rattle.model.specs.Transactions.{number_of}
use Rattle.ranks.specs.Clear.{passed_good}
use Rattle.scanlog.specs.Logged.{Logged}
use Rattle.scanlog.specs.Open.{laid, Opens}
use Rattle.scanlog.specs.Tidy.{Tidy}
use Rattle.scanlog.specs.Reclaim.{Going}

-- the entry of page k with this spare area, a write
abbrev data_entry : ℕ → ℕ → ℕ → ℕ → ℕ → ℕ → Entry
data_entry k lpn cnt id ver number = record { ppn = k; lpn = lpn; cnt = cnt; id = id; ver = ver; kind = 0; reserved = number }

-- ---- eight blocks of one page
shape8 : Geometry
shape8 = record { blocks = 8; pages = 1; logical = 1; planes = 1 }

erased8 : List ℕ
erased8 = replicate 4224 255

zones8 : Zones
zones8 = zones_of (2 ∷ 3 ∷ []) (7 ∷ []) (4 ∷ 5 ∷ []) 5

tidy8 : Tidy shape8 erased8 zones8
unfolding shape8 erased8 zones8 zones_ok zone_lists_ok zones_of pad_to all_heads new_block data_block elem any
    rising all_tails all used_in used_from blank_at page_at part all_ff
tidy8 = record { ok = refl; order = λ one. ((λ l. (refl, tt)), ((λ l. tt), tt)); blank = (refl, (refl, tt)) }

-- page 2 holds a page of the active transaction 5
page5 : List ℕ
unfolding page_bytes sealed zero_bits ones ones_in
page5 = page_bytes (replicate 512 255) (record { lpn = 0; cnt = 0; id = 5; ver = 0; kind = 0; reserved = 0 })

after5 : List ℕ
after5 = apply_op 1 (program 2 page5) erased8

scanned5 : scan_of after5 1 zones8 ≡ data_entry 2 0 0 5 0 0 ∷ []
unfolding after5 erased8 page5 zones8 zones_of pad_to apply_op put_page splice ands class_of all_ff zero_bits ones ones_in scan_of scan_in whole_from entry_at whole_at
    page_at part spare_of entry_of
scanned5 = refl

-- a checkpoint keeps its block, lets block 7 go and takes blocks 5 and 4
place5 : Place
place5 = record { id = 5; count = 2; lpns = 0 ∷ 0 ∷ []; ppns = 2 ∷ 0 ∷ []; drops = false ∷ false ∷ [] }

slid5 : slide shape8 after5 (place5 ∷ []) zones8 ≡ zones_of (3 ∷ 5 ∷ 4 ∷ []) (2 ∷ []) [] 5
unfolding shape8 place5 after5 erased8 page5 zones8 zones_of pad_to apply_op put_page splice ands class_of all_ff zero_bits ones ones_in scan_in whole_from entry_at
    whole_at blank_at page_at part spare_of entry_of slide staying leaving judged holds_wanted is_full used_in used_from those any wanted active on_pages zones_taken
    refill take_one free_index find without past_block
slid5 = refl

-- the log there: the page is the programmed one of the open change, and nothing is redone
opens5 : Opens shape8 (place5 ∷ []) (data_entry 2 0 0 5 0 0 ∷ [])
unfolding shape8 place5 of_id those laid in_turn number_of
opens5 zero l n = record { turns = refl; many = refl; quiet = (refl, tt); low = (omega arith, tt) }
opens5 (suc i) l n = absurd (omega arith)

tidy5 : Tidy shape8 after5 zones8
unfolding shape8 after5 page5 erased8 zones8 zones_ok zone_lists_ok zones_of pad_to all_heads new_block data_block elem any rising all_tails all used_in used_from blank_at
    page_at part all_ff apply_op put_page splice ands zero_bits ones ones_in
tidy5 = record { ok = refl; order = λ one. ((λ l. (refl, tt)), ((λ l. tt), tt)); blank = (refl, (refl, tt)) }

logged1 : Logged 1 1 0 (65535 ∷ []) (data_entry 2 0 0 5 0 0 ∷ []) (65535 ∷ []) 0
unfolding pages_good all_heads entry_good number_good mark_new all top redone applied span txns_in in_turn committed pages_of of_id those enter
logged1 = record { good = passed_good 1 1 _ refl; made = refl; last = refl }

-- reclaim would pick block 6, which has nothing to copy
going6 : Going shape8 zones8 after5 (65535 ∷ []) 0 6
unfolding shape8 zones8 zones_of pad_to pick_from fewer checkpointed elem any mapped_in count
going6 = record { pick = refl; gain = omega arith; numbers = omega arith; reserve = omega arith }

-- ---- a log: transaction 5 of two pages, marked with version 3; a lone page of version 4; a page of transaction 6, not marked. The floor is 2
log5 : List Entry
log5 = data_entry 20 0 0 5 0 0 ∷ data_entry 21 1 2 5 3 0 ∷ data_entry 22 0 1 0 4 0 ∷ data_entry 23 1 0 6 0 0 ∷ []

logged5 : Logged 1 2 2 (65535 ∷ 65535 ∷ []) log5 (22 ∷ 21 ∷ []) 4
unfolding log5 pages_good all_heads entry_good number_good mark_new all top redone applied span txns_in in_turn committed pages_of of_id those enter
logged5 = record { good = passed_good 1 2 _ refl; made = refl; last = refl }

-- ---- the same on two planes: transaction 5 wrote logical page 0 twice, and its second page, number 2, is scanned first: it holds
log2 : List Entry
log2 = data_entry 20 0 3 5 3 3 ∷ data_entry 24 1 0 5 0 2 ∷ data_entry 28 0 0 5 0 1 ∷ data_entry 22 1 1 0 4 0 ∷ []

logged2 : Logged 2 2 2 (65535 ∷ 65535 ∷ []) log2 (20 ∷ 22 ∷ []) 4
unfolding log2 pages_good all_heads entry_good number_good mark_new all top redone applied span txns_in in_turn by_number committed pages_of of_id those enter
logged2 = record { good = passed_good 2 2 _ refl; made = refl; last = refl }

-- its first page torn: the mark counts three, and nothing of it is applied
logged3 : Logged 2 2 2 (65535 ∷ 65535 ∷ []) (data_entry 20 0 3 5 3 3 ∷ data_entry 24 1 0 5 0 2 ∷ []) (65535 ∷ 65535 ∷ []) 3
unfolding pages_good all_heads entry_good number_good mark_new all top redone applied span txns_in in_turn by_number committed pages_of of_id those enter
logged3 = record { good = passed_good 2 2 _ refl; made = refl; last = refl }
