-- Zones: clean pages, scan order, and what a checkpoint moves.
use Rattle.std.specs.Prelude.{ℕ, zero, suc, ◌+◌, ◌-◌, ◌*◌, ◌%◌, Bool, false, not, cond, ◌&&◌, ◌||◌, List, [], ◌∷◌, ◌++◌, length, take, get_or, replicate, leb, ltb, eqb}
use Rattle.model.specs.Lists.{any, all_heads, find, keep, those, count, elem, rising, up_from, pad_to, without, insert}
use Rattle.model.specs.Page.{spare_of, page_at, whole_at, torn_at, used_from}
use Rattle.model.specs.Geometry.{data_block}
use Rattle.model.specs.declared.Geometry.{Geometry}
use Rattle.model.specs.declared.Spare.{Spare}
use Rattle.model.specs.declared.Zones.{Zones}
use Rattle.model.specs.declared.Place.{Place}
use Rattle.model.specs.declared.Plane.{Plane}
use Rattle.model.specs.declared.Plane.TheVariants.{Neither, Even, Odd}

-- ---- "Every data block is in one zone: free, available, unavailable, checkpointed"
-- the lists of a zone record; a data block in none of them is checkpointed
abbrev pub available_of : Zones → List ℕ
available_of z = take z.na z.available

-- the unavailable blocks, in order
abbrev pub unavailable_of : Zones → List ℕ
unavailable_of z = take z.nu z.unavailable

-- the free blocks, ascending
abbrev pub free_of : Zones → List ℕ
free_of z = take z.nf z.free

-- all blocks of the three lists
abbrev pub listed_in : Zones → List ℕ
listed_in z = available_of z ++ (unavailable_of z ++ free_of z)

-- a block in none of them
unfoldable pub checkpointed : Zones → ℕ → Bool
checkpointed z b = not (elem b (listed_in z))

-- a zone record of lists
unfoldable pub zones_of : List ℕ → List ℕ → List ℕ → ℕ → Zones
zones_of a u f p =
    record {
      available = pad_to 3 a;
      na = length a;
      unavailable = pad_to 126 u;
      nu = length u;
      free = pad_to 126 f;
      nf = length f;
      pointer = p;
    }

-- "pointer 2, .. zone lists .. empty"
abbrev pub no_zones : Zones
no_zones = record { available = replicate 3 0; na = 0; unavailable = replicate 126 0; nu = 0; free = replicate 126 0; nf = 0; pointer = 2 }

-- a data block that was not met before
unfoldable pub new_block : Geometry → List ℕ → ℕ → Bool
new_block g seen b = data_block g b && not (elem b seen)

-- refusal 3 of zone lists with these counts: "zone counts above B − 2 in sum; block or pointer outside 2 to B − 1,
-- block repeated, more than three available, free ones not ascending"
unfoldable pub zone_lists_ok : Geometry → ℕ → ℕ → ℕ → List ℕ → List ℕ → List ℕ → ℕ → Bool
zone_lists_ok g na nu nf a u f p =
    leb (na + nu + nf) (g.blocks - 2)
    && (leb na 3
    && (all_heads (new_block g) [] (a ++ (u ++ f))
    && (rising f
    && data_block g p)))

-- the lists of a zone record pass it
unfoldable pub zones_ok : Geometry → Zones → Bool
zones_ok g z = zone_lists_ok g z.na z.nu z.nf (available_of z) (unavailable_of z) (free_of z) z.pointer

-- ---- clean pages ("those after its last non-erased page"), p a block
-- the pages of block b up to and with its last that is not erased
unfoldable pub used_in : List ℕ → ℕ → ℕ → ℕ
used_in xs p b = used_from xs (b * p) p

-- a block without clean pages
unfoldable pub is_full : List ℕ → ℕ → ℕ → Bool
is_full xs p b = eqb (used_in xs p b) p

-- the clean pages of some blocks
unfoldable pub clean_in : List ℕ → ℕ → List ℕ → ℕ
clean_in xs p [] = 0
clean_in xs p (b ∷ bs) = (p - used_in xs p b) + clean_in xs p bs

-- "Pages are taken from the first available block, in zone order, that has clean pages"
unfoldable pub next_in : List ℕ → ℕ → List ℕ → ℕ
next_in xs p [] = 0
next_in xs p (b ∷ bs) = cond (ltb (used_in xs p b) p) (b * p + used_in xs p b) (next_in xs p bs)

-- ---- two planes: "an even and an odd block"
unfoldable pub is_odd : ℕ → Bool
is_odd b = eqb (b % 2) 1

-- the plane of a block
unfoldable pub plane_of : ℕ → Plane
plane_of b = cond (is_odd b) Odd Even

-- a block of "the other plane than the last"
unfoldable pub other_plane : Plane → ℕ → Bool
other_plane Neither b = false
other_plane Even b = is_odd b
other_plane Odd b = not (is_odd b)

-- the available blocks from which the next data block page is taken: "from the other plane than the last, if it has clean pages
-- (the first after format or recover by 01's rule)"
unfoldable pub taken_from : Geometry → Plane → List ℕ → List ℕ → List ℕ
taken_from g last xs bs =
    let other = those (other_plane last) bs in
    cond (eqb g.planes 2 && ltb 0 (clean_in xs g.pages other)) other bs

-- ---- scan order
-- a whole page: its number and its spare area
pub record Entry : Type 0 where
  pub ppn : ℕ
  pub lpn : ℕ
  pub cnt : ℕ
  pub id : ℕ
  pub ver : ℕ
  pub kind : ℕ
  pub reserved : ℕ

-- the entry of page k with this spare area
unfoldable pub entry_of : ℕ → Spare → Entry
entry_of k s = record { ppn = k; lpn = s.lpn; cnt = s.cnt; id = s.id; ver = s.ver; kind = s.kind; reserved = s.reserved }

-- the entry of page k, or none: "A torn page belongs to nobody"
unfoldable pub entry_at : List ℕ → ℕ → List Entry
entry_at xs k = keep (whole_at xs k) (entry_of k (spare_of (page_at xs k)) ∷ [])

-- the whole pages among the n from page k on
unfoldable pub whole_from : List ℕ → ℕ → ℕ → List Entry
whole_from xs k zero = []
whole_from xs k (suc n) = entry_at xs k ++ whole_from xs (suc k) n

-- the whole pages of some blocks, each from page 0
unfoldable pub scan_in : List ℕ → ℕ → List ℕ → List Entry
scan_in xs p [] = []
scan_in xs p (b ∷ bs) = whole_from xs (b * p) p ++ scan_in xs p bs

-- "Scan order is the unavailable blocks, then the available, each from page 0"
unfoldable pub scan_of : List ℕ → ℕ → Zones → List Entry
scan_of xs p z = scan_in xs p (unavailable_of z ++ available_of z)

-- the torn pages of some blocks
unfoldable pub torn_in : List ℕ → ℕ → List ℕ → ℕ
torn_in xs p [] = 0
torn_in xs p (b ∷ bs) = count (torn_at xs) (up_from (b * p) p) + torn_in xs p bs

-- "the number of torn pages in scan order"
unfoldable pub torn_of : List ℕ → ℕ → Zones → ℕ
torn_of xs p z = torn_in xs p (unavailable_of z ++ available_of z)

-- some entry has the identifier
unfoldable pub on_pages : ℕ → List Entry → Bool
on_pages id es = any (λ (e : Entry). eqb e.id id) es

-- ---- what a checkpoint moves
abbrev pub has_id : ℕ → Place → Bool
has_id id p = eqb p.id id

-- the identifier is active
unfoldable pub active : ℕ → List Place → Bool
active id ps = not (eqb id 0) && any (has_id id) ps

-- the page "belongs to an active transaction or to one with a page" among these of the still available blocks;
-- "Each TxID 0 page is a transaction by itself"
unfoldable pub wanted : List Place → List Entry → Entry → Bool
wanted ps near e = not (eqb e.id 0) && (active e.id ps || on_pages e.id near)

-- "Full available blocks leave"
unfoldable pub staying : List ℕ → ℕ → List ℕ → List ℕ
staying xs p bs = those (λ (b : ℕ). not (is_full xs p b)) bs

-- the full ones
unfoldable pub leaving : List ℕ → ℕ → List ℕ → List ℕ
leaving xs p bs = those (is_full xs p) bs

-- "A full block is unavailable if a whole page in it" is wanted; "otherwise checkpointed"
unfoldable pub holds_wanted : List ℕ → ℕ → List Place → List Entry → ℕ → Bool
holds_wanted xs p ps near b = any (wanted ps near) (whole_from xs (b * p) p)

-- those of some blocks that stay or become unavailable, in order
unfoldable pub judged : List ℕ → ℕ → List Place → List Entry → List ℕ → List ℕ
judged xs p ps near bs = those (holds_wanted xs p ps near) bs

-- what is left of the zones when some free blocks are taken
pub record Taken : Type 0 where
  pub available : List ℕ
  pub free : List ℕ
  pub pointer : ℕ

-- the index of the free block to take: "the first free one at or after the pointer, wrapping to 2"
unfoldable pub free_index : ℕ → List ℕ → ℕ
free_index p f = cond (ltb (find (leb p) f) (length f)) (find (leb p) f) 0

-- "the pointer moves just past it, from B − 1 to 2"
unfoldable pub past_block : Geometry → ℕ → ℕ
past_block g b = cond (ltb (b + 1) g.blocks) (b + 1) 2

-- one free block goes to the end of the available list
unfoldable pub take_one : Geometry → Taken → Taken
take_one g t =
    let i = free_index t.pointer t.free in
    let b = get_or t.free i 0 in
    record { available = t.available ++ (b ∷ []); free = without i t.free; pointer = past_block g b }

-- "until three are available or none is free", n at most
unfoldable pub refill : Geometry → ℕ → Taken → Taken
refill g zero t = t
refill g (suc n) t = refill g n (cond (ltb (length t.available) 3 && not (eqb (length t.free) 0)) (take_one g t) t)

-- the record of what is left and the unavailable blocks
unfoldable pub zones_taken : List ℕ → Taken → Zones
zones_taken u t = zones_of t.available u t.free t.pointer

-- "Full available blocks leave, and unavailable blocks are judged again"; "Leavers kept go to the end of the unavailable list,
-- in order. Then free blocks go to the end of the available list"
unfoldable pub slide : Geometry → List ℕ → List Place → Zones → Zones
slide g xs ps z =
    let p = g.pages in
    let stay = staying xs p (available_of z) in
    let near = scan_in xs p stay in
    zones_taken (judged xs p ps near (unavailable_of z ++ leaving xs p (available_of z))) (refill g 3 (record { available = stay; free = free_of z; pointer = z.pointer }))

-- all data blocks free, then three taken
unfoldable pub format_zones : Geometry → Zones
format_zones g = zones_taken [] (refill g 3 (record { available = []; free = up_from 2 (g.blocks - 2); pointer = 2 }))

-- reclaim's last stride: "the block is free", the list still ascending
unfoldable pub freed : Zones → ℕ → Zones
freed z b = zones_of (available_of z) (unavailable_of z) (insert b (free_of z)) z.pointer
