-- Zones that are tidy over an array: in shape, on one plane the available ones in order, the free ones erased. What is programmed next is put into the
-- scan, on one plane as the last: scan order is write order. Blocks in no list may change; a checkpoint keeps all that.
use Rattle.std.specs.Prelude.{◌≡◌, refl, ◌≢◌, Bool, true, false, cond, ◌&&◌, ℕ, suc, ◌+◌, ◌*◌, ◌<◌, length, eqb, ltb}
use Rattle.std.proofs.Math.Path.{sym, ap, ap₂, subst}
use Rattle.std.proofs.Common.{◌∙◌, arith}
use mathlib.Core.List.{List, [], ◌∷◌, ◌++◌, append_assoc}
use Rattle.model.specs.Lists.{those}
use Rattle.model.specs.Page.{spare_of, blank_at, whole_at}
use Rattle.model.specs.Geometry.{data_page}
use Rattle.model.specs.World.{program, erase, apply_op, cut_op, due_bits, turned_bits, every_turned}
use Rattle.model.specs.Zones.{Entry, entry_of, entry_at, used_in, clean_in, next_in, other_plane, taken_from, scan_in}
use Rattle.model.specs.Zones.{scan_of, available_of, unavailable_of, free_of, zones_ok, slide}
use Rattle.model.specs.declared.Geometry.{Geometry}
use Rattle.model.specs.declared.Zones.{Zones}
use Rattle.model.specs.declared.Place.{Place}
use Rattle.model.specs.declared.Plane.{Plane}
use Rattle.arrays.specs.Tests.{not_so}
use Rattle.arrays.specs.Bytelist.{Bytes}
use Rattle.arrays.specs.Pages.{Other, OtherBlock, SamePages, PageFits, BlockFits}
use Rattle.arrays.specs.Ops.{program_other, cut_program_other, erase_others}
use Rattle.arrays.specs.Ranges.{block_page_is, data_page_fits}
use Rattle.arrays.specs.Whole.{whole_class}
use Rattle.arrays.specs.Arrays.{ProgramOk, cut_torn}
use Rattle.arrays.specs.Scan.{each_map, each_append, SameBlocks, Blank, blank_stays, scan_append, scan_same, taken_clean, taken_one}
use Rattle.arrays.specs.Scan.{entry_none, entry_blank, entry_programmed, Next, next_is, next_blank}
use Rattle.scanlog.specs.Sublist.{Sublist, sub_refl, sub_those}
use Rattle.arrays.specs.Insert.{Insert}
use Rattle.scanlog.specs.Occ.{occ, occ_cons, occ_yes, occ_append, occ_sub, Distinct}
use Rattle.scanlog.specs.Shape.{each_once, listed_block, Unlisted}
use Rattle.scanlog.specs.Order.{Order, away, order_stays, order_next, order_scan, next_others}
use Rattle.scanlog.specs.At.{At, scan_at, at_put, at_lost, at_same, other_blocks, clean_at}
use Rattle.scanlog.specs.Slide.{slide_ok, slide_order, slide_blank, slide_sub}

-- zones in shape, on one plane the available list in order, the free blocks erased
pub record Tidy (g : Geometry) (xs : List ℕ) (z : Zones) : Type 0 where
  pub ok : zones_ok g z ≡ true
  pub order : g.planes ≢ 2 → Order xs g.pages (available_of z)
  pub blank : Blank xs g.pages (free_of z)

pub scan_of_same : (xs ys : List ℕ) (p : ℕ) (z : Zones) → SameBlocks xs ys p (unavailable_of z) → SameBlocks xs ys p (available_of z)
    → scan_of ys p z ≡ scan_of xs p z
unfolding scan_of
scan_of_same xs ys p z s t =
    scan_same xs ys p (unavailable_of z ++ available_of z) (each_append (λ (c : ℕ). SamePages xs ys (c * p) p) (unavailable_of z) (available_of z) s t)

-- ---- a block of no list is programmed or erased, whole or in part: a front block, or a checkpointed one
outside_same : (xs ys : List ℕ) (p b : ℕ) (bs : List ℕ) → OtherBlock p b xs ys → occ b bs ≡ 0 → SameBlocks xs ys p bs
outside_same xs ys p b bs o n = each_map (λ (c : ℕ). c ≢ b) (λ (c : ℕ). SamePages xs ys (c * p) p) o bs (away b bs n)

module _ (g : Geometry) (xs ys : List ℕ) (z : Zones) (b : ℕ) (none : Unlisted z b) (o : OtherBlock g.pages b xs ys) where
  tidy_outside : Tidy g xs z → Tidy g ys z
  tidy_outside t = record {
    ok = t.ok;
    order = λ one. order_stays xs ys g.pages (available_of z) (outside_same xs ys g.pages b (available_of z) o (omega arith)) (t.order one);
    blank = blank_stays xs ys g.pages (free_of z) (outside_same xs ys g.pages b (free_of z) o (omega arith)) t.blank;
  }

  scan_outside : scan_of ys g.pages z ≡ scan_of xs g.pages z
  scan_outside =
      scan_of_same xs ys g.pages z (outside_same xs ys g.pages b (unavailable_of z) o (omega arith))
      (outside_same xs ys g.pages b (available_of z) o (omega arith))

-- ---- a page of an available block
-- page i of block b
pub record Within (z : Zones) (p k : ℕ) : Type 0 where
  pub block : ℕ
  pub index : ℕ
  pub room : index < p
  pub page : k ≡ block * p + index
  pub among : 0 < occ block (available_of z)

module _ (g : Geometry) (xs ys : List ℕ) (z : Zones) (ok : zones_ok g z ≡ true) (k : ℕ) (a : Within z g.pages k) (o : Other k xs ys) where
  here : Other (a.block * g.pages + a.index) xs ys
  here = subst (λ (j : ℕ). Other j xs ys) a.page o

  scan_once : Distinct (unavailable_of z ++ available_of z)
  scan_once c = omega (arith, each_once g z ok c, occ_append c (unavailable_of z) (available_of z))

  -- what it gives changes in the scan where it stands
  pub place_at_law : At xs ys g.pages (unavailable_of z ++ available_of z) k
  place_at_law = subst (At xs ys g.pages (unavailable_of z ++ available_of z)) (sym a.page)
      (scan_at xs ys g.pages a.block a.index a.room here (unavailable_of z ++ available_of z)
      (omega (arith, a.among, occ_append a.block (unavailable_of z) (available_of z))) scan_once)

  pub place_put : (e : Entry) → entry_at xs k ≡ [] → entry_at ys k ≡ e ∷ [] → Insert e (scan_of xs g.pages z) (scan_of ys g.pages z)
  unfolding scan_of
  place_put e x y = at_put xs ys g.pages (unavailable_of z ++ available_of z) k place_at_law e x y

  pub place_lost : (e : Entry) → entry_at xs k ≡ e ∷ [] → entry_at ys k ≡ [] → Insert e (scan_of ys g.pages z) (scan_of xs g.pages z)
  unfolding scan_of
  place_lost e x y = at_lost xs ys g.pages (unavailable_of z ++ available_of z) k place_at_law e x y

  pub place_same : entry_at ys k ≡ entry_at xs k → scan_of ys g.pages z ≡ scan_of xs g.pages z
  unfolding scan_of
  place_same e = at_same xs ys g.pages (unavailable_of z ++ available_of z) k place_at_law e

  -- the free blocks are as they were
  free_same : SameBlocks xs ys g.pages (free_of z)
  free_same = other_blocks xs ys g.pages a.block a.index a.room here (free_of z) (omega (arith, a.among, each_once g z ok a.block))

  pub place_tidy : (g.planes ≢ 2 → Order ys g.pages (available_of z)) → Tidy g xs z → Tidy g ys z
  place_tidy order t = record { ok = t.ok; order = order; blank = blank_stays xs ys g.pages (free_of z) free_same t.blank }

  pub place_data : data_page g k ≡ true
  place_data = rw a.page (block_page_is g a.block a.index (listed_block g z ok a.block (omega (arith, a.among))) a.room)

-- ---- the next page of the available blocks
-- the blocks it is taken from are available
taken_sub : (g : Geometry) (last : Plane) (xs bs : List ℕ) → Sublist (taken_from g last xs bs) bs
unfolding taken_from
taken_sub g last xs bs = go (eqb g.planes 2 && ltb 0 (clean_in xs g.pages (those (other_plane last) bs)))
  where
    go : (t : Bool) → Sublist (cond t (those (other_plane last) bs) bs) bs
    go true = sub_those (other_plane last) bs
    go false = sub_refl bs

module _ (g : Geometry) (xs : List ℕ) (z : Zones) (last : Plane) (t : Tidy g xs z) (clean : 0 < clean_in xs g.pages (available_of z)) where
  -- the blocks, and its number
  abbrev from : List ℕ
  from = taken_from g last xs (available_of z)

  abbrev pub next : ℕ
  next = next_in xs g.pages from

  some : 0 < clean_in xs g.pages from
  some = taken_clean g last xs (available_of z) clean

  n : Next xs g.pages from
  n = next_is xs g.pages from some

  next_among : 0 < occ n.block (available_of z)
  next_among =
      let a : 0 < occ n.block from
      = omega (
        arith,
        ap (occ n.block) n.split,
        occ_append n.block n.before (n.block ∷ n.behind),
        occ_cons n.block n.block n.behind,
        occ_yes n.block n.block refl,
      ) in
      omega (arith, a, occ_sub n.block (taken_sub g last xs (available_of z)))

  pub next_place : Within z g.pages next
  next_place = record { block = n.block; index = used_in xs g.pages n.block; room = n.room; page = n.page; among = next_among }

  -- it is a data page of the array, and erased
  pub next_data : data_page g next ≡ true
  next_data = place_data g xs xs z t.ok next next_place (λ j q. refl)

  pub next_fits : length xs ≡ g.blocks * g.pages * 528 → PageFits xs next
  next_fits h = data_page_fits g xs h next next_data

  pub next_erased : blank_at xs next ≡ true
  next_erased = next_blank xs g.pages from some

  available_once : Distinct (available_of z)
  available_once c = omega (arith, each_once g z t.ok c)

  -- ---- whatever becomes of it
  module _ (ys : List ℕ) (o : Other next xs ys) where
    pub tidy_next : Tidy g ys z
    tidy_next = place_tidy g xs ys z t.ok next next_place o order t
      where
        order : g.planes ≢ 2 → Order ys g.pages (available_of z)
        order one =
            order_next xs ys g.pages (available_of z) available_once clean
            (subst (λ (bs : List ℕ). Other (next_in xs g.pages bs) xs ys) (taken_one g last xs (available_of z) one) o) (t.order one)

    pub clean_next : blank_at ys next ≡ false → clean_in xs g.pages (available_of z) ≡ suc (clean_in ys g.pages (available_of z))
    clean_next e =
        clean_at xs ys g.pages (available_of z) n.block n.room (subst (λ (j : ℕ). Other j xs ys) n.page o) next_among available_once
        (subst (λ (j : ℕ). blank_at ys j ≡ false) n.page e)

    -- on one plane what it gives comes last
    scan_last : g.planes ≢ 2 → scan_of ys g.pages z ≡ scan_of xs g.pages z ++ entry_at ys next
    unfolding scan_of
    scan_last one =
        let p = g.pages in
        let us = unavailable_of z in
        let bs = available_of z in
        let e : from ≡ bs = taken_one g last xs bs one in
        let q : Other (next_in xs p bs) xs ys = subst (λ (l : List ℕ). Other (next_in xs p l) xs ys) e o in
        let u : scan_in ys p us ≡ scan_in xs p us
        = scan_same xs ys p us (next_others xs ys p bs available_once clean q us (λ c l. omega (arith, each_once g z t.ok c))) in
        let a : scan_in ys p bs ≡ scan_in xs p bs ++ entry_at ys (next_in xs p bs) = order_scan xs ys p bs available_once clean q (t.order one) in
        scan_append ys p us bs ∙ ap₂ {C = List Entry} ◌++◌ u a ∙ sym (append_assoc (scan_in xs p us) (scan_in xs p bs) (entry_at ys (next_in xs p bs)))
        ∙ ap (λ (l : List Entry). l ++ entry_at ys (next_in xs p bs)) (sym (scan_append xs p us bs))
        ∙ ap (λ (l : List ℕ). scan_in xs p (us ++ bs) ++ entry_at ys (next_in xs p l)) (sym e)

  -- ---- it is programmed
  module _ (p : ℕ) (new : List ℕ) (ok : ProgramOk xs next new) where
    pub tidy_program : Tidy g (apply_op p (program next new) xs) z
    tidy_program = tidy_next (apply_op p (program next new) xs) (program_other p xs next new ok.fits)

    -- its entry is put in
    pub scan_program : Insert (entry_of next (spare_of new)) (scan_of xs g.pages z) (scan_of (apply_op p (program next new) xs) g.pages z)
    scan_program =
        let ys = apply_op p (program next new) xs in
        place_put g xs ys z t.ok next next_place (program_other p xs next new ok.fits) (entry_of next (spare_of new)) (entry_blank xs next next_erased)
        (entry_programmed p xs next new ok)

    -- "in scan order, which on a layer's own array is write order": on one plane what is programmed is scanned last
    pub scan_order_is_write_order : g.planes ≢ 2
        → scan_of (apply_op p (program next new) xs) g.pages z ≡ scan_of xs g.pages z ++ (entry_of next (spare_of new) ∷ [])
    scan_order_is_write_order one =
        let ys = apply_op p (program next new) xs in
        scan_last ys (program_other p xs next new ok.fits) one ∙ ap (λ (l : List Entry). scan_of xs g.pages z ++ l) (entry_programmed p xs next new ok)

    -- a cut, wherever it falls
    pub tidy_cut : (lets : List ℕ) → Tidy g (cut_op p (program next new) lets xs) z
    tidy_cut lets = tidy_next (cut_op p (program next new) lets xs) (cut_program_other p xs next new ok.fits lets)

    -- a torn page is in no scan
    pub scan_torn : (lets : List ℕ) → Bytes xs → every_turned (due_bits p (program next new) xs) (turned_bits p (program next new) lets xs) ≡ false
        → scan_of (cut_op p (program next new) lets xs) g.pages z ≡ scan_of xs g.pages z
    scan_torn lets y f =
        let ys = cut_op p (program next new) lets xs in
        let torn : whole_at ys next ≡ false = not_so (whole_at ys next) (λ w. cut_torn p xs next new ok lets y f (whole_class ys next w)) in
        place_same g xs ys z t.ok next next_place (cut_program_other p xs next new ok.fits lets)
        (entry_none ys next torn ∙ sym (entry_blank xs next next_erased))

-- ---- a block of no list is erased, done or cut
module _ (g : Geometry) (xs : List ℕ) (z : Zones) (t : Tidy g xs z) (b : ℕ) (none : Unlisted z b) (fits : BlockFits g.pages xs b) where
  pub tidy_erase : Tidy g (apply_op g.pages (erase b) xs) z
  tidy_erase = tidy_outside g xs (apply_op g.pages (erase b) xs) z b none (erase_others g.pages xs b fits) t

  pub scan_erase : scan_of (apply_op g.pages (erase b) xs) g.pages z ≡ scan_of xs g.pages z
  scan_erase = scan_outside g xs (apply_op g.pages (erase b) xs) z b none (erase_others g.pages xs b fits)

-- ---- a checkpoint's last stride
module _ (g : Geometry) (xs : List ℕ) (ps : List Place) (z : Zones) (t : Tidy g xs z) where
  pub tidy_slide : Tidy g xs (slide g xs ps z)
  tidy_slide = record {
    ok = slide_ok g xs ps z t.ok;
    order = λ one. slide_order g xs ps z t.blank (t.order one);
    blank = slide_blank g xs ps z t.blank;
  }

  -- on one plane what is scanned keeps its order
  pub sub_slide : g.planes ≢ 2 → 0 < g.pages → Sublist (scan_of xs g.pages (slide g xs ps z)) (scan_of xs g.pages z)
  sub_slide one l = slide_sub g xs ps z t.blank (t.order one) l
