-- What a checkpoint moves: every block with a page of an active transaction stays listed, and nothing new is scanned; what stays scanned keeps its order on one
-- plane, and on two is a part in another order. The zones stay in shape.
use Rattle.std.specs.Prelude.{◌≡◌, ◌≢◌, true, ℕ, ◌+◌, ◌*◌, ◌≤◌, ◌<◌}
use Rattle.std.proofs.Math.Path.{refl, sym, ap, subst}
use Rattle.std.proofs.Common.{◌∙◌}
use Rattle.std.proofs.Math.Bool.{not}
use native.Mathlib.Omega.{arith}
use mathlib.Core.List.{List, [], ◌∷◌, ◌++◌, append-nil, append_assoc}
use Rattle.std.proofs.Math.ListN.{length, length-append, length-take}
use Rattle.std.proofs.Math.Dec.{eqb}
use borrow.Author.Tests.{eqb-false, not-true}
use Rattle.model.specs.Recovery.{of_id}
use Rattle.model.specs.Lists.{those}
use Rattle.model.specs.Zones.{Entry, whole_from, used_in, is_full, scan_in, scan_of, available_of, unavailable_of, free_of, zones_of, zones_ok}
use Rattle.model.specs.Zones.{active, staying, leaving, holds_wanted, judged, Taken, refill, zones_taken, slide}
use Rattle.model.specs.declared.Geometry.{Geometry}
use Rattle.model.specs.declared.Zones.{Zones}
use Rattle.model.specs.declared.Place.{Place}
use Rattle.arrays.specs.Tests.{and_left}
use Rattle.arrays.specs.Scan.{Blank, scan_cons, scan_append, scan_blank}
use Rattle.arrays.specs.ZoneLists.{zones_of_available, zones_of_unavailable, zones_of_free, zones_of_ok}
use Rattle.scanlog.specs.Sublist.{Sublist, sub_refl, sub_append, sub_those, sub_length}
use Rattle.scanlog.specs.Perm.{Perm, empty, put, perm_refl, perm_append, perm_those, perm_split}
use Rattle.arrays.specs.Insert.{Insert, here, there, insert_middle}
use Rattle.scanlog.specs.Occ.{occ, occ_append, occ_sub, split_occ, split_length}
use Rattle.scanlog.specs.Rising.{rising_sub}
use Rattle.scanlog.specs.Log.{of_id_append}
use Rattle.scanlog.specs.Shape.{Shape, shape, shape_ok, listed_block}
use Rattle.scanlog.specs.Take.{Took, took_refill}
use Rattle.scanlog.specs.Order.{Order, each_sub, each_is, is_each, order_sub, order_append}
use Rattle.scanlog.specs.Judged.{scan_sub, order_leave, Wanted, judged_of_id}

-- ---- blocks in another order
-- what is scanned before and after a block that is put in
record Around (xs : List ℕ) (p b : ℕ) (bs cs : List ℕ) : Type 0 where
  before : List Entry
  behind : List Entry
  was : scan_in xs p bs ≡ before ++ behind
  is : scan_in xs p cs ≡ before ++ (whole_from xs (b * p) p ++ behind)

block_in : (xs : List ℕ) (p b : ℕ) {bs cs : List ℕ} → Insert b bs cs → Around xs p b bs cs
block_in xs p b (here bs) = record { before = []; behind = scan_in xs p bs; was = refl; is = scan_cons xs p b bs }
block_in xs p b (there {xs = bs} {ys = cs} c i) =
    let r = block_in xs p b i in
    let w = whole_from xs (c * p) p in
    record {
      before = w ++ r.before;
      behind = r.behind;
      was = scan_cons xs p c bs ∙ rw r.was (sym (append_assoc w r.before r.behind));
      is = scan_cons xs p c cs ∙ rw r.is (sym (append_assoc w r.before (whole_from xs (b * p) p ++ r.behind)));
    }

perm_front : (ws ds bs : List Entry) {us : List Entry} → Perm us (ds ++ bs) → Perm (ws ++ us) (ds ++ (ws ++ bs))
perm_front [] ds bs q = q
perm_front (w ∷ ws) ds bs q = put w (perm_front ws ds bs q) (insert_middle w ds (ws ++ bs))

scan_perm : (xs : List ℕ) (p : ℕ) {bs cs : List ℕ} → Perm bs cs → Perm (scan_in xs p bs) (scan_in xs p cs)
scan_perm xs p empty = perm_refl (scan_in xs p [])
scan_perm xs p (put {xs = bs} {ys = ds} {zs = cs} b q i) =
    let r = block_in xs p b i in
    let w = whole_from xs (b * p) p in
    let k : Perm (scan_in xs p bs) (r.before ++ r.behind) = subst (Perm (scan_in xs p bs)) r.was (scan_perm xs p q) in
    subst (λ (l : List Entry). Perm l (scan_in xs p cs)) (sym (scan_cons xs p b bs))
    (subst (Perm (w ++ scan_in xs p bs)) (sym r.is) (perm_front w r.before r.behind k))

module _ (g : Geometry) (xs : List ℕ) (ps : List Place) (z : Zones) where
  -- those still available
  unfoldable pub stay : List ℕ
  stay = staying xs g.pages (available_of z)

  -- the others that were scanned
  unfoldable pub others : List ℕ
  others = unavailable_of z ++ leaving xs g.pages (available_of z)

  -- the pages of the still available blocks
  unfoldable pub near : List Entry
  near = scan_in xs g.pages stay

  -- those of the others that are kept
  unfoldable pub kept : List ℕ
  kept = judged xs g.pages ps near others

  start : Taken
  start = record { available = stay; free = free_of z; pointer = z.pointer }

  made : Taken
  made = refill g 3 start

  slide_is : slide g xs ps z ≡ zones_of made.available kept made.free made.pointer
  unfolding slide zones_taken made start kept near others stay
  slide_is = refl

  took : Took g start made
  unfolding made
  took = took_refill g 3 start

  -- the free blocks that become available
  fresh : List ℕ
  fresh = took.taken

  slide_available : available_of (slide g xs ps z) ≡ stay ++ fresh
  unfolding start fresh
  slide_available = rw slide_is (zones_of_available made.available kept made.free made.pointer ∙ took.available)

  slide_unavailable : unavailable_of (slide g xs ps z) ≡ kept
  slide_unavailable = rw slide_is (zones_of_unavailable made.available kept made.free made.pointer)

  slide_free : free_of (slide g xs ps z) ≡ made.free
  slide_free = rw slide_is (zones_of_free made.available kept made.free made.pointer)

  -- free blocks stay free or become available
  slide_free_sub : Sublist (free_of (slide g xs ps z)) (free_of z)
  unfolding start
  slide_free_sub = rw slide_free took.sub

  slide_free_each : (b : ℕ) → occ b fresh + occ b (free_of (slide g xs ps z)) ≡ occ b (free_of z)
  unfolding start fresh
  slide_free_each b = rw slide_free (took.each b)

  -- ---- the lists stay in shape
  slide_each : (b : ℕ) → occ b (made.available ++ (kept ++ made.free)) ≤ occ b (available_of z ++ (unavailable_of z ++ free_of z))
  unfolding kept others stay judged leaving staying start
  slide_each b =
      let p = g.pages in
      let a = available_of z in
      let u = unavailable_of z in
      let f = free_of z in
      omega (
        arith,
        ap (occ b) took.available,
        occ_append b stay took.taken,
        took.each b,
        occ_append b made.available (kept ++ made.free),
        occ_append b kept made.free,
        occ_sub b (sub_those (holds_wanted xs p ps near) others),
        occ_append b u (leaving xs p a),
        split_occ (is_full xs p) b a,
        occ_append b a (u ++ f),
        occ_append b u f,
      )

  slide_sum : length made.available + length kept + length made.free ≤ length (available_of z) + length (unavailable_of z) + length (free_of z)
  unfolding kept others stay judged leaving staying start
  slide_sum =
      let p = g.pages in
      let a = available_of z in
      let u = unavailable_of z in
      omega (
        arith,
        ap length took.available,
        length-append stay took.taken,
        took.sum,
        sub_length (sub_those (holds_wanted xs p ps near) others),
        length-append u (leaving xs p a),
        split_length (is_full xs p) a,
      )

  slide_few : length (available_of z) ≤ 3 → length made.available ≤ 3
  unfolding start stay staying
  slide_few h = took.few (omega (arith, sub_length (sub_those (λ (b : ℕ). not (is_full xs g.pages b)) (available_of z))))

  pub slide_ok : zones_ok g z ≡ true → zones_ok g (slide g xs ps z) ≡ true
  unfolding start
  slide_ok h =
      let k : Shape g z.na z.nu z.nf (available_of z) (unavailable_of z) (free_of z) z.pointer = shape g z h in
      let n : Shape g (length made.available) (length kept) (length made.free) made.available kept made.free made.pointer
      = record {
        sum = omega (arith, k.sum, slide_sum, length-take z.na z.available, length-take z.nu z.unavailable, length-take z.nf z.free);
        few = slide_few (omega (arith, k.few, length-take z.na z.available));
        blocks = λ b l. k.blocks b (omega (arith, slide_each b));
        distinct = λ b. omega (arith, slide_each b, k.distinct b);
        ascending = rising_sub took.sub k.ascending;
        pointer = took.pointer (λ b l. listed_block g z h b (omega arith)) k.pointer;
      } in
      ap (zones_ok g) slide_is ∙ zones_of_ok made.available kept made.free made.pointer g
      ∙ shape_ok g (length made.available) (length kept) (length made.free) made.available kept made.free made.pointer n

  -- ---- what is scanned then, free blocks being erased
  module _ (blank : Blank xs g.pages (free_of z)) where
    fresh_blank : Blank xs g.pages fresh
    fresh_blank =
        is_each (λ (c : ℕ). used_in xs g.pages c ≡ 0) fresh
        (λ b k. each_is (λ (c : ℕ). used_in xs g.pages c ≡ 0) (free_of z) blank b (omega (arith, slide_free_each b)))

    -- the free blocks that are left are erased still
    pub slide_blank : Blank xs g.pages (free_of (slide g xs ps z))
    slide_blank = each_sub (λ (c : ℕ). used_in xs g.pages c ≡ 0) slide_free_sub blank

    slide_scan : scan_of xs g.pages (slide g xs ps z) ≡ scan_in xs g.pages kept ++ near
    unfolding scan_of near
    slide_scan =
        let p = g.pages in
        rw (slide_available, slide_unavailable)
        (scan_append xs p kept (stay ++ fresh)
        ∙ ap (λ (l : List Entry). scan_in xs p kept ++ l) (scan_append xs p stay fresh ∙ rw (scan_blank xs p fresh fresh_blank) (append-nil (scan_in xs p stay))))

    -- the scan before, its available blocks in another order: those that leave, then those that stay
    scan_split : Perm (scan_of xs g.pages z) (scan_in xs g.pages others ++ near)
    unfolding scan_of near others stay staying leaving
    scan_split =
        let p = g.pages in
        let a = available_of z in
        let u = unavailable_of z in
        let q : Perm (scan_in xs p u ++ scan_in xs p a) (scan_in xs p u ++ scan_in xs p (those (is_full xs p) a ++ those (λ (b : ℕ). not (is_full xs p b)) a))
        = perm_append (perm_refl (scan_in xs p u)) (scan_perm xs p (perm_split (is_full xs p) a)) in
        let e : scan_in xs p u ++ scan_in xs p (those (is_full xs p) a ++ those (λ (b : ℕ). not (is_full xs p b)) a)
        ≡ scan_in xs p (u ++ those (is_full xs p) a) ++ scan_in xs p (those (λ (b : ℕ). not (is_full xs p b)) a)
        = rw (scan_append xs p (those (is_full xs p) a) (those (λ (b : ℕ). not (is_full xs p b)) a), scan_append xs p u (those (is_full xs p) a))
        (sym (append_assoc (scan_in xs p u) (scan_in xs p (those (is_full xs p) a)) (scan_in xs p (those (λ (b : ℕ). not (is_full xs p b)) a)))) in
        subst (λ (l : List Entry). Perm l (scan_in xs p (u ++ those (is_full xs p) a) ++ scan_in xs p (those (λ (b : ℕ). not (is_full xs p b)) a)))
        (sym (scan_append xs p u a)) (subst (Perm (scan_in xs p u ++ scan_in xs p a)) e q)

    -- nothing new is scanned
    pub slide_part : Sublist (scan_of xs g.pages (slide g xs ps z)) (scan_in xs g.pages others ++ near)
    unfolding kept judged
    slide_part = rw slide_scan (sub_append (scan_sub xs g.pages (sub_those (holds_wanted xs g.pages ps near) others)) (sub_refl near))

    pub slide_perm : Perm (scan_of xs g.pages z) (scan_in xs g.pages others ++ near)
    slide_perm = scan_split

    -- what is wanted is scanned as before
    slide_wanted : (id : ℕ) → Wanted ps near id → of_id id (scan_of xs g.pages (slide g xs ps z)) ≡ of_id id (scan_in xs g.pages others ++ near)
    unfolding kept
    slide_wanted id w =
        let p = g.pages in
        rw slide_scan (of_id_append id (scan_in xs p kept) near ∙ rw (judged_of_id ps near id w xs p others) (sym (of_id_append id (scan_in xs p others) near)))

    nonzero : (id : ℕ) → active id ps ≡ true → id ≢ 0
    nonzero id e = unfold active in eqb-false id 0 (not-true (eqb id 0) (and_left (not (eqb id 0)) _ e))

    -- the entries of an active transaction all stay
    pub slide_active_perm : (id : ℕ) → active id ps ≡ true → Perm (of_id id (scan_of xs g.pages z)) (of_id id (scan_of xs g.pages (slide g xs ps z)))
    unfolding of_id
    slide_active_perm id e =
        subst (Perm (those (λ (x : Entry). eqb x.id id) (scan_of xs g.pages z))) (sym (slide_wanted id (nonzero id e, rw e)))
        (perm_those (λ (x : Entry). eqb x.id id) scan_split)

    module _ (order : Order xs g.pages (available_of z)) where
      -- the new available list is in order
      pub slide_order : Order xs g.pages (available_of (slide g xs ps z))
      unfolding stay staying
      slide_order =
          let p = g.pages in
          rw slide_available (order_append xs p stay fresh (order_sub xs p (sub_those (λ (b : ℕ). not (is_full xs p b)) (available_of z)) order) fresh_blank)

      module _ (some : 0 < g.pages) where
        scan_before : scan_of xs g.pages z ≡ scan_in xs g.pages others ++ near
        unfolding scan_of near others stay
        scan_before =
            let p = g.pages in
            let a = available_of z in
            let u = unavailable_of z in
            let e : u ++ a ≡ (u ++ leaving xs p a) ++ staying xs p a
            = sym (append_assoc u (leaving xs p a) (staying xs p a) ∙ ap (λ (t : List ℕ). u ++ t) (order_leave xs p a some order)) in
            ap (scan_in xs p) e ∙ scan_append xs p (u ++ leaving xs p a) (staying xs p a)

        -- what is scanned keeps its order
        pub slide_sub : Sublist (scan_of xs g.pages (slide g xs ps z)) (scan_of xs g.pages z)
        slide_sub = rw scan_before slide_part

        pub slide_active : (id : ℕ) → active id ps ≡ true → of_id id (scan_of xs g.pages (slide g xs ps z)) ≡ of_id id (scan_of xs g.pages z)
        slide_active id e = slide_wanted id (nonzero id e, rw e) ∙ ap (of_id id) (sym scan_before)
