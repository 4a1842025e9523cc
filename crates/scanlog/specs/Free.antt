-- Zones whose free list has grown: reclaim's last stride erases a checkpointed block and makes it free; until the next checkpoint a recovery finds
-- the zones as they were, and scans the same.
use Rattle.std.specs.Prelude.{◌≡◌, refl, ℕ, ◌+◌, ◌-◌, ◌≤◌, ◌<◌, List, [], ◌∷◌, ◌++◌}
use Rattle.std.proofs.Common.{sym, ◌∙◌, subst, inl, inr, arith}
use Rattle.std.proofs.Math.Path.{ap}
use Rattle.std.proofs.Math.Bool.{true}
use Rattle.std.proofs.Math.ListN.{length, length-append, length-take}
use Rattle.model.specs.Lists.{insert}
use Rattle.model.specs.Geometry.{data_block}
use Rattle.model.specs.World.{erase, apply_op}
use Rattle.model.specs.Zones.{used_in, scan_of, available_of, unavailable_of, free_of, zones_ok, freed}
use Rattle.model.specs.declared.Geometry.{Geometry}
use Rattle.model.specs.declared.Zones.{Zones}
use Rattle.arrays.specs.Tests.{Is, eqb_cases}
use Rattle.arrays.specs.Pages.{BlockFits}
use Rattle.arrays.specs.Ranges.{block_least, block_most}
use Rattle.arrays.specs.Used.{used_erase}
use Rattle.arrays.specs.ZoneLists.{zones_of_available, zones_of_unavailable, zones_of_free, zones_of_ok}
use Rattle.scanlog.specs.Sublist.{Sublist, sub_refl, sub_trans}
use Rattle.scanlog.specs.Occ.{occ, occ_yes, occ_no, occ_append, Distinct, pigeon}
use Rattle.scanlog.specs.Rising.{insert_occ, insert_rising, insert_sub}
use Rattle.scanlog.specs.Shape.{shape, shape_ok, Unlisted}
use Rattle.scanlog.specs.Order.{Order, each_sub, each_is, is_each}
use Rattle.scanlog.specs.Tidy.{Tidy, tidy_erase, scan_erase}

-- ---- the lists of the zones with block b free
module _ (z : Zones) (b : ℕ) where
  freed_available : available_of (freed z b) ≡ available_of z
  unfolding freed
  freed_available = zones_of_available (available_of z) (unavailable_of z) (insert b (free_of z)) z.pointer

  freed_unavailable : unavailable_of (freed z b) ≡ unavailable_of z
  unfolding freed
  freed_unavailable = zones_of_unavailable (available_of z) (unavailable_of z) (insert b (free_of z)) z.pointer

  freed_free : free_of (freed z b) ≡ insert b (free_of z)
  unfolding freed
  freed_free = zones_of_free (available_of z) (unavailable_of z) (insert b (free_of z)) z.pointer

  -- the same is scanned
  freed_scan : (xs : List ℕ) (p : ℕ) → scan_of xs p (freed z b) ≡ scan_of xs p z
  unfolding scan_of
  freed_scan xs p = rw (freed_available, freed_unavailable)

-- ---- block b of no list becomes free
module _ (g : Geometry) (z : Zones) (b : ℕ) (none : Unlisted z b) (inside : data_block g b ≡ true) where
  -- counted with b, each block of the lists stands once
  more : (c : ℕ) → occ c (available_of z ++ (unavailable_of z ++ insert b (free_of z))) ≡ occ c (b ∷ []) + occ c (available_of z ++ (unavailable_of z ++ free_of z))
  more c =
      let a = available_of z in
      let u = unavailable_of z in
      let f = free_of z in
      omega (arith, occ_append c a (u ++ insert b f), occ_append c u (insert b f), insert_occ c b f, occ_append c a (u ++ f), occ_append c u f)

  none_listed : occ b (available_of z ++ (unavailable_of z ++ free_of z)) ≡ 0
  none_listed = omega (arith, occ_append b (available_of z) (unavailable_of z ++ free_of z), occ_append b (unavailable_of z) (free_of z))

  pub freed_ok : zones_ok g z ≡ true → zones_ok g (freed z b) ≡ true
  unfolding freed
  freed_ok h =
      let a = available_of z in
      let u = unavailable_of z in
      let f = free_of z in
      let k = shape g z h in
      let d : Distinct (a ++ (u ++ insert b f)) = λ c. once c (eqb_cases c b) (more c) (k.distinct c) in
      let r : (c : ℕ) → 0 < occ c (a ++ (u ++ insert b f)) → data_block g c ≡ true = λ c l. block c (eqb_cases c b) (more c) l (k.blocks c) in
      let s : length (a ++ (u ++ insert b f)) ≤ g.blocks - 2
      = pigeon 2 (g.blocks - 2) (a ++ (u ++ insert b f)) d (λ c l. block_least g c (r c l))
      (λ c l. omega (arith, block_least g c (r c l), block_most g c (r c l))) in
      zones_of_ok a u (insert b f) z.pointer g
      ∙ shape_ok g (length a) (length u) (length (insert b f)) a u (insert b f) z.pointer (record {
        sum = omega (arith, s, length-append a (u ++ insert b f), length-append u (insert b f));
        few = omega (arith, k.few, length-take z.na z.available);
        blocks = r;
        distinct = d;
        ascending = insert_rising b f (omega arith) k.ascending;
        pointer = k.pointer;
      })
    where
      once : (c : ℕ) → Is c b → {x : ℕ} → x ≡ occ c (b ∷ []) + occ c (available_of z ++ (unavailable_of z ++ free_of z))
          → occ c (available_of z ++ (unavailable_of z ++ free_of z)) ≤ 1 → x ≤ 1
      once c (inl q) e l = omega (arith, occ_yes c b q.0, e, none_listed, ap (λ (t : ℕ). occ t (available_of z ++ (unavailable_of z ++ free_of z))) q.0)
      once c (inr q) e l = omega (arith, occ_no c b q.0, e)

      block : (c : ℕ) → Is c b → {x n : ℕ} → x ≡ occ c (b ∷ []) + n → 0 < x → (0 < n → data_block g c ≡ true) → data_block g c ≡ true
      block c (inl q) e l v = rw q.0 inside
      block c (inr q) e l v = v (omega (arith, occ_no c b q.0))

  -- "then erases; the block is free"
  pub tidy_freed : (xs : List ℕ) → Tidy g xs z → BlockFits g.pages xs b → Tidy g (apply_op g.pages (erase b) xs) (freed z b)
  tidy_freed xs t fits =
      let p = g.pages in
      let ys = apply_op p (erase b) xs in
      let k : Tidy g ys z = tidy_erase g xs z t b none fits in
      record {
        ok = freed_ok t.ok;
        order = λ one. rw (freed_available z b) (k.order one);
        blank = rw (freed_free z b)
            (is_each (λ (c : ℕ). used_in ys p c ≡ 0) (insert b (free_of z))
            (λ c l. each c (eqb_cases c b) (insert_occ c b (free_of z)) l (each_is (λ (c : ℕ). used_in ys p c ≡ 0) (free_of z) k.blank c)));
      }
    where
      each : (c : ℕ) → Is c b → {x n : ℕ} → x ≡ occ c (b ∷ []) + n → 0 < x → (0 < n → used_in (apply_op g.pages (erase b) xs) g.pages c ≡ 0)
          → used_in (apply_op g.pages (erase b) xs) g.pages c ≡ 0
      each c (inl q) e l v = rw q.0 (used_erase g.pages xs b fits)
      each c (inr q) e l v = v (omega (arith, occ_no c b q.0))

  pub scan_freed : (xs : List ℕ) → Tidy g xs z → BlockFits g.pages xs b
      → scan_of (apply_op g.pages (erase b) xs) g.pages (freed z b) ≡ scan_of xs g.pages z
  scan_freed xs t fits = freed_scan z b (apply_op g.pages (erase b) xs) g.pages ∙ scan_erase g xs z t b none fits

-- ---- the zones of a checkpoint and those of a live state after it
-- the same blocks are scanned, and those free in the first are free in the second
pub record Grown (z₀ z : Zones) : Type 0 where
  pub available : available_of z₀ ≡ available_of z
  pub unavailable : unavailable_of z₀ ≡ unavailable_of z
  pub free : Sublist (free_of z₀) (free_of z)

pub grown_same : (z : Zones) → Grown z z
grown_same z = record { available = refl; unavailable = refl; free = sub_refl (free_of z) }

pub grown_freed : (z₀ z : Zones) (b : ℕ) → Grown z₀ z → Grown z₀ (freed z b)
grown_freed z₀ z b h = record {
  available = h.available ∙ sym (freed_available z b);
  unavailable = h.unavailable ∙ sym (freed_unavailable z b);
  free = rw (freed_free z b) (sub_trans h.free (insert_sub b (free_of z)));
}

module _ (z₀ z : Zones) (h : Grown z₀ z) where
  pub grown_scan : (xs : List ℕ) (p : ℕ) → scan_of xs p z₀ ≡ scan_of xs p z
  unfolding scan_of
  grown_scan xs p = rw (h.available, h.unavailable)

  pub grown_tidy : (g : Geometry) (xs : List ℕ) → zones_ok g z₀ ≡ true → Tidy g xs z → Tidy g xs z₀
  grown_tidy g xs ok t = record {
    ok = ok;
    order = λ one. subst (Order xs g.pages) (sym h.available) (t.order one);
    blank = each_sub (λ (c : ℕ). used_in xs g.pages c ≡ 0) h.free t.blank;
  }
