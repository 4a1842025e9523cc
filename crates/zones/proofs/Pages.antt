-- Walking the whole pages of blocks, page by page and block by block, and what the last page of a block shows. Assumes nothing.
use mathlib.Core.Path.{◌≡◌, refl, sym, ap, ◌∙◌}
use mathlib.Core.Bool.{Bool, true, false, not, ◌&&◌, ◌||◌}
use mathlib.Core.List.{List, ◌∷◌, []}
use Prim.Native.Nat.{ℕ, zero, suc, ◌+◌, ◌-◌, ◌*◌, ◌≤◌}
use native.Mathlib.Numerals.{add-one}
use native.Mathlib.Omega.{arith}
use lib.Dec.{eqb}
use borrow.Author.Tests.{eq-eqb, ne_eqb}
use Rattle.std.specs.List.{list_any, range_with_len}
use Rattle.model.specs.Lists.{any, keep}
use Rattle.model.specs.Page.{spare_of, page_at, blank_at, whole_at, used_from}
use Rattle.model.specs.Zones.{Entry, available_of, unavailable_of, entry_of, entry_at, whole_from, scan_in, scan_of, on_pages, used_in, is_full}
use Rattle.model.specs.declared.Spare.{Spare}
use Rattle.model.specs.declared.Zones.{Zones}
use Rattle.arrays.specs.Tests.{and_right_false, any_append}
use Rattle.arrays.specs.Used.{used_le, used_clean_end, used_end}
use Rattle.arrays.specs.Scan.{scan_append}

pub and_true : (w : Bool) → (w && true) ≡ w
and_true true = refl
and_true false = refl

module _ (q : Entry → Bool) (xs : List ℕ) where
  -- ---- page k
  pub page_passes : (k : ℕ) → any q (entry_at xs k) ≡ (whole_at xs k && q (entry_of k (spare_of (page_at xs k))))
  unfolding any entry_at
  page_passes k = go (whole_at xs k) (q (entry_of k (spare_of (page_at xs k)))) refl
    where
      go : (w t : Bool) → q (entry_of k (spare_of (page_at xs k))) ≡ t → any q (keep w (entry_of k (spare_of (page_at xs k)) ∷ [])) ≡ (w && t)
      go true true e = rw e
      go true false e = rw e
      go false t e = refl

  -- ---- page by page, and block by block
  pub pages_any : (k n : ℕ) → list_any (λ (j : ℕ). any q (entry_at xs j)) (range_with_len k n) ≡ any q (whole_from xs k n)
  unfolding any whole_from
  pages_any k zero = refl
  pages_any k (suc n) =
      ap (λ (t : Bool). any q (entry_at xs k) || t) (rw add-one (pages_any (suc k) n)) ∙ sym (any_append q (entry_at xs k) (whole_from xs (suc k) n))

  pub blocks_any : (p : ℕ) (bs : List ℕ) → list_any (λ (b : ℕ). any q (whole_from xs (b * p) p)) bs ≡ any q (scan_in xs p bs)
  unfolding any scan_in
  blocks_any p [] = refl
  blocks_any p (b ∷ bs) =
      ap (λ (t : Bool). any q (whole_from xs (b * p) p) || t) (blocks_any p bs) ∙ sym (any_append q (whole_from xs (b * p) p) (scan_in xs p bs))

-- ---- the identifier of page k, s being its spare area
module _ (xs : List ℕ) (k id : ℕ) (s : Spare) (e : s ≡ spare_of (page_at xs k)) where
  on_page : on_pages id (entry_at xs k) ≡ (whole_at xs k && eqb s.id id)
  unfolding on_pages entry_of
  on_page = page_passes (λ (x : Entry). eqb x.id id) xs k ∙ rw (← e)

  pub other_page : (s.id ≡ id → ⊥) → false ≡ on_pages id (entry_at xs k)
  other_page h = sym (on_page ∙ and_right_false (whole_at xs k) (eqb s.id id) (ne_eqb s.id id h))

  pub same_page : s.id ≡ id → whole_at xs k ≡ on_pages id (entry_at xs k)
  same_page h = sym (on_page ∙ rw (eq-eqb s.id id h) (and_true (whole_at xs k)))

module _ (id : ℕ) (xs : List ℕ) where
  pub ids_any : (k n : ℕ) → list_any (λ (j : ℕ). on_pages id (entry_at xs j)) (range_with_len k n) ≡ on_pages id (whole_from xs k n)
  unfolding on_pages
  ids_any k n = pages_any (λ (x : Entry). eqb x.id id) xs k n

  pub ids_in_any : (p : ℕ) (bs : List ℕ) → list_any (λ (b : ℕ). on_pages id (whole_from xs (b * p) p)) bs ≡ on_pages id (scan_in xs p bs)
  unfolding on_pages
  ids_in_any p bs = blocks_any (λ (x : Entry). eqb x.id id) xs p bs

-- ---- an identifier in scan order
module _ (id : ℕ) (xs : List ℕ) (p : ℕ) (z : Zones) where
  scanned : on_pages id (scan_of xs p z) ≡ (on_pages id (scan_in xs p (unavailable_of z)) || on_pages id (scan_in xs p (available_of z)))
  unfolding on_pages scan_of
  scanned =
      ap (any (λ (x : Entry). eqb x.id id)) (scan_append xs p (unavailable_of z) (available_of z))
      ∙ any_append (λ (x : Entry). eqb x.id id) (scan_in xs p (unavailable_of z)) (scan_in xs p (available_of z))

  pub in_first : on_pages id (scan_in xs p (unavailable_of z)) ≡ true → true ≡ on_pages id (scan_of xs p z)
  in_first h = sym (scanned ∙ rw h)

  pub in_second : on_pages id (scan_in xs p (unavailable_of z)) ≡ false → on_pages id (scan_in xs p (available_of z)) ≡ on_pages id (scan_of xs p z)
  in_second h = sym (scanned ∙ rw h)

-- ---- a block is full where its last page is not erased
pub full_last : (xs : List ℕ) (p b : ℕ) → 1 ≤ p → not (blank_at xs (b * p + (p - 1))) ≡ is_full xs p b
unfolding is_full used_in
full_last xs p b h = go (blank_at xs (b * p + (p - 1))) refl
  where
    go : (t : Bool) → blank_at xs (b * p + (p - 1)) ≡ t → not t ≡ eqb (used_from xs (b * p) p) p
    go true e =
        let m : p ≡ suc (p - 1) = omega arith in
        let u : used_from xs (b * p) p ≡ used_from xs (b * p) (p - 1) = ap (used_from xs (b * p)) m ∙ used_clean_end xs (b * p) (p - 1) e in
        let l = used_le xs (b * p) (p - 1) in
        sym (ne_eqb (used_from xs (b * p) p) p (λ k. omega arith))
    go false e =
        let m : p ≡ suc (p - 1) = omega arith in
        sym (eq-eqb (used_from xs (b * p) p) p (ap (used_from xs (b * p)) m ∙ used_end xs (b * p) (p - 1) e ∙ sym m))
