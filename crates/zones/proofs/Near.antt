-- The identifiers on the pages of the near blocks, listed page by page and block by block: how many there may be, what one more page or block
-- gives, and that a number is on the list where a page has it. Assumes nothing.
use mathlib.Core.Path.{◌≡◌, refl, sym, ap, ◌∙◌}
use mathlib.Core.Bool.{Bool, true, false, not, ◌&&◌, ◌||◌}
use mathlib.Core.List.{List, [], ◌∷◌, ◌++◌, append_assoc, append-nil}
use Prim.Native.Nat.{ℕ, zero, suc, ◌+◌, ◌-◌, ◌*◌, ◌≤◌, ◌<◌}
use native.Mathlib.Numerals.{add-one}
use native.Mathlib.Omega.{arith}
use lib.ListN.{length, take, get_or, length-append}
use lib.Seq.{take-suc}
use lib.Dec.{eqb}
use borrow.Author.Tests.{eq-eqb, ne_eqb, eqb-true, eqb-false}
use Rattle.model.specs.Lists.{any, keep}
use Rattle.model.specs.Page.{spare_of, page_at, whole_at}
use Rattle.model.specs.Zones.{Entry, entry_of, entry_at, whole_from, scan_in, on_pages}
use Rattle.model.specs.declared.Spare.{Spare}
use Rattle.arrays.specs.Scan.{scan_append}
use Rattle.zones.specs.Judging.{ids_in}

-- ---- the identifiers of entries
ids_append : (es fs : List Entry) → ids_in (es ++ fs) ≡ ids_in es ++ ids_in fs
unfolding ids_in
ids_append [] fs = refl
ids_append (e ∷ es) fs =
    let head = keep (not (eqb e.id 0)) (e.id ∷ []) in
    ap (λ (l : List ℕ). head ++ l) (ids_append es fs) ∙ sym (append_assoc head (ids_in es) (ids_in fs))

-- an identifier other than 0 is among them where an entry has it
pub ids_on_pages : (id : ℕ) (es : List Entry) → eqb id 0 ≡ false → any (λ (x : ℕ). eqb x id) (ids_in es) ≡ on_pages id es
unfolding any ids_in on_pages
ids_on_pages id [] h = refl
ids_on_pages id (e ∷ es) h = go (eqb e.id 0) refl (ids_on_pages id es h)
  where
    go : (t : Bool) → eqb e.id 0 ≡ t → any (λ (x : ℕ). eqb x id) (ids_in es) ≡ any (λ (f : Entry). eqb f.id id) es
        → any (λ (x : ℕ). eqb x id) (keep (not t) (e.id ∷ []) ++ ids_in es) ≡ (eqb e.id id || any (λ (f : Entry). eqb f.id id) es)
    go true z r =
        let a = eqb-true e.id 0 z in
        let b = eqb-false id 0 h in
        r ∙ rw (ne_eqb e.id id (λ k. b (sym k ∙ a)))
    go false z r = ap (λ (t : Bool). eqb e.id id || t) r

-- ---- page k, s being its spare area
module _ (xs : List ℕ) (k : ℕ) (s : Spare) (e : s ≡ spare_of (page_at xs k)) where
  page_ids : ids_in (entry_at xs k) ≡ keep (whole_at xs k && not (eqb s.id 0)) (s.id ∷ [])
  unfolding ids_in entry_at entry_of
  page_ids = rw (← e) (go (whole_at xs k))
    where
      go : (w : Bool) → ids_in (keep w (entry_of k s ∷ [])) ≡ keep (w && not (eqb s.id 0)) (s.id ∷ [])
      go true = append-nil (keep (not (eqb s.id 0)) (s.id ∷ []))
      go false = refl

  pub no_id : s.id ≡ 0 → ids_in (entry_at xs k) ≡ []
  no_id h = page_ids ∙ rw (eq-eqb s.id 0 h) (go (whole_at xs k))
    where
      go : (w : Bool) → keep (w && false) (s.id ∷ []) ≡ []
      go true = refl
      go false = refl

  pub not_whole : whole_at xs k ≡ false → ids_in (entry_at xs k) ≡ []
  not_whole h = page_ids ∙ rw h

  pub one_id : (s.id ≡ 0 → ⊥) → whole_at xs k ≡ true → ids_in (entry_at xs k) ≡ s.id ∷ []
  one_id h w = page_ids ∙ rw (ne_eqb s.id 0 h, w)

-- ---- how many there may be
ids_few : (es : List Entry) → length (ids_in es) ≤ length es
unfolding ids_in
ids_few [] = omega arith
ids_few (e ∷ es) = go (eqb e.id 0) (ids_few es)
  where
    go : (t : Bool) → length (ids_in es) ≤ length es → length (keep (not t) (e.id ∷ []) ++ ids_in es) ≤ suc (length es)
    go true h = omega arith
    go false h = omega arith

run_few : (xs : List ℕ) (k n : ℕ) → length (whole_from xs k n) ≤ n
unfolding whole_from entry_at
run_few xs k zero = omega arith
run_few xs k (suc n) = go (whole_at xs k) (run_few xs (suc k) n)
  where
    go : (t : Bool) → length (whole_from xs (suc k) n) ≤ n → length (keep t (entry_of k (spare_of (page_at xs k)) ∷ []) ++ whole_from xs (suc k) n) ≤ suc n
    go true h = omega arith
    go false h = omega arith

scan_few : (xs : List ℕ) (p : ℕ) (bs : List ℕ) → p ≤ 64 → length (scan_in xs p bs) ≤ length bs * 64
unfolding scan_in
scan_few xs p [] h = omega arith
scan_few xs p (b ∷ bs) h =
    let r = run_few xs (b * p) p in
    let s = scan_few xs p bs h in
    omega (arith, length-append (whole_from xs (b * p) p) (scan_in xs p bs))

pub pages_few : (xs : List ℕ) (k n : ℕ) → length (ids_in (whole_from xs k n)) ≤ n
pages_few xs k n = let r = run_few xs k n in let i = ids_few (whole_from xs k n) in omega arith

pub blocks_few : (xs : List ℕ) (p : ℕ) (bs : List ℕ) → p ≤ 64 → length (ids_in (scan_in xs p bs)) ≤ length bs * 64
blocks_few xs p bs h = let s = scan_few xs p bs h in let i = ids_few (scan_in xs p bs) in omega arith

-- ---- a page and a block more
run_more : (xs : List ℕ) (a n : ℕ) → whole_from xs a (suc n) ≡ whole_from xs a n ++ entry_at xs (a + n)
unfolding whole_from
run_more xs a zero = let e : a ≡ a + 0 = omega arith in append-nil (entry_at xs a) ∙ ap (entry_at xs) e
run_more xs a (suc n) =
    let e : suc a + n ≡ a + suc n = omega arith in
    ap (λ (l : List Entry). entry_at xs a ++ l) (run_more xs (suc a) n ∙ ap (λ (j : ℕ). whole_from xs (suc a) n ++ entry_at xs j) e)
    ∙ sym (append_assoc (entry_at xs a) (whole_from xs (suc a) n) (entry_at xs (a + suc n)))

pub page_more : (xs : List ℕ) (a k : ℕ) → a ≤ k → ids_in (whole_from xs a (k + 1 - a)) ≡ ids_in (whole_from xs a (k - a)) ++ ids_in (entry_at xs k)
page_more xs a k h =
    let n : k + 1 - a ≡ suc (k - a) = omega arith in
    let e : a + (k - a) ≡ k = omega arith in
    rw (n, run_more xs a (k - a), e) (ids_append (whole_from xs a (k - a)) (entry_at xs k))

pub block_more : (xs : List ℕ) (p : ℕ) (bs : List ℕ) (i : ℕ) → i < length bs
    → ids_in (scan_in xs p (take (i + 1) bs)) ≡ ids_in (scan_in xs p (take i bs)) ++ ids_in (whole_from xs (get_or bs i 0 * p) p)
unfolding scan_in
block_more xs p bs i h =
    ap ids_in (ap (scan_in xs p) (rw (add-one, take-suc bs i 0 h)) ∙ scan_append xs p (take i bs) (get_or bs i 0 ∷ []) ∙ ap (λ (l : List Entry). scan_in xs p (take i bs) ++ l) (append-nil (whole_from xs (get_or bs i 0 * p) p)))
    ∙ ids_append (scan_in xs p (take i bs)) (whole_from xs (get_or bs i 0 * p) p)

-- no page yet, from page a on
pub no_page : (xs : List ℕ) (a : ℕ) (l : List ℕ) → l ≡ l ++ ids_in (whole_from xs a (a - a))
unfolding ids_in whole_from
no_page xs a l = let z : a - a ≡ 0 = omega arith in rw z (sym (append-nil l))

-- the next page k has an identifier, or none: l has those of the pages before it, behind `start`
module _ (xs : List ℕ) (a k : ℕ) (low : a ≤ k) (start l : List ℕ) (e : l ≡ start ++ ids_in (whole_from xs a (k - a))) where
  pub page_gives : (id : ℕ) → ids_in (entry_at xs k) ≡ id ∷ [] → (m : List ℕ) → m ≡ l ++ (id ∷ []) → m ≡ start ++ ids_in (whole_from xs a (k + 1 - a))
  page_gives id f m g = g ∙ rw (page_more xs a k low, f, e) (append_assoc start (ids_in (whole_from xs a (k - a))) (id ∷ []))

  pub page_gives_none : ids_in (entry_at xs k) ≡ [] → l ≡ start ++ ids_in (whole_from xs a (k + 1 - a))
  page_gives_none f = e ∙ rw (page_more xs a k low, f) (ap (λ (u : List ℕ). start ++ u) (sym (append-nil (ids_in (whole_from xs a (k - a))))))
