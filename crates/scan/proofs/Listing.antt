-- The scan of `model` by page numbers: the entries of the whole pages among those listed. Assumes nothing.
use mathlib.Core.Path.{◌≡◌, refl, sym, ap, ap₂, ◌∙◌}
use mathlib.Core.Bool.{Bool, true, false}
use mathlib.Core.List.{List, [], ◌∷◌, ◌++◌}
use Prim.Native.Nat.{ℕ, zero, suc, ◌*◌}
use lib.ListN.{length}
use Rattle.model.specs.Lists.{keep, those, up_from}
use Rattle.model.specs.Page.{page_at, spare_of, whole_at}
use Rattle.model.specs.Zones.{Entry, entry_of, entry_at, whole_from, scan_in}
use Rattle.arrays.specs.Tests.{those_append}
use Rattle.arrays.specs.Scan.{run_zero, run_suc, scan_nil, scan_cons}
use Rattle.scan.specs.Taken.{listed, entry_in, entries_in}

-- the whole ones of some pages
abbrev pub wholes : List ℕ → List ℕ → List ℕ
wholes xs ks = those (whole_at xs) ks

pub entries_append : (xs ks ls : List ℕ) → entries_in xs (ks ++ ls) ≡ entries_in xs ks ++ entries_in xs ls
unfolding entries_in
entries_append xs [] ls = refl
entries_append xs (k ∷ ks) ls = ap (λ (es : List Entry). entry_in xs k ∷ es) (entries_append xs ks ls)

pub entries_length : (xs ks : List ℕ) → length (entries_in xs ks) ≡ length ks
unfolding entries_in
entries_length xs [] = refl
entries_length xs (k ∷ ks) = ap suc (entries_length xs ks)

-- what a test picks out of the entries
pub entries_those : (p : Entry → Bool) (xs ks : List ℕ) → those p (entries_in xs ks) ≡ entries_in xs (those (λ (k : ℕ). p (entry_in xs k)) ks)
unfolding entries_in those
entries_those p xs [] = refl
entries_those p xs (k ∷ ks) = go (p (entry_in xs k)) (entries_those p xs ks)
  where
    go : (t : Bool) → those p (entries_in xs ks) ≡ entries_in xs (those (λ (k : ℕ). p (entry_in xs k)) ks)
        → keep t (entry_in xs k ∷ []) ++ those p (entries_in xs ks) ≡ entries_in xs (keep t (k ∷ []) ++ those (λ (k : ℕ). p (entry_in xs k)) ks)
    go true h = ap (λ (es : List Entry). entry_in xs k ∷ es) h
    go false h = h

-- a page of the scan
entry_listed : (xs : List ℕ) (k : ℕ) → entry_at xs k ≡ entries_in xs (wholes xs (k ∷ []))
unfolding entry_at those entries_in entry_in
entry_listed xs k = go (whole_at xs k)
  where
    go : (t : Bool) → keep t (entry_of k (spare_of (page_at xs k)) ∷ []) ≡ entries_in xs (keep t (k ∷ []) ++ [])
    go true = refl
    go false = refl

run_listed : (xs : List ℕ) (f n : ℕ) → whole_from xs f n ≡ entries_in xs (wholes xs (up_from f n))
unfolding up_from
run_listed xs f zero = run_zero xs f ∙ sym (unfold those entries_in in refl)
run_listed xs f (suc n) =
    run_suc xs f n ∙ ap₂ {C = List Entry} ◌++◌ (entry_listed xs f) (run_listed xs (suc f) n)
    ∙ sym (ap (entries_in xs) (those_append (whole_at xs) (f ∷ []) (up_from (suc f) n)) ∙ entries_append xs (wholes xs (f ∷ [])) (wholes xs (up_from (suc f) n)))

pub scan_listed : (xs : List ℕ) (p : ℕ) (bs : List ℕ) → scan_in xs p bs ≡ entries_in xs (wholes xs (listed p bs))
unfolding listed
scan_listed xs p [] = scan_nil xs p ∙ sym (unfold those entries_in in refl)
scan_listed xs p (b ∷ bs) =
    scan_cons xs p b bs ∙ ap₂ {C = List Entry} ◌++◌ (run_listed xs (b * p) p) (scan_listed xs p bs)
    ∙ sym (ap (entries_in xs) (those_append (whole_at xs) (up_from (b * p) p) (listed p bs)) ∙ entries_append xs (wholes xs (up_from (b * p) p)) (wholes xs (listed p bs)))
