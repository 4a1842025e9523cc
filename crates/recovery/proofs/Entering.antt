-- Pages entered one after the other, each where its rank is not below the best so far of its logical page. Assumes nothing.
use mathlib.Core.Path.{◌≡◌, refl, sym, ◌∙◌}
use mathlib.Core.List.{List, [], ◌∷◌, ◌++◌}
use Prim.Native.Nat.{ℕ, ◌+◌, ◌*◌, ◌≤◌, ◌<◌}
use native.Mathlib.Omega.{arith}
use native.Mathlib.Numerals.{add-one}
use lib.ListN.{length, take, drop, get_or, set, length-take, length-drop}
use lib.Seq.{take-suc}
use lib.Dec.{eqb}
use borrow.Author.Tests.{le-leb, lt-leb}
use Rattle.model.specs.Lists.{those}
use Rattle.model.specs.Page.{spare_of}
use Rattle.model.specs.Zones.{Entry, entry_of}
use Rattle.model.specs.Recovery.{leads_to, of_id}
use Rattle.ranks.specs.Dealt.{Each, each_take, each_drop}
use Rattle.ranks.specs.Pass.{Best, enter_best, best_of, best_append}
use Rattle.sorting.specs.Sort.{key_at}
use Rattle.scan.specs.Taken.{entry_in, entries_in}
use Rattle.recovery.specs.Redo.{best, Enterable}
use Rattle.scan.proofs.Listing.{entries_append, entries_those}

-- ---- one page
-- the rank of the page alone counts
pub enter_rank : (rank : Entry → ℕ) (e : Entry) (r : Best) → enter_best rank e r ≡ enter_best (λ (x : Entry). rank e) e r
unfolding enter_best
enter_rank rank e r = refl

-- it is entered, or passed over
pub enter_in : (v : ℕ) (e : Entry) (r : Best) → get_or r.ranks e.lpn 0 ≤ v
    → enter_best (λ (x : Entry). v) e r ≡ record { map = set r.map e.lpn (leads_to e); ranks = set r.ranks e.lpn v }
unfolding enter_best
enter_in v e r h = rw (le-leb (get_or r.ranks e.lpn 0) v h)

pub enter_out : (v : ℕ) (e : Entry) (r : Best) → v < get_or r.ranks e.lpn 0 → enter_best (λ (x : Entry). v) e r ≡ r
unfolding enter_best
enter_out v e r h = rw (lt-leb (get_or r.ranks e.lpn 0) v h)

-- ---- one page more
pub entries_more : (xs ks : List ℕ) (i : ℕ) → i < length ks → entries_in xs (take (i + 1) ks) ≡ entries_in xs (take i ks) ++ (entry_in xs (get_or ks i 0) ∷ [])
unfolding entries_in
entries_more xs ks i h = rw (add-one, take-suc ks i 0 h) (entries_append xs (take i ks) (get_or ks i 0 ∷ []))

pub enter_more : (rank : Entry → ℕ) (xs ks : List ℕ) (i : ℕ) (r : Best) → i < length ks
    → best_of rank (entries_in xs (take (i + 1) ks)) r ≡ enter_best rank (entry_in xs (get_or ks i 0)) (best_of rank (entries_in xs (take i ks)) r)
unfolding best_of
enter_more rank xs ks i r h = rw (entries_more xs ks i h) (best_append rank (entries_in xs (take i ks)) (entry_in xs (get_or ks i 0) ∷ []) r)

-- ---- all pages
-- a fact of each page is one of each entry, and back
pub entries_each : (P : Entry → Type 0) (xs ks : List ℕ) → Each (λ (k : ℕ). P (entry_in xs k)) ks → Each P (entries_in xs ks)
unfolding entries_in
entries_each P xs [] h = tt
entries_each P xs (k ∷ ks) h = (h.0, entries_each P xs ks h.1)

pub each_entries : (P : Entry → Type 0) (xs ks : List ℕ) → Each P (entries_in xs ks) → Each (λ (k : ℕ). P (entry_in xs k)) ks
unfolding entries_in
each_entries P xs [] h = tt
each_entries P xs (k ∷ ks) h = (h.0, each_entries P xs ks h.1)

-- the entries of an identifier are those of the pages that have it
pub entries_id : (xs ks : List ℕ) (i : ℕ) → of_id i (entries_in xs ks) ≡ entries_in xs (those (λ (k : ℕ). eqb (key_at xs 516 k) i) ks)
unfolding of_id key_at entry_in entry_of spare_of
entries_id xs ks i = entries_those (λ (e : Entry). eqb e.id i) xs ks

-- ranks that agree on them enter the same
pub best_ranks : (rank rank' : Entry → ℕ) (es : List Entry) (r : Best) → Each (λ (e : Entry). rank e ≡ rank' e) es → best_of rank es r ≡ best_of rank' es r
unfolding best_of enter_best
best_ranks rank rank' [] r h = refl
best_ranks rank rank' (e ∷ es) r h = rw h.0 (best_ranks rank rank' es _ h.1)

-- ---- some of the pages, one after the other
pub part_enterable : (xs ks map ranks : List ℕ) (n i : ℕ) → Enterable xs ks map ranks
    → (m b : List ℕ) → length m ≡ length map → length b ≡ length ranks → Enterable xs (take n (drop i ks)) m b
part_enterable xs ks map ranks n i e m b lm lb =
    record {
      pages = record { few = omega (arith, length-take n (drop i ks), length-drop i ks, e.pages.few); fit = part (λ (k : ℕ). k * 528 + 528 ≤ length xs) e.pages.fit };
      logical = rw lm (part (λ (k : ℕ). (entry_in xs k).lpn < length map) e.logical);
      ranked = lb ∙ e.ranked ∙ sym lm;
    }
  where
    part : (P : ℕ → Type 0) → Each P ks → Each P (take n (drop i ks))
    part P h = each_take P n (drop i ks) (each_drop P i ks h)

-- the first i of the pages ks are entered over map₀ and ranks₀
pub record Entered (rank : Entry → ℕ) (xs ks map₀ ranks₀ : List ℕ) (i : ℕ) (map ranks : List ℕ) : Type 0 where
  pub most : i ≤ length ks
  pub mapped : length map ≡ length map₀
  pub ranked : length ranks ≡ length ranks₀
  pub is : best map ranks ≡ best_of rank (entries_in xs (take i ks)) (best map₀ ranks₀)

module _ (rank : Entry → ℕ) (xs ks map₀ ranks₀ : List ℕ) where
  pub entered_none : Entered rank xs ks map₀ ranks₀ 0 map₀ ranks₀
  unfolding best_of entries_in
  entered_none = record { most = omega arith; mapped = refl; ranked = refl; is = refl }

  module _ (i : ℕ) (map ranks : List ℕ) (d : Entered rank xs ks map₀ ranks₀ i map ranks) where
    abbrev page : ℕ
    page = get_or ks i 0

    -- and what it leaves, entered with its rank v
    pub entered_more : i < length ks → (v : ℕ) → v ≡ rank (entry_in xs page) → (m r : List ℕ) → length m ≡ length map → length r ≡ length ranks
        → best m r ≡ enter_best (λ (e : Entry). v) (entry_in xs page) (best map ranks) → Entered rank xs ks map₀ ranks₀ (i + 1) m r
    entered_more l v q m r lm lr e =
        record {
          most = omega arith;
          mapped = lm ∙ d.mapped;
          ranked = lr ∙ d.ranked;
          is = e ∙ rw (q, d.is) (sym (enter_rank rank (entry_in xs page) _)) ∙ sym (enter_more rank xs ks i (best map₀ ranks₀) l);
        }
