-- Runs: in a list of pages sorted by TxID the pages of one identifier stand together, and their version is that of the run. So pages entered run after
-- run, each with the version of its run, are entered by rank.
use mathlib.Core.Path.{◌≡◌, refl, sym, ap, ◌∙◌}
use mathlib.Core.Logic.{inl, inr, ◌≢◌}
use mathlib.Core.Bool.{Bool, true, false, not, cond, ◌&&◌}
use mathlib.Core.List.{List, [], ◌∷◌, ◌++◌, append-nil}
use Prim.Native.Nat.{ℕ, zero, suc, ◌+◌, ◌-◌, ◌≤◌, ◌<◌, max}
use native.Mathlib.Omega.{arith}
use lib.ListN.{length, take, drop, get_or, take-append-drop, length-take, length-drop}
use lib.Seq.{take-add, drop-cons, drop-drop}
use lib.Dec.{eqb}
use borrow.Author.Tests.{eq-eqb, ne_eqb}
use Rattle.std.specs.List.{position_or_len}
use Rattle.model.specs.Lists.{keep, those}
use Rattle.model.specs.Zones.{Entry}
use Rattle.model.specs.Recovery.{of_id, top}
use Rattle.arrays.specs.Tests.{Is, eqb_cases, those_append, those_no, those_nil}
use Rattle.ranks.specs.Dealt.{Each, Sorted, every, each_map, each_append, each_those, run_is}
use Rattle.ranks.specs.Entries.{entries_both, those_same}
use Rattle.ranks.specs.Pass.{Best, best_of, best_append}
use Rattle.ranks.specs.Best.{ver_of, rank_of, ver_run}
use Rattle.sorting.specs.Sort.{key_at}
use Rattle.scan.specs.Taken.{entry_in, entries_in}
use Rattle.scan.proofs.Listing.{entries_append, entries_length}
use Rattle.scan.proofs.Judging.{key_id}
use Rattle.recovery.specs.Redo.{run_of, run_version, Runs}
use Rattle.recovery.proofs.Entering.{entries_more, entries_each, entries_id, best_ranks}

-- ---- where a run ends
-- the run of an identifier ends where another one stands
pub run_position : (xs : List ℕ) (id : ℕ) (ks : List ℕ) → position_or_len (λ (k : ℕ). not (eqb (key_at xs 516 k) id)) ks ≡ run_of xs id ks
unfolding run_of
run_position xs id [] = refl
run_position xs id (k ∷ ks) = go (eqb (key_at xs 516 k) id) (run_position xs id ks)
  where
    go : (t : Bool) → position_or_len (λ (k : ℕ). not (eqb (key_at xs 516 k) id)) ks ≡ run_of xs id ks
        → cond (not (not t)) (1 + position_or_len (λ (k : ℕ). not (eqb (key_at xs 516 k) id)) ks) 0 ≡ cond t (suc (run_of xs id ks)) 0
    go true h = omega arith
    go false h = refl

pub run_most : (xs : List ℕ) (id : ℕ) (ks : List ℕ) → run_of xs id ks ≤ length ks
unfolding run_of
run_most xs id [] = omega arith
run_most xs id (k ∷ ks) = go (eqb (key_at xs 516 k) id) (run_most xs id ks)
  where
    go : (t : Bool) → run_of xs id ks ≤ length ks → cond t (suc (run_of xs id ks)) 0 ≤ suc (length ks)
    go true h = omega arith
    go false h = omega arith

-- page i is of its own run
pub run_some : (xs ks : List ℕ) (i : ℕ) → i < length ks → 0 < run_of xs (key_at xs 516 (get_or ks i 0)) (drop i ks)
unfolding run_of
run_some xs ks i h = rw (drop-cons ks i 0 h, eq-eqb (key_at xs 516 (get_or ks i 0)) _ refl) (omega arith)

-- ---- the version of a run
-- with one more page that passes it is the higher one
last_top : (p : Entry → Bool) (es : List Entry) (e : Entry) → p e ≡ true → top (those p (es ++ (e ∷ []))) ≡ max (top (those p es)) e.ver
unfolding those top
last_top p [] e h = rw h (omega arith)
last_top p (x ∷ es) e h = go (p x) (last_top p es e h)
  where
    go : (t : Bool) → top (those p (es ++ (e ∷ []))) ≡ max (top (those p es)) e.ver
        → top (keep t (x ∷ []) ++ those p (es ++ (e ∷ []))) ≡ max (top (keep t (x ∷ []) ++ those p es)) e.ver
    go true ih = omega (arith, ih)
    go false ih = ih

pub version_more : (p : Entry → Bool) (xs run : List ℕ) (i : ℕ) → i < length run → p (entry_in xs (get_or run i 0)) ≡ true
    → top (those p (entries_in xs (take (i + 1) run))) ≡ max (top (those p (entries_in xs (take i run)))) (entry_in xs (get_or run i 0)).ver
version_more p xs run i l h = rw (entries_more xs run i l) (last_top p (entries_in xs (take i run)) (entry_in xs (get_or run i 0)) h)

-- with one that does not it stays
pub version_same : (p : Entry → Bool) (xs run : List ℕ) (i : ℕ) → i < length run → p (entry_in xs (get_or run i 0)) ≡ false
    → top (those p (entries_in xs (take (i + 1) run))) ≡ top (those p (entries_in xs (take i run)))
version_same p xs run i l h =
    let e = entry_in xs (get_or run i 0) in
    rw (entries_more xs run i l, those_append p (entries_in xs (take i run)) (e ∷ []), those_no p e [] h, those_nil p)
    (ap top (append-nil (those p (entries_in xs (take i run)))))

-- ---- one run
-- the pages of a run have its identifier,
run_own : (xs : List ℕ) (id : ℕ) (ks : List ℕ) → Each (λ (k : ℕ). key_at xs 516 k ≡ id) (take (run_of xs id ks) ks)
unfolding run_of
run_own xs id [] = tt
run_own xs id (k ∷ ks) = go (eqb_cases (key_at xs 516 k) id) (run_own xs id ks)
  where
    go : Is (key_at xs 516 k) id → Each (λ (k : ℕ). key_at xs 516 k ≡ id) (take (run_of xs id ks) ks)
        → Each (λ (k : ℕ). key_at xs 516 k ≡ id) (take (cond (eqb (key_at xs 516 k) id) (suc (run_of xs id ks)) 0) (k ∷ ks))
    go (inl q) ih = rw q.1 (q.0, ih)
    go (inr q) ih = rw q.1 tt

-- and those after it a higher one
run_rest : (xs : List ℕ) (id : ℕ) (ks : List ℕ) → Sorted (key_at xs 516) ks → Each (λ (k : ℕ). id ≤ key_at xs 516 k) ks
    → Each (λ (k : ℕ). id < key_at xs 516 k) (drop (run_of xs id ks) ks)
unfolding run_of
run_rest xs id [] s h = tt
run_rest xs id (k ∷ ks) s h = go (eqb_cases (key_at xs 516 k) id) (run_rest xs id ks s.1 h.1)
  where
    go : Is (key_at xs 516 k) id → Each (λ (k : ℕ). id < key_at xs 516 k) (drop (run_of xs id ks) ks)
        → Each (λ (k : ℕ). id < key_at xs 516 k) (drop (cond (eqb (key_at xs 516 k) id) (suc (run_of xs id ks)) 0) (k ∷ ks))
    go (inl q) ih = rw q.1 ih
    go (inr q) ih =
        let l : id < key_at xs 516 k = omega (arith, h.0, q.0) in
        rw q.1 (l, each_map _ _ (λ j m. omega arith) ks s.0)

sorted_drop : (f : ℕ → ℕ) (i : ℕ) (ks : List ℕ) → Sorted f ks → Sorted f (drop i ks)
sorted_drop f zero ks s = s
sorted_drop f (suc i) [] s = tt
sorted_drop f (suc i) (k ∷ ks) s = sorted_drop f i ks s.1

-- a page whose TxCnt is the number of some pages is a mark
marks_some : (n : ℕ) (es : List Entry) → n ≢ 0
    → those (λ (x : Entry). not (eqb x.cnt 0) && eqb x.cnt n) es ≡ those (λ (x : Entry). eqb x.cnt n) es
marks_some n es z = those_same _ _ es (every _ (λ x. go x.cnt (eqb_cases x.cnt 0)) es)
  where
    go : (c : ℕ) → Is c 0 → (not (eqb c 0) && eqb c n) ≡ eqb c n
    go c (inl q) = rw (q.1, ne_eqb c n (λ r. z (sym r ∙ q.0)))
    go c (inr q) = rw q.1

-- the pages before page i have lower identifiers than that one
abbrev pub Bound : List ℕ → List ℕ → ℕ → Type 0
Bound xs order i = i < length order → Each (λ (k : ℕ). key_at xs 516 k < key_at xs 516 (get_or order i 0)) (take i order)

-- the run of page i, up to page j
module _ (xs order : List ℕ) (i j : ℕ) (runs : Runs xs order) (l : i < length order)
    (end : j ≡ i + run_of xs (key_at xs 516 (get_or order i 0)) (drop i order)) (bound : Bound xs order i) where
  abbrev key : ℕ → ℕ
  key = key_at xs 516

  abbrev id : ℕ
  id = key (get_or order i 0)

  abbrev run : List ℕ
  run = take (j - i) (drop i order)

  abbrev entries : List Entry
  entries = entries_in xs order

  first : drop i order ≡ get_or order i 0 ∷ drop (suc i) order
  first = drop-cons order i 0 l

  -- it is not empty
  some : length run ≢ 0
  some z =
      let e : 0 < run_of xs id (drop i order) = rw first (unfold run_of in rw (eq-eqb id id refl) (omega arith)) in
      absurd (omega (arith, length-take (j - i) (drop i order), length-drop i order))

  mid : Each (λ (k : ℕ). key k ≡ id) run
  mid = let e : j - i ≡ run_of xs id (drop i order) = omega arith in rw e (run_own xs id (drop i order))

  high : Each (λ (k : ℕ). id < key k) (drop j order)
  high =
      let s : Sorted key (drop i order) = sorted_drop key i order runs.sorted in
      let t : Each (λ (k : ℕ). id ≤ key k) (drop (suc i) order) × Sorted key (drop (suc i) order) = rw first at s in
      let least : Each (λ (k : ℕ). id ≤ key k) (drop i order) = rw first (omega arith, t.0) in
      rw (end, ← drop-drop (run_of xs id (drop i order)) i order) (run_rest xs id (drop i order) s least)

  -- the list up to its end, and whole
  up_to : take j order ≡ take i order ++ run
  up_to = let e : j ≡ i + (j - i) = omega arith in ap (λ (n : ℕ). take n order) e ∙ take-add i (j - i) order

  parts : take i order ++ (run ++ drop j order) ≡ order
  parts =
      let e : i + (j - i) ≡ j = omega arith in
      let d : drop (j - i) (drop i order) ≡ drop j order = drop-drop (j - i) i order ∙ ap (λ (n : ℕ). drop n order) e in
      ap (λ (ks : List ℕ). take i order ++ (run ++ ks)) (sym d) ∙ ap (λ (ks : List ℕ). take i order ++ ks) (take-append-drop (j - i) (drop i order))
      ∙ take-append-drop i order

  -- it has all pages of its identifier
  own : those (λ (k : ℕ). eqb (key k) id) order ≡ run
  own = ap (those (λ (k : ℕ). eqb (key k) id)) (sym parts) ∙ run_is key id (take i order) run (drop j order) (bound l) mid high

  entries_own : of_id id entries ≡ entries_in xs run
  entries_own = entries_id xs order id ∙ ap (entries_in xs) own

  -- so its version is that of its pages
  version : (e : Entry) → e.id ≡ id → e.id ≢ 0 → run_version xs run ≡ rank_of entries e
  unfolding run_version rank_of
  version e q z =
      let o : of_id e.id entries ≡ entries_in xs run = ap (λ (n : ℕ). of_id n entries) q ∙ entries_own in
      let v : ver_of entries e ≡ top (those (λ (x : Entry). not (eqb x.cnt 0) && eqb x.cnt (length run)) (entries_in xs run))
      = rw (o, entries_length xs run) at (ver_run entries e z) in
      sym (v ∙ ap top (marks_some (length run) (entries_in xs run) some))

  versions : Each (λ (e : Entry). run_version xs run ≡ rank_of entries e) (entries_in xs run)
  versions =
      let change : Each (λ (k : ℕ). key k ≢ 0) run = rw own at (each_those (λ (k : ℕ). key k ≢ 0) (λ (k : ℕ). eqb (key k) id) order runs.change) in
      entries_both (λ (e : Entry). e.id ≡ id) (λ (e : Entry). e.id ≢ 0) _ version (entries_in xs run)
      (entries_each _ xs run (each_map _ _ (λ k q. sym (key_id xs k) ∙ q) run mid))
      (entries_each _ xs run (each_map _ _ (λ k z q. z (key_id xs k ∙ q)) run change))

  -- entered with its version, after the runs before it
  pub run_step : (r : Best)
      → best_of (λ (e : Entry). run_version xs (take (j - i) (drop i order))) (entries_in xs (take (j - i) (drop i order)))
      (best_of (rank_of (entries_in xs order)) (entries_in xs (take i order)) r)
      ≡ best_of (rank_of (entries_in xs order)) (entries_in xs (take j order)) r
  run_step r =
      best_ranks (λ (e : Entry). run_version xs run) (rank_of entries) (entries_in xs run) (best_of (rank_of entries) (entries_in xs (take i order)) r) versions
      ∙ sym (best_append (rank_of entries) (entries_in xs (take i order)) (entries_in xs run) r)
      ∙ ap (λ (es : List Entry). best_of (rank_of entries) es r) (sym (entries_append xs (take i order) run) ∙ ap (entries_in xs) (sym up_to))

  -- the pages before page j have lower identifiers than that one
  pub run_bound : Bound xs order j
  run_bound m =
      let h : (id < key (get_or order j 0)) × Each (λ (k : ℕ). id < key k) (drop (suc j) order) = rw (drop-cons order j 0 m) at high in
      rw up_to (each_append _ (take i order) run (each_map _ _ (λ k a. omega (arith, h.0)) (take i order) (bound l))
      (each_map _ _ (λ k q. omega (arith, h.0)) run mid))
