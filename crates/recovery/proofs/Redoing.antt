-- The whole redo: pages of changes by TxID, then lone pages, each entered by rank, come to what is applied by rising version. Assumes that bytes are
-- below 256, and that refusal 4 passes the scan.
use mathlib.Core.Path.{◌≡◌, refl, sym, ap, ap₂, ◌∙◌, subst}
use mathlib.Core.Logic.{inl, inr, ◌≢◌}
use mathlib.Core.Bool.{Bool, true, false, not, cond, ◌&&◌, ◌||◌, and-false}
use mathlib.Core.List.{List, [], ◌∷◌, ◌++◌, append-nil}
use Prim.Native.Nat.{ℕ, zero, suc, ◌+◌, ◌-◌, ◌≤◌, ◌<◌}
use native.Mathlib.Omega.{arith}
use native.Mathlib.Numerals.{add-one}
use lib.ListN.{length, take, get_or, replicate}
use lib.Dec.{eqb, leb, ltb}
use borrow.Author.Tests.{eq-eqb, ne_eqb, eqb-true, eqb-false, not-true, ltb-true}
use Rattle.model.specs.Lists.{all, those}
use Rattle.model.specs.Page.{spare_of}
use Rattle.model.specs.Zones.{Entry, entry_of, scan_in}
use Rattle.model.specs.Recovery.{kind_good, number_good, entry_good, pages_good, of_id, in_turn, span, top, applied, enter, redone}
use Rattle.arrays.specs.Tests.{Is, eqb_cases, and_left, and_right, those_append}
use Rattle.ranks.specs.Dealt.{Each, each_map, each_those, passed, those_off, dealt}
use Rattle.ranks.specs.Clear.{Fine}
use Rattle.ranks.specs.Parts.{good_fine, fine_number}
use Rattle.ranks.specs.Entries.{entries_both, entries_those as entries-passing}
use Rattle.ranks.specs.InTurn.{number, turn_nil, those_turn, turn_dealt, length_turn, top_turn, turn_none}
use Rattle.ranks.specs.Pass.{Best, best_of, start_best, best_append}
use Rattle.ranks.specs.Best.{ver_of, rank_of, best_pass, best_redone, ver_lone, ver_run}
use Rattle.sorting.specs.Sort.{byte_at, key_at, dealt_by, turned, sorted_in}
use Rattle.sorting.proofs.Keys.{page_byte, in_keeps, in_sorted, in_each}
use Rattle.scan.specs.Taken.{listed, entry_in, entries_in}
use Rattle.scan.specs.declared.Note.{Note}
use Rattle.scan.specs.declared.Wanted.TheVariants.{Changes, Singles}
use Rattle.scan.specs.Notes.{picked, noted}
use Rattle.scan.specs.Judged.{changes_of}
use Rattle.scan.proofs.Listing.{wholes, entries_append, entries_those, scan_listed}
use Rattle.scan.proofs.Visiting.{those_both, noted_changes, noted_lone}
use Rattle.scan.proofs.Judging.{key_id, change_ids}
use Rattle.scan.proofs.Loops.{listed_pages}
use Rattle.scan.proofs.Picked.{picked_noted, noted_pages, sorted_pages}
use Rattle.recovery.specs.Redo.{best, all_entered, Enterable, Runs, Ready}
use Rattle.recovery.proofs.Entering.{entries_each, each_entries, entries_id, best_ranks}

-- ---- nothing is above the floor
pub redo_none : (planes floor : ℕ) (es : List Entry) (m : List ℕ) → top es ≤ floor → redone planes floor es m ≡ m
unfolding redone applied span enter
redo_none planes floor es m h = let z : top es - floor ≡ 0 = omega arith in rw z

-- ---- the pages of changes are runs
-- page k is of a change, or lone
abbrev changing : List ℕ → ℕ → Bool
changing xs k = not (eqb (key_at xs 516 k) 0)

abbrev lone : List ℕ → ℕ → Bool
lone xs k = eqb (key_at xs 516 k) 0

changing_id : (xs : List ℕ) (k : ℕ) → changing xs k ≡ true → key_at xs 516 k ≢ 0
changing_id xs k t = eqb-false (key_at xs 516 k) 0 (not-true (eqb (key_at xs 516 k) 0) t)

pub changes_runs : (planes : ℕ) (xs ks : List ℕ) → ((i : ℕ) → get_or xs i 0 < 256) → Runs xs (changes_of planes xs ks)
unfolding changes_of
changes_runs planes xs ks low =
    let two = eqb planes 2 in
    let cs = noted xs Changes ks in
    record { sorted = in_sorted xs 516 (omega arith) low two cs; change = in_each _ xs two 516 cs (change_ids xs ks) }

-- ---- what refusal 4 says of them and of the lone pages
module _ (planes logical : ℕ) (e : Entry) where
  fine_lpn : Fine planes logical e → e.lpn < logical
  unfolding entry_good
  fine_lpn h = ltb-true e.lpn logical (and_left (ltb e.lpn logical) _ (and_right (number_good planes [] e) _ (and_right (kind_good e.kind) _ h)))

  fine_lone : Fine planes logical e → e.id ≡ 0 → e.cnt ≡ 1
  unfolding entry_good
  fine_lone h z =
      let t : (not (eqb e.id 0) || eqb e.cnt 1) ≡ true
      = and_left (not (eqb e.id 0) || eqb e.cnt 1) _ (and_right (not (eqb e.ver 4294967295)) _ (and_right (not (eqb e.id 4294967295)) _
      (and_right (ltb e.lpn logical) _ (and_right (number_good planes [] e) _ (and_right (kind_good e.kind) _ h))))) in
      let u : (not true || eqb e.cnt 1) ≡ true = rw (eq-eqb e.id 0 z) at t in
      eqb-true e.cnt 1 u

  -- a lone page has no number
  fine_none : Fine planes logical e → e.id ≡ 0 → e.reserved ≡ 0
  unfolding entry_good number_good
  fine_none h z =
      let n : number_good planes [] e ≡ true = and_left (number_good planes [] e) _ (and_right (kind_good e.kind) _ h) in
      let k : cond (eqb planes 2 && false) (leb 1 e.reserved && (leb e.reserved 41 && all _ [])) (eqb e.reserved 0) ≡ true = rw (eq-eqb e.id 0 z) at n in
      eqb-true e.reserved 0 (rw (and-false (eqb planes 2)) at k)

module _ (planes logical : ℕ) (xs : List ℕ) (p : ℕ) (bs : List ℕ) (good : pages_good planes logical (scan_in xs p bs) ≡ true) where
  fine : Each (λ (k : ℕ). Fine planes logical (entry_in xs k)) (wholes xs (listed p bs))
  fine = each_entries (Fine planes logical) xs (wholes xs (listed p bs)) (rw (scan_listed xs p bs) at (good_fine planes logical (scan_in xs p bs) good))

  lpns : Each (λ (k : ℕ). (entry_in xs k).lpn < logical) (wholes xs (listed p bs))
  lpns = each_map _ _ (λ k f. fine_lpn planes logical (entry_in xs k) f) (wholes xs (listed p bs)) fine

  pub changes_enterable : Each (λ (k : ℕ). (entry_in xs k).lpn < logical) (changes_of planes xs (listed p bs))
  unfolding changes_of
  changes_enterable =
      in_each (λ (k : ℕ). (entry_in xs k).lpn < logical) xs (eqb planes 2) 516 (noted xs Changes (listed p bs))
      (rw (noted_changes xs (listed p bs)) (each_those _ (changing xs) (wholes xs (listed p bs)) lpns))

  pub lone_enterable : Each (λ (k : ℕ). (entry_in xs k).lpn < logical) (noted xs Singles (listed p bs))
  lone_enterable = rw (noted_lone xs (listed p bs)) (each_those _ (lone xs) (wholes xs (listed p bs)) lpns)

-- ---- pages in turn are entries in turn
number_byte : (xs : List ℕ) (k : ℕ) → byte_at xs 525 k ≡ number (entry_in xs k)
unfolding entry_in entry_of spare_of
number_byte xs k = sym (page_byte xs k 525 (omega arith))

entries_heap : (xs : List ℕ) (n : ℕ) (ks : List ℕ) → entries_in xs (those (λ (k : ℕ). eqb (byte_at xs 525 k) n) ks) ≡ those (λ (e : Entry). eqb (number e) n) (entries_in xs ks)
unfolding those
entries_heap xs n ks = ap (entries_in xs) (same ks) ∙ sym (entries_those (λ (e : Entry). eqb (number e) n) xs ks)
  where
    same : (ks : List ℕ) → those (λ (k : ℕ). eqb (byte_at xs 525 k) n) ks ≡ those (λ (k : ℕ). eqb (number (entry_in xs k)) n) ks
    same [] = refl
    same (k ∷ ks) = rw (number_byte xs k, same ks)

entries_dealt : (xs : List ℕ) (n : ℕ) (ks : List ℕ) → entries_in xs (dealt (byte_at xs 525) n ks) ≡ dealt number n (entries_in xs ks)
unfolding dealt
entries_dealt xs zero ks = entries_heap xs 0 ks
entries_dealt xs (suc n) ks =
    entries_append xs (dealt (byte_at xs 525) n ks) (those (λ (k : ℕ). eqb (byte_at xs 525 k) (suc n)) ks)
    ∙ ap₂ {C = List Entry} ◌++◌ (entries_dealt xs n ks) (entries_heap xs (suc n) ks)

entries_turned : (planes : ℕ) (xs ks : List ℕ) → (planes ≡ 2 → Each (λ (e : Entry). number e ≤ 41) (entries_in xs ks))
    → entries_in xs (turned (eqb planes 2) xs ks) ≡ in_turn planes (entries_in xs ks)
unfolding turned dealt_by
entries_turned planes xs ks few = go (eqb_cases planes 2)
  where
    go : Is planes 2 → entries_in xs (turned (eqb planes 2) xs ks) ≡ in_turn planes (entries_in xs ks)
    go (inl q) = rw q.0 (entries_dealt xs 255 ks ∙ turn_dealt (entries_in xs ks) (few q.0))
    go (inr q) = rw q.1 (unfold in_turn in rw q.1)

-- ---- the same pages, those of each identifier in turn
-- a test that picks out of those of another one all that pass
those_own : (p q : ℕ → Bool) → ((k : ℕ) → p k ≡ true → q k ≡ true) → (ks : List ℕ) → those p (those q ks) ≡ those p ks
those_own p q h ks = sym (those_both q p p (λ k. go (p k) (q k) (h k)) ks)
  where
    go : (t u : Bool) → (t ≡ true → u ≡ true) → t ≡ (u && t)
    go true u h = rw (h refl)
    go false true h = refl
    go false false h = refl

module _ (planes logical : ℕ) (xs : List ℕ) (p : ℕ) (bs : List ℕ) (low : (i : ℕ) → get_or xs i 0 < 256) (good : pages_good planes logical (scan_in xs p bs) ≡ true) where
  abbrev pages : List ℕ
  pages = wholes xs (listed p bs)

  -- the entries of the scan, of the pages of changes and of the lone pages
  abbrev entries : List Entry
  entries = scan_in xs p bs

  abbrev changes : List Entry
  changes = entries_in xs (changes_of planes xs (listed p bs))

  abbrev lones : List Entry
  lones = entries_in xs (noted xs Singles (listed p bs))

  abbrev has : ℕ → ℕ → Bool
  has i k = eqb (key_at xs 516 k) i

  scan_id : (i : ℕ) → of_id i entries ≡ entries_in xs (those (has i) pages)
  scan_id i = ap (of_id i) (scan_listed xs p bs) ∙ entries_id xs pages i

  changes_id : (i : ℕ) → of_id i changes ≡ entries_in xs (turned (eqb planes 2) xs (those (has i) (those (changing xs) pages)))
  unfolding changes_of
  changes_id i =
      entries_id xs (sorted_in (eqb planes 2) xs 516 (noted xs Changes (listed p bs))) i
      ∙ ap (entries_in xs) (in_keeps xs 516 (omega arith) low (eqb planes 2) i (noted xs Changes (listed p bs))
      ∙ ap (λ (ks : List ℕ). turned (eqb planes 2) xs (those (has i) ks)) (noted_changes xs (listed p bs)))

  lones_id : (i : ℕ) → of_id i lones ≡ entries_in xs (those (has i) (those (lone xs) pages))
  lones_id i = entries_id xs (noted xs Singles (listed p bs)) i ∙ ap (λ (ks : List ℕ). entries_in xs (those (has i) ks)) (noted_lone xs (listed p bs))

  -- the pages of a change have numbers up to 41 on two planes
  own_few : (i : ℕ) → i ≢ 0 → planes ≡ 2 → Each (λ (e : Entry). number e ≤ 41) (of_id i entries)
  unfolding of_id
  own_few i z two =
      entries-passing (λ (e : Entry). number e ≤ 41) (λ (e : Entry). eqb e.id i) entries
      (each_map _ _ (λ e f t. fine_number planes logical e two (rw (ne_eqb e.id 0 (λ q. z (sym (eqb-true e.id i t) ∙ q)))) f) entries (good_fine planes logical entries good))

  changes_own : (i : ℕ) → i ≢ 0 → of_id i changes ≡ in_turn planes (of_id i entries)
  changes_own i z =
      let own : those (has i) (those (changing xs) pages) ≡ those (has i) pages
      = those_own (has i) (changing xs) (λ k t. rw (ne_eqb (key_at xs 516 k) 0 (λ q. z (sym (eqb-true (key_at xs 516 k) i t) ∙ q)))) pages in
      changes_id i
      ∙ ap (λ (ks : List ℕ). entries_in xs (turned (eqb planes 2) xs ks)) own
      ∙ entries_turned planes xs (those (has i) pages) (λ two. subst (Each (λ (e : Entry). number e ≤ 41)) (scan_id i) (own_few i z two))
      ∙ ap (in_turn planes) (sym (scan_id i))

  changes_none : of_id 0 changes ≡ []
  unfolding entries_in turned dealt_by
  changes_none =
      changes_id 0
      ∙ ap (λ (ks : List ℕ). entries_in xs (turned (eqb planes 2) xs ks)) (those_off (has 0) (those (changing xs) pages)
      (each_map _ _ (λ k t. ne_eqb (key_at xs 516 k) 0 (changing_id xs k t)) (those (changing xs) pages) (passed (changing xs) pages)))
      ∙ entries_turned planes xs [] (λ two. tt) ∙ turn_nil planes

  lones_own : of_id 0 lones ≡ in_turn planes (of_id 0 entries)
  unfolding of_id
  lones_own =
      lones_id 0 ∙ ap (entries_in xs) (those_own (has 0) (lone xs) (λ k t. t) pages) ∙ sym (scan_id 0)
      ∙ sym (turn_none planes (of_id 0 entries) (entries-passing (λ (e : Entry). number e ≡ 0) (λ (e : Entry). eqb e.id 0) entries
      (each_map _ _ (λ e f t. fine_none planes logical e f (eqb-true e.id 0 t)) entries (good_fine planes logical entries good))))

  lones_none : (i : ℕ) → i ≢ 0 → of_id i lones ≡ []
  unfolding entries_in
  lones_none i z = lones_id i ∙ ap (entries_in xs) (those_off (has i) (those (lone xs) pages)
      (each_map _ _ (λ k t. ne_eqb (key_at xs 516 k) i (λ q. z (sym q ∙ eqb-true (key_at xs 516 k) 0 t))) (those (lone xs) pages) (passed (lone xs) pages)))

  grouped : (i : ℕ) → of_id i (changes ++ lones) ≡ in_turn planes (of_id i entries)
  grouped i =
      let a : of_id i (changes ++ lones) ≡ of_id i changes ++ of_id i lones = unfold of_id in those_append (λ (e : Entry). eqb e.id i) changes lones in
      a ∙ go (eqb_cases i 0)
    where
      go : Is i 0 → of_id i changes ++ of_id i lones ≡ in_turn planes (of_id i entries)
      go (inl q) = rw (q.0, changes_none, lones_own)
      go (inr q) = rw (changes_own i q.0, lones_none i q.0) (append-nil (in_turn planes (of_id i entries)))

  -- ---- their ranks
  changes_rank : Each (λ (e : Entry). rank_of changes e ≡ rank_of entries e) changes
  unfolding rank_of
  changes_rank = each_map _ _ rank changes (entries_each (λ (e : Entry). e.id ≢ 0) xs (changes_of planes xs (listed p bs))
      (each_map _ _ (λ k z q. z (key_id xs k ∙ q)) (changes_of planes xs (listed p bs)) (changes_runs planes xs (listed p bs) low).change))
    where
      rank : (e : Entry) → e.id ≢ 0 → ver_of changes e ≡ ver_of entries e
      rank e z =
          let own = of_id e.id entries in
          let few = own_few e.id z in
          let marks : ℕ → Entry → Bool = λ (n : ℕ) (x : Entry). not (eqb x.cnt 0) && eqb x.cnt n in
          ver_run changes e z
          ∙ rw (changes_own e.id z, length_turn planes own few, those_turn (marks (length own)) planes own)
          (top_turn planes (those (marks (length own)) own) (λ two. each_those _ (marks (length own)) own (few two)) ∙ sym (ver_run entries e z))

  lones_rank : Each (λ (e : Entry). e.ver ≡ rank_of entries e) lones
  unfolding rank_of
  lones_rank =
      entries_both (Fine planes logical) (λ (e : Entry). e.id ≡ 0) _ (λ e f z. sym (ver_lone entries e z (fine_lone planes logical e f z))) lones
      (entries_each (Fine planes logical) xs (noted xs Singles (listed p bs))
      (rw (noted_lone xs (listed p bs)) (each_those _ (lone xs) pages (fine planes logical xs p bs good))))
      (entries_each (λ (e : Entry). e.id ≡ 0) xs (noted xs Singles (listed p bs)) (rw (noted_lone xs (listed p bs))
      (each_map _ _ (λ k t. sym (key_id xs k) ∙ eqb-true (key_at xs 516 k) 0 t) (those (lone xs) pages) (passed (lone xs) pages))))

-- ---- so what is entered is what is redone
pub redo_is : (planes logical floor : ℕ) (xs : List ℕ) (p : ℕ) (bs : List ℕ) (m : List ℕ) → ((i : ℕ) → get_or xs i 0 < 256)
    → pages_good planes logical (scan_in xs p bs) ≡ true
    → (all_entered xs (changes_of planes xs (listed p bs)) (noted xs Singles (listed p bs)) (start_best (suc floor) m)).map
    ≡ redone planes floor (scan_in xs p bs) m
unfolding best_pass
redo_is planes logical floor xs p bs m low good =
    let es = entries planes logical xs p bs low good in
    let cs = changes planes logical xs p bs low good in
    let ls = lones planes logical xs p bs low good in
    let start = start_best (suc floor) m in
    let passes : best_of (λ (e : Entry). e.ver) ls (best_of (rank_of cs) cs start) ≡ best_of (rank_of es) (cs ++ ls) start
    = best_ranks (λ (e : Entry). e.ver) (rank_of es) ls (best_of (rank_of cs) cs start) (lones_rank planes logical xs p bs low good)
    ∙ ap (best_of (rank_of es) ls) (best_ranks (rank_of cs) (rank_of es) cs start (changes_rank planes logical xs p bs low good))
    ∙ sym (best_append (rank_of es) cs ls start) in
    ap (λ (r : Best). r.map) passes ∙ sym (best_redone planes logical floor es (cs ++ ls) m good (grouped planes logical xs p bs low good))

-- ---- what a scan that is ready gives the loops
module _ (planes : ℕ) (map xs : List ℕ) (p : ℕ) (bs cs : List ℕ) (notes : List Note) (other : List ℕ) (r : Ready planes map xs p bs cs notes other) where
  -- the pages of changes may be entered, and are runs
  pub ready_changes : ((i : ℕ) → get_or xs i 0 < 256) → (ranks : List ℕ) → length ranks ≡ length map → Enterable xs cs map ranks × Runs xs cs
  unfolding changes_of
  ready_changes low ranks n = (
    record {
      pages = rw r.change (sorted_pages (length xs) xs 516 (eqb planes 2) (noted xs Changes (listed p bs)) (omega arith) low (noted_pages (length xs) xs Changes (listed p bs) (listed_pages xs p bs r.blocks)));
      logical = rw r.change (changes_enterable planes (length map) xs p bs r.good);
      ranked = n;
    },
    rw r.change (changes_runs planes xs (listed p bs) low),
  )

  -- the lone pages, n of them, are picked to the front of the pages of the scan
  module _ (ks : List ℕ) (list : ks ≡ listed p bs) (n : ℕ) (after : List ℕ) (front : take n after ≡ picked Singles ks notes) where
    pub ready_lone : take n after ≡ noted xs Singles (listed p bs)
    ready_lone = front ∙ rw (list, r.note) (picked_noted xs Singles (listed p bs))

    pub lone_enter : (m ranks : List ℕ) → length m ≡ length map → length ranks ≡ length m → Enterable xs (take n after) m ranks
    lone_enter m ranks l k =
        record {
          pages = rw ready_lone (noted_pages (length xs) xs Singles (listed p bs) (listed_pages xs p bs r.blocks));
          logical = rw (ready_lone, l) (lone_enterable planes (length map) xs p bs r.good);
          ranked = k;
        }

-- ---- the bests at first: of n numbers, as many as the map has
take_replicate : (l n x : ℕ) → l ≤ n → take l (replicate n x) ≡ replicate l x
take_replicate zero n x h = refl
take_replicate (suc l) zero x h = absurd (omega arith)
take_replicate (suc l) (suc n) x h = ap (λ (xs : List ℕ). x ∷ xs) (take_replicate l n x (omega arith))

pub redo_all : (planes floor n : ℕ) (map xs : List ℕ) (p : ℕ) (bs cs : List ℕ) (notes : List Note) (other : List ℕ) → ((i : ℕ) → get_or xs i 0 < 256) → Ready planes map xs p bs cs notes other → length map ≤ n
    → (m ranks : List ℕ)
    → best m ranks ≡ all_entered xs cs (noted xs Singles (listed p bs)) (best map (take (length map) (replicate n (floor + 1))))
    → m ≡ redone planes floor (scan_in xs p bs) map
redo_all planes floor n map xs p bs cs notes other low r few m ranks e =
    let s : best map (take (length map) (replicate n (floor + 1))) ≡ start_best (suc floor) map =
    ap (best map) (take_replicate (length map) n (floor + 1) few ∙ ap (replicate (length map)) (add-one floor)) in
    ap (λ (b : Best). b.map) (rw (s, r.change) at e) ∙ redo_is planes (length map) floor xs p bs map low r.good
