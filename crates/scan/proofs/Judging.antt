-- Refusal 4 as the code asks for it is refusal 4 of `model`: what was met of each page by itself, and sorted marks whose numbers rise. Assumes that
-- bytes are below 256.
use mathlib.Core.Path.{◌≡◌, refl, sym, ap, ap₂, ◌∙◌}
use mathlib.Core.Logic.{◌⊎◌, inl, inr, ◌≢◌}
use mathlib.Core.Bool.{Bool, true, false, not, cond, ◌&&◌, ◌||◌}
use mathlib.Core.List.{List, [], ◌∷◌, ◌++◌}
use Prim.Native.Nat.{ℕ, ◌+◌, ◌*◌, ◌<◌}
use native.Mathlib.Omega.{arith}
use lib.ListN.{length, get_or}
use lib.Dec.{eqb, ltb}
use borrow.Author.Tests.{lt-ltb, eq-eqb, eqb-false, not-true}
use Rattle.model.specs.Lists.{keep, those}
use Rattle.model.specs.Bytes.{le32}
use Rattle.model.specs.Page.{page_at, spare_of}
use Rattle.model.specs.Zones.{Entry, entry_of, scan_in}
use Rattle.model.specs.Recovery.{is_mark, entry_good, pages_good, top}
use Rattle.arrays.specs.Tests.{Is, eqb_cases, decide, and_left, and_right, and_both, or_cases, or_right}
use Rattle.ranks.specs.Dealt.{Each, each_map, each_those, passed, sorted_those, climbing, Distinct, climbing_distinct, distinct_climbing, distinct_same}
use Rattle.ranks.specs.Entries.{Entries}
use Rattle.ranks.specs.Clear.{Fine, fine_ver, entries_all}
use Rattle.ranks.specs.Parts.{is_change, number_key, NumbersDiffer, parts_good, good_fine, good_versions, good_ids, good_numbers}
use Rattle.sorting.specs.Sort.{key_at, sorted_in}
use Rattle.sorting.proofs.Keys.{page_byte, in_those, in_sorted, turn_sorted, in_length, in_each}
use Rattle.scan.specs.Taken.{listed, entry_in, entries_in}
use Rattle.scan.specs.Notes.{noted, met_all, start}
use Rattle.scan.specs.Judged.{mark_at, rises_from, differ, changes_of, number_at, numbers_from, numbers_differ, changes_differ, Surveyed}
use Rattle.scan.specs.declared.Note.{Note}
use Rattle.scan.specs.declared.Wanted.TheVariants.{Changes, Versions}
use Rattle.scan.specs.declared.Seen.{Seen}
use Rattle.scan.proofs.Listing.{wholes, entries_those, scan_listed}
use Rattle.scan.proofs.Visiting.{met_good, met_fine, met_top, met_rising, noted_changes, noted_last, noted_marks}

-- ---- the fields of a page
module _ (xs : List ℕ) (k : ℕ) where
  pub key_id : key_at xs 516 k ≡ (entry_in xs k).id
  unfolding key_at entry_in entry_of spare_of
  key_id = refl

  pub key_ver : key_at xs 520 k ≡ (entry_in xs k).ver
  unfolding key_at entry_in entry_of spare_of
  key_ver = refl

  pub mark_entry : mark_at xs k ≡ is_mark (entry_in xs k)
  unfolding mark_at entry_in entry_of spare_of
  mark_entry = refl

  pub number_entry : number_at xs k ≡ number_key (entry_in xs k)
  unfolding number_at key_at entry_in entry_of spare_of
  number_entry = ap (λ (n : ℕ). le32 (page_at xs k) 516 * 256 + n) (sym (page_byte xs k 525 (omega arith)))

-- facts of entries, as facts of pages
each_pages : (P : Entry → Type 0) (xs ks : List ℕ) → Entries P (entries_in xs ks) ≡ Each (λ (k : ℕ). P (entry_in xs k)) ks
unfolding entries_in
each_pages P xs [] = refl
each_pages P xs (k ∷ ks) = ap (λ (T : Type 0). P (entry_in xs k) × T) (each_pages P xs ks)

distinct_pages : (f : Entry → ℕ) (xs ks : List ℕ) → Distinct f (entries_in xs ks) ≡ Distinct (λ (k : ℕ). f (entry_in xs k)) ks
unfolding entries_in
distinct_pages f xs [] = refl
distinct_pages f xs (k ∷ ks) = ap₂ (λ (S T : Type 0). S × T) (each_pages (λ (y : Entry). f (entry_in xs k) ≢ f y) xs ks) (distinct_pages f xs ks)

distinct_keys : (f g : ℕ → ℕ) → ((k : ℕ) → f k ≡ g k) → (ks : List ℕ) → Distinct f ks ≡ Distinct g ks
distinct_keys f g e [] = refl
distinct_keys f g e (k ∷ ks) = ap₂ (λ (S T : Type 0). S × T) (each_keys ks) (distinct_keys f g e ks)
  where
    each_keys : (ls : List ℕ) → Each (λ (l : ℕ). f k ≢ f l) ls ≡ Each (λ (l : ℕ). g k ≢ g l) ls
    each_keys [] = refl
    each_keys (l ∷ ls) = ap₂ (λ (S T : Type 0). S × T) (ap₂ (λ (a b : ℕ). a ≢ b) (e k) (e l)) (each_keys ls)

versions_pages : (xs ks : List ℕ)
    → Distinct (λ (e : Entry). e.ver) (those is_mark (entries_in xs (wholes xs ks))) ≡ Distinct (key_at xs 520) (those (mark_at xs) (noted xs Versions ks))
unfolding key_at mark_at entry_in entry_of spare_of
versions_pages xs ks =
    ap (Distinct (λ (e : Entry). e.ver)) (entries_those is_mark xs (wholes xs ks)) ∙ distinct_pages (λ (e : Entry). e.ver) xs _
    ∙ ap (Distinct (key_at xs 520)) (sym (noted_marks xs ks))

ids_pages : (xs ks : List ℕ)
    → Distinct (λ (e : Entry). e.id) (those is_mark (those is_change (entries_in xs (wholes xs ks))))
    ≡ Distinct (key_at xs 516) (those (mark_at xs) (noted xs Changes ks))
unfolding key_at mark_at entry_in entry_of spare_of
ids_pages xs ks =
    ap (λ (es : List Entry). Distinct (λ (e : Entry). e.id) (those is_mark es)) (entries_those is_change xs (wholes xs ks))
    ∙ ap (Distinct (λ (e : Entry). e.id)) (entries_those is_mark xs _) ∙ distinct_pages (λ (e : Entry). e.id) xs _
    ∙ ap (λ (ls : List ℕ). Distinct (key_at xs 516) (those (mark_at xs) ls)) (sym (noted_changes xs ks))

numbers_pages : (xs ks : List ℕ) → Distinct number_key (those is_change (entries_in xs (wholes xs ks))) ≡ Distinct (number_at xs) (noted xs Changes ks)
unfolding key_at entry_in entry_of spare_of
numbers_pages xs ks =
    let change : ℕ → Bool = λ (k : ℕ). is_change (entry_in xs k) in
    let cs = those change (wholes xs ks) in
    ap (Distinct number_key) (entries_those is_change xs (wholes xs ks)) ∙ distinct_pages number_key xs cs
    ∙ distinct_keys (λ (k : ℕ). number_key (entry_in xs k)) (number_at xs) (λ k. sym (number_entry xs k)) cs
    ∙ ap (Distinct (number_at xs)) (sym (noted_changes xs ks))

-- ---- along a sorted list
module _ (xs : List ℕ) (at : ℕ) where
  abbrev pub marks : List ℕ → List ℕ
  marks ks = those (mark_at xs) ks

  -- no mark has number 0
  abbrev pub NonZero : List ℕ → Type 0
  NonZero ks = Each (λ (k : ℕ). mark_at xs k ≡ true → key_at xs at k ≢ 0) ks

  rises_above : (j : ℕ) (ks : List ℕ) → rises_from xs at (key_at xs at j) ks ≡ climbing (key_at xs at) (j ∷ marks ks)
  unfolding rises_from climbing those
  rises_above j [] = refl
  rises_above j (k ∷ ks) = go (mark_at xs k) (rises_above k ks) (rises_above j ks)
    where
      f : ℕ → ℕ
      f = key_at xs at

      go : (t : Bool) → rises_from xs at (f k) ks ≡ climbing f (k ∷ marks ks) → rises_from xs at (f j) ks ≡ climbing f (j ∷ marks ks)
          → cond t (ltb (f j) (f k) && rises_from xs at (f k) ks) (rises_from xs at (f j) ks) ≡ climbing f (j ∷ (keep t (k ∷ []) ++ marks ks))
      go true ih jh = ap (λ (t : Bool). ltb (f j) (f k) && t) ih
      go false ih jh = jh

  -- numbers rise from 0 where each mark's is below the next one's, and none is 0
  pub rises_climbing : (ks : List ℕ) → NonZero ks → rises_from xs at 0 ks ≡ climbing (key_at xs at) (marks ks)
  unfolding rises_from climbing those
  rises_climbing [] z = refl
  rises_climbing (k ∷ ks) z = go (decide (mark_at xs k)) (rises_climbing ks z.1)
    where
      f : ℕ → ℕ
      f = key_at xs at

      go : (mark_at xs k ≡ true) ⊎ (mark_at xs k ≡ false) → rises_from xs at 0 ks ≡ climbing f (marks ks)
          → cond (mark_at xs k) (ltb 0 (f k) && rises_from xs at (f k) ks) (rises_from xs at 0 ks) ≡ climbing f (keep (mark_at xs k) (k ∷ []) ++ marks ks)
      go (inl t) ih = rw (t, lt-ltb 0 (f k) (omega (arith, z.0 t))) (rises_above k ks)
      go (inr t) ih = rw t ih

  module _ (room : at < 525) (low : (i : ℕ) → get_or xs i 0 < 256) (t : Bool) (ks : List ℕ) where
    -- of each number there are as many marks
    marks_keep : (v : ℕ)
        → length (those (λ (k : ℕ). eqb (key_at xs at k) v) (marks (sorted_in t xs at ks))) ≡ length (those (λ (k : ℕ). eqb (key_at xs at k) v) (marks ks))
    marks_keep v =
        let is : ℕ → Bool = λ (k : ℕ). eqb (key_at xs at k) v in
        ap length (ap (those is) (in_those xs at t (mark_at xs) ks) ∙ in_those xs at t is (marks ks)) ∙ in_length xs at room low t (those is (marks ks))

    -- numbers of sorted marks rise from 0 just where no two are the same
    pub rises_distinct : NonZero ks → rises_from xs at 0 (sorted_in t xs at ks) ≡ true → Distinct (key_at xs at) (marks ks)
    rises_distinct z h =
        let s = sorted_in t xs at ks in
        distinct_same (key_at xs at) (marks s) (marks ks) (λ v. sym (marks_keep v))
        (climbing_distinct (key_at xs at) (marks s) (sym (rises_climbing s (in_each _ xs t at ks z)) ∙ h))

    pub distinct_rises : NonZero ks → Distinct (key_at xs at) (marks ks) → rises_from xs at 0 (sorted_in t xs at ks) ≡ true
    distinct_rises z h =
        let s = sorted_in t xs at ks in
        rises_climbing s (in_each _ xs t at ks z)
        ∙ distinct_climbing (key_at xs at) (marks s) (sorted_those (key_at xs at) (mark_at xs) s (in_sorted xs at room low t ks))
        (distinct_same (key_at xs at) (marks ks) (marks s) marks_keep h)

-- ---- write numbers along the pages of changes
module _ (xs : List ℕ) where
  numbers_above : (j : ℕ) (ks : List ℕ) → numbers_from xs (number_at xs j) ks ≡ climbing (number_at xs) (j ∷ ks)
  unfolding numbers_from climbing
  numbers_above j [] = refl
  numbers_above j (k ∷ ks) = ap (λ (t : Bool). ltb (number_at xs j) (number_at xs k) && t) (numbers_above k ks)

  -- numbers rise from 0 where each is below the next one, and none is 0
  numbers_climbing : (ks : List ℕ) → Each (λ (k : ℕ). number_at xs k ≢ 0) ks → numbers_from xs 0 ks ≡ climbing (number_at xs) ks
  unfolding numbers_from climbing
  numbers_climbing [] z = refl
  numbers_climbing (k ∷ ks) z = rw (lt-ltb 0 (number_at xs k) (omega (arith, z.0))) (numbers_above k ks)

  module _ (low : (i : ℕ) → get_or xs i 0 < 256) (ks : List ℕ) (some : Each (λ (k : ℕ). number_at xs k ≢ 0) ks) where
    abbrev in_turn : List ℕ
    in_turn = sorted_in true xs 516 ks

    in_turn_climbing : numbers_from xs 0 in_turn ≡ climbing (number_at xs) in_turn
    in_turn_climbing = numbers_climbing in_turn (in_each _ xs true 516 ks some)

    numbers_keep : (v : ℕ) → length (those (λ (k : ℕ). eqb (number_at xs k) v) in_turn) ≡ length (those (λ (k : ℕ). eqb (number_at xs k) v) ks)
    numbers_keep v =
        let is : ℕ → Bool = λ (k : ℕ). eqb (number_at xs k) v in
        ap length (in_those xs 516 true is ks) ∙ in_length xs 516 (omega arith) low true (those is ks)

    pub numbers_distinct : numbers_from xs 0 in_turn ≡ true → Distinct (number_at xs) ks
    numbers_distinct h =
        distinct_same (number_at xs) in_turn ks (λ v. sym (numbers_keep v)) (climbing_distinct (number_at xs) in_turn (sym in_turn_climbing ∙ h))

    pub distinct_numbers : Distinct (number_at xs) ks → numbers_from xs 0 in_turn ≡ true
    distinct_numbers h =
        in_turn_climbing
        ∙ distinct_climbing (number_at xs) in_turn (unfold number_at in turn_sorted xs 516 (omega arith) low ks) (distinct_same (number_at xs) ks in_turn numbers_keep h)

-- ---- none is 0
-- a fine mark has a version
versions_nonzero : (planes logical : ℕ) (xs ks : List ℕ) → Entries (Fine planes logical) (entries_in xs (wholes xs ks)) → NonZero xs 520 (noted xs Versions ks)
versions_nonzero planes logical xs ks fine =
    rw (noted_last xs ks) (each_those _ _ (wholes xs ks) (each_map _ _ has (wholes xs ks) (rw (each_pages (Fine planes logical) xs (wholes xs ks)) at fine)))
  where
    has : (k : ℕ) → Fine planes logical (entry_in xs k) → mark_at xs k ≡ true → key_at xs 520 k ≢ 0
    has k f m z =
        let c = (entry_in xs k).cnt in
        (fine_ver planes logical (entry_in xs k) f).1 (eqb-false c 0 (not-true (eqb c 0) (sym (mark_entry xs k) ∙ m))) (sym (key_ver xs k) ∙ z)

-- a page of a change has an identifier
pub change_ids : (xs ks : List ℕ) → Each (λ (k : ℕ). key_at xs 516 k ≢ 0) (noted xs Changes ks)
change_ids xs ks =
    let change : ℕ → Bool = λ (k : ℕ). not (eqb (key_at xs 516 k) 0) in
    rw (noted_changes xs ks)
    (each_map _ _ (λ k t. eqb-false (key_at xs 516 k) 0 (not-true (eqb (key_at xs 516 k) 0) t)) (those change (wholes xs ks)) (passed change (wholes xs ks)))

ids_nonzero : (xs ks : List ℕ) → NonZero xs 516 (noted xs Changes ks)
ids_nonzero xs ks = each_map _ _ (λ k n m. n) (noted xs Changes ks) (change_ids xs ks)

numbers_nonzero : (xs ks : List ℕ) → Each (λ (k : ℕ). number_at xs k ≢ 0) (noted xs Changes ks)
unfolding number_at
numbers_nonzero xs ks = each_map _ _ (λ k n q. n (omega arith)) (noted xs Changes ks) (change_ids xs ks)

-- ---- refusal 4
both_ways : (a b : Bool) → (a ≡ true → b ≡ true) → (b ≡ true → a ≡ true) → a ≡ b
both_ways true b h k = sym (h refl)
both_ways false true h k = k refl
both_ways false false h k = refl

module _ (planes logical : ℕ) (xs ks : List ℕ) (low : (i : ℕ) → get_or xs i 0 < 256) where
  abbrev all_met : Seen
  all_met = met_all planes logical xs ks start

  abbrev es : List Entry
  es = entries_in xs (wholes xs ks)

  -- no version twice, no second mark, no number twice
  abbrev versions : Bool
  versions = differ xs Versions 520 false ks

  abbrev ids : Bool
  ids = differ xs Changes 516 (eqb planes 2) ks

  abbrev numbers : Bool
  numbers = numbers_differ planes xs (changes_of planes xs ks)

  numbers_told : numbers ≡ true → NumbersDiffer planes es
  unfolding numbers_differ changes_of
  numbers_told h two =
      let k : numbers_from xs 0 (sorted_in true xs 516 (noted xs Changes ks)) ≡ true = rw (eq-eqb planes 2 two) at h in
      rw (numbers_pages xs ks) (numbers_distinct xs low (noted xs Changes ks) (numbers_nonzero xs ks) k)

  told_numbers : NumbersDiffer planes es → numbers ≡ true
  unfolding numbers_differ changes_of
  told_numbers h = go (eqb_cases planes 2)
    where
      go : Is planes 2 → numbers ≡ true
      go (inl q) =
          let d : Distinct (number_at xs) (noted xs Changes ks) = rw (numbers_pages xs ks) at (h q.0) in
          rw q.1 (distinct_numbers xs low (noted xs Changes ks) (numbers_nonzero xs ks) d)
      go (inr q) = rw q.1

  passes : (all_met.good && ((all_met.rising || versions) && (ids && numbers))) ≡ true → pages_good planes logical es ≡ true
  passes h = parts_good planes logical es fine (differ (or_cases all_met.rising versions (and_left _ (ids && numbers) rest))) single (numbers_told (and_right ids numbers more))
    where
      good : all_met.good ≡ true
      good = and_left all_met.good _ h

      rest : ((all_met.rising || versions) && (ids && numbers)) ≡ true
      rest = and_right all_met.good _ h

      more : (ids && numbers) ≡ true
      more = and_right (all_met.rising || versions) (ids && numbers) rest

      fine : Entries (Fine planes logical) es
      fine = met_fine planes logical xs ks good

      differ : (all_met.rising ≡ true) ⊎ (versions ≡ true) → Distinct (λ (e : Entry). e.ver) (those is_mark es)
      differ (inl t) = met_rising planes logical xs ks good t
      differ (inr t) =
          rw (versions_pages xs ks) (rises_distinct xs 520 (omega arith) low false (noted xs Versions ks) (versions_nonzero planes logical xs ks fine) t)

      single : Distinct (λ (e : Entry). e.id) (those is_mark (those is_change es))
      single =
          rw (ids_pages xs ks) (rises_distinct xs 516 (omega arith) low (eqb planes 2) (noted xs Changes ks) (ids_nonzero xs ks) (and_left ids numbers more))

  passed_by : pages_good planes logical es ≡ true → (all_met.good && ((all_met.rising || versions) && (ids && numbers))) ≡ true
  passed_by h =
      let fine = good_fine planes logical es h in
      let vs : Distinct (key_at xs 520) (those (mark_at xs) (noted xs Versions ks)) = rw (versions_pages xs ks) at (good_versions planes logical es h) in
      let is : Distinct (key_at xs 516) (those (mark_at xs) (noted xs Changes ks)) = rw (ids_pages xs ks) at (good_ids planes logical es h) in
      and_both _ _ (met_good planes logical xs ks ∙ entries_all (entry_good planes logical []) es fine)
      (and_both _ (ids && numbers)
      (or_right all_met.rising versions (distinct_rises xs 520 (omega arith) low false (noted xs Versions ks) (versions_nonzero planes logical xs ks fine) vs))
      (and_both ids numbers (distinct_rises xs 516 (omega arith) low (eqb planes 2) (noted xs Changes ks) (ids_nonzero xs ks) is)
      (told_numbers (good_numbers planes logical es h))))

pub judged : (planes logical : ℕ) (xs : List ℕ) (p : ℕ) (bs : List ℕ) → ((i : ℕ) → get_or xs i 0 < 256) → (m : Seen)
    → m ≡ met_all planes logical xs (listed p bs) start
    → (m.good && ((m.rising || differ xs Versions 520 false (listed p bs)) && changes_differ planes xs (listed p bs))) ≡ pages_good planes logical (scan_in xs p bs)
unfolding changes_differ
judged planes logical xs p bs low m e =
    let ks = listed p bs in
    rw (e, scan_listed xs p bs) (both_ways _ _ (passes planes logical xs ks low) (passed_by planes logical xs ks low))

-- the same of what a survey left
pub surveyed : {planes logical p : ℕ} {xs bs order : List ℕ} {notes : List Note} {other : List ℕ} {m : Seen} → Surveyed planes logical xs p bs order notes other m → ((i : ℕ) → get_or xs i 0 < 256)
    → (m.good && ((m.rising || differ xs Versions 520 false (listed p bs)) && changes_differ planes xs (listed p bs))) ≡ pages_good planes logical (scan_in xs p bs)
surveyed {planes} {logical} {p} {xs} {bs} {order} {notes} {other} {m} s low =
    judged planes logical xs p bs low m (s.met ∙ ap (λ (ks : List ℕ). met_all planes logical xs ks start) s.list)

-- a scan that refusal 4 passes: each page by itself was good, the highest version and how many pages of changes were met
module _ (planes logical : ℕ) (xs : List ℕ) (p : ℕ) (bs : List ℕ) (h : pages_good planes logical (scan_in xs p bs) ≡ true) where
  pub good_met : (met_all planes logical xs (listed p bs) start).good ≡ true
  good_met = met_good planes logical xs (listed p bs) ∙ entries_all (λ (e : Entry). entry_good planes logical [] e) _ (good_fine planes logical _ (rw (scan_listed xs p bs) at h))

  pub good_top : (met_all planes logical xs (listed p bs) start).top ≡ top (scan_in xs p bs)
  good_top = met_top planes logical xs (listed p bs) good_met ∙ ap top (sym (scan_listed xs p bs))
