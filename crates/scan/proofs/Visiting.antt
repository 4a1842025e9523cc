-- What a visit notes and has met: one more page at the end, and what notes and sums say of the whole pages and their entries. Assumes nothing.
use mathlib.Core.Path.{◌≡◌, refl, sym, ap, ◌∙◌}
use mathlib.Core.Logic.{◌⊎◌, inl, inr, ◌≢◌}
use mathlib.Core.Bool.{Bool, true, false, not, cond, ◌&&◌, ◌||◌, and-true, and-false, or-true}
use mathlib.Core.List.{List, [], ◌∷◌, ◌++◌}
use Prim.Native.Nat.{ℕ, ◌+◌, ◌≤◌, ◌<◌, max}
use native.Mathlib.Omega.{arith}
use native.Mathlib.Nat.{add-zero}
use native.Mathlib.Numerals.{add-one}
use lib.ListN.{length, take, get_or}
use lib.Seq.{take-suc}
use lib.Dec.{eqb, leb, ltb}
use borrow.Author.Tests.{ltb-true, ltb-false}
use Rattle.model.specs.Lists.{all, keep, those}
use Rattle.model.specs.Bytes.{le16}
use Rattle.model.specs.Page.{is_whole, spare_of, page_at, whole_at}
use Rattle.model.specs.Zones.{Entry, entry_of}
use Rattle.model.specs.Recovery.{is_mark, number_good, mark_new, entry_good, top}
use Rattle.model.specs.declared.Spare.{Spare}
use Rattle.arrays.specs.Tests.{Is, eqb_cases, decide, and_left, and_right}
use Rattle.table.specs.declared.Looked.{Looked}
use Rattle.table.specs.Looking.{look_of}
use Rattle.ranks.specs.Dealt.{each_map, Distinct}
use Rattle.ranks.specs.Entries.{Entries}
use Rattle.ranks.specs.Clear.{Fine, fine_ver, all_entries}
use Rattle.ranks.specs.Parts.{is_change}
use Rattle.sorting.specs.Sort.{key_at}
use Rattle.scan.specs.Taken.{entry_in, entries_in}
use Rattle.scan.specs.Notes.{note_of, note_at, notes_of, wants, noted, numbers_good, number_fine, spare_good, risen, counted, met, met_all, start}
use Rattle.scan.specs.Judged.{mark_at}
use Rattle.scan.specs.declared.Note.{Note}
use Rattle.scan.specs.declared.Note.TheVariants.{NotWhole, OfChange, Mark, Lone}
use Rattle.scan.specs.declared.Wanted.TheVariants.{Changes, Versions, Singles}
use Rattle.scan.specs.declared.Seen.{Seen}
use Rattle.scan.proofs.Listing.{wholes, entries_length, entries_those}

-- ---- one more page at the end
met_append : (planes logical : ℕ) (xs ks ls : List ℕ) (m : Seen) → met_all planes logical xs (ks ++ ls) m ≡ met_all planes logical xs ls (met_all planes logical xs ks m)
unfolding met_all
met_append planes logical xs [] ls m = refl
met_append planes logical xs (k ∷ ks) ls m = met_append planes logical xs ks ls (met planes logical m (look_of (page_at xs k)))

pub met_more : (planes logical : ℕ) (xs ks : List ℕ) (m : Seen) (i : ℕ) → i < length ks
    → met_all planes logical xs (take (i + 1) ks) m ≡ met planes logical (met_all planes logical xs (take i ks) m) (look_of (page_at xs (get_or ks i 0)))
unfolding met_all
met_more planes logical xs ks m i h = rw (add-one i, take-suc ks i 0 h) (met_append planes logical xs (take i ks) (get_or ks i 0 ∷ []) m)

notes_append : (xs ks ls : List ℕ) → notes_of xs (ks ++ ls) ≡ notes_of xs ks ++ notes_of xs ls
unfolding notes_of
notes_append xs [] ls = refl
notes_append xs (k ∷ ks) ls = ap (λ (ts : List Note). note_at xs k ∷ ts) (notes_append xs ks ls)

pub notes_more : (xs ks : List ℕ) (i : ℕ) → i < length ks → notes_of xs (take (i + 1) ks) ≡ notes_of xs (take i ks) ++ (note_at xs (get_or ks i 0) ∷ [])
unfolding notes_of
notes_more xs ks i h = rw (add-one i, take-suc ks i 0 h) (notes_append xs (take i ks) (get_or ks i 0 ∷ []))

-- ---- one more page
-- what one more version and one more page of a change do
risen_is : (m : Seen) (v : ℕ) → risen m v ≡ record { good = m.good; top = max m.top v; rising = m.rising && ltb m.top v; changes = m.changes }
unfolding risen
risen_is m v = go (decide (ltb m.top v))
  where
    go : (ltb m.top v ≡ true) ⊎ (ltb m.top v ≡ false)
        → cond {A = Seen} (ltb m.top v) (record { good = m.good; top = v; rising = m.rising; changes = m.changes })
        (record { good = m.good; top = m.top; rising = false; changes = m.changes })
        ≡ record { good = m.good; top = max m.top v; rising = m.rising && ltb m.top v; changes = m.changes }
    go (inl t) = let l = ltb-true m.top v t in let q : max m.top v ≡ v = omega arith in rw (t, q, and-true m.rising)
    go (inr t) = let l = ltb-false m.top v t in let q : max m.top v ≡ m.top = omega arith in rw (t, q, and-false m.rising)

counted_is : (m : Seen) (id : ℕ) → counted m id ≡ record { good = m.good; top = m.top; rising = m.rising; changes = m.changes + cond (eqb id 0) 0 1 }
unfolding counted
counted_is m id = go (eqb id 0)
  where
    go : (t : Bool) → cond t m (record { good = m.good; top = m.top; rising = m.rising; changes = m.changes + 1 })
        ≡ record { good = m.good; top = m.top; rising = m.rising; changes = m.changes + cond t 0 1 }
    go true = rw add-zero
    go false = refl

-- a page counts once
counted_few : (m : Seen) (id : ℕ) → (counted m id).changes ≤ m.changes + 1
counted_few m id = rw (counted_is m id) (go (eqb id 0))
  where
    go : (t : Bool) → m.changes + cond t 0 1 ≤ m.changes + 1
    go true = omega arith
    go false = omega arith

met_one : (planes logical : ℕ) (m : Seen) (l : Looked) → (met planes logical m l).changes ≤ m.changes + 1
unfolding met
met_one planes logical m l = go (is_whole l.class) (spare_good planes logical l.spare) (eqb l.spare.cnt 0)
  where
    c : Seen
    c = counted m l.spare.id

    go : (w g t : Bool)
        → (cond w (cond g (cond t c (risen c l.spare.ver)) (record { good = false; top = m.top; rising = m.rising; changes = m.changes })) m).changes
        ≤ m.changes + 1
    go true true true = counted_few m l.spare.id
    go true true false = rw (risen_is c l.spare.ver) (counted_few m l.spare.id)
    go true false t = omega arith
    go false g t = omega arith

pub met_few : (planes logical : ℕ) (xs ks : List ℕ) (m : Seen) → (met_all planes logical xs ks m).changes ≤ m.changes + length ks
unfolding met_all
met_few planes logical xs [] m = omega arith
met_few planes logical xs (k ∷ ks) m =
    let l = look_of (page_at xs k) in
    omega (arith, met_few planes logical xs ks (met planes logical m l), met_one planes logical m l)

-- ---- the entries of the whole pages, met one after the other
unfoldable meets : ℕ → ℕ → Seen → Entry → Seen
meets planes logical m e =
    cond (entry_good planes logical [] e)
    (cond (eqb e.cnt 0) (counted m e.id) (risen (counted m e.id) e.ver))
    (record { good = false; top = m.top; rising = m.rising; changes = m.changes })

unfoldable meets_all : ℕ → ℕ → List Entry → Seen → Seen
meets_all planes logical [] m = m
meets_all planes logical (e ∷ es) m = meets_all planes logical es (meets planes logical m e)

-- refusal 4 passes an entry by itself where it passes its spare area
fine_is : (k planes logical : ℕ) (r : Spare) → entry_good planes logical [] (entry_of k r) ≡ spare_good planes logical r
unfolding entry_good spare_good numbers_good number_good number_fine entry_of mark_new all
fine_is k planes logical r = rw (or-true (eqb r.id 0), mark (eqb r.cnt 0) (eqb r.ver 0), and-true (leb r.reserved 41))
  where
    mark : (t v : Bool) → cond (not t) (not v && true) v ≡ cond t v (not v)
    mark true v = refl
    mark false v = and-true (not v)

met_whole : (planes logical : ℕ) (xs : List ℕ) (k : ℕ) (m : Seen) → whole_at xs k ≡ true → met planes logical m (look_of (page_at xs k)) ≡ meets planes logical m (entry_in xs k)
unfolding met look_of whole_at meets entry_in
met_whole planes logical xs k m w = rw (w, fine_is k planes logical (spare_of (page_at xs k))) (unfold entry_of in refl)

met_torn : (planes logical : ℕ) (xs : List ℕ) (k : ℕ) (m : Seen) → whole_at xs k ≡ false → met planes logical m (look_of (page_at xs k)) ≡ m
unfolding met look_of whole_at
met_torn planes logical xs k m w = rw w

met_entries : (planes logical : ℕ) (xs ks : List ℕ) (m : Seen) → met_all planes logical xs ks m ≡ meets_all planes logical (entries_in xs (wholes xs ks)) m
unfolding met_all meets_all those entries_in
met_entries planes logical xs [] m = refl
met_entries planes logical xs (k ∷ ks) m = go (decide (whole_at xs k)) (λ n. met_entries planes logical xs ks n)
  where
    go : (whole_at xs k ≡ true) ⊎ (whole_at xs k ≡ false) → ((n : Seen) → met_all planes logical xs ks n ≡ meets_all planes logical (entries_in xs (wholes xs ks)) n)
        → met_all planes logical xs ks (met planes logical m (look_of (page_at xs k))) ≡ meets_all planes logical (entries_in xs (keep (whole_at xs k) (k ∷ []) ++ wholes xs ks)) m
    go (inl w) ih = rw (met_whole planes logical xs k m w, w) (ih (meets planes logical m (entry_in xs k)))
    go (inr w) ih = rw (met_torn planes logical xs k m w, w) (ih m)

-- what a fine entry does
abbrev after : Seen → Entry → Seen
after m e =
    record {
      good = m.good;
      top = max m.top e.ver;
      rising = m.rising && (eqb e.cnt 0 || ltb m.top e.ver);
      changes = m.changes + cond (eqb e.id 0) 0 1;
    }

fine_meets : (planes logical : ℕ) (m : Seen) (e : Entry) → Fine planes logical e → meets planes logical m e ≡ after m e
unfolding meets
fine_meets planes logical m e h = rw (h, risen_is (counted m e.id) e.ver, counted_is m e.id) (go (eqb_cases e.cnt 0))
  where
    n : ℕ
    n = m.changes + cond (eqb e.id 0) 0 1

    go : Is e.cnt 0
        → cond {A = Seen} (eqb e.cnt 0) (record { good = m.good; top = m.top; rising = m.rising; changes = n })
        (record { good = m.good; top = max m.top e.ver; rising = m.rising && ltb m.top e.ver; changes = n })
        ≡ after m e
    go (inl q) =
        let z : e.ver ≡ 0 = (fine_ver planes logical e h).0 q.0 in
        let u : max m.top e.ver ≡ m.top = omega arith in
        rw (q.1, u, and-true m.rising)
    go (inr q) = rw q.1

meets_fine : (planes logical : ℕ) (e : Entry) (es : List Entry) (m : Seen) → Fine planes logical e → meets_all planes logical (e ∷ es) m ≡ meets_all planes logical es (after m e)
unfolding meets_all
meets_fine planes logical e es m h = ap (meets_all planes logical es) (fine_meets planes logical m e h)

-- ---- what was met of all
-- every entry is fine
meets_good : (planes logical : ℕ) (es : List Entry) (m : Seen) → (meets_all planes logical es m).good ≡ (m.good && all (entry_good planes logical []) es)
unfolding meets_all all
meets_good planes logical [] m = sym (and-true m.good)
meets_good planes logical (e ∷ es) m = meets_good planes logical es (meets planes logical m e) ∙ go (decide (entry_good planes logical [] e))
  where
    go : (entry_good planes logical [] e ≡ true) ⊎ (entry_good planes logical [] e ≡ false)
        → ((meets planes logical m e).good && all (entry_good planes logical []) es) ≡ (m.good && (entry_good planes logical [] e && all (entry_good planes logical []) es))
    go (inl t) = rw (fine_meets planes logical m e t, t)
    go (inr t) = unfold meets in rw t (sym (and-false m.good))

pub met_good : (planes logical : ℕ) (xs ks : List ℕ) → (met_all planes logical xs ks start).good ≡ all (λ (e : Entry). entry_good planes logical [] e) (entries_in xs (wholes xs ks))
met_good planes logical xs ks = rw (met_entries planes logical xs ks start) (meets_good planes logical (entries_in xs (wholes xs ks)) start)

pub met_fine : (planes logical : ℕ) (xs ks : List ℕ) → (met_all planes logical xs ks start).good ≡ true → Entries (Fine planes logical) (entries_in xs (wholes xs ks))
met_fine planes logical xs ks h = all_entries (entry_good planes logical []) (entries_in xs (wholes xs ks)) (sym (met_good planes logical xs ks) ∙ h)

-- the highest version
meets_top : (planes logical : ℕ) (es : List Entry) (m : Seen) → Entries (Fine planes logical) es → (meets_all planes logical es m).top ≡ max m.top (top es)
unfolding meets_all top
meets_top planes logical [] m h = omega arith
meets_top planes logical (e ∷ es) m h = rw (meets_fine planes logical e es m h.0) (omega (arith, meets_top planes logical es (after m e) h.1))

pub met_top : (planes logical : ℕ) (xs ks : List ℕ) → (met_all planes logical xs ks start).good ≡ true → (met_all planes logical xs ks start).top ≡ top (entries_in xs (wholes xs ks))
met_top planes logical xs ks h =
    let es = entries_in xs (wholes xs ks) in
    rw (met_entries planes logical xs ks start) (omega (arith, meets_top planes logical es start (met_fine planes logical xs ks h)))

-- versions that rise differ
meets_rising : (planes logical : ℕ) (es : List Entry) (m : Seen) → Entries (Fine planes logical) es → (meets_all planes logical es m).rising ≡ true
    → (m.rising ≡ true) × (Entries (λ (e : Entry). m.top < e.ver) (those is_mark es) × Distinct (λ (e : Entry). e.ver) (those is_mark es))
unfolding meets_all those
meets_rising planes logical [] m f h = (h, (tt, tt))
meets_rising planes logical (e ∷ es) m f h = go (eqb_cases e.cnt 0) (meets_rising planes logical es (after m e) f.1 (rw (meets_fine planes logical e es m f.0) at h))
  where
    High : ℕ → List Entry → Type 0
    High v = Entries (λ (e : Entry). v < e.ver)

    Differ : List Entry → Type 0
    Differ = Distinct (λ (e : Entry). e.ver)

    go : Is e.cnt 0
        → ((m.rising && (eqb e.cnt 0 || ltb m.top e.ver)) ≡ true) × (High (max m.top e.ver) (those is_mark es) × Differ (those is_mark es))
        → (m.rising ≡ true) × (High m.top (keep (is_mark e) (e ∷ []) ++ those is_mark es) × Differ (keep (is_mark e) (e ∷ []) ++ those is_mark es))
    go (inl q) r = (and_left m.rising _ r.0, rw q.1 (each_map _ _ (λ y l. omega arith) (those is_mark es) r.1.0, r.1.1))
    go (inr q) r =
        let t : (m.rising && ltb m.top e.ver) ≡ true = rw q.1 at r.0 in
        let l = ltb-true m.top e.ver (and_right m.rising _ t) in
        let above : High m.top (those is_mark es) = each_map _ _ (λ y l. omega arith) (those is_mark es) r.1.0 in
        let other : Entries (λ (y : Entry). e.ver ≢ y.ver) (those is_mark es) = each_map _ _ (λ y l s. absurd (omega arith)) (those is_mark es) r.1.0 in
        (and_left m.rising _ t, rw q.1 ((l, above), (other, r.1.1)))

pub met_rising : (planes logical : ℕ) (xs ks : List ℕ) → (met_all planes logical xs ks start).good ≡ true → (met_all planes logical xs ks start).rising ≡ true
    → Distinct (λ (e : Entry). e.ver) (those is_mark (entries_in xs (wholes xs ks)))
met_rising planes logical xs ks g h =
    (meets_rising planes logical (entries_in xs (wholes xs ks)) start (met_fine planes logical xs ks g) (rw (met_entries planes logical xs ks start) at h)).1.1

-- how many pages are of changes
meets_changes : (planes logical : ℕ) (es : List Entry) (m : Seen) → Entries (Fine planes logical) es
    → (meets_all planes logical es m).changes ≡ m.changes + length (those is_change es)
unfolding meets_all those
meets_changes planes logical [] m h = omega arith
meets_changes planes logical (e ∷ es) m h = rw (meets_fine planes logical e es m h.0) (go (eqb e.id 0) (meets_changes planes logical es (after m e) h.1))
  where
    go : (t : Bool) → (meets_all planes logical es (after m e)).changes ≡ m.changes + cond t 0 1 + length (those is_change es)
        → (meets_all planes logical es (after m e)).changes ≡ m.changes + length (keep (not t) (e ∷ []) ++ those is_change es)
    go true ih = omega arith
    go false ih = omega arith

-- ---- what the notes say
-- those that pass two tests
pub those_both : (p q r : ℕ → Bool) → ((k : ℕ) → r k ≡ (p k && q k)) → (ks : List ℕ) → those r ks ≡ those q (those p ks)
unfolding those
those_both p q r h [] = refl
those_both p q r h (k ∷ ks) = rw (h k) (go (p k) (those_both p q r h ks))
  where
    go : (t : Bool) → those r ks ≡ those q (those p ks) → keep (t && q k) (k ∷ []) ++ those r ks ≡ those q (keep t (k ∷ []) ++ those p ks)
    go true ih = rw ih
    go false ih = ih

-- page k has no identifier
abbrev is_lone : List ℕ → ℕ → Bool
is_lone xs k = eqb (key_at xs 516 k) 0

note_is : (xs : List ℕ) (k : ℕ) → note_at xs k ≡ cond (whole_at xs k) (cond (is_lone xs k) Lone (cond (mark_at xs k) Mark OfChange)) NotWhole
unfolding note_at note_of look_of whole_at key_at spare_of mark_at
note_is xs k = rw (flip (eqb (le16 (page_at xs k) 514) 0))
  where
    flip : (t : Bool) → cond {A = Note} (not t) Mark OfChange ≡ cond t OfChange Mark
    flip true = refl
    flip false = refl

pub noted_changes : (xs ks : List ℕ) → noted xs Changes ks ≡ those (λ (k : ℕ). not (eqb (key_at xs 516 k) 0)) (wholes xs ks)
unfolding noted wants
noted_changes xs ks =
    those_both (whole_at xs) (λ (k : ℕ). not (is_lone xs k)) (λ (k : ℕ). wants Changes (note_at xs k))
    (λ k. rw (note_is xs k) (go (whole_at xs k) (is_lone xs k) (mark_at xs k))) ks
  where
    go : (w i m : Bool) → wants Changes (cond w (cond i Lone (cond m Mark OfChange)) NotWhole) ≡ (w && not i)
    go true true m = refl
    go true false true = refl
    go true false false = refl
    go false i m = refl

pub noted_lone : (xs ks : List ℕ) → noted xs Singles ks ≡ those (λ (k : ℕ). eqb (key_at xs 516 k) 0) (wholes xs ks)
unfolding noted wants
noted_lone xs ks =
    those_both (whole_at xs) (is_lone xs) (λ (k : ℕ). wants Singles (note_at xs k))
    (λ k. rw (note_is xs k) (go (whole_at xs k) (is_lone xs k) (mark_at xs k))) ks
  where
    go : (w i m : Bool) → wants Singles (cond w (cond i Lone (cond m Mark OfChange)) NotWhole) ≡ (w && i)
    go true true m = refl
    go true false true = refl
    go true false false = refl
    go false i m = refl

-- marks and lone pages
pub noted_last : (xs ks : List ℕ) → noted xs Versions ks ≡ those (λ (k : ℕ). eqb (key_at xs 516 k) 0 || mark_at xs k) (wholes xs ks)
unfolding noted wants
noted_last xs ks =
    those_both (whole_at xs) (λ (k : ℕ). is_lone xs k || mark_at xs k) (λ (k : ℕ). wants Versions (note_at xs k))
    (λ k. rw (note_is xs k) (go (whole_at xs k) (is_lone xs k) (mark_at xs k))) ks
  where
    go : (w i m : Bool) → wants Versions (cond w (cond i Lone (cond m Mark OfChange)) NotWhole) ≡ (w && (i || m))
    go true true m = refl
    go true false true = refl
    go true false false = refl
    go false i m = refl

pub noted_marks : (xs ks : List ℕ) → those (mark_at xs) (noted xs Versions ks) ≡ those (mark_at xs) (wholes xs ks)
noted_marks xs ks =
    ap (those (mark_at xs)) (noted_last xs ks)
    ∙ sym (those_both (λ (k : ℕ). is_lone xs k || mark_at xs k) (mark_at xs) (mark_at xs) (λ k. go (is_lone xs k) (mark_at xs k)) (wholes xs ks))
  where
    go : (i m : Bool) → m ≡ ((i || m) && m)
    go true m = refl
    go false true = refl
    go false false = refl

-- as many pages of changes were met as were noted
pub met_changes : (planes logical : ℕ) (xs ks : List ℕ) → (met_all planes logical xs ks start).good ≡ true → (met_all planes logical xs ks start).changes ≡ length (noted xs Changes ks)
unfolding key_at entry_in entry_of spare_of
met_changes planes logical xs ks h =
    let ws = wholes xs ks in
    let e : length (those is_change (entries_in xs ws)) ≡ length (noted xs Changes ks)
    = ap length (entries_those is_change xs ws) ∙ entries_length xs _ ∙ sym (ap length (noted_changes xs ks)) in
    rw (met_entries planes logical xs ks start) (omega (arith, e, meets_changes planes logical (entries_in xs ws) start (met_fine planes logical xs ks h)))
