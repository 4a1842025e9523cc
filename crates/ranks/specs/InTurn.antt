-- The pages of a transaction in turn: on two planes dealt by their write numbers, on one plane as they stand.
use Rattle.std.specs.Prelude.{◌≡◌, refl, Bool, true, false, cond, ℕ, zero, suc, ◌≤◌, ◌<◌, max, List, [], ◌∷◌, ◌++◌, length, eqb}
use Rattle.std.proofs.Common.{sym, ap, ◌∙◌, inl, inr, arith, append-nil, eq-eqb, ne_eqb}
use Rattle.model.specs.Lists.{keep, those}
use Rattle.model.specs.Zones.{Entry}
use Rattle.model.specs.Recovery.{by_number, in_turn, top}
use Rattle.arrays.specs.Tests.{Is, eqb_cases}
use Rattle.arrays.specs.Insert.{Insert, here, there, insert_middle, insert_append, insert_length}
use Rattle.ranks.specs.Dealt.{each_map, each_dealt, dealt, those_off, those_on, those_dealt}
use Rattle.ranks.specs.Entries.{Entries}

-- the write number of a page
abbrev pub number : Entry → ℕ
number e = e.reserved

pub number_dealt : (n : ℕ) (es : List Entry) → by_number n es ≡ dealt number n es
unfolding by_number dealt
number_dealt zero es = refl
number_dealt (suc n) es = ap (λ (l : List Entry). l ++ those (λ (e : Entry). eqb e.reserved (suc n)) es) (number_dealt n es)

-- no page
pub turn_nil : (planes : ℕ) → in_turn planes [] ≡ []
unfolding in_turn by_number those
turn_nil planes = go (eqb planes 2)
  where
    go : (t : Bool) → cond t (by_number 41 []) [] ≡ []
    go true = refl
    go false = refl

-- what is so of every page
pub entries_turn : (P : Entry → Type 0) (planes : ℕ) (es : List Entry) → Entries P es → Entries P (in_turn planes es)
unfolding in_turn
entries_turn P planes es h = go (eqb planes 2)
  where
    go : (t : Bool) → Entries P (cond t (by_number 41 es) es)
    go true = rw (number_dealt 41 es) (each_dealt P number 41 es h)
    go false = h

-- those that pass a test, in turn
pub those_turn : (p : Entry → Bool) (planes : ℕ) (es : List Entry) → those p (in_turn planes es) ≡ in_turn planes (those p es)
unfolding in_turn
those_turn p planes es = go (eqb planes 2)
  where
    go : (t : Bool) → those p (cond t (by_number 41 es) es) ≡ cond t (by_number 41 (those p es)) (those p es)
    go true = rw (number_dealt 41 es, number_dealt 41 (those p es)) (those_dealt p number 41 es)
    go false = refl

-- ---- numbers up to 41: dealt by higher ones too, they stay
dealt_more : (n : ℕ) (es : List Entry) → 41 ≤ n → Entries (λ (e : Entry). number e ≤ 41) es → dealt number n es ≡ dealt number 41 es
unfolding dealt
dealt_more zero es l h = absurd (omega arith)
dealt_more (suc n) es l h = go (eqb_cases (suc n) 41) (λ k. dealt_more n es k h)
  where
    go : Is (suc n) 41 → (41 ≤ n → dealt number n es ≡ dealt number 41 es) → dealt number (suc n) es ≡ dealt number 41 es
    go (inl q) ih = ap (λ (k : ℕ). dealt number k es) q.0
    go (inr q) ih =
        let none : those (λ (e : Entry). eqb (number e) (suc n)) es ≡ []
        = those_off _ es (each_map _ _ (λ e k. ne_eqb (number e) (suc n) (λ r. q.0 (omega arith))) es h) in
        ap (λ (xs : List Entry). dealt number n es ++ xs) none ∙ append-nil (dealt number n es) ∙ ih (omega (arith, q.0))

pub turn_dealt : (es : List Entry) → Entries (λ (e : Entry). number e ≤ 41) es → dealt number 255 es ≡ in_turn 2 es
unfolding in_turn
turn_dealt es h = dealt_more 255 es (omega arith) h ∙ sym (number_dealt 41 es)

-- ---- the same pages in another order
dealt_nil : (n : ℕ) → dealt number n [] ≡ []
unfolding dealt those
dealt_nil zero = refl
dealt_nil (suc n) = rw (dealt_nil n)

-- a page of a higher number is passed over
dealt_past : (n : ℕ) (e : Entry) (es : List Entry) → n < number e → dealt number n (e ∷ es) ≡ dealt number n es
unfolding dealt those
dealt_past zero e es l = rw (ne_eqb (number e) 0 (λ q. absurd (omega arith)))
dealt_past (suc n) e es l = rw (dealt_past n e es (omega arith), ne_eqb (number e) (suc n) (λ q. absurd (omega arith)))

-- a page dealt out goes somewhere among the others
dealt_insert : (n : ℕ) (e : Entry) (es : List Entry) → number e ≤ n → Insert e (dealt number n es) (dealt number n (e ∷ es))
unfolding dealt those
dealt_insert zero e es l = rw (eq-eqb (number e) 0 (omega arith)) (here (dealt number 0 es))
dealt_insert (suc n) e es l = go (eqb_cases (number e) (suc n)) (dealt_insert n e es)
  where
    heap : List Entry
    heap = those (λ (x : Entry). eqb (number x) (suc n)) es

    go : Is (number e) (suc n) → (number e ≤ n → Insert e (dealt number n es) (dealt number n (e ∷ es)))
        → Insert e (dealt number n es ++ heap) (dealt number n (e ∷ es) ++ (keep (eqb (number e) (suc n)) (e ∷ []) ++ heap))
    go (inl q) ih = rw (q.1, dealt_past n e es (omega (arith, q.0))) (insert_middle e (dealt number n es) heap)
    go (inr q) ih = rw q.1 (insert_append e heap (ih (omega (arith, q.0))))

pub top_insert : (e : Entry) {xs ys : List Entry} → Insert e xs ys → top ys ≡ max (top xs) e.ver
unfolding top
top_insert e (here xs) = omega arith
top_insert e (there x i) = omega (arith, top_insert e i)

-- as many, and as high versions
abbrev Few : ℕ → List Entry → Type 0
Few planes es = planes ≡ 2 → Entries (λ (e : Entry). number e ≤ 41) es

pub length_turn : (planes : ℕ) (es : List Entry) → Few planes es → length (in_turn planes es) ≡ length es
unfolding in_turn
length_turn planes es few = go (eqb_cases planes 2)
  where
    each : (es : List Entry) → Entries (λ (e : Entry). number e ≤ 41) es → length (dealt number 41 es) ≡ length es
    each [] h = ap length (dealt_nil 41)
    each (e ∷ es) h = omega (arith, insert_length e (dealt_insert 41 e es h.0), each es h.1)

    go : Is planes 2 → length (cond (eqb planes 2) (by_number 41 es) es) ≡ length es
    go (inl q) = rw (q.1, number_dealt 41 es) (each es (few q.0))
    go (inr q) = rw q.1

pub top_turn : (planes : ℕ) (es : List Entry) → Few planes es → top (in_turn planes es) ≡ top es
unfolding in_turn
top_turn planes es few = go (eqb_cases planes 2)
  where
    each : (es : List Entry) → Entries (λ (e : Entry). number e ≤ 41) es → top (dealt number 41 es) ≡ top es
    each [] h = ap top (dealt_nil 41)
    each (e ∷ es) h = omega (arith, top_insert e (dealt_insert 41 e es h.0), each es h.1, top_insert e (here es))

    go : Is planes 2 → top (cond (eqb planes 2) (by_number 41 es) es) ≡ top es
    go (inl q) = rw (q.1, number_dealt 41 es) (each es (few q.0))
    go (inr q) = rw q.1

-- pages without a number stay as they stand
pub turn_none : (planes : ℕ) (es : List Entry) → Entries (λ (e : Entry). number e ≡ 0) es → in_turn planes es ≡ es
unfolding in_turn by_number
turn_none planes es h = go (eqb planes 2)
  where
    all : (n : ℕ) → by_number n es ≡ es
    all zero = those_on _ es (each_map _ _ (λ e z. eq-eqb (number e) 0 z) es h)
    all (suc n) = rw (all n, those_off _ es (each_map _ _ (λ e z. ne_eqb (number e) (suc n) (λ q. absurd (omega arith))) es h)) (append-nil es)

    go : (t : Bool) → cond t (by_number 41 es) es ≡ es
    go true = all 41
    go false = refl
