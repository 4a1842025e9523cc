-- Refusal 4 in parts, as a program can ask for them in any order: each page by itself, no version twice among the marks, no nonzero identifier twice
-- among them, and on two planes no number twice among the pages of a change.
use Rattle.std.specs.Prelude.{◌≡◌, ◌⊎◌, ◌≢◌, Bool, true, false, not, ◌&&◌, ℕ, ◌+◌, ◌*◌, ◌≤◌, List, [], ◌∷◌, ◌++◌, eqb, leb}
use Rattle.std.proofs.Common.{◌∙◌, inl, inr, arith, eq-eqb, ne_eqb, leb-true}
use Rattle.std.proofs.lemmas.Bool.{eqb-false, not-true}
use Rattle.model.specs.Lists.{all, keep, those}
use Rattle.model.specs.Zones.{Entry}
use Rattle.model.specs.Recovery.{is_mark, kind_good, number_good, entry_good, pages_good}
use Rattle.arrays.specs.Tests.{Is, eqb_cases, decide, clash, and_left, and_right}
use Rattle.ranks.specs.Dealt.{every, each_map, Distinct}
use Rattle.ranks.specs.Entries.{Entries, entries_both, entries_those, those_entries}
use Rattle.ranks.specs.Clear.{Fine, Clear, Pairs, passed_good, good_passes}

-- a page of a change, with a nonzero identifier
abbrev pub is_change : Entry → Bool
is_change e = not (eqb e.id 0)

-- ---- every two
pairs_both : (P Q R : Entry → Entry → Type 0) → ((x y : Entry) → P x y → Q x y → R x y) → (es : List Entry) → Pairs P es → Pairs Q es → Pairs R es
pairs_both P Q R t [] h k = tt
pairs_both P Q R t (e ∷ es) h k = (entries_both (P e) (Q e) (R e) (t e) es h.0 k.0, pairs_both P Q R t es h.1 k.1)

pairs_map : (R S : Entry → Entry → Type 0) → ((x y : Entry) → R x y → S x y) → (es : List Entry) → Pairs R es → Pairs S es
pairs_map R S t [] h = tt
pairs_map R S t (e ∷ es) h = (each_map (R e) (S e) (t e) es h.0, pairs_map R S t es h.1)

pairs_all : (R : Entry → Entry → Type 0) → ((x y : Entry) → R x y) → (es : List Entry) → Pairs R es
pairs_all R t [] = tt
pairs_all R t (e ∷ es) = (every (R e) (t e) es, pairs_all R t es)

-- with what is so of each
pairs_fine : (P : Entry → Type 0) (R : Entry → Entry → Type 0) {S : Entry → Entry → Type 0} → ((x y : Entry) → P x → P y → R x y → S x y) → (es : List Entry)
    → Entries P es → Pairs R es → Pairs S es
pairs_fine P R {S} t [] f h = tt
pairs_fine P R {S} t (e ∷ es) f h = (entries_both P (R e) (S e) (λ y g r. t e y f.0 g r) es f.1 h.0, pairs_fine P R t es f.1 h.1)

-- of those that pass, and where both pass
pairs_those : (R : Entry → Entry → Type 0) (p : Entry → Bool) (es : List Entry)
    → Pairs (λ (x y : Entry). p x ≡ true → p y ≡ true → R x y) es → Pairs R (those p es)
unfolding those
pairs_those R p [] h = tt
pairs_those R p (e ∷ es) h = go (decide (p e)) (pairs_those R p es h.1)
  where
    go : (p e ≡ true) ⊎ (p e ≡ false) → Pairs R (those p es) → Pairs R (keep (p e) (e ∷ []) ++ those p es)
    go (inl t) k = rw t (entries_those (R e) p es (each_map _ _ (λ y f. f t) es h.0), k)
    go (inr t) k = rw t k

those_pairs : (R : Entry → Entry → Type 0) (p : Entry → Bool) (es : List Entry) → Pairs R (those p es)
    → Pairs (λ (x y : Entry). p x ≡ true → p y ≡ true → R x y) es
unfolding those
those_pairs R p [] h = tt
those_pairs R p (e ∷ es) h = go (decide (p e)) (those_pairs R p es)
  where
    Passing : List Entry → Type 0
    Passing = Pairs (λ (x y : Entry). p x ≡ true → p y ≡ true → R x y)

    go : (p e ≡ true) ⊎ (p e ≡ false) → (Pairs R (those p es) → Passing es) → Passing (e ∷ es)
    go (inl t) ih =
        let k : Entries (R e) (those p es) × Pairs R (those p es) = rw t at h in
        (each_map _ _ (λ y f s. f) es (those_entries (R e) p es k.0), ih k.1)
    go (inr t) ih = let k : Pairs R (those p es) = rw t at h in (every _ (λ y s. clash s t) es, ih k)

-- no two share a key
module _ (f : Entry → ℕ) where
  pairs_distinct : (es : List Entry) → Pairs (λ (x y : Entry). f x ≢ f y) es → Distinct f es
  pairs_distinct [] h = tt
  pairs_distinct (e ∷ es) h = (h.0, pairs_distinct es h.1)

  distinct_pairs : (es : List Entry) → Distinct f es → Pairs (λ (x y : Entry). f x ≢ f y) es
  distinct_pairs [] h = tt
  distinct_pairs (e ∷ es) h = (h.0, distinct_pairs es h.1)

-- ---- refusal 4
-- nonzero, as a test
nonzero : (a : ℕ) → a ≢ 0 → not (eqb a 0) ≡ true
nonzero a h = rw (ne_eqb a 0 h)

not_zero : (a : ℕ) → not (eqb a 0) ≡ true → a ≢ 0
not_zero a h = eqb-false a 0 (not-true (eqb a 0) h)

-- by identifier, then by number
abbrev pub number_key : Entry → ℕ
number_key e = e.id * 256 + e.reserved

-- on two planes no page of a change has its identifier and its number twice
abbrev pub NumbersDiffer : ℕ → List Entry → Type 0
NumbersDiffer planes es = planes ≡ 2 → Distinct number_key (those is_change es)

-- a page of a change has a number up to 41 on two planes
pub fine_number : (planes logical : ℕ) (e : Entry) → planes ≡ 2 → is_change e ≡ true → Fine planes logical e → e.reserved ≤ 41
unfolding entry_good number_good all
fine_number planes logical e two z h =
    let n : number_good planes [] e ≡ true = and_left (number_good planes [] e) _ (and_right (kind_good e.kind) _ h) in
    let k : (leb 1 e.reserved && (leb e.reserved 41 && true)) ≡ true = rw (eq-eqb planes 2 two, z) at n in
    leb-true e.reserved 41 (and_left (leb e.reserved 41) true (and_right (leb 1 e.reserved) _ k))

module _ (planes logical : ℕ) (es : List Entry) where
  -- the parts pass: refusal 4 passes
  pub parts_good : Entries (Fine planes logical) es → Distinct (λ (e : Entry). e.ver) (those is_mark es)
      → Distinct (λ (e : Entry). e.id) (those is_mark (those is_change es)) → NumbersDiffer planes es → pages_good planes logical es ≡ true
  parts_good fine vers ids numbers = good_passes planes logical es (record { fine = fine; pairs = pairs_both _ _ (Clear planes) clear es marks (apart (eqb_cases planes 2)) })
    where
      -- two marks
      Marks : Entry → Entry → Type 0
      Marks x y = (is_mark x ≡ true → is_mark y ≡ true → x.ver ≢ y.ver)
          × (is_change x ≡ true → is_change y ≡ true → is_mark x ≡ true → is_mark y ≡ true → x.id ≢ y.id)

      marks : Pairs Marks es
      marks = pairs_both _ _ Marks (λ x y u v. (u, v)) es
          (those_pairs _ is_mark es (distinct_pairs (λ (e : Entry). e.ver) (those is_mark es) vers))
          (those_pairs _ is_change es (those_pairs _ is_mark (those is_change es) (distinct_pairs (λ (e : Entry). e.id) (those is_mark (those is_change es)) ids)))

      -- two pages of changes
      Apart : Entry → Entry → Type 0
      Apart x y = planes ≡ 2 → is_change x ≡ true → is_change y ≡ true → number_key x ≢ number_key y

      apart : Is planes 2 → Pairs Apart es
      apart (inl q) = pairs_map _ Apart (λ x y f two. f) es (those_pairs _ is_change es (distinct_pairs number_key (those is_change es) (numbers q.0)))
      apart (inr q) = pairs_all Apart (λ x y two. absurd (q.0 two)) es

      clear : (x y : Entry) → Marks x y → Apart x y → Clear planes x y
      clear x y m a = record {
        ver = λ p q. m.0 (nonzero x.cnt p) (nonzero y.cnt q);
        id = λ p q z r. m.1 (nonzero x.id z) (nonzero y.id (λ t. z (r ∙ t))) (nonzero x.cnt p) (nonzero y.cnt q) r;
        number = λ two z r s. a two (nonzero x.id z) (nonzero y.id (λ t. z (r ∙ t))) (omega (arith, r, s));
      }

  -- and back
  module _ (h : pages_good planes logical es ≡ true) where
    pub good_fine : Entries (Fine planes logical) es
    good_fine = (passed_good planes logical es h).fine

    pub good_versions : Distinct (λ (e : Entry). e.ver) (those is_mark es)
    good_versions =
        pairs_distinct (λ (e : Entry). e.ver) (those is_mark es) (pairs_those _ is_mark es
        (pairs_map (Clear planes) _ (λ x y c m n. c.ver (not_zero x.cnt m) (not_zero y.cnt n)) es (passed_good planes logical es h).pairs))

    pub good_ids : Distinct (λ (e : Entry). e.id) (those is_mark (those is_change es))
    good_ids =
        pairs_distinct (λ (e : Entry). e.id) (those is_mark (those is_change es)) (pairs_those _ is_mark (those is_change es) (pairs_those _ is_change es
        (pairs_map (Clear planes) _ (λ x y c z w m n. c.id (not_zero x.cnt m) (not_zero y.cnt n) (not_zero x.id z)) es (passed_good planes logical es h).pairs)))

    pub good_numbers : NumbersDiffer planes es
    good_numbers two =
        pairs_distinct number_key (those is_change es) (pairs_those _ is_change es
        (pairs_fine _ _ (λ x y f g c z w q. differ x y (fine_number planes logical x two z f) (fine_number planes logical y two w g) (c.number two (not_zero x.id z)) q)
        es good_fine (passed_good planes logical es h).pairs))
      where
        differ : (x y : Entry) → x.reserved ≤ 41 → y.reserved ≤ 41 → (x.id ≡ y.id → x.reserved ≢ y.reserved) → number_key x ≢ number_key y
        differ x y l m n q =
            let r : x.id ≡ y.id = omega arith in
            n r (omega (arith, r))
