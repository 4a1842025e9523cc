-- A fact of every entry of a list: with one more entry, of what a test picks out; and whether an entry passes a test.
use Rattle.std.specs.Prelude.{◌≡◌, refl, ◌⊎◌, Bool, false}
use Rattle.std.proofs.Common.{inl, inr}
use Rattle.std.proofs.Math.Bool.{true}
use mathlib.Core.List.{List, [], ◌∷◌, ◌++◌}
use Rattle.model.specs.Lists.{keep, those}
use Rattle.model.specs.Zones.{Entry}
use Rattle.arrays.specs.Tests.{decide, clash}
use Rattle.ranks.specs.Dealt.{Each, those_off}
use Rattle.arrays.specs.Insert.{Insert, here, there}

-- each of the entries
abbrev pub Entries : (Entry → Type 0) → List Entry → Type 0
Entries P es = Each P es

module _ (P : Entry → Type 0) where
  -- one more entry, and that one and the others
  pub entries_in_law : (e : Entry) {xs ys : List Entry} → Insert e xs ys → P e → Entries P xs → Entries P ys
  entries_in_law e (here xs) p h = (p, h)
  entries_in_law e (there x i) p h = (h.0, entries_in_law e i p h.1)

  pub entries_out : (e : Entry) {xs ys : List Entry} → Insert e xs ys → Entries P ys → P e × Entries P xs
  entries_out e (here xs) h = h
  entries_out e (there x i) h = let k = entries_out e i h.1 in (k.0, (h.0, k.1))

  -- the two parts of a list
  pub entries_parts : (xs ys : List Entry) → Entries P (xs ++ ys) → Entries P xs × Entries P ys
  entries_parts [] ys h = (tt, h)
  entries_parts (x ∷ xs) ys h = let k = entries_parts xs ys h.1 in ((h.0, k.0), k.1)

  -- those that pass, and each that passes
  pub entries_those : (p : Entry → Bool) (es : List Entry) → Entries (λ (e : Entry). p e ≡ true → P e) es → Entries P (those p es)
  unfolding those
  entries_those p [] h = tt
  entries_those p (e ∷ es) h = go (decide (p e)) (entries_those p es h.1)
    where
      go : (p e ≡ true) ⊎ (p e ≡ false) → Entries P (those p es) → Entries P (keep (p e) (e ∷ []) ++ those p es)
      go (inl t) k = rw t (h.0 t, k)
      go (inr t) k = rw t k

  pub those_entries : (p : Entry → Bool) (es : List Entry) → Entries P (those p es) → Entries (λ (e : Entry). p e ≡ true → P e) es
  unfolding those
  those_entries p [] h = tt
  those_entries p (e ∷ es) h = go (decide (p e)) (those_entries p es)
    where
      go : (p e ≡ true) ⊎ (p e ≡ false) → (Entries P (those p es) → Entries (λ (e : Entry). p e ≡ true → P e) es)
          → Entries (λ (e : Entry). p e ≡ true → P e) (e ∷ es)
      go (inl t) ih = let k : P e × Entries P (those p es) = rw t at h in ((λ s. k.0), ih k.1)
      go (inr t) ih = let k : Entries P (those p es) = rw t at h in ((λ s. clash s t), ih k)

-- two facts make a third
pub entries_both : (P Q R : Entry → Type 0) → ((e : Entry) → P e → Q e → R e) → (es : List Entry) → Entries P es → Entries Q es → Entries R es
entries_both P Q R f [] h k = tt
entries_both P Q R f (e ∷ es) h k = (f e h.0 k.0, entries_both P Q R f es h.1 k.1)

-- ---- what a test picks out
-- the same as another test
pub those_same : (p q : Entry → Bool) (es : List Entry) → Entries (λ (e : Entry). p e ≡ q e) es → those p es ≡ those q es
unfolding those
those_same p q [] h = refl
those_same p q (e ∷ es) h = rw (h.0, those_same p q es h.1)

-- y alone
pub those_alone : (p : Entry → Bool) (y : Entry) {xs ys : List Entry} → Insert y xs ys → p y ≡ true → Entries (λ (e : Entry). p e ≡ false) xs
    → those p ys ≡ y ∷ []
unfolding those
those_alone p y (here xs) h k = rw (h, those_off p xs k)
those_alone p y (there x i) h k = rw k.0 (those_alone p y i h k.1)

-- none passes, or one does
pub data Found (p : Entry → Bool) (es : List Entry) : Type 0 where
  none : Entries (λ (e : Entry). p e ≡ false) es → Found p es
  one : (y : Entry) (xs : List Entry) → Insert y xs es → p y ≡ true → Found p es

pub search_in : (p : Entry → Bool) (es : List Entry) → Found p es
search_in p [] = none tt
search_in p (e ∷ es) = go (decide (p e)) (search_in p es)
  where
    go : (p e ≡ true) ⊎ (p e ≡ false) → Found p es → Found p (e ∷ es)
    go (inl t) f = one e es (here es) t
    go (inr t) (none h) = none (t, h)
    go (inr t) (one y xs i h) = one y (e ∷ xs) (there e i) h
