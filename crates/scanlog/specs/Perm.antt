-- The same elements in another order: what a checkpoint does to the scan on two planes.
use Rattle.std.specs.Prelude.{◌≡◌, Bool, suc, ◌≤◌, length}
use Rattle.std.proofs.Math.Path.{refl}
use Rattle.std.proofs.Common.{ap, ◌∙◌, arith}
use Rattle.std.proofs.Math.Bool.{true, false, not}
use mathlib.Core.List.{List, [], ◌∷◌, ◌++◌}
use Rattle.model.specs.Lists.{keep, those}
use Rattle.model.specs.Zones.{Entry}
use Rattle.arrays.specs.Insert.{Insert, here, insert_middle, insert_append, insert_length, those_in, those_out}
use Rattle.ranks.specs.Entries.{Entries, entries_in_law}

-- ---- the second list has the elements of the first, each put in somewhere
pub data Perm {A : Type 0} : List A → List A → Type 0 where
  empty : Perm [] []
  put : {xs ys zs : List A} (x : A) → Perm xs ys → Insert x ys zs → Perm (x ∷ xs) zs

module _ {A : Type 0} where
  pub perm_refl : (xs : List A) → Perm xs xs
  perm_refl [] = empty
  perm_refl (x ∷ xs) = put x (perm_refl xs) (here xs)

  pub perm_length : {xs ys : List A} → Perm xs ys → length ys ≡ length xs
  perm_length empty = refl
  perm_length (put x p i) = insert_length x i ∙ ap suc (perm_length p)

  -- one list behind the other
  pub perm_append : {xs ys us vs : List A} → Perm xs ys → Perm us vs → Perm (xs ++ us) (ys ++ vs)
  perm_append empty q = q
  perm_append {vs = vs} (put x p i) q = put x (perm_append p q) (insert_append x vs i)

  -- what a test picks out
  pub perm_those : (t : A → Bool) {xs ys : List A} → Perm xs ys → Perm (those t xs) (those t ys)
  unfolding those
  perm_those t empty = empty
  perm_those t (put {xs = xs} {ys = ys} {zs = zs} x p i) = go (t x) refl (perm_those t p)
    where
      go : (b : Bool) → t x ≡ b → Perm (those t xs) (those t ys) → Perm (keep b (x ∷ []) ++ those t xs) (those t zs)
      go true e ih = put x ih (those_in x t i e)
      go false e ih = rw (those_out x t i e) ih

  -- two lists of one element at most
  pub perm_short : {xs ys : List A} → Perm xs ys → length xs ≤ 1 → xs ≡ ys
  perm_short empty l = refl
  perm_short (put x empty (here _)) l = refl
  perm_short (put x (put y p i) j) l = absurd (omega arith)

  -- those that pass a test, then those that do not
  pub perm_split : (t : A → Bool) (xs : List A) → Perm xs (those t xs ++ those (λ (x : A). not (t x)) xs)
  unfolding those
  perm_split t [] = empty
  perm_split t (x ∷ xs) = go (t x) (perm_split t xs)
    where
      go : (b : Bool) → Perm xs (those t xs ++ those (λ (x : A). not (t x)) xs)
          → Perm (x ∷ xs) ((keep b (x ∷ []) ++ those t xs) ++ (keep (not b) (x ∷ []) ++ those (λ (x : A). not (t x)) xs))
      go true ih = put x ih (here _)
      go false ih = put x ih (insert_middle x (those t xs) (those (λ (x : A). not (t x)) xs))

-- what is so of each entry
pub entries_perm : (P : Entry → Type 0) {xs ys : List Entry} → Perm xs ys → Entries P xs → Entries P ys
entries_perm P empty h = tt
entries_perm P (put x p i) h = entries_in_law P x i h.0 (entries_perm P p h.1)
