-- What the library says of a chain of iterators, in the words of `model` for tests over a list: some and all that pass, the first, those, how many.
-- Each law takes two tests, which need only agree on every element.
use Rattle.std.specs.Prelude.{◌≡◌, refl, ℕ, suc, ◌+◌, Bool, true, false, cond, List, [], ◌∷◌, ◌++◌, filter, count_by, not}
use Rattle.std.specs.List.{list_any, list_all, position_or_len}
use Rattle.std.proofs.Common.{ap, ◌∙◌, arith}
use Rattle.std.proofs.lemmas.List.Sums.{sum_by-cons}
use Rattle.model.specs.Lists.{all, any, find, keep, those, count}

module _ {A : Type 0} (p q : A → Bool) (like : (x : A) → p x ≡ q x) where
  pub any_like : (xs : List A) → list_any p xs ≡ any q xs
  unfolding any
  any_like [] = refl
  any_like (x ∷ xs) = rw (like x, any_like xs)

  pub all_like : (xs : List A) → list_all p xs ≡ all q xs
  unfolding all
  all_like [] = refl
  all_like (x ∷ xs) = rw (like x, all_like xs)

  kept : (b : Bool) (x : A) (xs : List A) → cond b (x ∷ xs) xs ≡ keep b (x ∷ []) ++ xs
  kept true x xs = refl
  kept false x xs = refl

  pub those_like : (xs : List A) → filter p xs ≡ those q xs
  unfolding those
  those_like [] = refl
  those_like (x ∷ xs) = rw (like x, those_like xs) (kept (q x) x (those q xs))

  more : (b : Bool) (m n : ℕ) → m ≡ n → cond b 1 0 + m ≡ cond b (suc n) n
  more true m n e = omega (arith, e)
  more false m n e = omega (arith, e)

  pub count_like : (xs : List A) → count_by p xs ≡ count q xs
  unfolding count
  count_like [] = refl
  count_like (x ∷ xs) = sum_by-cons (λ y. cond (p y) 1 0) x xs ∙ rw (like x) (more (q x) (count_by p xs) (count q xs) (count_like xs))

  at_first : (b : Bool) (m n : ℕ) → m ≡ n → cond (not b) (1 + m) 0 ≡ cond b 0 (suc n)
  at_first true m n e = refl
  at_first false m n e = omega (arith, e)

  pub find_like : (xs : List A) → position_or_len p xs ≡ find q xs
  unfolding find
  find_like [] = refl
  find_like (x ∷ xs) = rw (like x) (at_first (q x) (position_or_len p xs) (find q xs) (find_like xs))
