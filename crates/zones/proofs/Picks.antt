-- Those of some blocks that pass a test, listed one by one: what a turn of the loop shows. Assumes nothing.
use mathlib.Core.Path.{◌≡◌, sym, ap, ◌∙◌}
use mathlib.Core.Bool.{Bool, true, false}
use mathlib.Core.List.{List, [], ◌∷◌, ◌++◌, append-nil}
use Prim.Native.Nat.{ℕ, suc, ◌+◌, ◌≤◌, ◌<◌}
use native.Mathlib.Numerals.{add-one}
use native.Mathlib.Omega.{arith}
use lib.ListN.{length, take, get_or}
use lib.Seq.{take-suc, take_all, length-take-le}
use Rattle.model.specs.Lists.{all, those, keep}
use Rattle.arrays.specs.Tests.{all_cons, all_head, all_tail, those_nil, those_yes, those_no, those_append}

module _ (q : ℕ → Bool) where
  pub length_those : (xs : List ℕ) → length (those q xs) ≤ length xs
  unfolding those
  length_those [] = omega arith
  length_those (x ∷ xs) = go (q x) (length_those xs)
    where
      go : (t : Bool) → length (those q xs) ≤ length xs → length (keep t (x ∷ []) ++ those q xs) ≤ suc (length xs)
      go true h = omega arith
      go false h = omega arith

  -- what holds of all holds of those
  pub all_those : (p : ℕ → Bool) (xs : List ℕ) → all p xs ≡ true → all p (those q xs) ≡ true
  unfolding those
  all_those p [] h = h
  all_those p (x ∷ xs) h = go (q x) (all_those p xs (all_tail p x xs h))
    where
      go : (t : Bool) → all p (those q xs) ≡ true → all p (keep t (x ∷ []) ++ those q xs) ≡ true
      go true k = all_cons p x (those q xs) (all_head p x xs h) k
      go false k = k

  -- those of the first i blocks, and of one more
  module _ (bs : List ℕ) (i : ℕ) (h : i < length bs) where
    one_more : those q (take (i + 1) bs) ≡ those q (take i bs) ++ those q (get_or bs i 0 ∷ [])
    one_more = ap (those q) (rw (add-one, take-suc bs i 0 h)) ∙ those_append q (take i bs) (get_or bs i 0 ∷ [])

    pub more_no : q (get_or bs i 0) ≡ false → those q (take (i + 1) bs) ≡ those q (take i bs)
    more_no n = one_more ∙ rw (those_no q (get_or bs i 0) [] n, those_nil q) (append-nil (those q (take i bs)))

    pub more_yes : q (get_or bs i 0) ≡ true → those q (take (i + 1) bs) ≡ those q (take i bs) ++ (get_or bs i 0 ∷ [])
    more_yes y = one_more ∙ rw (those_yes q (get_or bs i 0) [] y, those_nil q)

    pub few_more : length (those q (take i bs)) ≤ i
    few_more = let l = length_those (take i bs) in let n = length-take-le i bs (omega arith) in omega arith

    -- out has those of the first i blocks
    pub picks_yes : (out r : List ℕ) → out ≡ those q (take i bs) → q (get_or bs i 0) ≡ true → r ≡ out ++ (get_or bs i 0 ∷ []) → r ≡ those q (take (i + 1) bs)
    picks_yes out r e y f = f ∙ rw e (sym (more_yes y))

    pub picks_no : (out : List ℕ) → out ≡ those q (take i bs) → q (get_or bs i 0) ≡ false → out ≡ those q (take (i + 1) bs)
    picks_no out e n = e ∙ sym (more_no n)

  pub picks_all : (bs : List ℕ) (i : ℕ) (out : List ℕ) → length bs ≤ i → out ≡ those q (take i bs) → out ≡ those q bs
  picks_all bs i out h e = e ∙ ap (those q) (take_all i bs h)
