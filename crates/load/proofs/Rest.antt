-- One number taken of all, the lowest or the highest, stands for a test of each. Assumes nothing.
use mathlib.Core.Path.{◌≡◌, sym, ◌∙◌}
use mathlib.Core.Bool.{false, ◌&&◌, and-true, and_assoc}
use mathlib.Core.Logic.{inl, inr}
use mathlib.Core.List.{List, [], ◌∷◌}
use Prim.Native.Nat.{ℕ, suc, ◌≤◌, min, max}
use native.Mathlib.Omega.{arith}
use lib.ListN.{get_or}
use lib.Dec.{eqb}
use borrow.Author.Tests.{eq-eqb, ne_eqb}
use Rattle.std.specs.List.{fold}
use Rattle.model.specs.Geometry.{unmapped}
use Rattle.model.specs.Lists.{all}
use Rattle.arrays.specs.Tests.{Is, eqb_cases}

-- either side of the test
turned : (n a : ℕ) → eqb a n ≡ eqb n a
turned n a = go (eqb_cases a n)
  where
    go : Is a n → eqb a n ≡ eqb n a
    go (inl (t, u)) = u ∙ sym (eq-eqb n a (sym t))
    go (inr (t, u)) = u ∙ sym (ne_eqb n a (λ (k : n ≡ a). t (sym k)))

-- r taken of two is n only where both are
both : (n a b r : ℕ) → (r ≡ n → (a ≡ n) × (b ≡ n)) → (a ≡ n → b ≡ n → r ≡ n) → eqb n r ≡ (eqb n a && eqb n b)
both n a b r h k = go (eqb_cases n a) (eqb_cases n b)
  where
    no : (r ≡ n → ⊥) → eqb n r ≡ false
    no u = ne_eqb n r (λ (e : n ≡ r). u (sym e))

    go : Is n a → Is n b → eqb n r ≡ (eqb n a && eqb n b)
    go (inl (e, t)) (inl (f, u)) = rw (t, u) (eq-eqb n r (sym (k (sym e) (sym f))))
    go (inl (e, t)) (inr (f, u)) = rw (t, u) (no (λ (q : r ≡ n). f (sym (h q).1)))
    go (inr (e, t)) s = rw t (no (λ (q : r ≡ n). e (sym (h q).0)))

-- one more of the list
more : (n a b r : ℕ) (xs : List ℕ) → eqb n r ≡ (eqb n a && eqb n b) → (eqb n r && all (eqb n) xs) ≡ (eqb n a && all (eqb n) (b ∷ xs))
unfolding all
more n a b r xs e = rw e (and_assoc (eqb n a) (eqb n b) (all (eqb n) xs))

highest : (a : ℕ) (xs : List ℕ) → eqb 0 (fold max a xs) ≡ (eqb 0 a && all (eqb 0) xs)
unfolding all
highest a [] = sym (and-true (eqb 0 a))
highest a (x ∷ xs) = highest (max a x) xs ∙ more 0 a x (max a x) xs (both 0 a x (max a x) (λ e. (omega arith, omega arith)) (λ e f. omega arith))

-- the highest of all is zero only where each is
pub highest_zero : (xs : List ℕ) → eqb (fold max 0 xs) 0 ≡ all (eqb 0) xs
highest_zero xs = turned 0 (fold max 0 xs) ∙ highest 0 xs

lowest : (a : ℕ) (xs : List ℕ) → a ≤ unmapped → ((i : ℕ) → get_or xs i 0 ≤ unmapped) → eqb unmapped (fold min a xs) ≡ (eqb unmapped a && all (eqb unmapped) xs)
unfolding all
lowest a [] h k = sym (and-true (eqb unmapped a))
lowest a (x ∷ xs) h k =
    let l : x ≤ unmapped = k 0 in
    lowest (min a x) xs (omega arith) (λ i. k (suc i)) ∙ more unmapped a x (min a x) xs (both unmapped a x (min a x) (λ e. (omega arith, omega arith)) (λ e f. omega arith))

-- the lowest of entries is unmapped only where each is
pub lowest_unmapped : (xs : List ℕ) → ((i : ℕ) → get_or xs i 0 ≤ unmapped) → eqb (fold min unmapped xs) unmapped ≡ all (eqb unmapped) xs
lowest_unmapped xs k = turned unmapped (fold min unmapped xs) ∙ lowest unmapped xs (omega arith) k
