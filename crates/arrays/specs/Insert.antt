-- One element put into a list, somewhere: what it does to the length, and to what a test picks out.
use Rattle.std.specs.Prelude.{◌≡◌, refl, Bool, suc, length}
use Rattle.std.proofs.Math.Path.{ap}
use Rattle.std.proofs.Math.Bool.{true, false}
use mathlib.Core.List.{List, [], ◌∷◌, ◌++◌}
use Rattle.model.specs.Lists.{keep, those}

-- the second list is the first with e put in
pub data Insert {A : Type 0} (e : A) : List A → List A → Type 0 where
  here : (xs : List A) → Insert e xs (e ∷ xs)
  there : {xs ys : List A} (x : A) → Insert e xs ys → Insert e (x ∷ xs) (x ∷ ys)

module _ {A : Type 0} (e : A) where
  pub insert_last : (xs : List A) → Insert e xs (xs ++ (e ∷ []))
  insert_last [] = here []
  insert_last (x ∷ xs) = there x (insert_last xs)

  pub insert_middle : (xs ys : List A) → Insert e (xs ++ ys) (xs ++ (e ∷ ys))
  insert_middle [] ys = here ys
  insert_middle (x ∷ xs) ys = there x (insert_middle xs ys)

  pub insert_append : {xs ys : List A} (zs : List A) → Insert e xs ys → Insert e (xs ++ zs) (ys ++ zs)
  insert_append zs (here xs) = here (xs ++ zs)
  insert_append zs (there x i) = there x (insert_append zs i)

  pub insert_length : {xs ys : List A} → Insert e xs ys → length ys ≡ suc (length xs)
  insert_length (here xs) = refl
  insert_length (there x i) = ap suc (insert_length i)

  -- what a test picks out: e among them if it passes
  pub those_in : (p : A → Bool) {xs ys : List A} → Insert e xs ys → p e ≡ true → Insert e (those p xs) (those p ys)
  unfolding those
  those_in p (here xs) h = rw h (here (those p xs))
  those_in p (there {xs = xs} {ys = ys} x i) h = go (p x) (those_in p i h)
    where
      go : (t : Bool) → Insert e (those p xs) (those p ys) → Insert e (keep t (x ∷ []) ++ those p xs) (keep t (x ∷ []) ++ those p ys)
      go true k = there x k
      go false k = k

  pub those_out : (p : A → Bool) {xs ys : List A} → Insert e xs ys → p e ≡ false → those p ys ≡ those p xs
  unfolding those
  those_out p (here xs) h = rw h
  those_out p (there {xs = xs} {ys = ys} x i) h = ap (λ (l : List A). keep (p x) (x ∷ []) ++ l) (those_out p i h)
