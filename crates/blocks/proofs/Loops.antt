-- Tests over the elements of a list as a loop makes them: what a turn shows, and what the end of the loop shows. In each law X is what
-- the whole list gives, and what is left of it is what the rest from index i on gives. Assumes nothing.
use mathlib.Core.Path.{◌≡◌, ap, ◌∙◌}
use mathlib.Core.Bool.{Bool, true, false, ◌&&◌}
use mathlib.Core.List.{List}
use Prim.Native.Nat.{ℕ, ◌+◌, ◌≤◌, ◌<◌}
use native.Mathlib.Numerals.{add-one}
use lib.ListN.{length, take, drop, get_or, drop_of_length-le}
use lib.Seq.{drop-cons, take-suc}
use Rattle.model.specs.Lists.{all, all_tails, all_heads}

module _ {A : Type 0} where
  -- every element passes
  pub all_step : (p : A → Bool) (l : List A) (i : ℕ) (d : A) → i < length l → all p (drop i l) ≡ (p (get_or l i d) && all p (drop (i + 1) l))
  unfolding all
  all_step p l i d h = rw (add-one, drop-cons l i d)

  pub all_pass : {X : Bool} (p : A → Bool) (l : List A) (i : ℕ) (d : A) → i < length l → X ≡ all p (drop i l) → p (get_or l i d) ≡ true → X ≡ all p (drop (i + 1) l)
  all_pass p l i d h e t = e ∙ all_step p l i d h ∙ ap (λ (b : Bool). b && all p (drop (i + 1) l)) t

  pub all_fail : {X : Bool} (p : A → Bool) (l : List A) (i : ℕ) (d : A) → i < length l → X ≡ all p (drop i l) → p (get_or l i d) ≡ false → X ≡ false
  all_fail p l i d h e t = e ∙ all_step p l i d h ∙ ap (λ (b : Bool). b && all p (drop (i + 1) l)) t

  pub all_end : {X : Bool} (p : A → Bool) (l : List A) (i : ℕ) → length l ≤ i → X ≡ all p (drop i l) → X ≡ true
  unfolding all
  all_end p l i h e = e ∙ ap (all p) (drop_of_length-le l h)

  -- every element passes with those after it
  tails_step : (f : A → List A → Bool) (l : List A) (i : ℕ) (d : A) → i < length l
      → all_tails f (drop i l) ≡ (f (get_or l i d) (drop (i + 1) l) && all_tails f (drop (i + 1) l))
  unfolding all_tails
  tails_step f l i d h = rw (add-one, drop-cons l i d)

  pub tails_pass : {X : Bool} (f : A → List A → Bool) (l : List A) (i : ℕ) (d : A) → i < length l → X ≡ all_tails f (drop i l) → f (get_or l i d) (drop (i + 1) l) ≡ true
      → X ≡ all_tails f (drop (i + 1) l)
  tails_pass f l i d h e t = e ∙ tails_step f l i d h ∙ ap (λ (b : Bool). b && all_tails f (drop (i + 1) l)) t

  pub tails_fail : {X : Bool} (f : A → List A → Bool) (l : List A) (i : ℕ) (d : A) → i < length l → X ≡ all_tails f (drop i l) → f (get_or l i d) (drop (i + 1) l) ≡ false → X ≡ false
  tails_fail f l i d h e t = e ∙ tails_step f l i d h ∙ ap (λ (b : Bool). b && all_tails f (drop (i + 1) l)) t

  pub tails_end : {X : Bool} (f : A → List A → Bool) (l : List A) (i : ℕ) → length l ≤ i → X ≡ all_tails f (drop i l) → X ≡ true
  unfolding all_tails
  tails_end f l i h e = e ∙ ap (all_tails f) (drop_of_length-le l h)

  -- every element passes with those before it
  heads_step : (f : List A → A → Bool) (l : List A) (i : ℕ) (d : A) → i < length l
      → all_heads f (take i l) (drop i l) ≡ (f (take i l) (get_or l i d) && all_heads f (take (i + 1) l) (drop (i + 1) l))
  unfolding all_heads
  heads_step f l i d h = rw (add-one, drop-cons l i d, take-suc l i d)

  pub heads_pass : {X : Bool} (f : List A → A → Bool) (l : List A) (i : ℕ) (d : A) → i < length l → X ≡ all_heads f (take i l) (drop i l) → f (take i l) (get_or l i d) ≡ true
      → X ≡ all_heads f (take (i + 1) l) (drop (i + 1) l)
  heads_pass f l i d h e t = e ∙ heads_step f l i d h ∙ ap (λ (b : Bool). b && all_heads f (take (i + 1) l) (drop (i + 1) l)) t

  pub heads_fail : {X : Bool} (f : List A → A → Bool) (l : List A) (i : ℕ) (d : A) → i < length l → X ≡ all_heads f (take i l) (drop i l) → f (take i l) (get_or l i d) ≡ false → X ≡ false
  heads_fail f l i d h e t = e ∙ heads_step f l i d h ∙ ap (λ (b : Bool). b && all_heads f (take (i + 1) l) (drop (i + 1) l)) t

  pub heads_end : {X : Bool} (f : List A → A → Bool) (s l : List A) (i : ℕ) → length l ≤ i → X ≡ all_heads f s (drop i l) → X ≡ true
  unfolding all_heads
  heads_end f s l i h e = e ∙ ap (all_heads f s) (drop_of_length-le l h)
