-- A list is rising where each is below the next: the one that comes next is enough. Assumes nothing.
use mathlib.Core.Path.{◌≡◌, refl, sym, ◌∙◌}
use mathlib.Core.Bool.{Bool, true, false, ◌&&◌}
use mathlib.Core.List.{List, [], ◌∷◌}
use Prim.Native.Nat.{ℕ, zero, suc, ◌+◌, ◌<◌}
use native.Mathlib.Omega.{arith}
use lib.Dec.{ltb}
use lib.ListN.{length, get_or}
use borrow.Author.Tests.{ltb-true, lt-ltb}
use Rattle.model.specs.Lists.{all, all_tails, rising}
use Rattle.arrays.specs.Tests.{all_weaker, and_right_false}

-- the next one stands for all that come later
rising_step : (x y : ℕ) (l : List ℕ) → rising (x ∷ y ∷ l) ≡ (ltb x y && rising (y ∷ l))
unfolding rising all_tails all
rising_step x y l = go (ltb x y) refl (all (ltb y) l) refl
  where
    go : (a : Bool) → ltb x y ≡ a → (b : Bool) → all (ltb y) l ≡ b → ((a && all (ltb x) l) && (b && rising l)) ≡ (a && (b && rising l))
    go false p b q = refl
    go true p false q = and_right_false (all (ltb x) l) false refl
    go true p true q =
        let w : all (ltb x) l ≡ true =
        all_weaker (ltb y) (ltb x) (λ z k. lt-ltb x z (let u = ltb-true x y p in let v = ltb-true y z k in omega arith)) l q in
        rw w

-- it is rising where each is below the next, and not where one is not
pub rising_true : (l : List ℕ) → ((k d : ℕ) → k + 1 < length l → true ≡ ltb (get_or l k d) (get_or l (k + 1) d)) → rising l ≡ true
unfolding rising all_tails all
rising_true [] h = refl
rising_true (x ∷ []) h = refl
rising_true (x ∷ y ∷ l) h =
    rising_step x y l ∙ rw (sym (h 0 0 (omega arith))) (rising_true (y ∷ l) (λ k d s. let e : suc k + 1 ≡ suc (k + 1) = omega arith in rw e at (h (suc k) d (omega arith))))

pub rising_false : (l : List ℕ) (k : ℕ) → k + 1 < length l → ((d : ℕ) → false ≡ ltb (get_or l k d) (get_or l (k + 1) d)) → rising l ≡ false
rising_false [] k s h = absurd (omega arith)
rising_false (x ∷ []) k s h = absurd (omega arith)
rising_false (x ∷ y ∷ l) zero s h = rising_step x y l ∙ rw (sym (h 0))
rising_false (x ∷ y ∷ l) (suc k) s h =
    let e : suc k + 1 ≡ suc (k + 1) = omega arith in
    rising_step x y l ∙ rw (rising_false (y ∷ l) k (omega arith) (λ d. rw e at (h d))) (and_right_false (ltb x y) false refl)
