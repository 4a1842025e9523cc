-- Looking for the clean pages of blocks: what a turn of each loop shows. Assumes nothing.
use mathlib.Core.Path.{◌≡◌, sym, ◌∙◌}
use mathlib.Core.Logic.{⊎_elim}
use mathlib.Core.Bool.{true, false}
use mathlib.Core.List.{List}
use Prim.Native.Nat.{ℕ, ◌+◌, ◌-◌, ◌*◌, ◌≤◌, ◌<◌}
use native.Mathlib.Numerals.{add-one}
use native.Mathlib.Omega.{arith}
use lib.ListN.{length, drop, get_or}
use lib.Seq.{drop-cons}
use lib.Dec.{ltb}
use borrow.Author.Tests.{ltb-true, ltb-false, lt-ltb, le-ltb}
use Rattle.arrays.specs.Tests.{decide}
use Rattle.model.specs.Zones.{used_in, clean_in, next_in}

-- the blocks from the i-th on
module _ (xs : List ℕ) (p : ℕ) (bs : List ℕ) (i : ℕ) (h : i < length bs) where
  pub clean_more : clean_in xs p (drop i bs) ≡ (p - used_in xs p (get_or bs i 0)) + clean_in xs p (drop (i + 1) bs)
  unfolding clean_in
  clean_more = rw (add-one, drop-cons bs i 0)

  pub next_here : used_in xs p (get_or bs i 0) < p → next_in xs p (drop i bs) ≡ get_or bs i 0 * p + used_in xs p (get_or bs i 0)
  unfolding next_in
  next_here l = rw (drop-cons bs i 0, lt-ltb (used_in xs p (get_or bs i 0)) p l)

  pub next_more : p ≤ used_in xs p (get_or bs i 0) → next_in xs p (drop i bs) ≡ next_in xs p (drop (i + 1) bs)
  unfolding next_in
  next_more l = rw (add-one, drop-cons bs i 0, le-ltb (used_in xs p (get_or bs i 0)) p l)

-- fewer than m: some of m are left over
pub left_over : (n m : ℕ) → ltb 0 (m - n) ≡ ltb n m
left_over n m =
    ⊎_elim
    (λ (t : ltb n m ≡ true). lt-ltb 0 (m - n) (omega (arith, ltb-true n m t)) ∙ sym t)
    (λ (t : ltb n m ≡ false). le-ltb 0 (m - n) (omega (arith, ltb-false n m t)) ∙ sym t)
    (decide (ltb n m))
