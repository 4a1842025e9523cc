-- The pages of a place entered in a map one after the other: a turn of the loop, and that each lies in the map. Assumes nothing.
use mathlib.Core.Path.{◌≡◌}
use mathlib.Core.Bool.{Bool, true, false}
use mathlib.Core.List.{List}
use Prim.Native.Nat.{ℕ, ◌+◌, ◌<◌}
use native.Mathlib.Numerals.{add-one}
use native.Mathlib.Omega.{arith}
use lib.ListN.{length, take, get_or, set, length-take}
use lib.Seq.{get_or-take}
use lib.Dec.{ltb}
use borrow.Author.Tests.{ltb-true}
use Rattle.model.specs.Lists.{all}
use Rattle.model.specs.Geometry.{leads}
use Rattle.model.specs.Transactions.{entered}
use Rattle.arrays.specs.Tests.{all_at}

-- the i-th of the first n logical pages
module _ (lpns : List ℕ) (n i : ℕ) (h : i < length (take n lpns)) where
  -- one page more
  pub entered_more : (map ppns : List ℕ) (drops : List Bool) (now : List ℕ) (k : ℕ) → k ≡ leads (get_or drops i false) (get_or ppns i 0) → now ≡ entered map lpns ppns drops i
      → set now (get_or (take n lpns) i 0) k ≡ entered map lpns ppns drops (i + 1)
  unfolding entered
  entered_more map ppns drops now k q e = let l : i < n = omega (arith, length-take n lpns) in rw (add-one, get_or-take, q, e)

  -- it is below m, as all of them are
  pub page_in : (m : ℕ) → all (λ (l : ℕ). ltb l m) (take n lpns) ≡ true → get_or (take n lpns) i 0 < m
  page_in m a = ltb-true _ _ (all_at (λ (l : ℕ). ltb l m) (take n lpns) i 0 a h)
