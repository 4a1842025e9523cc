-- Torn pages counted, a page and then a block at a time. Assumes nothing.
use mathlib.Core.Path.{◌≡◌, refl, ap, ◌∙◌}
use mathlib.Core.Bool.{Bool}
use mathlib.Core.List.{List, ◌∷◌}
use Prim.Native.Nat.{ℕ, zero, suc, ◌+◌, ◌*◌, ◌≤◌, ◌<◌}
use native.Mathlib.Numerals.{add-one}
use lib.ListN.{length, drop, get_or, drop_of_length-le}
use lib.Seq.{drop-cons}
use Rattle.std.specs.Prelude.{count_by}
use Rattle.std.specs.List.{range_with_len}
use Rattle.model.specs.Lists.{count, up_from}
use Rattle.model.specs.Page.{torn_at}
use Rattle.model.specs.Zones.{torn_in}
use Rattle.arrays.specs.Chains.{count_like}

-- ---- the n pages from page k on
range_up : (k n : ℕ) → range_with_len k n ≡ up_from k n
unfolding up_from
range_up k zero = refl
range_up k (suc n) = ap (λ (l : List ℕ). k ∷ l) (rw add-one (range_up (suc k) n))

pub pages_torn : (q : ℕ → Bool) (k n : ℕ) → count_by q (range_with_len k n) ≡ count q (up_from k n)
pages_torn q k n = count_like q q (λ x. refl) (range_with_len k n) ∙ ap (count q) (range_up k n)

-- ---- the blocks of a list, p pages a block, of which i are counted
module _ (xs : List ℕ) (p : ℕ) (bs : List ℕ) (i : ℕ) where
  pub block_torn : i < length bs → torn_in xs p (drop i bs) ≡ count (torn_at xs) (up_from (get_or bs i 0 * p) p) + torn_in xs p (drop (i + 1) bs)
  unfolding torn_in
  block_torn h = rw (drop-cons bs i 0 h, add-one i)

  pub blocks_torn : length bs ≤ i → torn_in xs p (drop i bs) ≡ 0
  unfolding torn_in
  blocks_torn h = rw (drop_of_length-le bs h)
