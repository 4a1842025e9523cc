-- The table's rule: the zero bits of byte values, counted.
use Rattle.std.specs.Prelude.{◌≡◌, ℕ, zero, suc, ◌+◌, ◌-◌, ◌<◌, List, [], ◌∷◌, get_or}
use Rattle.std.proofs.Common.{◌∙◌, ap, not-suc-le-zero, le_of_suc-le-suc, arith}
use Rattle.std.specs.Int.Count.{ones}

-- "the zero count of each byte value", from value k up: n numbers, each what the one bits of its value leave of 8
unfoldable pub counts : ℕ → ℕ → List ℕ
counts k zero = []
counts k (suc n) = (8 - ones k) ∷ counts (suc k) n

-- "every entry is shown to equal the counted value": entry i is that of value k + i
pub count_at : (k n i : ℕ) → i < n → get_or (counts k n) i 0 ≡ 8 - ones (k + i)
unfolding counts
count_at k zero i h = absurd (not-suc-le-zero h)
count_at k (suc n) zero h = let e : k ≡ k + 0 = omega arith in ap (λ x. 8 - ones x) e
count_at k (suc n) (suc i) h = let e : suc k + i ≡ k + suc i = omega arith in count_at (suc k) n i (le_of_suc-le-suc h) ∙ ap (λ x. 8 - ones x) e
