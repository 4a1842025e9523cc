-- Pairs kept in a list, and the ones of its first n. Assumes nothing.
use mathlib.Core.Path.{◌≡◌, ap}
use mathlib.Core.List.{List, [], ◌∷◌}
use Prim.Native.Nat.{ℕ, zero, suc, ◌+◌, ◌*◌, ◌<◌}
use native.Mathlib.Nat.{not-suc-le-zero, le_of_suc-le-suc}
use native.Mathlib.Numerals.{add-one}
use native.Mathlib.Omega.{arith}
use lib.ListN.{length, take, get_or, set}
use lib.Seq.{take_all}
use lib.Count.{ones}
use Rattle.model.specs.Bytes.{zero_bits}
use Rattle.page.specs.Counting.{spare_first, spare_first_law}
use Rattle.table.specs.declared.Pair.{Pair}
use Rattle.table.specs.Sums.{ones_of, ones_in}
use Rattle.table.proofs.Sums.{none}

-- a pair of words without ones
pub no_ones : (p : Pair) → (p.left ≡ 0) × (p.right ≡ 0) → ones_of p ≡ 0
no_ones p e = omega (arith, none, ap ones e.0, ap ones e.1)

-- a list of four pairs has theirs
pub four : (e : List Pair) (d : Pair) → length e ≡ 4 → ones_in e ≡ ones_of (get_or e 0 d) + ones_of (get_or e 1 d) + ones_of (get_or e 2 d) + ones_of (get_or e 3 d)
unfolding ones_in
four [] d h = absurd (omega arith)
four (p ∷ []) d h = absurd (omega arith)
four (p ∷ q ∷ []) d h = absurd (omega arith)
four (p ∷ q ∷ r ∷ []) d h = absurd (omega arith)
four (p ∷ q ∷ r ∷ s ∷ []) d h = omega arith
four (p ∷ q ∷ r ∷ s ∷ t ∷ e) d h = absurd (omega arith)

-- a pair stored behind the first n
pub stored : (e : List Pair) (n : ℕ) (p : Pair) → n < length e → ones_in (take (n + 1) (set e n p)) ≡ ones_in (take n e) + ones_of p
unfolding ones_in
stored [] n p h = absurd (not-suc-le-zero h)
stored (x ∷ e) zero p h = omega arith
stored (x ∷ e) (suc n) p h = rw add-one (omega (arith, ap (λ k. ones_in (take k (set e n p))) (add-one n), stored e n p (le_of_suc-le-suc h)))

-- after the last of four turns all is added, spare area first: m ones besides those kept
pub all_added : (a : List ℕ) (e : List Pair) (q m : ℕ) → q ≡ 4 → length e ≡ 4 → m + 8 * ones_in (take q e) + spare_first (128 * q) a ≡ 112 + 1024 * q
    → m + 8 * ones_in e + zero_bits (take 526 a) ≡ 4208
all_added a e q m h l n =
    let all : ones_in (take q e) ≡ ones_in e = ap ones_in (take_all q e (omega arith)) in
    let k = rw h at n in
    omega (arith, rw h at all, k, spare_first_law a)
