-- A list of refusals that has each at its number: found by the number. Assumes nothing.
use Prim.Native.Nat.{ℕ, zero, suc, ◌+◌, ◌-◌, ◌≤◌, ◌<◌}
use native.Mathlib.Omega.{arith}
use mathlib.Core.Path.{◌≡◌, refl, ◌∙◌}
use mathlib.Core.Bool.{Bool, true, ◌&&◌}
use mathlib.Core.List.{List, [], ◌∷◌}
use lib.ListN.{length, get_or}
use lib.Dec.{eqb}
use borrow.Author.Tests.{eqb-true}
use Rattle.model.specs.Answers.{refusal_number}
use Rattle.model.specs.declared.Refusal.{Refusal}
use Rattle.model.specs.declared.Refusal.TheVariants.{BadFrame, NoCheckpoint, BadCheckpoint, BadPage, BadLogicalPage, BadIdentifier, IdentifierLive, NotBegun, PlacesFull, TooLong, BadLength, ZoneShort, VersionsSpent, NeverWritten, NoGain, ReserveShort, Busy}
use Rattle.arrays.specs.Tests.{and_left, and_right}

-- the numbers are k and those after it
unfoldable numbers_from : ℕ → List Refusal → Bool
numbers_from k [] = true
numbers_from k (r ∷ rs) = eqb (refusal_number r) k && numbers_from (suc k) rs

by_number_law : (rs : List Refusal) (k : ℕ) (d : Refusal) → numbers_from k rs ≡ true → (i : ℕ) → i < length rs → refusal_number (get_or rs i d) ≡ k + i
unfolding numbers_from
by_number_law [] k d t i l = absurd (omega arith)
by_number_law (r ∷ rs) k d t zero l = eqb-true (refusal_number r) k (and_left (eqb (refusal_number r) k) _ t) ∙ omega arith
by_number_law (r ∷ rs) k d t (suc i) l = by_number_law rs (suc k) d (and_right (eqb (refusal_number r) k) _ t) i (omega arith) ∙ omega arith

-- the table
abbrev table : List Refusal
table =
    BadFrame ∷ NoCheckpoint ∷ BadCheckpoint ∷ BadPage ∷ BadLogicalPage ∷ BadIdentifier ∷ IdentifierLive ∷ NotBegun ∷ PlacesFull ∷ TooLong ∷ BadLength
    ∷ ZoneShort ∷ VersionsSpent ∷ NeverWritten ∷ NoGain ∷ ReserveShort ∷ Busy ∷ []

pub of_table : (n : ℕ) → 1 ≤ n → n ≤ 17 → refusal_number (get_or table (n - 1) BadFrame) ≡ n
unfolding numbers_from
of_table n least most = by_number_law table 1 BadFrame refl (n - 1) (omega arith) ∙ omega arith
