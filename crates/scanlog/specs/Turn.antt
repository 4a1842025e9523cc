-- The pages of a transaction in turn: as they stand on one plane, by write number on two. One of a higher number than all, put in anywhere, comes last, and
-- where no number stands twice the turn does not hang on their order.
use Rattle.std.specs.Prelude.{◌≡◌, ◌≢◌, false, cond, length, eqb}
use Rattle.std.proofs.Common.{ap₂, inl, inr, arith, eq-eqb, ne_eqb}
use Prim.Native.Nat.{ℕ, zero, suc, ◌≤◌, ◌<◌}
use mathlib.Core.List.{List, [], ◌∷◌, ◌++◌, append-nil}
use Rattle.model.specs.Lists.{those}
use Rattle.model.specs.Zones.{Entry}
use Rattle.model.specs.Recovery.{by_number, in_turn}
use Rattle.arrays.specs.Tests.{Is, eqb_cases}
use Rattle.arrays.specs.Insert.{Insert, those_out}
use Rattle.ranks.specs.Dealt.{each_map, those_off}
use Rattle.ranks.specs.Entries.{Entries, those_alone}
use Rattle.scanlog.specs.Perm.{Perm, perm_those, perm_short}

-- the entries of this number
abbrev pub numbered : ℕ → List Entry → List Entry
numbered k es = those (λ (e : Entry). eqb e.reserved k) es

-- every number is below k
abbrev pub Below : ℕ → List Entry → Type 0
Below k es = Entries (λ (e : Entry). e.reserved < k) es

below_other : (k j : ℕ) (es : List Entry) → Below k es → k ≤ j → Entries (λ (e : Entry). eqb e.reserved j ≡ false) es
below_other k j es h l = each_map _ _ (λ (e : Entry) b. ne_eqb e.reserved j (λ q. absurd (omega (arith, b, q)))) es h

below_none : (k j : ℕ) (es : List Entry) → Below k es → k ≤ j → numbered j es ≡ []
below_none k j es h l = those_off _ es (below_other k j es h l)

-- ---- one page more, of a higher number than all
module _ (e : Entry) {xs fs : List Entry} (s : Insert e xs fs) (b : Below e.reserved xs) where
  number_other : (k : ℕ) → e.reserved ≢ k → numbered k fs ≡ numbered k xs
  number_other k q = those_out e (λ (x : Entry). eqb x.reserved k) s (ne_eqb e.reserved k q)

  number_own : (k : ℕ) → e.reserved ≡ k → numbered k fs ≡ e ∷ []
  number_own k q = those_alone (λ (x : Entry). eqb x.reserved k) e s (eq-eqb e.reserved k q) (below_other e.reserved k xs b (omega arith))

  below_same : (k : ℕ) → k < e.reserved → by_number k fs ≡ by_number k xs
  unfolding by_number
  below_same zero l = number_other 0 (λ q. absurd (omega arith))
  below_same (suc k) l = rw (below_same k (omega arith), number_other (suc k) (λ q. absurd (omega arith)))

  number_last : (k : ℕ) → e.reserved ≤ k → by_number k fs ≡ by_number k xs ++ (e ∷ [])
  unfolding by_number
  number_last zero l = rw (number_own 0 (omega arith), below_none e.reserved 0 xs b (omega arith))
  number_last (suc k) l = go (eqb_cases e.reserved (suc k)) (number_last k)
    where
      go : Is e.reserved (suc k) → (e.reserved ≤ k → by_number k fs ≡ by_number k xs ++ (e ∷ []))
          → by_number k fs ++ numbered (suc k) fs ≡ (by_number k xs ++ numbered (suc k) xs) ++ (e ∷ [])
      go (inl q) ih =
          let z : numbered (suc k) xs ≡ [] = below_none e.reserved (suc k) xs b (omega arith) in
          rw (below_same k (omega (arith, q.0)), number_own (suc k) q.0, z, append-nil (by_number k xs))
      go (inr q) ih =
          let z : numbered (suc k) xs ≡ [] = below_none e.reserved (suc k) xs b (omega arith) in
          rw (ih (omega (arith, q.0)), number_other (suc k) q.0, z, append-nil (by_number k xs ++ (e ∷ [])), append-nil (by_number k xs))

-- on one plane it stands last, on two its number is the highest
pub turn_last : (planes : ℕ) (e : Entry) {xs fs : List Entry} → Insert e xs fs → (planes ≢ 2 → fs ≡ xs ++ (e ∷ []))
    → (planes ≡ 2 → Below e.reserved xs × (e.reserved ≤ 41)) → in_turn planes fs ≡ in_turn planes xs ++ (e ∷ [])
unfolding in_turn
turn_last planes e {xs} {fs} s one two = go (eqb_cases planes 2)
  where
    go : Is planes 2 → cond (eqb planes 2) (by_number 41 fs) fs ≡ cond (eqb planes 2) (by_number 41 xs) xs ++ (e ∷ [])
    go (inl q) = rw q.1 (number_last e s (two q.0).0 41 (two q.0).1)
    go (inr q) = rw q.1 (one q.0)

-- ---- in another order
-- no number stands twice
abbrev pub Single : List Entry → Type 0
Single es = (k : ℕ) → length (numbered k es) ≤ 1

number_perm : (k : ℕ) {xs ys : List Entry} → Single xs → Perm xs ys → by_number k xs ≡ by_number k ys
unfolding by_number
number_perm zero u p = perm_short (perm_those (λ (e : Entry). eqb e.reserved 0) p) (u 0)
number_perm (suc k) u p =
    ap₂ {C = List Entry} ◌++◌ (number_perm k u p) (perm_short (perm_those (λ (e : Entry). eqb e.reserved (suc k)) p) (u (suc k)))

pub turn_perm : {xs ys : List Entry} → Single xs → Perm xs ys → in_turn 2 xs ≡ in_turn 2 ys
unfolding in_turn
turn_perm u p = number_perm 41 u p
