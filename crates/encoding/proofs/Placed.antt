-- The bytes of each element of a list, laid one after the other. Assumes nothing.
use mathlib.Core.Path.{◌≡◌, refl, ap, ◌∙◌}
use mathlib.Core.List.{List, [], ◌∷◌, ◌++◌}
use Prim.Native.Nat.{ℕ, ◌+◌, ◌*◌, ◌≤◌, ◌<◌}
use native.Mathlib.Numerals.{add-one}
use native.Mathlib.Omega.{arith}
use native.Mathlib.Nat.{mul-suc}
use lib.ListN.{length, take, get_or}
use lib.Seq.{take-suc, take_all}
use Rattle.encoding.specs.Encoding.{each, Laid}
use Rattle.encoding.specs.Each.{each_append, each_one}
use Rattle.encoding.proofs.Laid.{laid_none, laid_join}

module _ {A : Type 0} (f : A → List ℕ) where
  each_more : (ps : List A) (i : ℕ) (d : A) → i < length ps → each f (take (i + 1) ps) ≡ each f (take i ps) ++ f (get_or ps i d)
  each_more ps i d h =
      ap (λ (n : ℕ). each f (take n ps)) (add-one i) ∙ ap (each f) (take-suc ps i d h) ∙ each_append f (take i ps) (get_or ps i d ∷ [])
      ∙ ap (λ (t : List ℕ). each f (take i ps) ++ t) (each_one f (get_or ps i d))

  -- none yet
  pub each_none : (xs : List ℕ) (a : ℕ) (ps : List A) → a ≤ length xs → Laid xs a 0 (each f (take 0 ps)) xs
  unfolding each
  each_none xs a ps h = laid_none xs a h

  -- a turn of the loop: the k bytes of the next one
  pub each_next : {xs now : List ℕ} {a i : ℕ} (k : ℕ) (ps : List A) (d : A) (next : List ℕ) → Laid xs a (k * i) (each f (take i ps)) now → i < length ps
      → Laid now (a + k * i) k (f (get_or ps i d)) next → Laid xs a (k * (i + 1)) (each f (take (i + 1) ps)) next
  each_next {xs} {now} {a} {i} k ps d next l h g =
      let t : k * (i + 1) ≡ k * i + k = ap (λ (m : ℕ). k * m) (add-one i) ∙ mul-suc k i in
      rw (t, each_more ps i d h) (laid_join l g refl)

  pub each_end : {xs now : List ℕ} {a i : ℕ} (k n : ℕ) (ps : List A) → Laid xs a (k * i) (each f (take i ps)) now → i ≡ n → length ps ≡ n → Laid xs a (k * n) (each f ps) now
  each_end {xs} {now} {a} {i} k n ps l e h =
      let t : take i ps ≡ ps = take_all i ps (omega arith) in
      rw (← e, ← t) l
