-- The bytes of each element of a list, one after the other. Assumes nothing.
use Rattle.std.specs.Prelude.{◌≡◌, ℕ}
use Rattle.std.proofs.Math.Path.{refl, sym, ap}
use Rattle.std.proofs.Common.{◌∙◌}
use mathlib.Core.List.{List, [], ◌∷◌, ◌++◌, append_assoc, append-nil}
use Rattle.encoding.specs.Encoding.{each}

module _ {A : Type 0} (f : A → List ℕ) where
  pub each_append : (ps qs : List A) → each f (ps ++ qs) ≡ each f ps ++ each f qs
  unfolding each
  each_append [] qs = refl
  each_append (p ∷ ps) qs = ap (λ (t : List ℕ). f p ++ t) (each_append ps qs) ∙ sym (append_assoc (f p) (each f ps) (each f qs))

  pub each_one : (p : A) → each f (p ∷ []) ≡ f p
  unfolding each
  each_one p = append-nil (f p)
