-- Refusals 1 and 17, which stand before the checks of a command. Assumes nothing.
use mathlib.Core.Path.{◌≡◌, refl, sym, ◌∙◌}
use mathlib.Core.Bool.{Bool, true, false, not, cond, ◌||◌}
use mathlib.Core.List.{List, ◌∷◌}
use Prim.Native.Nat.{ℕ}
use Rattle.model.specs.Answers.{refusal_number}
use Rattle.model.specs.World.{World}
use Rattle.model.specs.Order.{Check, first_number}
use Rattle.model.specs.Frame.{frame_ok, is_idle, bad_frame, busy, gate}
use Rattle.model.specs.declared.Refusal.{Refusal}
use Rattle.arrays.specs.Frame.{gate_passes}
use Rattle.answers.proofs.Refusals.{refusal_some}

module _ (own : Bool) (w : World) where
  -- what refuses there is the first that applies
  pub gate_first : (cs : List Check) (why : Refusal) → refusal_number why ≡ gate own w → refusal_number why ≡ first_number (bad_frame w ∷ busy own w ∷ cs)
  unfolding gate first_number
  gate_first cs why g = g ∙ go (frame_ok w) (is_idle w.state.work || own) (λ q. refusal_some why (g ∙ q))
    where
      go : (f i : Bool) → (◌≡◌ {A = ℕ} (cond (not f) 1 (cond (not i) 17 0)) 0 → ⊥)
          → ◌≡◌ {A = ℕ} (cond (not f) 1 (cond (not i) 17 0)) (cond (not f) 1 (cond (not i) 17 (first_number cs)))
      go true true z = absurd (z refl)
      go true false z = refl
      go false i z = refl

  module _ (g : 0 ≡ gate own w) where
    -- where nothing does, the frame is in range
    pub gate_frame : frame_ok w ≡ true
    gate_frame = (gate_passes own w (sym g)).0

    -- and the other checks are left
    pub gate_rest : (cs : List Check) → first_number (bad_frame w ∷ busy own w ∷ cs) ≡ first_number cs
    unfolding first_number
    gate_rest cs = let p = gate_passes own w (sym g) in rw (p.0, p.1)
