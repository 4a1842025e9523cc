-- A format, stride by stride, and of a blank device. Assumes nothing.
use mathlib.Core.Path.{◌≡◌, ap, ◌∙◌}
use Prim.Native.Nat.{ℕ, suc, ◌+◌, ◌-◌, ◌≤◌, ◌<◌}
use native.Mathlib.Omega.{arith}
use lib.ListN.{replicate}
use Rattle.model.specs.World.{World}
use Rattle.model.specs.Commands.{Outcome, format, exec}
use Rattle.model.specs.Frame.{fresh_state}
use Rattle.model.specs.Sessions.{small, lent_for, strides, fresh}
use Rattle.model.specs.declared.Geometry.{Geometry}
use Rattle.model.specs.declared.State.{State}

-- the strides that are left lead to the same world: a stride keeps it
pub stride_again : (t n : ℕ) (g : Geometry) (w v u : World) → t < 10 → g ≡ small → ◌≡◌ {A = Outcome} (record { answer = n; world = v }) (exec (format g) w)
    → strides small (10 - t) w ≡ u → strides small (10 - (t + 1)) v ≡ u
unfolding strides
stride_again t n g w v u l s e h =
    let more : 10 - t ≡ suc (10 - (t + 1)) = omega arith in
    let after : v ≡ (exec (format small) w).world = ap (λ (o : Outcome). o.world) e ∙ ap (λ (k : Geometry). (exec (format k) w).world) s in
    ap (strides small (10 - (t + 1))) after ∙ (rw more at h)

-- none is left
pub strides_done_law : (t : ℕ) (w u : World) → 10 ≤ t → strides small (10 - t) w ≡ u → w ≡ u
unfolding strides
strides_done_law t w u l h = let none : 10 - t ≡ 0 = omega arith in rw none at h

-- of zeros and a fresh state all ten lead to a freshly formatted device
pub formatted : {v : World} (s : State) → s ≡ fresh_state small → v ≡ strides small 10 (record { array = replicate 33792 0; map = replicate 16 0; hold = replicate 4096 0; state = s }) → v ≡ fresh
unfolding fresh lent_for
formatted s e h = h ∙ ap (λ (t : State). strides small 10 (record { array = replicate 33792 0; map = replicate 16 0; hold = replicate 4096 0; state = t })) e
