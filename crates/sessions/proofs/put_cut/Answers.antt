-- `sessions::put_cut` meets its contract: nothing, or a blank and the map that a recovery makes. Assumes nothing.
use mathlib.Core.Path.{refl, ap}
use mathlib.Core.List.{List, ◌∷◌}
use Prim.Native.Nat.{ℕ}
use native.Mathlib.Omega.{arith}
use Rattle.text.specs.Text.{listed}
use Rattle.text.proofs.Lists.{put_listed}
use Rattle.text.proofs.Putting.{puts, put_is, put_within, put_nothing}
use Rattle.sessions.proofs.Cuts.{map_recovered}
use Rattle.sessions.proofs.put_cut.Goals as goal

pub returns-then-not-cut : goal.returns-then-not-cut
returns-then-not-cut c = rw c.if-not-cut.true (put_nothing _ _ _)

pub returns : goal.returns
returns c =
    let map = map_recovered _ _ _ _ _ _ _ _ _ _ c.recover.ensures c.geometry.ensures c.blank.ensures refl refl in
    rw c.if-not-cut.false
    (put_within (put_is (ap (λ (m : List ℕ). 32 ∷ listed 0 m) map) (puts c.put-a.ensures (put_listed _ c.put_list.ensures))) (omega arith))
