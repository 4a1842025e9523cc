-- `checkpoint::complete_at` meets its contract: the map pages, then the zone page. Assumes nothing.
use mathlib.Core.Bool.{Bool, ◌&&◌}
use mathlib.Core.Path.{ap, sym, ◌∙◌}
use Prim.Native.Nat.{ℕ, ◌+◌}
use Rattle.model.specs.Checkpoint.{zone_spare, page_is, maps_at, number_at, complete_at}
use Rattle.checkpoint.proofs.complete_at.Goals as goal

pub returns-then-maps_at : goal.returns-then-maps_at
unfolding complete_at
returns-then-maps_at c =
    let a = c.args in
    let xs = a.array.now in
    let n = c.number_at-c.ensures in
    let t = ap (λ (v : ℕ). maps_at xs a.k 0 v a.m) (sym n) ∙ sym c.maps_at.ensures ∙ c.if-maps_at.true in
    c.page_is.ensures ∙ ap (page_is xs (a.k + a.m)) (c.zone_spare.ensures ∙ ap (zone_spare a.m) n)
    ∙ sym (ap (λ (b : Bool). b && page_is xs (a.k + a.m) (zone_spare a.m (number_at xs a.k))) t)

pub returns-else-maps_at : goal.returns-else-maps_at
unfolding complete_at
returns-else-maps_at c =
    let a = c.args in
    let xs = a.array.now in
    let t = ap (λ (v : ℕ). maps_at xs a.k 0 v a.m) (sym c.number_at-c.ensures) ∙ sym c.maps_at.ensures ∙ c.if-maps_at.false in
    c.if-maps_at.false ∙ sym (ap (λ (b : Bool). b && page_is xs (a.k + a.m) (zone_spare a.m (number_at xs a.k))) t)
