-- `reclaim::picked` meets its contract. The loop's invariant: what is picked of all blocks is picked of those from `b` on and of the best so far,
-- whose count is `least`. Assumes nothing.
use mathlib.Core.Path.{refl, sym, ap, ◌∙◌}
use Prim.Native.Nat.{◌-◌}
use native.Mathlib.Omega.{arith}
use lib.ListN.{length}
use Rattle.model.specs.Checkpoint.{nothing}
use Rattle.arrays.specs.Ranges.{geometry_in}
use Rattle.zones.proofs.Listed.{listed}
use Rattle.checkpoint.specs.Found.{found_of}
use Rattle.reclaim.specs.Copies.{with_listed}
use Rattle.reclaim.proofs.Picking.{listed_in_law, listed_length, least_of, pick_by, pick_pass, pick_hit, pick_end, pick_by_law}
use Rattle.reclaim.proofs.picked.Goals.{then-counts-b, else-counts-b}
use Rattle.reclaim.proofs.picked.Goals as goal

pub listed-all-requires : goal.listed-all-requires
listed-all-requires c =
    let l = listed c.args.s.geometry c.args.s.zones c.requires.shape c.requires.lists in
    record { available = l.few; all = (let k = l.counts in omega arith) }

pub mapped-requires : goal.mapped-requires
mapped-requires c =
    let g = (geometry_in c.args.s.geometry c.requires.shape).pages_least in
    (c.requires.few, omega arith)

pub with_listed-counts-requires : goal.with_listed-counts-requires
with_listed-counts-requires c = rw (c.as_slice.ensures, c.listed-all.ensures) (listed_in_law c.args.s.geometry c.args.s.zones c.requires.shape c.requires.lists)

pub loop-b-init : goal.loop-b-init
unfolding least_of
loop-b-init c =
    let g = geometry_in c.args.s.geometry c.requires.shape in
    record {
      few = g.blocks_most;
      long = ap length c.with_listed-counts.ensures ∙ listed_length _ _ ∙ c.mapped.ensures.all;
      least = refl;
      picked = refl;
    }

pub loop-b-preserved : goal.loop-b-preserved
unfolding least_of
loop-b-preserved c =
    let v = c.loop-b.invariant in
    let l = v.least in
    let counts = c.with_listed-counts.result in
    let last = c.args.s.geometry.blocks in
    let best = found_of c.loop-b.best in
    elim c.if-counts-b.branch [
      | then-counts-b w ↦ rw (w.least-is, w.best-is) (record { few = v.few; long = v.long; least = refl; picked = v.picked ∙ pick_hit counts c.loop-b.b last best c.loop-b-test.true (let t = w.if-counts-b.true in omega arith) })
      | else-counts-b w ↦ rw (w.least-is, w.best-is) (record { few = v.few; long = v.long; least = v.least; picked = v.picked ∙ pick_pass counts c.loop-b.b last best c.loop-b-test.true (let t = w.if-counts-b.false in omega arith) })
    ]

pub returns : goal.returns
returns c =
    let z = c.args.s.zones in
    let m = c.mapped in
    let last = c.args.s.geometry.blocks in
    sym (c.loop-b.invariant.picked ∙ pick_end c.with_listed-counts.result c.loop-b.b last (found_of c.loop-b.best) (omega arith))
    ∙ ap (λ u. pick_by u 2 (last - 2) nothing) (c.with_listed-counts.ensures ∙ ap (λ u. with_listed u m.result) (c.as_slice.ensures ∙ c.listed-all.ensures))
    ∙ pick_by_law z c.args.map.now c.args.s.geometry.pages m.result c.requires.few m.ensures 2 (last - 2) (omega arith) nothing (omega arith)
