-- `zones::list_block` meets its contract. The loop's invariant: the identifiers of the pages before `k` are listed. Assumes nothing.
use mathlib.Core.Path.{◌≡◌, sym, ap, ◌∙◌}
use Prim.Native.Nat.{ℕ, ◌-◌, ◌*◌}
use native.Mathlib.Omega.{arith}
use lib.ListN.{length, length-append}
use Rattle.model.specs.Zones.{whole_from}
use Rattle.zones.specs.Judging.{ids_in}
use Rattle.zones.proofs.Near.{no_page, page_gives, page_gives_none, pages_few, no_id, not_whole, one_id}
use Rattle.zones.proofs.list_block.Goals.{then-id-ne0+then-is_whole, else-id-ne0, else-id-ne0-via-then-id-ne0+else-is_whole, else-id-ne0-via-else-id-ne0}
use Rattle.zones.proofs.list_block.Goals as goal

pub loop-k-init : goal.loop-k-init
loop-k-init c = let a = c.args in no_page a.array.now (a.b * a.pages) a.near.now

pub push-requires : goal.push-requires
push-requires c =
    let a = c.args in
    let first : ℕ = a.b * a.pages in
    let n = pages_few a.array.now first (c.loop-k.k - first) in
    let l = length-append a.near.now (ids_in (whole_from a.array.now first (c.loop-k.k - first))) in
    let e = ap length c.loop-k.invariant in
    let r = c.requires.1 in
    let k = c.loop-k.auto.k in
    omega arith

pub loop-k-preserved : goal.loop-k-preserved
loop-k-preserved c =
    let xs = c.args.array.now in
    let first : ℕ = c.args.b * c.args.pages in
    let k = c.loop-k.k in
    let low = c.loop-k.auto.k in
    let s = c.spare_at-id.ensures in
    elim c.if-id-ne0.branch [
      | then-id-ne0+then-is_whole w ↦ w.near-is ∙ page_gives xs first k low _ _ c.loop-k.invariant _ (one_id xs k _ s w.if-id-ne0.true (sym w.is_whole.ensures ∙ w.if-is_whole.true)) _ w.push.ensures
      | else-id-ne0 w ↦
          w.near-is ∙ page_gives_none xs first k low _ _ c.loop-k.invariant (elim w.else-id-ne0.branch [
            | else-id-ne0-via-then-id-ne0+else-is_whole v ↦ not_whole xs k _ s (sym v.is_whole.ensures ∙ v.if-is_whole.false)
            | else-id-ne0-via-else-id-ne0 v ↦ no_id xs k _ s v.if-id-ne0.false
          ])
    ]

pub returns : goal.returns
returns c =
    let a = c.args in
    let h = c.loop-k.auto.k-end in
    let n : c.loop-k.k - a.b * a.pages ≡ a.pages = omega arith in
    rw n at c.loop-k.invariant
