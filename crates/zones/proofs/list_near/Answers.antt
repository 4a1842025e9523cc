-- `zones::list_near` meets its contract. The loop's invariant: the identifiers of the blocks before the next are listed. Assumes nothing.
use mathlib.Core.Path.{sym, ap, ◌∙◌}
use native.Mathlib.Omega.{arith}
use lib.ListN.{length, take}
use lib.Seq.{length-take-le, take_all}
use Rattle.model.specs.Zones.{scan_in}
use Rattle.zones.specs.Judging.{ids_in}
use Rattle.zones.proofs.Near.{blocks_few, block_more}
use Rattle.zones.proofs.list_near.Goals as goal

pub loop-b-init : goal.loop-b-init
unfolding ids_in scan_in
loop-b-init c = c.requires.1

pub list_block-requires : goal.list_block-requires
list_block-requires c =
    let a = c.args in
    let p = c.requires.0 in
    let i = c.loop-b.b-index in
    let h = c.loop-b-test.true in
    let f = blocks_few a.array.now a.pages (take i a.bs.now) p.short in
    let l = length-take-le i a.bs.now (omega arith) in
    let e = ap length c.loop-b.invariant in
    let n = p.few in
    let s = p.short in
    (rw c.from.ensures (p.inside.each i h), omega arith)

pub loop-b-preserved : goal.loop-b-preserved
loop-b-preserved c =
    let a = c.args in
    c.list_block.ensures ∙ rw (c.from.ensures, c.loop-b.invariant) (sym (block_more a.array.now a.pages a.bs.now c.loop-b.b-index c.loop-b-test.true))

pub returns : goal.returns
returns c =
    let a = c.args in
    c.loop-b.invariant ∙ ap (λ l. ids_in (scan_in a.array.now a.pages l)) (take_all c.loop-b.b-index a.bs.now c.loop-b-test.false)
