-- `recovery::enter` meets its contract, return by return: what it takes from the page are the fields of its entry. Assumes nothing.
use mathlib.Core.Path.{sym, ap, ◌∙◌}
use native.Mathlib.Omega.{arith}
use lib.ListN.{get_or}
use lib.Dec.{eqb}
use Rattle.model.specs.Bytes.{le16}
use Rattle.model.specs.Page.{page_at}
use Rattle.model.specs.Geometry.{leads}
use Rattle.scan.specs.Taken.{entry_in}
use Rattle.recovery.specs.Redo.{best}
use Rattle.recovery.proofs.Fields.{field_leads, field_lpn}
use Rattle.recovery.proofs.Entering.{enter_in, enter_out}
use Rattle.recovery.proofs.enter.Goals as goal

pub bounds-bests-l : goal.bounds-bests-l
bounds-bests-l c =
    let a = c.args in
    let e = c.from-l.ensures ∙ c.word16.ensures ∙ ap (λ x. le16 x 512) (c.page_of-page.ensures.0 ∙ ap (page_at a.array.now) c.from.ensures) ∙ field_lpn a.array.now a.k in
    omega (arith, e, c.requires.1.0, c.requires.1.1)

pub returns-then-v-bests : goal.returns-then-v-bests
returns-then-v-bests c =
    let a = c.args in
    let e = c.from-l.ensures ∙ c.word16.ensures ∙ ap (λ x. le16 x 512) (c.page_of-page.ensures.0 ∙ ap (page_at a.array.now) c.from.ensures) ∙ field_lpn a.array.now a.k in
    sym (enter_out a.v (entry_in a.array.now a.k) (best a.map.now a.bests.now) (rw (← e) c.if-v-bests.true))

pub bounds-bests-l-2 : goal.bounds-bests-l-2
bounds-bests-l-2 c =
    let a = c.args in
    let e = c.from-l.ensures ∙ c.word16.ensures ∙ ap (λ x. le16 x 512) (c.page_of-page.ensures.0 ∙ ap (page_at a.array.now) c.from.ensures) ∙ field_lpn a.array.now a.k in
    omega (arith, e, c.requires.1.0, c.requires.1.1)

pub bounds-map-l : goal.bounds-map-l
bounds-map-l c =
    let a = c.args in
    let e = c.from-l.ensures ∙ c.word16.ensures ∙ ap (λ x. le16 x 512) (c.page_of-page.ensures.0 ∙ ap (page_at a.array.now) c.from.ensures) ∙ field_lpn a.array.now a.k in
    omega (arith, e, c.requires.1.0)

pub returns : goal.returns
returns c =
    let a = c.args in
    let is = c.page_of-page.ensures.0 ∙ ap (page_at a.array.now) c.from.ensures in
    let e = c.from-l.ensures ∙ c.word16.ensures ∙ ap (λ x. le16 x 512) is ∙ field_lpn a.array.now a.k in
    let l = c.leads.ensures ∙ ap (λ x. leads (eqb (get_or x 524 0) 3) a.k) is ∙ field_leads a.array.now a.k in
    sym (enter_in a.v (entry_in a.array.now a.k) (best a.map.now a.bests.now) (rw (← e) (omega (arith, c.if-v-bests.false))) ∙ rw (← e, ← l))
