-- `checkpoint::page_is` meets its contract: the spare area first, then the count of the page's zero bits. Assumes nothing.
use mathlib.Core.Bool.{Bool, ◌&&◌, and-true}
use mathlib.Core.Path.{ap, sym, ◌∙◌}
use Rattle.model.specs.Checkpoint.{same_spare, page_is}
use Rattle.model.specs.Page.{class_of, is_whole, spare_of, whole_at}
use Rattle.model.specs.declared.Spare.{Spare}
use Rattle.arrays.specs.Tests.{and_right_false}
use Rattle.checkpoint.proofs.page_is.Goals as goal

pub returns-then-eq : goal.returns-then-eq
unfolding page_is whole_at same_spare
returns-then-eq c =
    let a = c.args in
    let w = whole_at a.array.now a.k in
    let e = c.read_spare.ensures ∙ ap spare_of c.page_of-page.ensures.0 in
    let t = ap (λ (u : Spare). same_spare u a.s) (sym e) ∙ sym c.eq.ensures ∙ c.if-eq.true in
    c.is_whole.ensures ∙ ap (λ q. is_whole (class_of q)) c.page_of-page.ensures.0 ∙ sym (ap (λ (b : Bool). w && b) t ∙ and-true w)

pub returns-else-eq : goal.returns-else-eq
unfolding page_is same_spare
returns-else-eq c =
    let a = c.args in
    let e = c.read_spare.ensures ∙ ap spare_of c.page_of-page.ensures.0 in
    let t = ap (λ (u : Spare). same_spare u a.s) (sym e) ∙ sym c.eq.ensures ∙ c.if-eq.false in
    c.if-eq.false ∙ sym (and_right_false (whole_at a.array.now a.k) _ t)
