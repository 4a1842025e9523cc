-- `page::classed` meets its contract: of a page that is not erased Zeros decides, and where it does not agree, the difference is told. Assumes nothing.
use mathlib.Core.Path.{sym, ap, ◌∙◌}
use borrow.Author.Rules.{rules}
use borrow.Author.Tests.{eq-eqb, ne_eqb}
use Rattle.model.specs.Page.{class_of, torn_by}
use Rattle.model.specs.declared.Class.TheVariants.{Torn}
use Rattle.page.proofs.Difference.{difference_fits, difference_read}
use Rattle.page.proofs.classed.Goals as goal

pub returns-then-counted-stored : goal.returns-then-counted-stored
unfolding class_of
returns-then-counted-stored c =
    let p = c.requires in
    rw (p.1.0, eq-eqb _ _ (sym p.1.1 ∙ c.if-counted-stored.true ∙ c.word16-stored.ensures))

pub overflow_sub-result : goal.overflow_sub-result
overflow_sub-result c = difference_fits c.word16-stored.result c.args.counted (search rules) (search rules)

pub returns-else-counted-stored : goal.returns-else-counted-stored
unfolding class_of torn_by
returns-else-counted-stored c =
    let p = c.requires in
    let n = c.word16-stored in
    rw (p.1.0, ne_eqb _ _ (λ e. c.if-counted-stored.false (p.1.1 ∙ e ∙ sym n.ensures)), ← n.ensures, ← p.1.1)
    (ap Torn (difference_read n.result c.args.counted (search rules) (search rules)))
