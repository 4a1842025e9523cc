-- `bokuhira::bokuhira_class` meets its contract: case by case of the class. Assumes nothing.
use mathlib.Core.Path.{ap}
use borrow.Author.Tests.{eq-eqb, ne_eqb}
use mir.Syntax.{w32}
use mir.Val.{SFits}
use mir.Facts.{to_z-of_z}
use Rattle.bokuhira.specs.Calls.{class_called}
use borrow.Author.Rules.{rules}
use Rattle.bokuhira.proofs.bokuhira_class.Goals as goal

pub returns-then-page-ne-PAGE : goal.returns-then-page-ne-PAGE
unfolding class_called
returns-then-page-ne-PAGE c = rw (ne_eqb _ _ c.if-page-ne-PAGE.true)

pub returns-in-Erased : goal.returns-in-Erased
unfolding class_called
returns-in-Erased c = rw (eq-eqb _ _ c.if-page-ne-PAGE.false, ← c.classify.ensures, c.in-Erased.is)

pub returns-in-Whole : goal.returns-in-Whole
unfolding class_called
returns-in-Whole c = rw (eq-eqb _ _ c.if-page-ne-PAGE.false, ← c.classify.ensures, c.in-Whole.is)

pub returns-in-Torn : goal.returns-in-Torn
unfolding class_called
returns-in-Torn c =
    let d = c.in-Torn.d in
    let f : SFits w32 d = search rules in
    rw (eq-eqb _ _ c.if-page-ne-PAGE.false, ← c.classify.ensures, c.in-Torn.is)
    (ap (λ z. record { class = 2; difference = z }) (to_z-of_z {w = w32} {z = d} f))
