-- `sessions::holds_page` meets its contract: no place (`place_none`), or the count of the place (`place_known`). Assumes nothing.
use mathlib.Core.Path.{◌≡◌, refl, sym, ◌∙◌}
use native.Mathlib.Omega.{arith}
use lib.ListN.{length, get_or-eq_default}
use borrow.Author.Rules.{rules}
use Rattle.model.specs.Frame.{no_place}
use Rattle.model.specs.Transactions.{place_of}
use Rattle.places.proofs.Ids.{place_known, place_none}
use Rattle.sessions.specs.Text.{holds_page}
use Rattle.sessions.proofs.holds_page.Goals as goal

pub returns-in_default : goal.returns-in_default
unfolding holds_page
returns-in_default c =
    let ps = c.args.places in
    let e : length ps ≡ 8 = search rules in
    let past = place_none (place_of ps c.args.id) (sym c.in_default.is ∙ c.place_of.ensures) in
    rw (get_or-eq_default ps no_place {n = place_of ps c.args.id} (omega (arith, e, past))) refl

pub offset_bounds-places-i : goal.offset_bounds-places-i
offset_bounds-places-i c =
    let i = place_known _ _ (sym c.in-Some.is ∙ c.place_of.ensures) in
    omega arith

pub bounds-places-i : goal.bounds-places-i
bounds-places-i c =
    let i = place_known _ _ (sym c.in-Some.is ∙ c.place_of.ensures) in
    omega arith

pub returns : goal.returns
unfolding holds_page
returns c =
    let i = place_known _ _ (sym c.in-Some.is ∙ c.place_of.ensures) in
    rw (← i.0) refl
