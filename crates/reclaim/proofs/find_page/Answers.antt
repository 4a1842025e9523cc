-- `reclaim::find_page` meets its contract: the first place of the page, or the length (`first_place`). Assumes nothing.
use mathlib.Core.Path.{◌≡◌, ap, ◌∙◌}
use lib.Dec.{eqb}
use lib.ListN.{length}
use borrow.Author.Rules.{rules}
use borrow.Author.Tests.{tests}
use Rattle.std.specs.Prelude.{ℕ, Option, position, unwrap_or}
use Rattle.std.proofs.lemmas.Iterator.{YieldsList-from_slice}
use Rattle.std.proofs.lemmas.Iterator.Search.{position_from_yields_List}
use Rattle.reclaim.proofs.Lowest.{first_place}
use Rattle.reclaim.proofs.find_page.Goals as goal

pub returns : goal.returns
returns c =
    let xs = c.args.map.now in
    let e : c.position.result ≡ position (λ y. eqb y c.args.j) xs =
    position_from_yields_List (λ y. eqb y c.args.j) _ _ c.position.result c.position.ensures.ran (YieldsList-from_slice xs cc) (λ x b q k. search (rules, tests)) in
    c.unwrap_or.ensures ∙ ap (λ (o : Option ℕ). unwrap_or o (length xs)) e ∙ first_place c.args.j xs
