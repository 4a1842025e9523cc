-- `places::find_id` meets its contract: what the library's `position` says, in the words of `model` (`find_like`). Assumes nothing.
use Rattle.std.proofs.Common.{◌≡◌, ◌∙◌, refl, rules, length}
use Rattle.std.proofs.lemmas.Iterator.{YieldsList-from_slice}
use Rattle.std.proofs.lemmas.Iterator.Search.{position_from_yields_List}
use borrow.Author.Tests.{tests}
use Rattle.model.specs.Zones.{has_id}
use Rattle.arrays.specs.Chains.{find_like}
use Rattle.places.specs.Ids.{place_at}
use Rattle.places.proofs.find_id.Goals as goal

pub returns : goal.returns
unfolding place_at
returns c =
    let a = c.args in
    let e : length a.places.now ≡ 8 = search rules in
    let p = position_from_yields_List (has_id a.id) _ _ c.position.result c.position.ensures.ran (YieldsList-from_slice a.places.now c.iter.ensures.rest) (λ x b q k. search (rules, tests)) in
    p ∙ rw (find_like (has_id a.id) (has_id a.id) (λ x. refl) a.places.now, e)
