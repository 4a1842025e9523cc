-- `frame::numbers_ok` meets its contract: what the library's `all` says, in the words of `model` (`all_like`). Assumes nothing.
use Rattle.std.proofs.Common.{refl, ◌∙◌, rules}
use Rattle.std.proofs.lemmas.Iterator.{YieldsList-from_slice}
use Rattle.std.proofs.lemmas.Iterator.Search.{all_from_yields_List}
use borrow.Author.Tests.{tests}
use Rattle.arrays.specs.Chains.{all_like}
use Rattle.frame.specs.Lent.{within}
use Rattle.frame.proofs.numbers_ok.Goals as goal

pub returns : goal.returns
unfolding within
returns c =
    let a = c.args in
    let w = within a.lo a.hi in
    all_from_yields_List w _ _ c.all.result c.all.ensures.ran (YieldsList-from_slice a.list.now c.iter.ensures.rest) (λ x b q k. search (rules, tests))
    ∙ all_like w w (λ x. refl) a.list.now
