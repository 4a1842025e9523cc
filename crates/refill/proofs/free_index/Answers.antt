-- `refill::free_index` meets its contract: by the clause of `position`. Assumes nothing.
use mathlib.Core.Path.{◌≡◌, ◌∙◌}
use lib.Dec.{leb}
use borrow.Author.Rules.{rules}
use borrow.Author.Tests.{tests}
use Rattle.std.specs.List.{position}
use Rattle.std.proofs.lemmas.Iterator.{YieldsList-from_slice}
use Rattle.std.proofs.lemmas.Iterator.Search.{position_from_yields_List}
use Rattle.refill.proofs.Free.{index_is}
use Rattle.refill.proofs.free_index.Goals as goal

pub returns : goal.returns
returns c =
    let p : c.position.result ≡ position (leb c.args.pointer) c.args.free.now =
    position_from_yields_List (leb c.args.pointer) _ _ c.position.result c.position.ensures.ran (YieldsList-from_slice _ c.iter.ensures.rest) (λ x b q j. search (rules, tests)) in
    c.unwrap_or.ensures ∙ rw p (index_is c.args.pointer c.args.free.now)
