-- `zones::id_in` meets its contract: the blocks, one after the other. Assumes nothing.
use mathlib.Core.Path.{◌≡◌, ◌∙◌}
use Prim.Native.Nat.{ℕ, ◌*◌}
use borrow.Author.Rules.{rules}
use borrow.Author.Tests.{tests}
use Rattle.std.proofs.lemmas.Iterator.{YieldsList-from_slice}
use Rattle.std.proofs.lemmas.Iterator.Search.{any_from_yields_List}
use Rattle.std.proofs.lemmas.Iterator.Adapters.{serves_from_places}
use Rattle.std.proofs.lemmas.Grind.{get_or_default_zero}
use lib.ListN.{get_or}
use Rattle.model.specs.Zones.{on_pages, whole_from}
use Rattle.zones.proofs.Pages.{ids_in_any}
use Rattle.zones.proofs.id_in.Goals as goal

pub any-requires-clause-callable : goal.any-requires-clause-callable
any-requires-clause-callable c = serves_from_places (YieldsList-from_slice _ c.iter.ensures.rest) (λ x q r. search rules) (λ x k h e.
    let v : x.now ≡ get_or c.args.bs.now k 0 = e ∙ get_or_default_zero c.args.bs.now k x.now h in
    let w = rw (← v) at (c.requires.each k h) in
    search rules)

pub returns : goal.returns
returns c =
    let a = c.args in
    any_from_yields_List (λ (b : ℕ). on_pages a.id (whole_from a.array.now (b * a.pages) a.pages)) _ _ _ c.any.ensures.ran (YieldsList-from_slice _ c.iter.ensures.rest) (λ x b q k. search (rules, tests))
    ∙ ids_in_any a.id a.array.now a.pages a.bs.now
