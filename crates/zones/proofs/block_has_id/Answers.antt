-- `zones::block_has_id` meets its contract: the pages of the block, one after the other. Assumes nothing.
use mathlib.Core.Path.{refl, ◌∙◌}
use Prim.Native.Nat.{ℕ, ◌*◌}
use native.Mathlib.Omega.{arith}
use borrow.Author.Rules.{rules}
use borrow.Author.Tests.{tests}
use Rattle.std.proofs.lemmas.Iterator.{YieldsList-from_range}
use Rattle.std.proofs.lemmas.Iterator.Search.{any_from_yields_List}
use Rattle.model.specs.Zones.{on_pages, entry_at}
use Rattle.zones.proofs.Pages.{ids_any}
use Rattle.zones.proofs.block_has_id.Goals as goal

pub returns : goal.returns
returns c =
    let a = c.args in
    let first : ℕ = a.b * a.pages in
    any_from_yields_List (λ (k : ℕ). on_pages a.id (entry_at a.array.now k)) _ _ _ c.any.ensures.ran (YieldsList-from_range first _ a.pages refl (omega arith)) (λ x b q k. search (rules, tests))
    ∙ ids_any a.id a.array.now first a.pages
