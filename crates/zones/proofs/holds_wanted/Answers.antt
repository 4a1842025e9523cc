-- `zones::holds_wanted` meets its contract: the pages of the block, one after the other. Assumes nothing.
use mathlib.Core.Path.{refl, ◌∙◌}
use Prim.Native.Nat.{ℕ, ◌*◌}
use native.Mathlib.Omega.{arith}
use borrow.Author.Rules.{rules}
use borrow.Author.Tests.{tests}
use Rattle.std.proofs.lemmas.Iterator.{YieldsList-from_range}
use Rattle.std.proofs.lemmas.Iterator.Search.{any_from_yields_List}
use Rattle.model.specs.Lists.{any}
use Rattle.model.specs.Zones.{entry_at}
use Rattle.zones.specs.Judging.{wanted_by, holds_by}
use Rattle.zones.proofs.Pages.{pages_any}
use Rattle.zones.proofs.holds_wanted.Goals as goal

pub returns : goal.returns
unfolding holds_by
returns c =
    let a = c.args in
    let first : ℕ = a.b * a.pages in
    let q = wanted_by a.ids a.near.now in
    any_from_yields_List (λ (k : ℕ). any q (entry_at a.array.now k)) _ _ _ c.any.ensures.ran (YieldsList-from_range first _ a.pages refl (omega arith)) (λ x b q k. search (rules, tests))
    ∙ pages_any q a.array.now first a.pages
