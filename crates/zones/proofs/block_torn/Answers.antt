-- `zones::block_torn` meets its contract: the pages of the block, one after the other. Assumes nothing.
use mathlib.Core.Path.{◌≡◌, ◌∙◌}
use Prim.Native.Nat.{ℕ, ◌*◌}
use native.Mathlib.Omega.{arith}
use lib.ListN.{length}
use borrow.Author.Rules.{rules}
use borrow.Author.Tests.{tests}
use Rattle.std.specs.Prelude.{filter, count_by}
use Rattle.std.specs.List.{range_with_len}
use Rattle.std.proofs.lemmas.List.Sums.{length-filter, count_by-le-length}
use Rattle.std.proofs.lemmas.List.FromFn.{length-range_with_len}
use Rattle.std.proofs.lemmas.Iterator.{YieldsList-from_range}
use Rattle.std.proofs.lemmas.Iterator.Consumers.{YieldsList-from_filter, count_from_yields_List}
use Rattle.model.specs.Page.{torn_at}
use Rattle.zones.proofs.Torn.{pages_torn}
use Rattle.zones.proofs.block_torn.Goals as goal

pub returns : goal.returns
returns c =
    let a = c.args in
    let first : ℕ = a.b * a.pages in
    let n : c.count.result ≡ length (filter (torn_at a.array.now) (range_with_len first a.pages)) =
    count_from_yields_List _ _ c.count.ensures.ran (YieldsList-from_filter _ (torn_at a.array.now) (YieldsList-from_range first _ a.pages c.filter.ensures.source (omega arith)) c.filter.ensures.closure (λ x b q k. search (rules, tests))) in
    let k : length (filter (torn_at a.array.now) (range_with_len first a.pages)) ≡ count_by (torn_at a.array.now) (range_with_len first a.pages) = length-filter (torn_at a.array.now) (range_with_len first a.pages) in
    let m = count_by-le-length (torn_at a.array.now) (range_with_len first a.pages) in
    let l = length-range_with_len first a.pages in
    (n ∙ k ∙ pages_torn (torn_at a.array.now) first a.pages, omega arith)
