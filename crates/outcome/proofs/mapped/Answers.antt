-- `outcome::mapped` meets its contract: what the chain counts is what the definition counts. Assumes nothing.
use mathlib.Core.Path.{◌≡◌, refl, ◌∙◌}
use Rattle.std.proofs.Common.{ℕ, rules, not, nat_eq}
use Rattle.std.proofs.iter.runs.Made.{chains}
use Rattle.std.specs.Prelude.{count_by}
use Rattle.arrays.specs.Chains.{count_like}
use Rattle.outcome.specs.Text.{mapped_in}
use Rattle.outcome.proofs.mapped.Goals as goal

pub returns : goal.returns
unfolding mapped_in
returns c =
    let e : c.count.result ≡ count_by (λ (x : ℕ). not (nat_eq x 65535)) c.args.map.now = search (rules, chains) in
    e ∙ count_like _ _ (λ x. refl) c.args.map.now
