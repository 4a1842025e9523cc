-- `load::all_unmapped` meets its contract: the lowest of all entries. Assumes nothing.
use mathlib.Core.Path.{◌≡◌, ap, ◌∙◌}
use Prim.Native.Nat.{ℕ, min}
use native.Mathlib.Omega.{arith}
use lib.Dec.{eqb}
use borrow.Author.Rules.{rules}
use Rattle.std.specs.List.{fold}
use Rattle.std.proofs.iter.runs.Made.{chains}
use Rattle.load.proofs.Rest.{lowest_unmapped}
use Rattle.load.proofs.all_unmapped.Goals as goal

pub returns : goal.returns
returns c =
    let xs = c.args.entries.now in
    let e : c.fold.result ≡ fold min 65535 xs = search (rules, chains) in
    ap (λ (n : ℕ). eqb n 65535) e ∙ lowest_unmapped xs (λ i. omega (arith, (c.type_inv.entries i).fits))
