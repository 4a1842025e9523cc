-- `load::all_zero` meets its contract: the highest of all bytes. Assumes nothing.
use mathlib.Core.Path.{◌≡◌, ap, ◌∙◌}
use Prim.Native.Nat.{ℕ, max}
use lib.Dec.{eqb}
use borrow.Author.Rules.{rules}
use Rattle.std.specs.List.{fold}
use Rattle.std.proofs.iter.runs.Made.{chains}
use Rattle.load.proofs.Rest.{highest_zero}
use Rattle.load.proofs.all_zero.Goals as goal

pub returns : goal.returns
returns c =
    let xs = c.args.rest.now in
    let e : c.fold.result ≡ fold max 0 xs = search (rules, chains) in
    ap (λ (n : ℕ). eqb n 0) e ∙ highest_zero xs
