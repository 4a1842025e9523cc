-- `checkpoint::newest` meets its contract: the first front block, then the second. Assumes nothing.
use mathlib.Core.Path.{ap, ◌∙◌}
use Prim.Native.Nat.{◌-◌}
use native.Mathlib.Omega.{arith}
use lib.ListN.{length}
use borrow.Author.Rules.{rules}
use Rattle.model.specs.Checkpoint.{nothing, newest_from, newest}
use Rattle.checkpoint.proofs.Search.{in_same, in_search}
use Rattle.checkpoint.specs.Found.{FoundIn}
use Rattle.checkpoint.proofs.newest.Goals as goal

pub newest_from-first-requires : goal.newest_from-first-requires
newest_from-first-requires c = (omega arith, (omega arith, record { here = omega arith; before = search rules }))

pub newest_from-requires : goal.newest_from-requires
newest_from-requires c =
    let a = c.args in
    let e = c.newest_from-first.ensures in
    let xs = a.array.now in
    let f : FoundIn (length xs) (newest_from xs a.m 0 (a.pages - a.m) nothing) = in_search xs (length xs) a.m 0 (a.pages - a.m) nothing (omega arith) (omega arith) in
    (omega arith, (omega arith, record { here = omega arith; before = in_same _ _ _ e f }))

pub returns : goal.returns
unfolding newest
returns c =
    let a = c.args in
    c.newest_from.ensures ∙ ap (newest_from a.array.now a.m a.pages (a.pages - a.m)) c.newest_from-first.ensures
