-- `encoding::drops_coded` meets its contract: the fold tests every drop (`fold_all`). Assumes nothing.
use Rattle.std.proofs.Common.{rules, tests, ◌∙◌, Bool, true, ltb, ◌&&◌, ℕ}
use Rattle.std.proofs.lemmas.Iterator.{YieldsList-from_slice}
use Rattle.std.proofs.lemmas.Iterator.Consumers.{fold_from_yields_List}
use native.Mathlib.Nat.{add-sub_cancel_left}
use Rattle.model.specs.Lists.{part}
use Rattle.encoding.proofs.Coded.{fold_all}
use Rattle.encoding.proofs.drops_coded.Goals as goal

pub returns : goal.returns
unfolding part
returns c =
    fold_from_yields_List _ (λ (a : Bool) (x : ℕ). a && ltb x 2) true _ c.fold.ensures.ran (YieldsList-from_slice (part c.args.at 64 c.args.from.now) (rw add-sub_cancel_left at c.iter.ensures.rest)) (λ a x b q k. search (rules, tests))
    ∙ fold_all _
