-- `ranges::is_rising` meets its contract: by the clause of `is_sorted_by`, each is below the next. Assumes nothing.
use mathlib.Core.Path.{◌≡◌, sym}
use mathlib.Core.Bool.{Bool, true, false}
use mathlib.Core.List.{List}
use Prim.Native.Nat.{ℕ}
use Rattle.std.specs.List.{IsAllAdjacentAnswer}
use Rattle.model.specs.Lists.{rising}
use lib.Dec.{ltb}
use borrow.Author.Rules.{rules}
use borrow.Author.Tests.{tests}
use Rattle.std.proofs.lemmas.List.Sorted.{answers_always}
use Rattle.ranges.proofs.Rising.{rising_true, rising_false}
use Rattle.ranges.proofs.is_rising.Goals as goal

pub returns : goal.returns
returns c =
    let h = c.is_sorted_by.ensures.cases ltb (answers_always _ _ _ (λ f a r g e. search (rules, tests))) in
    go c.args.list.now c.is_sorted_by.result h
  where
    go : (xs : List ℕ) (r : Bool) → IsAllAdjacentAnswer (λ x y b. b ≡ ltb x y) xs r → r ≡ rising xs
    go xs true h = sym (rising_true xs h)
    go xs false h = sym (rising_false xs h.0 h.1 h.2)
