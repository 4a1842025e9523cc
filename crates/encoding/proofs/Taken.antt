-- One more drop read. Assumes nothing.
use Rattle.std.proofs.Common.{◌≡◌, sym, ap, ◌∙◌, ℕ, ◌+◌, ◌<◌, List, [], ◌∷◌, ◌++◌, length, get_or, eqb}
use mathlib.Core.List.{map-append}
use Rattle.model.specs.Lists.{part}
use Rattle.page.proofs.Taken.{part_more}
use Rattle.encoding.specs.Encoding.{drops_from}

pub drops_more : (xs : List ℕ) (at i : ℕ) → at + i < length xs → drops_from (part at i xs) ++ (eqb (get_or xs (at + i) 0) 1 ∷ []) ≡ drops_from (part at (i + 1) xs)
unfolding drops_from
drops_more xs at i k = sym (map-append (λ (x : ℕ). eqb x 1) (part at i xs) (get_or xs (at + i) 0 ∷ [])) ∙ ap drops_from (part_more xs at i k)
