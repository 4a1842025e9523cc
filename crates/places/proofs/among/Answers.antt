-- `places::among` meets its contract: what the library's `contains` says, in the words of `model` (`any_like`). Assumes nothing.
use mathlib.Core.Path.{refl, ◌∙◌}
use Rattle.arrays.specs.Chains.{any_like}
use Rattle.places.proofs.among.Goals as goal

pub returns : goal.returns
returns c = c.contains.ensures.value ∙ any_like _ _ (λ x. refl) c.args.ids.now
