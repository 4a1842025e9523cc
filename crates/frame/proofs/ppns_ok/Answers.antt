-- `frame::ppns_ok` meets its contract: the pages of data blocks are a range, by `page_within`. Assumes nothing.
use mathlib.Core.Path.{sym, ap, ◌∙◌}
use native.Mathlib.Omega.{arith}
use Rattle.model.specs.Lists.{all}
use Rattle.arrays.specs.Ranges.{geometry_in}
use Rattle.frame.proofs.Within.{page_within, pages_most}
use Rattle.frame.proofs.ppns_ok.Goals as goal

pub overflow_mul-g : goal.overflow_mul-g
overflow_mul-g c =
    let h = geometry_in c.args.g c.requires in
    omega arith

pub overflow_mul-g-2 : goal.overflow_mul-g-2
overflow_mul-g-2 c =
    let h = pages_most c.args.g (geometry_in c.args.g c.requires) in
    omega arith

pub returns : goal.returns
returns c = c.numbers_ok.ensures ∙ sym (ap (λ f. all f c.args.ppns.now) (page_within c.args.g))
