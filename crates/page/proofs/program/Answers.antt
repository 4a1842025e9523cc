-- `page::program` meets its contract: the stores of its calls are the page's bytes, by `Storing`. Assumes nothing.
use mathlib.Core.Path.{refl, ap}
use mathlib.Core.List.{◌++◌}
use native.Mathlib.Omega.{arith}
use lib.ListN.{drop, length-take}
use Rattle.model.specs.Page.{page_bytes, spare_bytes}
use Rattle.page.proofs.Storing.{steps}
use Rattle.page.proofs.program.Goals as goal

pub slice_bounds-copy_from_slice-end-2 : goal.slice_bounds-copy_from_slice-end-2
slice_bounds-copy_from_slice-end-2 c = simp length-take (omega arith)

pub copy_from_slice-requires : goal.copy_from_slice-requires
copy_from_slice-requires c = simp length-take (omega arith)

pub returns : goal.returns
unfolding page_bytes
returns c =
    let a = c.args in
    steps a.«data».now a.page.now (spare_bytes a.s) (omega arith) (omega arith) refl _ _ _ _ (ap (λ l. l ++ drop 512 a.page.now) c.copy_from_slice.ensures.after) c.put_spare.ensures c.zeros-z.ensures c.put16.ensures
