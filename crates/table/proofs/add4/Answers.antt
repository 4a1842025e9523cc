-- `table::add4` meets its contract: three additions, and the ones of four pairs (`four`). Assumes nothing.
use native.Mathlib.Omega.{arith}
use Rattle.table.proofs.Kept.{no_ones, four}
use Rattle.table.proofs.add4.Goals as goal

pub returns : goal.returns
returns c = omega (arith, no_ones _ c.default.ensures, no_ones _ c.default-2.ensures, four c.args.e.now (record { left = 0; right = 0 }) c.told-e, c.add3-a.ensures, c.add3-b.ensures, c.add3-c.ensures)
