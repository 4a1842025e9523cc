-- `reporting::parsed` meets its contract: line by line. Assumes nothing.
use Rattle.reporting.proofs.Reports.{first_lost, second_lost, third_lost, all_found}
use Rattle.reporting.proofs.parsed.Goals as goal

pub returns-in_err-blocks : goal.returns-in_err-blocks
returns-in_err-blocks c = rw c.from_residual.ensures (first_lost _ c.in_err-blocks.ensures)

pub returns-in_err-pages : goal.returns-in_err-pages
returns-in_err-pages c = rw c.from_residual-in_err-pages.ensures (second_lost _ _ _ c.in_ok-blocks.ensures c.in_err-pages.ensures)

pub returns-in_err-logical : goal.returns-in_err-logical
returns-in_err-logical c = rw c.from_residual-in_err-logical.ensures (third_lost _ _ _ c.in_ok-blocks.ensures _ _ c.in_ok-pages.ensures c.in_err-logical.ensures)

pub returns : goal.returns
returns c = all_found _ _ _ c.in_ok-blocks.ensures _ _ c.in_ok-pages.ensures _ _ c.in_ok-logical.ensures
