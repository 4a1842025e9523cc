-- `format::under_way` meets its contract: from what its calls ensure. Assumes nothing.
use Rattle.format.proofs.under_way.Goals as goal

pub returns : goal.returns
returns c = rw (c.with_work.ensures, c.fresh.ensures)
