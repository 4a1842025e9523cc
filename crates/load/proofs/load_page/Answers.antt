-- `load::load_page` meets its contract: the numbers that `page::words16` reads are the entries (`page_read`). Assumes nothing.
use native.Mathlib.Omega.{arith}
use Rattle.load.proofs.Words.{page_read}
use Rattle.load.proofs.load_page.Goals as goal

pub returns : goal.returns
returns c =
    let a = c.args in
    page_read a.array.now _ _ a.k _ (omega arith) c.page_of.ensures.0 c.words16.ensures
