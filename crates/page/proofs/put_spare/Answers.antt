-- `page::put_spare` meets its contract: its three words are the bytes of the spare area, by `Storing`. Assumes nothing.
use native.Mathlib.Omega.{arith}
use Rattle.page.proofs.Storing.{three_words}
use Rattle.page.proofs.put_spare.Goals as goal

pub returns : goal.returns
returns c =
    let a = c.args in
    three_words a.s a.page.now _ _ _ (omega arith) (omega arith) (omega arith) c.put64.ensures c.put32.ensures c.put16.ensures
