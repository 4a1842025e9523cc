-- `page::put32` meets its contract: its four bytes, low byte first, stand in the page. Assumes nothing.
use mathlib.Core.Path.{ap, ◌∙◌}
use Prim.Native.Nat.{◌+◌, ◌-◌}
use native.Mathlib.Omega.{arith}
use borrow.Rule.Slice.PartMut.{put_mid}
use Rattle.model.specs.Bytes.{bytes32}
use Rattle.page.proofs.Storing.{stored, bytes_4}
use Rattle.page.proofs.put32.Goals as goal

pub returns : goal.returns
returns c =
    let a = c.args in
    let n = a.at + 4 - a.at in
    let e = c.copy_from_slice.ensures.after ∙ c.to_le_bytes.ensures ∙ bytes_4 a.x (omega arith) in
    ap (put_mid a.at n a.page.now) e ∙ stored (bytes32 a.x) a.page.now a.at n (omega arith) (omega arith)
