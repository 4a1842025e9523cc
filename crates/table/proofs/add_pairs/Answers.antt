-- `table::add_pairs` meets its contract: three additions of pairs, of which four are of the page. Assumes nothing.
use mathlib.Core.Path.{◌≡◌, ap}
use Prim.Native.Nat.{◌+◌}
use native.Mathlib.Omega.{arith}
use lib.ListN.{take}
use Rattle.model.specs.Bytes.{zero_bits}
use Rattle.table.proofs.add_pairs.Goals as goal

pub returns : goal.returns
returns c =
    let at = c.args.at in
    let q = c.args.page.now in
    let e : at + 16 + 16 ≡ at + 32 = omega arith in
    let f : at + 32 + 16 ≡ at + 48 = omega arith in
    let g : at + 48 + 16 ≡ at + 64 = omega arith in
    omega (
      arith,
      ap (λ n. zero_bits (take n q)) e,
      ap (λ n. zero_bits (take n q)) f,
      ap (λ n. zero_bits (take n q)) g,
      c.pair_at.ensures,
      c.pair_at-2.ensures,
      c.pair_at-3.ensures,
      c.pair_at-4.ensures,
      c.add3-a.ensures,
      c.add3-b.ensures,
      c.add3-c.ensures,
    )
