-- The zero bits of a page, the spare area's before the data's.
use Rattle.std.specs.Prelude.{◌≡◌, List, ℕ, ◌+◌, take, drop}
use Rattle.std.proofs.Common.{ap, arith, take-add}
use Rattle.model.specs.Lists.{part}
use Rattle.model.specs.Bytes.{zero_bits}
use Rattle.arrays.specs.Bytelist.{zero_bits_append}

-- "Count the zero bits of offsets 512 to 525 first and then of the data": the count after the spare area before Zeros and n bytes of the data
unfoldable pub spare_first : ℕ → List ℕ → ℕ
spare_first n q = zero_bits (part 512 14 q) + zero_bits (take n q)

-- "The total is the same": all of the data counted, it is that of the first 526 bytes, which Zeros is held to
pub spare_first_law : (q : List ℕ) → spare_first 512 q ≡ zero_bits (take 526 q)
unfolding spare_first part
spare_first_law q = omega (arith, ap zero_bits (take-add 512 14 q), zero_bits_append (take 512 q) (take 14 (drop 512 q)))
