-- What the table's entries for the bytes of a word add up to, and the zero bits of two words more. Assumes nothing.
use mathlib.Core.Path.{◌≡◌, ◌∙◌, ap}
use Prim.Native.Nat.{ℕ, ◌+◌, ◌-◌, ◌*◌, ◌/◌, ◌%◌, ◌≤◌, ◌<◌}
use native.Mathlib.Omega.{arith}
use mathlib.Core.List.{List}
use lib.ListN.{length, take, get_or}
use lib.Count.{ones, ones-le, ones_cat}
use Rattle.std.specs.Int.{w64, to_le_bytes}
use Rattle.model.specs.Bytes.{zero_bits}
use Rattle.page.specs.Words.{le64}
use Rattle.page.proofs.Words.{more64}
use Rattle.table.specs.Counts.{counts, count_at}

-- the entry for a byte
pub entry_of : (t : List ℕ) (x : ℕ) → t ≡ counts 0 256 → x < 256 → get_or t x 0 + ones x ≡ 8
entry_of t x e h =
    let z : 0 + x ≡ x = omega arith in
    let n : get_or t x 0 ≡ 8 - ones x = rw e (count_at 0 256 x h ∙ ap (λ y. 8 - ones y) z) in
    omega (arith, ones-le 8 x h)

-- ---- the ones of a word, byte by byte
-- the lowest byte of what a division by k leaves, and what a division by m, 256 times as much, leaves
byte_off : (x k m : ℕ) → x / k / 256 ≡ x / m → ones (x / k) ≡ ones (x / m) + ones (x / k % 256)
byte_off x k m e =
    let y = x / k in
    let s : y ≡ (y / 256) * 256 + y % 256 = omega arith in
    ap ones s ∙ ones_cat 8 (y / 256) (y % 256) (omega arith) ∙ ap (λ z. ones z + ones (y % 256)) e

pub ones_word : (x : ℕ) → x < 18446744073709551616
    → ones x ≡ ones (x % 256) + ones (x / 256 % 256) + (ones (x / 65536 % 256) + ones (x / 16777216 % 256)) + (ones (x / 4294967296 % 256) + ones (x / 1099511627776 % 256) + (ones (x / 281474976710656 % 256) + ones (x / 72057594037927936 % 256)))
ones_word x h =
    let all : x / 1 ≡ x = omega arith in
    let first : x / 1 % 256 ≡ x % 256 = omega arith in
    let last : x / 72057594037927936 % 256 ≡ x / 72057594037927936 = omega arith in
    omega (
      arith,
      ap ones all,
      ap ones first,
      byte_off x 1 256 (omega arith),
      byte_off x 256 65536 (omega arith),
      byte_off x 65536 16777216 (omega arith),
      byte_off x 16777216 4294967296 (omega arith),
      byte_off x 4294967296 1099511627776 (omega arith),
      byte_off x 1099511627776 281474976710656 (omega arith),
      byte_off x 281474976710656 72057594037927936 (omega arith),
      ap ones last,
    )

-- b: the bytes of the word, low byte first
pub ones_bytes : (x : ℕ) (b : List ℕ) → x < 18446744073709551616 → b ≡ to_le_bytes w64 x
    → ones x ≡ ones (get_or b 0 0) + ones (get_or b 1 0) + (ones (get_or b 2 0) + ones (get_or b 3 0)) + (ones (get_or b 4 0) + ones (get_or b 5 0) + (ones (get_or b 6 0) + ones (get_or b 7 0)))
ones_bytes x b h e = rw e (ones_word x h)

-- the ones of two words side by side, the lower of 32 bits
pub joined : (low high : ℕ) → low < 4294967296 → ones (low + 4294967296 * high) ≡ ones high + ones low
joined low high h = let e : low + 4294967296 * high ≡ high * 4294967296 + low = omega arith in ap ones e ∙ ones_cat 32 high low h

-- ---- the zero bits of two words more
module _ (a : List ℕ) (byte : (k : ℕ) → get_or a k 0 < 256) where
  word_more : (i j : ℕ) → j ≡ i + 8 → j ≤ length a → zero_bits (take j a) + ones (le64 a i) ≡ zero_bits (take i a) + 64
  word_more i j e h =
      let word = ones-le 64 (le64 a i) (omega (arith, byte i, byte (i + 1), byte (i + 2), byte (i + 2 + 1), byte (i + 4), byte (i + 4 + 1), byte (i + 4 + 2), byte (i + 4 + 2 + 1))) in
      omega (arith, ap (λ k. zero_bits (take k a)) e ∙ more64 a byte i (omega arith), word)

  pub pair_more : (i : ℕ) → i + 16 ≤ length a → ones (le64 a i) + ones (le64 a (i + 8)) + zero_bits (take (i + 16) a) ≡ zero_bits (take i a) + 128
  pair_more i h = omega (arith, word_more i (i + 8) (omega arith) (omega arith), word_more (i + 8) (i + 16) (omega arith) (omega arith))
