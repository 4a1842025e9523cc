-- Counting and testing several bytes at a time: the zero bits of a word are those of its bytes, and a word has no zero bit
-- exactly where each of its bytes is 0xFF. Assumes nothing.
use mathlib.Core.Path.{◌≡◌, refl, sym, ap, ◌∙◌}
use mathlib.Core.List.{List}
use mathlib.Core.Bool.{Bool, true, false, cond}
use Prim.Native.Nat.{ℕ, suc, ◌+◌, ◌-◌, ◌*◌, ◌≤◌, ◌<◌, ◌^◌, ◌/◌, ◌%◌, zero}
use native.Mathlib.Omega.{arith}
use native.Mathlib.Numerals.{add-one}
use lib.ListN.{length, take, drop, get_or, length-take}
use lib.Seq.{take-suc, drop-cons}
use lib.Dec.{eqb}
use lib.Bits.{bit_and, and_le_l, and_le_r, and_self}
use borrow.Author.Tests.{eqb-true, eqb-false, eq-eqb, ne_eqb}
use lib.Count.{ones, ones-le, ones_cat, ones_step}
use mir.Val.{bits}
use Rattle.std.specs.Int.{Width, count_zeros}
use Rattle.model.specs.Lists.{part}
use Rattle.model.specs.Bytes.{zero_bits, all_ff, le16, le32}
use Rattle.arrays.specs.Tests.{not_so}
use Rattle.arrays.specs.Bytelist.{zero_bits_append, zero_bits_le}
use Rattle.page.specs.Words.{le64}
use Rattle.page.specs.Counting.{spare_first}

-- ---- zero bits
-- the spare area before Zeros and i bytes of the data have at most 8 a byte
pub spare_first_le : (i : ℕ) (a : List ℕ) → spare_first i a ≤ 8 * (14 + i)
unfolding spare_first part
spare_first_le i a = omega (arith, zero_bits_le (take i a), length-take i a, zero_bits_le (take 14 (drop 512 a)), length-take 14 (drop 512 a))

-- the zeros of a word are what its ones leave of its bits
ones_not : (k n : ℕ) → n < 2 ^ k → ones (2 ^ k - 1 - n) + ones n ≡ k
unfolding ones
ones_not zero n h = let e : n ≡ 0 = omega arith in rw e
ones_not (suc k) n h =
    let m = 2 ^ suc k - 1 - n in
    let half : m / 2 ≡ 2 ^ k - 1 - n / 2 = omega arith in
    let last : m % 2 + n % 2 ≡ 1 = omega arith in
    omega (arith, ones_not k (n / 2) (omega arith), ones_step m, ones_step n, ap ones half)

pub zeros_of : (w : Width) (n : ℕ) → n < 2 ^ bits w → count_zeros w n + ones n ≡ bits w
zeros_of w n h = ones_not (bits w) n h

-- one byte more
more8 : (a : List ℕ) (i : ℕ) → i < length a → zero_bits (take (i + 1) a) ≡ zero_bits (take i a) + (8 - ones (get_or a i 0))
unfolding zero_bits
more8 a i h = rw (add-one, take-suc a i 0, zero_bits_append) (omega arith)

-- a byte 0xFF is passed
ff8 : (a : List ℕ) (i : ℕ) → i < length a → get_or a i 0 ≡ 255 → all_ff (drop i a) ≡ all_ff (drop (i + 1) a)
unfolding all_ff
ff8 a i h e = rw (add-one, drop-cons a i 0, e)

-- one word more
module _ (a : List ℕ) (byte : (k : ℕ) → get_or a k 0 < 256) where
  le16_lt : (i : ℕ) → le16 a i < 65536
  le16_lt i = omega (arith, byte i, byte (i + 1))

  le32_lt : (i : ℕ) → le32 a i < 4294967296
  le32_lt i = omega (arith, le16_lt i, le16_lt (i + 2))

  ones16 : (i : ℕ) → ones (le16 a i) ≡ ones (get_or a (i + 1) 0) + ones (get_or a i 0)
  ones16 i = ap ones (omega arith) ∙ ones_cat 8 (get_or a (i + 1) 0) (get_or a i 0) (byte i)

  ones32 : (i : ℕ) → ones (le32 a i) ≡ ones (le16 a (i + 2)) + ones (le16 a i)
  ones32 i = ap ones (omega arith) ∙ ones_cat 16 (le16 a (i + 2)) (le16 a i) (le16_lt i)

  ones64 : (i : ℕ) → ones (le64 a i) ≡ ones (le32 a (i + 4)) + ones (le32 a i)
  ones64 i = ap ones (omega arith) ∙ ones_cat 32 (le32 a (i + 4)) (le32 a i) (le32_lt i)

  pub more16 : (i : ℕ) → i + 2 ≤ length a → zero_bits (take (i + 2) a) ≡ zero_bits (take i a) + (16 - ones (le16 a i))
  more16 i h =
      let e : i + 2 ≡ i + 1 + 1 = omega arith in
      rw e (omega (arith, more8 a (i + 1) (omega arith), more8 a i (omega arith), ones16 i, ones-le 8 (get_or a i 0) (byte i), ones-le 8 (get_or a (i + 1) 0) (byte (i + 1))))

  pub more32 : (i : ℕ) → i + 4 ≤ length a → zero_bits (take (i + 4) a) ≡ zero_bits (take i a) + (32 - ones (le32 a i))
  more32 i h =
      let e : i + 4 ≡ i + 2 + 2 = omega arith in
      rw e (omega (arith, more16 (i + 2) (omega arith), more16 i (omega arith), ones32 i, ones-le 16 (le16 a i) (le16_lt i), ones-le 16 (le16 a (i + 2)) (le16_lt (i + 2))))

  pub more64 : (i : ℕ) → i + 8 ≤ length a → zero_bits (take (i + 8) a) ≡ zero_bits (take i a) + (64 - ones (le64 a i))
  more64 i h =
      let e : i + 8 ≡ i + 4 + 4 = omega arith in
      rw e (omega (arith, more32 (i + 4) (omega arith), more32 i (omega arith), ones64 i, ones-le 32 (le32 a i) (le32_lt i), ones-le 32 (le32 a (i + 4)) (le32_lt (i + 4))))

  ff16 : (i : ℕ) → i + 2 ≤ length a → le16 a i ≡ 65535 → all_ff (drop i a) ≡ all_ff (drop (i + 2) a)
  ff16 i h e =
      let q : i + 2 ≡ i + 1 + 1 = omega arith in
      rw q (ff8 a i (omega arith) (omega (arith, byte i, byte (i + 1))) ∙ ff8 a (i + 1) (omega arith) (omega (arith, byte i, byte (i + 1))))

  ff32 : (i : ℕ) → i + 4 ≤ length a → le32 a i ≡ 4294967295 → all_ff (drop i a) ≡ all_ff (drop (i + 4) a)
  ff32 i h e =
      let q : i + 4 ≡ i + 2 + 2 = omega arith in
      rw q (ff16 i (omega arith) (omega (arith, le16_lt i, le16_lt (i + 2))) ∙ ff16 (i + 2) (omega arith) (omega (arith, le16_lt i, le16_lt (i + 2))))

  pub ff64 : (i : ℕ) → i + 8 ≤ length a → le64 a i ≡ 18446744073709551615 → all_ff (drop i a) ≡ all_ff (drop (i + 8) a)
  ff64 i h e =
      let q : i + 8 ≡ i + 4 + 4 = omega arith in
      rw q (ff32 i (omega arith) (omega (arith, le32_lt i, le32_lt (i + 4))) ∙ ff32 (i + 4) (omega arith) (omega (arith, le32_lt i, le32_lt (i + 4))))

-- ---- the other way: where every byte is 0xFF, so is each word
both : (b t : Bool) → cond b t false ≡ true → (b ≡ true) × (t ≡ true)
both true t e = (refl, e)
both false t e = let z : false ≡ true = e in (e, (cc))

module _ (a : List ℕ) where
  next8 : (i : ℕ) → i < length a → all_ff (drop i a) ≡ true → (get_or a i 0 ≡ 255) × (all_ff (drop (i + 1) a) ≡ true)
  unfolding all_ff
  next8 i h e =
      let p = both (eqb (get_or a i 0) 255) (all_ff (drop (suc i) a)) (rw (drop-cons a i 0) at e) in
      (eqb-true (get_or a i 0) 255 p.0, rw add-one p.1)

  next16 : (i : ℕ) → i + 2 ≤ length a → all_ff (drop i a) ≡ true → (le16 a i ≡ 65535) × (all_ff (drop (i + 2) a) ≡ true)
  next16 i h e =
      let q : i + 2 ≡ i + 1 + 1 = omega arith in
      let p = next8 i (omega arith) e in
      let r = next8 (i + 1) (omega arith) p.1 in
      (omega arith, rw q r.1)

  next32 : (i : ℕ) → i + 4 ≤ length a → all_ff (drop i a) ≡ true → (le32 a i ≡ 4294967295) × (all_ff (drop (i + 4) a) ≡ true)
  next32 i h e =
      let q : i + 4 ≡ i + 2 + 2 = omega arith in
      let p = next16 i (omega arith) e in
      let r = next16 (i + 2) (omega arith) p.1 in
      (omega arith, rw q r.1)

  next64 : (i : ℕ) → i + 8 ≤ length a → all_ff (drop i a) ≡ true → le64 a i ≡ 18446744073709551615
  next64 i h e =
      let p = next32 i (omega arith) e in
      let r = next32 (i + 4) (omega arith) p.1 in
      omega arith

  pub not64 : (i : ℕ) → i + 8 ≤ length a → (le64 a i ≡ 18446744073709551615 → ⊥) → all_ff (drop i a) ≡ false
  not64 i h n = not_so (all_ff (drop i a)) (λ e. n (next64 i h e))

-- ---- all words at once: c is what the words before place i have in common
module _ (a : List ℕ) (byte : (k : ℕ) → get_or a k 0 < 256) where
  pub common64 : (c i : ℕ) → c ≤ 18446744073709551615 → i + 8 ≤ length a
      → cond (eqb c 18446744073709551615) (all_ff (drop i a)) false ≡ cond (eqb (bit_and c (le64 a i)) 18446744073709551615) (all_ff (drop (i + 8) a)) false
  common64 c i l h = go (eqb c 18446744073709551615) (eqb (le64 a i) 18446744073709551615) refl refl
    where
      go : (s t : Bool) → eqb c 18446744073709551615 ≡ s → eqb (le64 a i) 18446744073709551615 ≡ t
          → cond (eqb c 18446744073709551615) (all_ff (drop i a)) false ≡ cond (eqb (bit_and c (le64 a i)) 18446744073709551615) (all_ff (drop (i + 8) a)) false
      go true true es et =
          let ec = eqb-true c 18446744073709551615 es in
          let ex = eqb-true (le64 a i) 18446744073709551615 et in
          let e : bit_and c (le64 a i) ≡ 18446744073709551615 = ap (bit_and c) (ex ∙ sym ec) ∙ and_self c ∙ ec in
          rw (es, eq-eqb (bit_and c (le64 a i)) 18446744073709551615 e) (ff64 a byte i h ex)
      go true false es et =
          let n = eqb-false (le64 a i) 18446744073709551615 et in
          let m : bit_and c (le64 a i) ≡ 18446744073709551615 → ⊥ = λ e. n (omega (arith, and_le_r c (le64 a i), le32_lt a byte i, le32_lt a byte (i + 4))) in
          rw (es, ne_eqb (bit_and c (le64 a i)) 18446744073709551615 m) (not64 a i h n)
      go false t es et =
          let n = eqb-false c 18446744073709551615 es in
          let m : bit_and c (le64 a i) ≡ 18446744073709551615 → ⊥ = λ e. n (omega (arith, and_le_l c (le64 a i))) in
          rw (es, ne_eqb (bit_and c (le64 a i)) 18446744073709551615 m)
