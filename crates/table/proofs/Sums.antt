-- Three words added bit by bit: the ones of the carries, each worth two, and of the low bits are those of the three. Assumes nothing.
use mathlib.Core.Path.{◌≡◌, refl, ap, ◌∙◌}
use Prim.Native.Nat.{ℕ, zero, suc, ◌+◌, ◌*◌, ◌/◌, ◌%◌, ◌<◌, ◌^◌, min, max}
use native.Mathlib.Omega.{arith}
use lib.Bits.{bit_and, bit_or, bit_xor, differ, and_step, or_step, xor_step}
use lib.Count.{ones, ones_step}

-- a word without ones
pub none : ones 0 ≡ 0
unfolding ones
none = refl

-- two bits have the sum of the one in which they differ and of two for each that they share
differ_is : (p q : ℕ) → differ p q + 2 * min p q ≡ p + q
differ_is zero q = omega arith
differ_is (suc p) zero = omega arith
differ_is (suc p) (suc q) = omega (arith, differ_is p q)

-- ---- each operation by all bits but the last, and by the last
module _ (a b : ℕ) where
  and_ends : (bit_and a b / 2 ≡ bit_and (a / 2) (b / 2)) × (bit_and a b % 2 ≡ min (a % 2) (b % 2))
  and_ends = let s = and_step a b in (omega arith, omega arith)

  or_ends : (bit_or a b / 2 ≡ bit_or (a / 2) (b / 2)) × (bit_or a b % 2 ≡ max (a % 2) (b % 2))
  or_ends = let s = or_step a b in (omega arith, omega arith)

  xor_ends : (bit_xor a b / 2 ≡ bit_xor (a / 2) (b / 2)) × (bit_xor a b % 2 ≡ differ (a % 2) (b % 2))
  xor_ends = let s = xor_step a b in let d = differ_is (a % 2) (b % 2) in (omega arith, omega arith)

-- ---- three words: where two of them have a one, and where one or all have
abbrev carry : ℕ → ℕ → ℕ → ℕ
carry a b c = bit_or (bit_and a b) (bit_and (bit_xor a b) c)

abbrev low : ℕ → ℕ → ℕ → ℕ
low a b c = bit_xor (bit_xor a b) c

nothing : ones 0 + ones 0 + ones 0 ≡ 2 * ones (carry 0 0 0) + ones (low 0 0 0)
unfolding ones
nothing = refl

-- words of k bits
pub three : (k a b c : ℕ) → a < 2 ^ k → b < 2 ^ k → c < 2 ^ k → ones a + ones b + ones c ≡ 2 * ones (carry a b c) + ones (low a b c)
three zero a b c h i j =
    let ea : a ≡ 0 = omega arith in
    let eb : b ≡ 0 = omega arith in
    let ec : c ≡ 0 = omega arith in
    rw (ec, eb, ea) nothing
three (suc k) a b c h i j =
    let u = bit_xor a b in
    let both = and_ends a b in
    let one = xor_ends a b in
    let over = and_ends u c in
    let carries = or_ends (bit_and a b) (bit_and u c) in
    let lows = xor_ends u c in
    let half-carry : carry a b c / 2 ≡ carry (a / 2) (b / 2) (c / 2) = carries.0 ∙ rw (both.0, over.0, one.0) in
    let half-low : low a b c / 2 ≡ low (a / 2) (b / 2) (c / 2) = lows.0 ∙ rw one.0 in
    omega (
      arith,
      three k (a / 2) (b / 2) (c / 2) (omega arith) (omega arith) (omega arith),
      ones_step a,
      ones_step b,
      ones_step c,
      ones_step (carry a b c),
      ones_step (low a b c),
      ap ones half-carry,
      ap ones half-low,
      both.1,
      one.1,
      over.1,
      carries.1,
      lows.1,
      differ_is (a % 2) (b % 2),
      differ_is (u % 2) (c % 2),
    )
