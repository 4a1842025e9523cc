-- The digits that `io::decimal` gives are a number in decimal. Assumes nothing.
use mathlib.Core.Path.{◌≡◌, refl, ap, ◌∙◌}
use mathlib.Core.List.{List, ◌++◌}
use mathlib.Core.Bool.{Bool, true, false}
use Prim.Native.Nat.{ℕ, zero, suc, ◌+◌, ◌-◌, ◌*◌, ◌/◌, ◌%◌, ◌^◌, ◌≤◌, ◌<◌}
use native.Mathlib.Nat.{pow-suc, one-le-pow, pow-le-pow_right}
use native.Mathlib.Omega.{arith}
use lib.Dec.{leb}
use borrow.Author.Tests.{lt-ltb, le-ltb, leb-true, leb-false}
use Rattle.io.specs.Digits.{last_digits, hex_digit_ascii, IsDigitCount}
use lib.ListN.{length, take}
use Rattle.text.specs.Text.{digits_in, decimal, Put}

-- the last digit
last : (n : ℕ) → hex_digit_ascii (n % 10) ≡ 48 + n % 10
last n = let h : n % 10 < 10 = omega arith in rw (lt-ltb (n % 10) 10 h)

-- r digits, of at most k
digits_same : (r k n : ℕ) → r ≤ k → IsDigitCount 10 1 n r → last_digits 10 r n ≡ digits_in k n
unfolding digits_in
digits_same zero k n le f = absurd (omega (arith, f.0))
digits_same (suc r) zero n le f = absurd (omega arith)
digits_same (suc zero) (suc k) n le f =
    let h : n < 10 = f.1 in
    rw (lt-ltb n 10 h, last n)
digits_same (suc (suc r)) (suc k) n le f =
    let p : 1 ≤ 10 ^ r = one-le-pow r 10 (omega arith) in
    let e : 10 ^ suc r ≡ 10 ^ r * 10 = pow-suc 10 r in
    let e' : 10 ^ suc (suc r) ≡ 10 ^ suc r * 10 = pow-suc 10 (suc r) in
    let one : suc (suc r) - 1 ≡ suc r = omega arith in
    let one' : suc r - 1 ≡ r = omega arith in
    let low : 10 ^ suc r ≤ n = rw one at (f.2 (omega arith)) in
    let high : n < 10 ^ suc (suc r) = f.1 in
    let d : IsDigitCount 10 1 (n / 10) (suc r) = (omega arith, omega arith, λ h. rw one' (omega arith)) in
    rw (le-ltb n 10 (omega arith), last n, digits_same (suc r) k (n / 10) (omega arith) d)

-- a number of at most 20
decimal_digits : (r n : ℕ) → r ≤ 20 → IsDigitCount 10 1 n r → last_digits 10 r n ≡ decimal n
unfolding decimal
decimal_digits r n h f = digits_same r 20 n h f

-- a number of 64 bits has no more
few : (n r : ℕ) → n < 18446744073709551616 → IsDigitCount 10 1 n r → r ≤ 20
few n r h f = go (leb r 20) refl
  where
    go : (b : Bool) → leb r 20 ≡ b → r ≤ 20
    go true e = leb-true r 20 e
    go false e =
        let k : 20 < r = leb-false r 20 e in
        let p : 10 ^ 20 ≤ 10 ^ (r - 1) = pow-le-pow_right {n = 10} (omega arith) {i = 20} {j = r - 1} (omega arith) in
        let q : 10 ^ (r - 1) ≤ n = f.2 (omega arith) in
        let v : 10 ^ 20 ≡ 100000000000000000000 = refl in
        absurd (omega arith)

-- how many are put
pub few_digits : (ds : List ℕ) (r n : ℕ) → n < 18446744073709551616 → IsDigitCount 10 1 n r → r ≡ length (take r ds) → length (take r ds) ≤ 20
few_digits ds r n h f l = rw (← l) (few n r h f)

-- the digits put
pub put_digits : (ds : List ℕ) {a b : List ℕ} {at r n end : ℕ} → n < 18446744073709551616 → r ≡ length (take r ds) → IsDigitCount 10 1 n r → take r ds ≡ last_digits 10 r n
    → Put a at (take r ds) (length (take r ds)) b end → Put a at (decimal n) 20 b end
put_digits ds {a} {b} {at} {r} {n} {end} h l f e p =
    let d : take r ds ≡ decimal n = e ∙ decimal_digits r n (few n r h f) f in
    record { is = p.is ∙ ap (λ (t : List ℕ). take at a ++ t) d; far = omega (arith, p.far, few_digits ds r n h f l); same = p.same }
