-- Texts put one behind the other. Assumes nothing.
use mathlib.Core.Path.{◌≡◌, refl, sym, ap, ◌∙◌}
use mathlib.Core.List.{List, [], ◌++◌, append_assoc, append-nil}
use Prim.Native.Nat.{ℕ, ◌+◌, ◌≤◌}
use native.Mathlib.Omega.{arith}
use lib.ListN.{length, take, length-append, length-take}
use lib.Seq.{take_at, take-take, length-take-le}
use Rattle.text.specs.Text.{Put}

-- a text behind another
pub puts : {a s b t c : List ℕ} {at m r n q : ℕ} → Put a at s m b r → Put b r t n c q → Put a at (s ++ t) (m + n) c q
puts x y = record { is = rw (y.is, x.is, append_assoc); far = omega (arith, x.far, y.far); same = y.same ∙ x.same }

-- a bound that is wider
pub put_within : {a s b : List ℕ} {at m r n : ℕ} → Put a at s m b r → m ≤ n → Put a at s n b r
put_within x h = record { is = x.is; far = omega (arith, x.far); same = x.same }

-- a text that is another
pub put_is : {a s t b : List ℕ} {at m r : ℕ} → s ≡ t → Put a at s m b r → Put a at t m b r
put_is {a} {s} {t} {b} {at} e p = record { is = p.is ∙ ap (λ (u : List ℕ). take at a ++ u) e; far = p.far; same = p.same }

-- no text
pub put_nothing : (a : List ℕ) (at n : ℕ) → Put a at [] n a at
put_nothing a at n = record { is = sym (append-nil (take at a)); far = omega arith; same = refl }

-- a text dropped again
pub put_dropped : {a s b : List ℕ} {at m r : ℕ} (n : ℕ) → at ≤ length a → Put a at s m b r → Put a at [] n b at
put_dropped {a} {s} {b} {at} {m} {r} n h x =
    let long : length (take r b) ≡ at + length s = rw (x.is, length-append, length-take) (omega arith) in
    let wide : at ≤ r = omega (arith, long, length-take r b) in
    record {
      is = sym (take-take at r b wide) ∙ ap (take at) x.is ∙ take_at (take at a) s at (length-take-le at a h) ∙ sym (append-nil (take at a));
      far = omega arith;
      same = x.same;
    }
