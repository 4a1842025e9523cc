-- The difference of two numbers of 16 bits is a signed number of 32, and is read back as it is. Assumes nothing.
use mathlib.Core.Path.{◌≡◌, ap, ◌∙◌, subst, sym}
use mathlib.Core.Bool.{Bool, true, false, cond}
use Prim.Native.Nat.{ℕ, zero, suc, ◌-◌, ◌<◌}
use native.Mathlib.Omega.{arith}
use lib.Dec.{ltb}
use lib.IntN.{ℤ, pos, negsuc, sub_ℕ, ◌-ℤ◌}
use lib.Signed.{mag}
use mir.Syntax.{w32}
use mir.Val.{to_z, of_z, SFits}
use mir.Facts.{to_z-of_z, to_z_pos}

mag_subℕ : (a b n : ℕ) → a < n → b < n → mag (sub_ℕ a b) < n
mag_subℕ a b n h k = go (ltb a b)
  where
    go : (t : Bool) → mag (cond t (negsuc (b - suc a)) (pos (a - b))) < n
    go true = omega arith
    go false = omega arith

mag_sub : (a b n : ℕ) → a < n → b < n → mag (pos a -ℤ pos b) < n
mag_sub a zero n h k = omega arith
mag_sub a (suc b) n h k = mag_subℕ a (suc b) n h k

module _ (a b : ℕ) (h : a < 65536) (k : b < 65536) where
  -- neither has the sign's bit
  unsigned : to_z w32 a -ℤ to_z w32 b ≡ pos a -ℤ pos b
  unsigned = ap (λ (z : ℤ). z -ℤ to_z w32 b) (to_z_pos w32 {n = a} (omega arith)) ∙ ap (λ (z : ℤ). pos a -ℤ z) (to_z_pos w32 {n = b} (omega arith))

  pub difference_fits : SFits w32 (to_z w32 a -ℤ to_z w32 b)
  difference_fits = subst (SFits w32) (sym unsigned) (record { sfits = (let m = mag_sub a b 65536 h k in omega arith) })

  pub difference_read : to_z w32 (of_z w32 (to_z w32 a -ℤ to_z w32 b)) ≡ pos a -ℤ pos b
  difference_read = to_z-of_z {w = w32} {z = to_z w32 a -ℤ to_z w32 b} difference_fits ∙ unsigned
