-- What a line is found to say, byte by byte. Assumes nothing.
use mathlib.Core.Path.{◌≡◌, refl}
use mathlib.Core.Bool.{Bool, true, false, cond, ◌&&◌}
use mathlib.Core.List.{List, [], ◌∷◌}
use Prim.Native.Nat.{ℕ, ◌+◌, ◌-◌, ◌*◌, ◌≤◌, ◌<◌}
use native.Mathlib.Numerals.{add-one}
use native.Mathlib.Omega.{arith}
use lib.ListN.{length, take, drop, get_or, length-drop, drop_of_length-le}
use lib.Seq.{take_all, drop-cons}
use lib.Pointwise.{pointwise}
use Rattle.std.specs.Prelude.{eqb}
use Rattle.std.specs.Char.{IsAsciiDigit, IsNotAsciiDigit}
use Rattle.std.proofs.lemmas.Bool.Decides.{nat_tests}
use Rattle.lines.specs.Input.{says, ill_formed, value_from, line_of}

-- ---- a number: byte i, v said before it
-- the text ends
pub value_short : (text : List ℕ) (v i : ℕ) → length text ≤ i → value_from i v (drop i text) ≡ ill_formed
unfolding value_from
value_short text v i h = rw (drop_of_length-le text h)

module _ (text : List ℕ) (v i : ℕ) (h : i < length text) where
  -- the line ends: with no digit, or with some
  pub value_bare : get_or text i 0 ≡ 10 → i ≡ 0 → value_from i v (drop i text) ≡ ill_formed
  unfolding value_from
  value_bare e k = rw (drop-cons text i 0 h) (grind (arith, nat_tests))

  pub value_end : get_or text i 0 ≡ 10 → (i ≡ 0 → ⊥) → value_from i v (drop i text) ≡ says v (drop (i + 1) text)
  unfolding value_from
  value_end e k = rw (drop-cons text i 0 h, add-one) (grind (arith, nat_tests))

  module _ (n : get_or text i 0 ≡ 10 → ⊥) where
    -- a sixth byte, or no digit
    pub value_long : 5 ≤ i → value_from i v (drop i text) ≡ ill_formed
    unfolding value_from
    value_long l = rw (drop-cons text i 0 h) (grind (arith, nat_tests))

    pub value_other : IsNotAsciiDigit (get_or text i 0) → value_from i v (drop i text) ≡ ill_formed
    unfolding value_from
    value_other l = rw (drop-cons text i 0 h) (grind (arith, nat_tests))

    -- over 16 bits
    pub value_large : 65535 < v * 10 + (get_or text i 0 - 48) → value_from i v (drop i text) ≡ ill_formed
    unfolding value_from
    value_large l = rw (drop-cons text i 0 h) (grind (arith, nat_tests))

    -- a digit
    pub value_more : (w : ℕ) → i < 5 → IsAsciiDigit (get_or text i 0) → w ≡ v * 10 + (get_or text i 0 - 48) → w ≤ 65535
        → value_from i v (drop i text) ≡ value_from (i + 1) w (drop (i + 1) text)
    unfolding value_from
    value_more w m d e o = rw (drop-cons text i 0 h, add-one, e) (grind (arith, nat_tests))

-- ---- a name
-- other bytes
pub line_other : (name text : List ℕ) → pointwise eqb (take (length name) text) name ≡ false → ill_formed ≡ line_of name text
unfolding line_of
line_other [] text e = cc
line_other (c ∷ name) [] e = refl
line_other (c ∷ name) (x ∷ text) e = go (line_other name text) (eqb x c) e
  where
    go : (pointwise eqb (take (length name) text) name ≡ false → ill_formed ≡ line_of name text) → (b : Bool) → b && pointwise eqb (take (length name) text) name ≡ false
        → ill_formed ≡ cond b (line_of name text) ill_formed
    go rest true h = rest h
    go rest false h = refl

-- the name
pub line_named : (name text : List ℕ) → pointwise eqb (take (length name) text) name ≡ true → value_from 0 0 (drop (length name) text) ≡ line_of name text
unfolding line_of
line_named [] text e = refl
line_named (c ∷ name) [] e = cc
line_named (c ∷ name) (x ∷ text) e = go (line_named name text) (eqb x c) e
  where
    go : (pointwise eqb (take (length name) text) name ≡ true → value_from 0 0 (drop (length name) text) ≡ line_of name text) → (b : Bool)
        → b && pointwise eqb (take (length name) text) name ≡ true → value_from 0 0 (drop (length name) text) ≡ cond b (line_of name text) ill_formed
    go rest true h = rest h
    go rest false h = cc

-- ---- a part of a text from byte n on, as the code lends it
pub rest_is : (text : List ℕ) (n : ℕ) → take (length text - n) (drop n text) ≡ drop n text
rest_is text n = take_all (length text - n) (drop n text) (rw length-drop (omega arith))
