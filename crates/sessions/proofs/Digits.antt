-- The digits of a session, put from the last one on. Assumes nothing.
use mathlib.Core.Path.{◌≡◌, sym, ap, ◌∙◌}
use mathlib.Core.List.{List, [], ◌∷◌, ◌++◌, append_assoc, append-nil}
use Prim.Native.Nat.{ℕ, zero, suc, ◌+◌, ◌-◌, ◌/◌, ◌%◌, ◌≤◌, ◌<◌}
use native.Mathlib.Omega.{arith}
use lib.ListN.{length, take, drop, set, length-take, drop_of_length-le}
use lib.Seq.{drop-cons, lt-length-set, get_or-set_same, take-set-lt, drop-set-lt}
use Rattle.model.specs.Sessions.{session}

-- digit i of a list of at least n
digit_put : (n : ℕ) (list : List ℕ) (i v : ℕ) → i < n → n ≤ length list → drop i (take n (set list i v)) ≡ v ∷ drop (suc i) (take n list)
digit_put n list i v l m =
    let h : i < length (take n list) = rw length-take (omega arith) in
    rw (
      take-set-lt n list i v l,
      drop-cons (set (take n list) i v) i 0 (lt-length-set (take n list) i v h),
      get_or-set_same (take n list) i v 0 h,
      drop-set-lt (suc i) (take n list) i v (omega arith),
    )

-- those that are left and those put are the session: a turn keeps it
pub digit_again : (n : ℕ) (list all : List ℕ) (i rest : ℕ) → 0 < i → i ≤ n → n ≤ length list → session i rest ++ drop i (take n list) ≡ all
    → session (i - 1) (rest / 10) ++ drop (i - 1) (take n (set list (i - 1) (rest % 10 + 1))) ≡ all
unfolding session
digit_again n list all zero rest some l m e = absurd (omega arith)
digit_again n list all (suc i) rest some l m e =
    let one : suc i - 1 ≡ i = omega arith in
    let v : rest % 10 + 1 ≡ 1 + rest % 10 = omega arith in
    rw (one, v, digit_put n list i (1 + rest % 10) (omega arith) m) (sym (append_assoc (session i (rest / 10)) ((1 + rest % 10) ∷ []) (drop (suc i) (take n list))) ∙ e)

-- none is put
pub digits_start : (n : ℕ) (list s : List ℕ) → s ++ drop n (take n list) ≡ s
digits_start n list s = ap (λ (t : List ℕ). s ++ t) (drop_of_length-le (take n list) {i = n} (rw length-take (omega arith))) ∙ append-nil s

-- none is left
pub digits_done : (n : ℕ) (list all : List ℕ) (i rest : ℕ) → i ≤ 0 → session i rest ++ drop i (take n list) ≡ all → take n list ≡ all
unfolding session
digits_done n list all zero rest h e = e
digits_done n list all (suc i) rest h e = absurd (omega arith)
