-- The commands by their numbers, as the code tells them apart. Assumes nothing.
use mathlib.Core.Path.{◌≡◌, refl, subst}
use Prim.Native.Nat.{ℕ, zero, suc, ◌+◌, ◌-◌, ◌/◌, ◌%◌, ◌≤◌, ◌<◌}
use native.Mathlib.Omega.{arith}
use Rattle.model.specs.Commands.{begin, write, commit, abort}
use Rattle.model.specs.Sessions.{zeros, commands, command_of}

-- a law of the numbers from n on, fewer than m, is one of each: the first is n
from : (n m : ℕ) (P : ℕ → Type 0) → ((j : ℕ) → j < m → P (n + j)) → (c : ℕ) → n ≤ c → c < n + m → P c
from n m P f c l h = let e : n + (c - n) ≡ c = omega arith in subst P e (f (c - n) (omega arith))

pub begin_number : (c : ℕ) → 1 ≤ c → c < 3 → command_of c ≡ begin c
unfolding command_of commands
begin_number = from 1 2 (λ (c : ℕ). command_of c ≡ begin c) go
  where
    go : (j : ℕ) → j < 2 → command_of (1 + j) ≡ begin (1 + j)
    go zero h = refl
    go (suc zero) h = refl
    go (suc (suc j)) h = absurd (omega arith)

pub write_number : (c : ℕ) → 3 ≤ c → c < 7 → command_of c ≡ write ((c - 1) / 2) ((c - 1) % 2) zeros
unfolding command_of commands
write_number = from 3 4 (λ (c : ℕ). command_of c ≡ write ((c - 1) / 2) ((c - 1) % 2) zeros) go
  where
    go : (j : ℕ) → j < 4 → command_of (3 + j) ≡ write ((3 + j - 1) / 2) ((3 + j - 1) % 2) zeros
    go zero h = refl
    go (suc zero) h = refl
    go (suc (suc zero)) h = refl
    go (suc (suc (suc zero))) h = refl
    go (suc (suc (suc (suc j)))) h = absurd (omega arith)

pub commit_number : (c : ℕ) → 7 ≤ c → c < 9 → command_of c ≡ commit (c - 6)
unfolding command_of commands
commit_number = from 7 2 (λ (c : ℕ). command_of c ≡ commit (c - 6)) go
  where
    go : (j : ℕ) → j < 2 → command_of (7 + j) ≡ commit (7 + j - 6)
    go zero h = refl
    go (suc zero) h = refl
    go (suc (suc j)) h = absurd (omega arith)

pub abort_number : (c : ℕ) → 9 ≤ c → c < 11 → command_of c ≡ abort (c - 8)
unfolding command_of commands
abort_number = from 9 2 (λ (c : ℕ). command_of c ≡ abort (c - 8)) go
  where
    go : (j : ℕ) → j < 2 → command_of (9 + j) ≡ abort (9 + j - 8)
    go zero h = refl
    go (suc zero) h = refl
    go (suc (suc j)) h = absurd (omega arith)

-- what holds of each of the ten
pub ten : (P : ℕ → Type 0) → P 1 → P 2 → P 3 → P 4 → P 5 → P 6 → P 7 → P 8 → P 9 → P 10 → (c : ℕ) → (1 ≤ c) × (c ≤ 10) → P c
ten P a b d e f g h i j k c r = from 1 10 P go c r.0 (omega (arith, r.1))
  where
    go : (n : ℕ) → n < 10 → P (1 + n)
    go zero l = a
    go (suc zero) l = b
    go (suc (suc zero)) l = d
    go (suc (suc (suc zero))) l = e
    go (suc (suc (suc (suc zero)))) l = f
    go (suc (suc (suc (suc (suc zero))))) l = g
    go (suc (suc (suc (suc (suc (suc zero)))))) l = h
    go (suc (suc (suc (suc (suc (suc (suc zero))))))) l = i
    go (suc (suc (suc (suc (suc (suc (suc (suc zero)))))))) l = j
    go (suc (suc (suc (suc (suc (suc (suc (suc (suc zero))))))))) l = k
    go (suc (suc (suc (suc (suc (suc (suc (suc (suc (suc n)))))))))) l = absurd (omega arith)
