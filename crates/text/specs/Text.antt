-- Text: numbers in decimal, lists with commas, and what it is to put a text into a buffer.
use Rattle.std.specs.List.{AllZip}
use Rattle.std.specs.Prelude.{◌≡◌, ℕ, zero, suc, ◌+◌, ◌*◌, ◌/◌, ◌%◌, ◌≤◌, cond, List, [], ◌∷◌, ◌++◌, length, take, eqb, ltb}

-- a number in decimal, of at most k digits: the digits of a tenth of it, if there are any, and its last
unfoldable pub digits_in : ℕ → ℕ → List ℕ
digits_in zero n = []
digits_in (suc k) n = cond (ltb n 10) [] (digits_in k (n / 10)) ++ ((48 + n % 10) ∷ [])

-- a number in decimal
unfoldable pub decimal : ℕ → List ℕ
decimal n = digits_in 20 n

-- "2,3,4": a comma before each number but the first; i of them stand before these
abbrev pub comma : ℕ → List ℕ
comma i = cond (eqb i 0) [] (44 ∷ [])

-- numbers in decimal
unfoldable pub listed : ℕ → List ℕ → List ℕ
listed i [] = []
listed i (n ∷ ns) = comma i ++ decimal n ++ listed (suc i) ns

-- ---- a text put into a buffer behind its first `at` bytes: `end` bytes then stand there, at most `most` of them new
pub record Put (before : List ℕ) (at : ℕ) (text : List ℕ) (most : ℕ) (after : List ℕ) (end : ℕ) : Type 0 where
  pub is : take end after ≡ take at before ++ text
  pub far : end ≤ at + most
  pub same : length after ≡ length before

-- ---- the items of a list put so, each of them a number by R
pub record PutList {X : Type 0} (R : X → ℕ → Type 0) (before : List ℕ) (at : ℕ) (items : List X) (after : List ℕ) (end : ℕ) : Type 0 where
  pub numbers : List ℕ
  pub are : AllZip R items numbers
  pub put : Put before at (listed 0 numbers) (21 * length items) after end
