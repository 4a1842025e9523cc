-- Lists of checks: whatever holds of each refusal, and of what a command does where no check applies, holds of its plan. One law for every command.
use Rattle.std.specs.Prelude.{◌≡◌, refl, Bool, true, false, cond, List, [], ◌∷◌, ℕ, ◌≤◌, eqb, leb}
use Rattle.std.proofs.Common.{inl, inr, arith, leb-true, ne_eqb}
use Rattle.model.specs.Lists.{all}
use Rattle.model.specs.Answers.{in_table, refused}
use Rattle.model.specs.Checkpoint.{Found, nothing, at, is_nothing, where_found}
use Rattle.model.specs.World.{World, Plan, refuse}
use Rattle.model.specs.Order.{Check, first_number, checked}
use Rattle.arrays.specs.Tests.{Is, eqb_cases, and_left, and_right, clash}

-- ---- numbers of the table
-- every check has one
unfoldable pub numbered : List Check → Bool
numbered cs = all (λ (c : Check). in_table c.number) cs

pub table_least : (n : ℕ) → in_table n ≡ true → 1 ≤ n
table_least n t = leb-true 1 n (and_left (leb 1 n) (leb n 17) t)

pub table_most : (n : ℕ) → in_table n ≡ true → n ≤ 17
table_most n t = leb-true n 17 (and_right (leb 1 n) (leb n 17) t)

-- it is not 0
pub table_some : (n : ℕ) → in_table n ≡ true → eqb n 0 ≡ false
table_some n t = let l = table_least n t in ne_eqb n 0 (λ q. omega (arith, l, q))

-- and refuses
pub table_refuses : (n : ℕ) → in_table n ≡ true → refused n ≡ true
unfolding refused
table_refuses n t = let m = table_most n t in rw (table_some n t, ne_eqb n 255 (λ q. omega (arith, m, q)))

-- ---- where no check applies
-- B follows from none of them applying
unfoldable pub Unless : List Check → Type 0 → Type 0
Unless [] B = B
Unless (c ∷ cs) B = c.when ≡ false → Unless cs B

-- whatever A says of a refusal, and of p where no check applies, it says of the plan
pub by_checks : (A : Plan → Type 0) (w : World) (p : Plan) (cs : List Check) → numbered cs ≡ true → ((n : ℕ) → refused n ≡ true → A (refuse w n))
    → Unless cs (A p) → A (checked cs w p)
unfolding numbered all first_number Unless
by_checks A w p [] t r a = a
by_checks A w p (c ∷ cs) t r a = go c.when a (by_checks A w p cs (and_right (in_table c.number) (numbered cs) t) r)
  where
    own : in_table c.number ≡ true
    own = and_left (in_table c.number) (numbered cs) t

    go : (b : Bool) → (b ≡ false → Unless cs (A p)) → (Unless cs (A p) → A (checked cs w p))
        → A (cond (eqb (cond b c.number (first_number cs)) 0) p (refuse w (cond b c.number (first_number cs))))
    go true a rest = rw (table_some c.number own) (r c.number (table_refuses c.number own))
    go false a rest = rest (a refl)

-- none applies where the first number is 0
pub none_applies : {B : Type 0} (cs : List Check) → numbered cs ≡ true → first_number cs ≡ 0 → Unless cs B → B
unfolding numbered all first_number Unless
none_applies [] t z b = b
none_applies {B} (c ∷ cs) t z b = go c.when z b (none_applies cs (and_right (in_table c.number) (numbered cs) t))
  where
    go : (b : Bool) → cond b c.number (first_number cs) ≡ 0 → (b ≡ false → Unless cs B) → (first_number cs ≡ 0 → Unless cs B → B) → B
    go true z b rest = let l = table_least c.number (and_left (in_table c.number) (numbered cs) t) in absurd (omega (arith, l, z))
    go false z b rest = rest z (b refl)

-- so it is where the plan is done
pub done_first : (cs : List Check) (w : World) (p : Plan) → (checked cs w p).answer ≡ 0 → first_number cs ≡ 0
done_first cs w p e = go (eqb_cases (first_number cs) 0)
  where
    go : Is (first_number cs) 0 → first_number cs ≡ 0
    go (inl q) = q.0
    go (inr q) = rw q.1 at e

-- a check of another number than the first that applies does not apply
pub past_first : (n : ℕ) (c : Check) (cs : List Check) → (c.number ≡ n → ⊥) → first_number (c ∷ cs) ≡ n → (c.when ≡ false) × (first_number cs ≡ n)
unfolding first_number
past_first n c cs other e = go c.when e
  where
    go : (b : Bool) → cond b c.number (first_number cs) ≡ n → (b ≡ false) × (first_number cs ≡ n)
    go true e = absurd (other e)
    go false e = (refl, e)

-- and else it is one of the table
pub first_known : (cs : List Check) → numbered cs ≡ true → (first_number cs ≡ 0 → ⊥) → in_table (first_number cs) ≡ true
unfolding numbered all first_number
first_known [] t n = absurd (n refl)
first_known (c ∷ cs) t n = go c.when n (first_known cs (and_right (in_table c.number) (numbered cs) t))
  where
    go : (b : Bool) → (cond b c.number (first_number cs) ≡ 0 → ⊥) → ((first_number cs ≡ 0 → ⊥) → in_table (first_number cs) ≡ true)
        → in_table (cond b c.number (first_number cs)) ≡ true
    go true n rest = and_left (in_table c.number) (numbered cs) t
    go false n rest = rest n

-- ---- what was looked for and found
pub found_at : (f : Found) → is_nothing f ≡ false → f ≡ at (where_found f)
found_at nothing e = clash refl e
found_at (at k) e = refl
