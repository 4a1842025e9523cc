-- A place that a command looks for, as an index or a refusal. Assumes nothing.
use mathlib.Core.Path.{◌≡◌, refl}
use mathlib.Core.Bool.{Bool, true, false, cond}
use Prim.Native.Nat.{ℕ, ◌≤◌, ◌<◌}
use lib.Dec.{leb, ltb}
use borrow.Author.Tests.{le-leb, lt-leb, ltb-true, ltb-false}
use Rattle.std.specs.Prelude.{Result, Ok, Err, Option, Some, None, IfOk}
use Rattle.std.specs.Option.{ok_or}
use Rattle.model.specs.Answers.{refusal_number}
use Rattle.model.specs.declared.Refusal.{Refusal}
use Rattle.answers.specs.Refusals.{refusal_of}
use Rattle.places.specs.Ids.{place_at}

module _ (n : ℕ) (why : Refusal) where
  -- the check that there is one
  pub found_refuses : refusal_of (ok_or (place_at n) why) ≡ cond (leb 8 n) (refusal_number why) 0
  unfolding place_at
  found_refuses = go (ltb n 8) refl
    where
      go : (t : Bool) → ltb n 8 ≡ t → refusal_of (ok_or (cond t (Some n) None) why) ≡ cond (leb 8 n) (refusal_number why) 0
      go true e = rw (lt-leb 8 n (ltb-true n 8 e))
      go false e = rw (le-leb 8 n (ltb-false n 8 e))

  -- where there is, its index
  pub found_place : IfOk (ok_or (place_at n) why) (λ (i : ℕ). (i ≡ n) × (i < 8))
  unfolding place_at
  found_place = go (ltb n 8) refl
    where
      go : (t : Bool) → ltb n 8 ≡ t → IfOk (ok_or (cond t (Some n) None) why) (λ (i : ℕ). (i ≡ n) × (i < 8))
      go true e = (refl, ltb-true n 8 e)
      go false e = tt

  -- the same of one that was found, and of one that was not
  pub found_index : (i : ℕ) → Ok i ≡ ok_or (place_at n) why → (i ≡ n) × (i < 8)
  unfolding place_at
  found_index i e = go (ltb n 8) refl e
    where
      go : (t : Bool) → ltb n 8 ≡ t → Ok i ≡ ok_or (cond t (Some n) None) why → (i ≡ n) × (i < 8)
      go true l e = let l' = ltb-true n 8 l in let same : i ≡ n = cc in (same, rw same l')
      go false l e = absurd (cc)

  pub found_none : (e : Refusal) → ◌≡◌ {A = Result ℕ Refusal} (Err e) (ok_or (place_at n) why) → (e ≡ why) × (8 ≤ n)
  unfolding place_at
  found_none e d = go (ltb n 8) refl d
    where
      go : (t : Bool) → ltb n 8 ≡ t → ◌≡◌ {A = Result ℕ Refusal} (Err e) (ok_or (cond t (Some n) None) why) → (e ≡ why) × (8 ≤ n)
      go true l d = absurd (cc)
      go false l d = (cc, ltb-false n 8 l)
