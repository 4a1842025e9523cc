-- The identifiers of the places say which is active: `active_in` of `ids_of` is `active`; and which place is found. Assumes nothing.
use mathlib.Core.Path.{◌≡◌, refl, ap, ◌∙◌}
use mathlib.Core.Bool.{Bool, true, false, not, cond, ◌&&◌, ◌||◌}
use mathlib.Core.Logic.{inl, inr}
use mathlib.Core.List.{List, [], ◌∷◌}
use Prim.Native.Nat.{ℕ, zero, suc, ◌+◌, ◌≤◌, ◌<◌}
use native.Mathlib.Omega.{arith}
use denote.Param.Members.{Mut}
use lib.ListN.{length, get_or}
use lib.Dec.{eqb, ltb}
use borrow.Author.Tests.{lt-ltb, le-ltb, ltb-true, ltb-false}
use Rattle.std.specs.Prelude.{Option, Some, None, is_some}
use Rattle.std.specs.Fn.{Called}
use Rattle.std.specs.Array.{IsFromFnResultFrom}
use Rattle.arrays.specs.Tests.{Is, eqb_cases}
use Rattle.model.specs.Transactions.{place_of}
use Rattle.model.specs.Lists.{any, find}
use Rattle.model.specs.Zones.{has_id, active}
use Rattle.model.specs.declared.Place.{Place}
use Rattle.places.specs.Ids.{ids_of, is_id, active_in, place_at}

pub length_ids : (ps : List Place) → length (ids_of ps) ≡ length ps
unfolding ids_of
length_ids [] = refl
length_ids (p ∷ ps) = ap suc (length_ids ps)

pub ids_at : (ps : List Place) (i : ℕ) (d : Place) → i < length ps → get_or (ids_of ps) i 0 ≡ (get_or ps i d).id
unfolding ids_of
ids_at [] i d h = absurd (omega arith)
ids_at (p ∷ ps) zero d h = refl
ids_at (p ∷ ps) (suc i) d h = ids_at ps i d (omega arith)

any_ids : (id : ℕ) (ps : List Place) → any (is_id id) (ids_of ps) ≡ any (has_id id) ps
unfolding any ids_of
any_ids id [] = refl
any_ids id (p ∷ ps) = ap (λ (t : Bool). eqb p.id id || t) (any_ids id ps)

pub active_ids : (id : ℕ) (ps : List Place) → active_in id (ids_of ps) ≡ active id ps
unfolding active_in active
active_ids id ps = ap (λ (t : Bool). not (eqb id 0) && t) (any_ids id ps)

-- some element passes where the first that does has an index of the list
pub find_any : {A : Type 0} (p : A → Bool) (xs : List A) → ltb (find p xs) (length xs) ≡ any p xs
unfolding find any
find_any p [] = refl
find_any p (x ∷ xs) = go (p x) (ltb (find p xs) (length xs)) refl (find_any p xs)
  where
    go : (t u : Bool) → ltb (find p xs) (length xs) ≡ u → u ≡ any p xs → ltb (cond t 0 (suc (find p xs))) (suc (length xs)) ≡ (t || any p xs)
    go true u e h = lt-ltb 0 (suc (length xs)) (omega arith)
    go false true e h = let l = ltb-true (find p xs) (length xs) e in lt-ltb (suc (find p xs)) (suc (length xs)) (omega arith) ∙ h
    go false false e h = let l = ltb-false (find p xs) (length xs) e in le-ltb (suc (find p xs)) (suc (length xs)) (omega arith) ∙ h

-- an identifier is active where it has a place
pub place_active : (id : ℕ) (ps : List Place) → length ps ≡ 8 → is_some (place_at (place_of ps id)) ≡ active id ps
unfolding place_at place_of active
place_active id ps e = go (eqb id 0) (find (has_id id) ps) (any (has_id id) ps) (rw e at (find_any {A = Place} (has_id id) ps))
  where
    some : (t : Bool) (n : ℕ) → is_some (cond t (Some n) None) ≡ t
    some true n = refl
    some false n = refl

    go : (b : Bool) (n : ℕ) (u : Bool) → ltb n 8 ≡ u → is_some (cond (ltb (cond b 8 n) 8) (Some (cond b 8 n)) None) ≡ (not b && u)
    go true n u h = refl
    go false n u h = some (ltb n 8) n ∙ h

-- what is found by its index
pub place_known : (n i : ℕ) → Some i ≡ place_at n → (i ≡ n) × (n < 8)
unfolding place_at
place_known n i e = go (ltb n 8) refl e
  where
    go : (t : Bool) → ltb n 8 ≡ t → Some i ≡ cond t (Some n) None → (i ≡ n) × (n < 8)
    go true l e = (cc, ltb-true n 8 l)
    go false l e = absurd (cc)

pub place_none : (n : ℕ) → None ≡ place_at n → 8 ≤ n
unfolding place_at
place_none n e = go (ltb n 8) refl e
  where
    go : (t : Bool) → ltb n 8 ≡ t → ◌≡◌ {A = Option ℕ} None (cond t (Some n) None) → 8 ≤ n
    go true l e = absurd (cc)
    go false l e = ltb-false n 8 l

-- ---- an array that a closure makes, where each call gives what v says and leaves the closure as it was
module _ {F : Type 0} (g : Mut F (ℕ × Unit {0}) ℕ) (v : ℕ → ℕ) (f : F) (ys : List ℕ) (gives : (x y : ℕ) (q : F) → Called g f (x, tt) y q → (q ≡ f) × (y ≡ v x)) where
  pub made_at : (i n k : ℕ) → IsFromFnResultFrom g f ys i n → i ≤ k → k < i + n → get_or ys k 0 ≡ v k
  made_at i zero k r l h = absurd (omega arith)
  made_at i (suc n) k r l h = go (eqb_cases i k) (λ m. made_at (i + 1) n k (rw own.0 at r.4) m (omega arith))
    where
      own : (r.0 ≡ f) × (r.1 ≡ v i)
      own = gives i r.1 r.0 r.3

      go : Is i k → (i + 1 ≤ k → get_or ys k 0 ≡ v k) → get_or ys k 0 ≡ v k
      go (inl e) later = rw (← e.0) (r.2.1 0 ∙ own.1)
      go (inr e) later = let d = e.0 in later (omega (arith, d))
