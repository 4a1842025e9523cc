-- The newest complete checkpoint: what a turn of the search shows, and that what is found lies in the array. Assumes nothing.
use mathlib.Core.Path.{◌≡◌, ap, sym, subst, ◌∙◌}
use mathlib.Core.Bool.{Bool, true, false, cond, ◌&&◌}
use mathlib.Core.List.{List}
use Prim.Native.Nat.{ℕ, zero, suc, ◌+◌, ◌-◌, ◌*◌, ◌≤◌, ◌<◌}
use native.Mathlib.Omega.{arith}
use Rattle.model.specs.Checkpoint as model
use Rattle.model.specs.Checkpoint.{complete_at, newer, newest_from, newest}
use Rattle.checkpoint.specs.Found.{FoundIn}

-- ---- the search: X is what all n pages from page k on give
pub found_start : (xs : List ℕ) (m k n : ℕ) (best : model.Found) → newest_from xs m k n best ≡ newest_from xs m (k + 0) (n - 0) best
found_start xs m k n best =
    let a : k ≡ k + 0 = omega arith in
    let b : n ≡ n - 0 = omega arith in
    ap (λ (j : ℕ). newest_from xs m j n best) a ∙ ap (λ (j : ℕ). newest_from xs m (k + 0) j best) b

pub found_more : {X : model.Found} (xs : List ℕ) (m k n i : ℕ) (best next : model.Found) → i < n → X ≡ newest_from xs m (k + i) (n - i) best
    → next ≡ cond (complete_at xs m (k + i) && newer xs (k + i) best) (model.at (k + i)) best → X ≡ newest_from xs m (k + (i + 1)) (n - (i + 1)) next
unfolding newest_from
found_more xs m k n i best next h e f =
    let a : n - i ≡ suc (n - (i + 1)) = omega arith in
    let b : suc (k + i) ≡ k + (i + 1) = omega arith in
    let new : model.Found = cond (complete_at xs m (k + i) && newer xs (k + i) best) (model.at (k + i)) best in
    e ∙ ap (λ (j : ℕ). newest_from xs m (k + i) j best) a ∙ ap (λ (j : ℕ). newest_from xs m j (n - (i + 1)) new) b ∙ ap (newest_from xs m (k + (i + 1)) (n - (i + 1))) (sym f)

pub found_end : {X : model.Found} (xs : List ℕ) (m k n i : ℕ) (best : model.Found) → n ≤ i → X ≡ newest_from xs m (k + i) (n - i) best → X ≡ best
unfolding newest_from
found_end xs m k n i best h e = let z : n - i ≡ 0 = omega arith in e ∙ ap (λ (j : ℕ). newest_from xs m (k + i) j best) z

-- ---- what is found lies in an array of l bytes
in_either : (l : ℕ) (t : Bool) (f g : model.Found) → FoundIn l f → FoundIn l g → FoundIn l (cond t f g)
in_either l true f g a b = a
in_either l false f g a b = b

pub in_same : (l : ℕ) (f g : model.Found) → f ≡ g → FoundIn l g → FoundIn l f
in_same l f g e h = subst (λ (u : model.Found). FoundIn l u) (sym e) h

-- after one page, and after n
pub in_better : (l k : ℕ) (t : Bool) (next best : model.Found) → next ≡ cond t (model.at k) best → k * 528 + 528 ≤ l → FoundIn l best → FoundIn l next
in_better l k t next best e h b = in_same l next (cond t (model.at k) best) e (in_either l t (model.at k) best h b)

pub in_search : (xs : List ℕ) (l m k n : ℕ) (best : model.Found) → k * 528 + n * 528 ≤ l → FoundIn l best → FoundIn l (newest_from xs m k n best)
unfolding newest_from
in_search xs l m k zero best h b = b
in_search xs l m k (suc n) best h b =
    in_search xs l m (suc k) n (cond (complete_at xs m k && newer xs k best) (model.at k) best) (omega arith)
    (in_either l (complete_at xs m k && newer xs k best) (model.at k) best (omega arith) b)

-- the newest checkpoint ends within the two front blocks
pub newest_fits : (xs : List ℕ) (m p k : ℕ) → m ≤ p → newest xs m p ≡ model.at k → k + m < 2 * p
unfolding newest
newest_fits xs m p k h e =
    let l : ℕ = (p + (p - m)) * 528 in
    let first = in_search xs l m 0 (p - m) model.nothing (omega arith) (omega arith) in
    let last : k * 528 + 528 ≤ l = in_same l (model.at k) _ (sym e) (in_search xs l m p (p - m) (newest_from xs m 0 (p - m) model.nothing) (omega arith) first) in
    omega arith
