-- The zones that a checkpoint leaves list no more blocks than those before it: their counts are in range. Assumes nothing.
use mathlib.Core.Path.{◌≡◌, refl, ◌∙◌}
use mathlib.Core.Bool.{Bool, true, false, not, cond, ◌&&◌}
use mathlib.Core.List.{List, [], ◌∷◌, ◌++◌}
use Prim.Native.Nat.{ℕ, zero, suc, ◌+◌, ◌<◌}
use native.Mathlib.Omega.{arith}
use lib.ListN.{length, length-append, length-take}
use lib.Dec.{eqb, ltb}
use borrow.Author.Tests.{eqb-false}
use Rattle.model.specs.Lists.{those, keep}
use Rattle.model.specs.Zones.{available_of, unavailable_of, free_of, zones_of, zones_taken, is_full, scan_in, free_index, take_one, staying, leaving, holds_wanted, judged, slide}
use Rattle.model.specs.Zones as zones
use Rattle.model.specs.declared.Geometry.{Geometry}
use Rattle.model.specs.declared.Place.{Place}
use Rattle.model.specs.declared.Zones.{Zones}
use Rattle.blocks.specs.Blocks.{Counted}
use Rattle.refill.proofs.Free.{index_inside, length_without}
use Rattle.refill.proofs.Taking.{refill_fits}
use Rattle.zones.specs.Judging.{Ready}
use Rattle.zones.proofs.Picks.{length_those}
use Rattle.zones.proofs.Listed.{ready_listed}
use Rattle.zones.proofs.Sliding.{slide_fits}

-- ---- what is listed stays as much
-- the blocks that are available or free
abbrev pub listed_by : zones.Taken → ℕ
listed_by t = length t.available + length t.free

take_same : (g : Geometry) (t : zones.Taken) → 0 < length t.free → listed_by (take_one g t) ≡ listed_by t
unfolding take_one
take_same g t h =
    let w = length_without (free_index t.pointer t.free) t.free (index_inside t.pointer t.free h) in
    simp length-append (omega arith)

-- a refill leaves as many listed
pub refill_same : (g : Geometry) (n : ℕ) (t : zones.Taken) → listed_by (zones.refill g n t) ≡ listed_by t
unfolding zones.refill
refill_same g zero t = refl
refill_same g (suc n) t = go (ltb (length t.available) 3) (eqb (length t.free) 0) refl (refill_same g n t) (refill_same g n (take_one g t))
  where
    some : (m : ℕ) → (m ≡ 0 → ⊥) → 0 < m
    some m z = omega arith

    go : (a b : Bool) → eqb (length t.free) 0 ≡ b → listed_by (zones.refill g n t) ≡ listed_by t → listed_by (zones.refill g n (take_one g t)) ≡ listed_by (take_one g t)
        → listed_by (zones.refill g n (cond (a && not b) (take_one g t) t)) ≡ listed_by t
    go true true e h k = h
    go true false e h k = k ∙ take_same g t (some (length t.free) (eqb-false (length t.free) 0 e))
    go false b e h k = h

-- those that pass a test and those that do not
both_length : (q : ℕ → Bool) (xs : List ℕ) → length (those (λ (x : ℕ). not (q x)) xs) + length (those q xs) ≡ length xs
unfolding those
both_length q [] = refl
both_length q (x ∷ xs) = go (q x) (both_length q xs)
  where
    go : (t : Bool) → length (those (λ (y : ℕ). not (q y)) xs) + length (those q xs) ≡ length xs
        → length (keep (not t) (x ∷ []) ++ those (λ (y : ℕ). not (q y)) xs) + length (keep t (x ∷ []) ++ those q xs) ≡ suc (length xs)
    go true h = omega arith
    go false h = omega arith

-- ---- the counts of the zones that a checkpoint leaves
pub slide_counted : (g : Geometry) (xs : List ℕ) (ps : List Place) (z : Zones) → Ready g xs z → Counted (slide g xs ps z)
unfolding slide zones_taken zones_of staying leaving judged
slide_counted g xs ps z h =
    let p = g.pages in
    let full = is_full xs p in
    let stay = those (λ (b : ℕ). not (full b)) (available_of z) in
    let leave = those full (available_of z) in
    let t : zones.Taken = record { available = stay; free = free_of z; pointer = z.pointer } in
    let few = (refill_fits g 3 t (slide_fits g xs z h)).few in
    let same = refill_same g 3 t in
    let kept = length_those (holds_wanted xs p ps (scan_in xs p stay)) (unavailable_of z ++ leave) in
    let all = length-append (unavailable_of z) leave in
    let both = both_length full (available_of z) in
    let counts = (ready_listed g xs z h).counts in
    let a = length-take z.na z.available in
    let u = length-take z.nu z.unavailable in
    let f = length-take z.nf z.free in
    record { available = few; all = omega arith }
