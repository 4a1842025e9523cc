-- Transaction places in range: each by itself, no identifier twice; what one new place leaves of that, and where an identifier is found.
use Rattle.std.specs.Prelude.{◌≡◌, refl, ◌≢◌, true, false, not, cond, ◌&&◌, ◌||◌, ℕ, suc, ◌<◌, List, [], ◌∷◌, length, set, get_or, eqb, leb}
use Rattle.std.proofs.Common.{sym, ap, ◌∙◌, inl, inr, arith, length-set, get_or-set_same, get_or-set_other, eqb-true, eq-eqb, ne_eqb, leb-false, le-leb}
use Rattle.std.proofs.lemmas.Bool.{eqb-false, not-true}
use Rattle.model.specs.Lists.{all, any, all_tails, find}
use Rattle.model.specs.Zones.{has_id, active}
use Rattle.model.specs.Frame.{no_place, free_place, bad_id, most_pages, place_ok, alone, places_ok}
use Rattle.model.specs.Transactions.{place_of, begun}
use Rattle.model.specs.declared.Geometry.{Geometry}
use Rattle.model.specs.declared.Place.{Place}
use Rattle.arrays.specs.Tests.{Is, eqb_cases, clash, and_both, or_left, or_right, none_all, all_at, any_at, any_find, find_passes, all_by_at}

-- ---- definitions
-- place i
abbrev pub place_at : List Place → ℕ → Place
place_at ps i = get_or ps i no_place

-- each place is in range, and no two that are not free share an identifier
pub record PlacesGood (g : Geometry) (ps : List Place) : Type 0 where
  pub ok : (i : ℕ) → i < length ps → place_ok g (place_at ps i) ≡ true
  pub apart : (i j : ℕ) → i < length ps → j < length ps → i ≢ j → (place_at ps i).id ≢ 0 → (place_at ps j).id ≢ (place_at ps i).id

-- ---- laws
apart_alone : (p : Place) (ps : List Place) → (p.id ≢ 0 → (j : ℕ) → j < length ps → (place_at ps j).id ≢ p.id) → alone p ps ≡ true
unfolding alone
apart_alone p ps h = go (eqb_cases p.id 0)
  where
    go : Is p.id 0 → (eqb p.id 0 || all (λ (q : Place). not (has_id p.id q)) ps) ≡ true
    go (inl q) = or_left (eqb p.id 0) _ q.1
    go (inr q) = or_right (eqb p.id 0) _ (all_by_at (λ (r : Place). not (has_id p.id r)) no_place ps
        (λ j l. ap not (ne_eqb (place_at ps j).id p.id (h q.0 j l))))

pub places_ok_law : (g : Geometry) (ps : List Place) → PlacesGood g ps → places_ok g ps ≡ true
unfolding places_ok all_tails
places_ok_law g [] h = refl
places_ok_law g (p ∷ ps) h =
    and_both (place_ok g p && alone p ps) _
    (and_both (place_ok g p) (alone p ps) (h.ok 0 (omega arith))
    (apart_alone p ps (λ n j l. h.apart 0 (suc j) (omega arith) (omega arith) (λ q. absurd (omega arith)) n)))
    (places_ok_law g ps (record {
      ok = λ i l. h.ok (suc i) (omega arith);
      apart = λ i j l k n. h.apart (suc i) (suc j) (omega arith) (omega arith) (λ q. n (omega arith));
    }))

-- one place changes
pub places_set : (g : Geometry) (ps : List Place) (i : ℕ) (p : Place) → PlacesGood g ps → place_ok g p ≡ true
    → (p.id ≢ 0 → (j : ℕ) → j < length ps → j ≢ i → (place_at ps j).id ≢ p.id) → PlacesGood g (set ps i p)
places_set g ps i p h o a = record {
  ok = λ j l. ok_at j (rw length-set at l) (eqb_cases j i);
  apart = λ j k l m n. apart_at j k (rw length-set at l) (rw length-set at m) n (eqb_cases j i) (eqb_cases k i);
}
  where
    same : (j : ℕ) → j ≡ i → j < length ps → place_at (set ps i p) j ≡ p
    same j e l = rw e (get_or-set_same ps i p no_place (omega arith))

    other : (j : ℕ) → j ≢ i → place_at (set ps i p) j ≡ place_at ps j
    other j n = get_or-set_other ps i j p no_place n

    ok_at : (j : ℕ) → j < length ps → Is j i → place_ok g (place_at (set ps i p) j) ≡ true
    ok_at j l (inl q) = rw (same j q.0 l) o
    ok_at j l (inr q) = rw (other j q.0) (h.ok j l)

    apart_at : (j k : ℕ) → j < length ps → k < length ps → j ≢ k → Is j i → Is k i → (place_at (set ps i p) j).id ≢ 0
        → (place_at (set ps i p) k).id ≢ (place_at (set ps i p) j).id
    apart_at j k l m n (inl q) (inl r) = absurd (n (q.0 ∙ sym r.0))
    apart_at j k l m n (inl q) (inr r) = rw (same j q.0 l, other k r.0) (λ z. a z k m r.0)
    apart_at j k l m n (inr q) (inl r) = rw (same k r.0 m, other j q.0) (λ z e. a (λ y. z (sym e ∙ y)) j l q.0 (sym e))
    apart_at j k l m n (inr q) (inr r) = rw (other j q.0, other k r.0) (h.apart j k l m n)

-- a free place and a begun one
pub free_ok : (g : Geometry) → place_ok g free_place ≡ true
unfolding place_ok bad_id all
free_ok g = rw (le-leb 0 (most_pages g) (omega arith))

pub begun_ok : (g : Geometry) (id : ℕ) → bad_id id ≡ false → place_ok g (begun id) ≡ true
unfolding place_ok begun all
begun_ok g id h = rw (h, le-leb 0 (most_pages g) (omega arith))

-- ---- where an identifier is
-- the place of an active identifier
pub record Found (ps : List Place) (id i : ℕ) : Type 0 where
  pub low : i < length ps
  pub is : (place_at ps i).id ≡ id
  pub some : id ≢ 0

pub place_found : (ps : List Place) (id : ℕ) → length ps ≡ 8 → leb 8 (place_of ps id) ≡ false → Found ps id (place_of ps id)
unfolding place_of
place_found ps id e h = go (eqb_cases id 0) h
  where
    go : Is id 0 → leb 8 (cond (eqb id 0) 8 (find (has_id id) ps)) ≡ false → Found ps id (cond (eqb id 0) 8 (find (has_id id) ps))
    go (inl q) k = let z : leb 8 8 ≡ false = rw q.1 at k in clash refl z
    go (inr q) k =
        let f : leb 8 (find (has_id id) ps) ≡ false = rw q.1 at k in
        let l : find (has_id id) ps < length ps = omega (arith, leb-false 8 (find (has_id id) ps) f) in
        rw q.1 (record { low = l; is = eqb-true _ _ (find_passes (has_id id) ps no_place l); some = q.0 })

-- where identifiers are in range, it is found in no other place
pub found_place : (g : Geometry) (ps : List Place) (id j : ℕ) → PlacesGood g ps → Found ps id j → place_of ps id ≡ j
unfolding place_of
found_place g ps id j good f = rw (ne_eqb id 0 f.some) (go (eqb_cases (find (has_id id) ps) j))
  where
    low : find (has_id id) ps < length ps
    low = any_find (has_id id) ps (any_at (has_id id) ps j no_place f.low (eq-eqb _ id f.is))

    here : (place_at ps (find (has_id id) ps)).id ≡ id
    here = eqb-true _ id (find_passes (has_id id) ps no_place low)

    go : Is (find (has_id id) ps) j → find (has_id id) ps ≡ j
    go (inl q) = q.0
    go (inr q) = absurd (good.apart (find (has_id id) ps) j low f.low q.0 (λ z. f.some (sym here ∙ z)) (f.is ∙ sym here))

-- an identifier that is not active is in no place
pub inactive : (ps : List Place) (id : ℕ) → id ≢ 0 → active id ps ≡ false → (j : ℕ) → j < length ps → (place_at ps j).id ≢ id
unfolding active
inactive ps id n h j l =
    let k : any (has_id id) ps ≡ false = rw (ne_eqb id 0 n) at h in
    eqb-false (place_at ps j).id id (not-true (has_id id (place_at ps j)) (all_at (λ (q : Place). not (has_id id q)) ps j no_place (none_all (has_id id) ps k) l))

-- the lowest free place
pub free_found : (ps : List Place) → length ps ≡ 8 → leb 8 (find (has_id 0) ps) ≡ false
    → (find (has_id 0) ps < length ps) × ((place_at ps (find (has_id 0) ps)).id ≡ 0)
free_found ps e h =
    let l : find (has_id 0) ps < length ps = omega (arith, leb-false 8 (find (has_id 0) ps) h) in
    (l, eqb-true _ _ (find_passes (has_id 0) ps no_place l))
