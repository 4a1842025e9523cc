-- A place in range, by its parts; with one page written more it is in range still.
use Rattle.std.specs.Prelude.{◌≡◌, refl, ◌⊎◌, ◌≢◌, Bool, true, false, not, cond, ◌&&◌, ◌||◌, ℕ, zero, suc, ◌+◌, ◌-◌, ◌≤◌, ◌<◌, List, [], ◌∷◌, length, take, get_or, set, eqb, leb, ltb}
use Rattle.std.proofs.Common.{ap, ◌∙◌, inl, inr, arith, length-set, length-take-le, get_or-set_same, get_or-set_other, eqb-true, eq-eqb, ne_eqb, leb-true, lt-ltb, le-leb}
use Rattle.std.proofs.lemmas.Bool.{not-true}
use Rattle.model.specs.Lists.{all}
use Rattle.model.specs.Geometry.{data_page}
use Rattle.model.specs.Frame.{bad_id, place_ok, most_pages}
use Rattle.model.specs.Transactions.{written}
use Rattle.model.specs.declared.Geometry.{Geometry}
use Rattle.model.specs.declared.Place.{Place}
use Rattle.arrays.specs.Tests.{Is, eqb_cases, clash, and_left, and_right, and_both, or_cases, or_false_right, or_left, or_right, all_at, all_by_at}

-- what refusal 1 asks of a place
pub record PlaceIn (g : Geometry) (p : Place) : Type 0 where
  pub few : p.count ≤ most_pages g
  pub name : (bad_id p.id ≡ false) ⊎ ((p.id ≡ 0) × (p.count ≡ 0))
  pub lpns : all (λ (l : ℕ). ltb l g.logical) (take p.count p.lpns) ≡ true
  pub ppns : all (data_page g) (take (p.count - 1) p.ppns) ≡ true

pub place_in : (g : Geometry) (p : Place) → place_ok g p ≡ true → PlaceIn g p
unfolding place_ok
place_in g p h =
    let a = and_right (leb p.count (most_pages g)) _ h in
    let n = and_left (not (bad_id p.id) || (eqb p.id 0 && eqb p.count 0)) _ a in
    let c = and_right (not (bad_id p.id) || (eqb p.id 0 && eqb p.count 0)) _ a in
    record {
      few = leb-true p.count (most_pages g) (and_left (leb p.count (most_pages g)) _ h);
      name = pick (or_cases (not (bad_id p.id)) _ n);
      lpns = and_left (all (λ (l : ℕ). ltb l g.logical) (take p.count p.lpns)) _ c;
      ppns = and_right (all (λ (l : ℕ). ltb l g.logical) (take p.count p.lpns)) _ c;
    }
  where
    pick : (not (bad_id p.id) ≡ true) ⊎ ((eqb p.id 0 && eqb p.count 0) ≡ true) → (bad_id p.id ≡ false) ⊎ ((p.id ≡ 0) × (p.count ≡ 0))
    pick (inl e) = inl (not-true (bad_id p.id) e)
    pick (inr e) = inr (eqb-true p.id 0 (and_left (eqb p.id 0) _ e), eqb-true p.count 0 (and_right (eqb p.id 0) _ e))

pub in_place : (g : Geometry) (p : Place) → PlaceIn g p → place_ok g p ≡ true
unfolding place_ok
in_place g p h =
    and_both (leb p.count (most_pages g)) _ (le-leb p.count (most_pages g) h.few)
    (and_both (not (bad_id p.id) || (eqb p.id 0 && eqb p.count 0)) _ (pick h.name) (and_both _ _ h.lpns h.ppns))
  where
    pick : (bad_id p.id ≡ false) ⊎ ((p.id ≡ 0) × (p.count ≡ 0)) → (not (bad_id p.id) || (eqb p.id 0 && eqb p.count 0)) ≡ true
    pick (inl e) = or_left (not (bad_id p.id)) _ (ap not e)
    pick (inr e) = or_right (not (bad_id p.id)) _ (and_both (eqb p.id 0) (eqb p.count 0) (eq-eqb p.id 0 e.0) (eq-eqb p.count 0 e.1))

-- an identifier that 6 does not refuse
pub good_name : (id : ℕ) → bad_id id ≡ false → id ≢ 4294967295
unfolding bad_id
good_name id h q = clash (eq-eqb id 4294967295 q) (or_false_right (eqb id 0) (eqb id 4294967295) h)

-- the first numbers of a list, one by one
get_d_first : (n : ℕ) (l : List ℕ) (i : ℕ) → i < n → get_or (take n l) i 0 ≡ get_or l i 0
get_d_first zero l i h = absurd (omega arith)
get_d_first (suc n) [] i h = refl
get_d_first (suc n) (x ∷ l) zero h = refl
get_d_first (suc n) (x ∷ l) (suc i) h = get_d_first n l i (omega arith)

pub first_passes : (p : ℕ → Bool) (n : ℕ) (l : List ℕ) → n ≤ length l → all p (take n l) ≡ true → (i : ℕ) → i < n → p (get_or l i 0) ≡ true
first_passes p n l h a i k = rw (get_d_first n l i k) at (all_at p (take n l) i 0 a (omega (arith, length-take-le n l h)))

passes_first : (p : ℕ → Bool) (n : ℕ) (l : List ℕ) → n ≤ length l → ((i : ℕ) → i < n → p (get_or l i 0) ≡ true) → all p (take n l) ≡ true
passes_first p n l h k = all_by_at p 0 (take n l) (λ i m. let q : i < n = omega (arith, length-take-le n l h) in rw (get_d_first n l i q) (k i q))

-- no place has more pages than there is room for, and on two planes no more than a write number tells
pub most_room : (g : Geometry) → (41 ≤ most_pages g) × (most_pages g ≤ 64)
unfolding most_pages
most_room g = go (eqb g.planes 2)
  where
    go : (t : Bool) → (41 ≤ cond t 41 64) × (cond t 41 64 ≤ 64)
    go true = (omega arith, omega arith)
    go false = (omega arith, omega arith)

pub most_two : (g : Geometry) → g.planes ≡ 2 → most_pages g ≡ 41
unfolding most_pages
most_two g e = rw (eq-eqb g.planes 2 e)

pub most_one : (g : Geometry) → g.planes ≡ 1 → most_pages g ≡ 64
unfolding most_pages
most_one g e = rw (ne_eqb g.planes 2 (λ q. absurd (omega (arith, e, q))))

-- the written place is in range
pub written_in : (g : Geometry) (p : Place) (k lpn : ℕ) (drop : Bool) → p.count < most_pages g → bad_id p.id ≡ false → length p.lpns ≡ 64
    → length p.ppns ≡ 64 → lpn < g.logical → (p.count ≢ 0 → data_page g k ≡ true) → PlaceIn g p → PlaceIn g (written p k lpn drop)
unfolding written
written_in g p k lpn drop room name ll lp low page h = record {
  few = omega arith;
  name = inl name;
  lpns = passes_first (λ (l : ℕ). ltb l g.logical) (p.count + 1) (set p.lpns p.count lpn) (omega (arith, length-set p.lpns p.count lpn, fits))
      (λ i l. lpn_at i l (eqb_cases i p.count));
  ppns = passes_first (data_page g) (p.count + 1 - 1) _ (omega (arith, long (eqb p.count 0), fits)) (λ i l. ppn_at i l (eqb_cases (suc i) p.count));
}
  where
    fits : p.count < 64
    fits = omega (arith, (most_room g).1)

    long : (t : Bool) → length (cond t p.ppns (set p.ppns (p.count - 1) k)) ≡ 64
    long true = lp
    long false = length-set p.ppns (p.count - 1) k ∙ lp

    lpn_at : (i : ℕ) → i < p.count + 1 → Is i p.count → ltb (get_or (set p.lpns p.count lpn) i 0) g.logical ≡ true
    lpn_at i l (inl q) = rw (q.0, get_or-set_same p.lpns p.count lpn 0 (omega (arith, fits))) (lt-ltb lpn g.logical low)
    lpn_at i l (inr q) =
        rw (get_or-set_other p.lpns p.count i lpn 0 q.0)
        (first_passes (λ (l : ℕ). ltb l g.logical) p.count p.lpns (omega (arith, fits)) h.lpns i (omega (arith, q.0)))

    ppn_at : (i : ℕ) → i < p.count + 1 - 1 → Is (suc i) p.count
        → data_page g (get_or (cond (eqb p.count 0) p.ppns (set p.ppns (p.count - 1) k)) i 0) ≡ true
    ppn_at i l (inl q) =
        let n : p.count ≢ 0 = λ z. absurd (omega (arith, q.0)) in
        let e : p.count - 1 ≡ i = omega (arith, q.0) in
        rw (ne_eqb p.count 0 n, e, get_or-set_same p.ppns i k 0 (omega (arith, fits))) (page n)
    ppn_at i l (inr q) =
        let n : p.count ≢ 0 = λ z. absurd (omega arith) in
        rw (ne_eqb p.count 0 n, get_or-set_other p.ppns (p.count - 1) i k 0 (λ e. absurd (omega (arith, q.0))))
        (first_passes (data_page g) (p.count - 1) p.ppns (omega (arith, fits)) h.ppns i (omega (arith, q.0)))
