-- The lowest mapped page of some: what a turn of the loop that looks for it shows, and where it lies. Assumes nothing.
use mathlib.Core.Path.{◌≡◌, refl, sym, ap, ◌∙◌}
use Rattle.std.specs.Prelude.{Some, None, position, unwrap_or}
use Rattle.std.specs.List.{position_or_len}
use mathlib.Core.Bool.{Bool, true, false, cond, ◌&&◌}
use mathlib.Core.List.{List, [], ◌∷◌}
use mathlib.Core.Logic.{◌⊎◌, inl, inr}
use Prim.Native.Nat.{ℕ, zero, suc, ◌+◌, ◌-◌, ◌*◌, ◌≤◌, ◌<◌}
use native.Mathlib.Omega.{arith}
use lib.ListN.{length, get_or}
use lib.Dec.{eqb, leb, ltb}
use borrow.Author.Count.{below_more}
use borrow.Author.Tests.{eq-eqb, ne_eqb, eqb-true, leb-true, ltb-true, ltb-false, le-leb}
use Rattle.model.specs.Lists.{any, find, elem, count}
use Rattle.model.specs.Strides.{mapped_in, lowest_from}
use Rattle.arrays.specs.Tests.{Is, eqb_cases, clash, not_so, and_left, and_right, or_right, or_left, find_passes, find_le}
use Rattle.arrays.specs.Chains.{find_like}
use Rattle.places.proofs.Ids.{find_any}
use Rattle.reclaim.proofs.Counting.{in_block, mapped_is}

-- ---- what is among some numbers
-- either side of the test
turned : (x y : ℕ) → eqb x y ≡ eqb y x
turned x y = go (eqb_cases x y)
  where
    go : Is x y → eqb x y ≡ eqb y x
    go (inl (e, t)) = t ∙ sym (eq-eqb y x (sym e))
    go (inr (e, f)) = f ∙ sym (ne_eqb y x (λ (h : y ≡ x). e (sym h)))

-- the first place of x, or the length, as the library has it
pub first_place : (x : ℕ) (xs : List ℕ) → unwrap_or (position (λ y. eqb y x) xs) (length xs) ≡ find (eqb x) xs
first_place x xs =
    let e : position_or_len (λ y. eqb y x) xs ≡ find (eqb x) xs = find_like (λ y. eqb y x) (eqb x) (λ y. turned y x) xs in
    rw e (go (ltb (find (eqb x) xs) (length xs)) refl)
  where
    go : (t : Bool) → ltb (find (eqb x) xs) (length xs) ≡ t → unwrap_or (cond t (Some (find (eqb x) xs)) None) (length xs) ≡ find (eqb x) xs
    go true t = refl
    go false t = omega (arith, ltb-false (find (eqb x) xs) (length xs) t, find_le (eqb x) xs)

pub elem_found : (x : ℕ) (xs : List ℕ) → elem x xs ≡ true → find (eqb x) xs < length xs
unfolding elem
elem_found x xs h = ltb-true (find (eqb x) xs) (length xs) (find_any (eqb x) xs ∙ h)

pub elem_at : (xs : List ℕ) (i : ℕ) → i < length xs → elem (get_or xs i 0) xs ≡ true
unfolding elem any
elem_at [] i h = absurd (omega arith)
elem_at (x ∷ xs) zero h = or_left (eqb x x) (any (eqb x) xs) (eq-eqb x x refl)
elem_at (x ∷ xs) (suc i) h = or_right (eqb (get_or xs i 0) x) (any (eqb (get_or xs i 0)) xs) (elem_at xs i (omega arith))

-- none of them is x
pub elem_none : (x : ℕ) (xs : List ℕ) → ((i : ℕ) → i < length xs → get_or xs i 0 ≡ x → ⊥) → elem x xs ≡ false
elem_none x xs h = not_so (elem x xs) (λ t. h (find (eqb x) xs) (elem_found x xs t) (sym (eqb-true x (get_or xs (find (eqb x) xs) 0) (find_passes (eqb x) xs 0 (elem_found x xs t)))))

-- ---- the lowest of n from page k on
-- it is k + m where the m before it are not mapped, and it is or there are no more
pub lowest_is : (map : List ℕ) (k n m : ℕ) → m ≤ n → ((j : ℕ) → j < m → elem (k + j) map ≡ false) → (m ≡ n) ⊎ (elem (k + m) map ≡ true) → lowest_from map k n ≡ k + m
unfolding lowest_from
lowest_is map k zero zero h none some = omega arith
lowest_is map k zero (suc m) h none some = absurd (omega arith)
lowest_is map k (suc n) zero h none (inl e) = absurd (omega arith)
lowest_is map k (suc n) zero h none (inr e) =
    let z : k + 0 ≡ k = omega arith in
    rw (rw z at e) (sym z)
lowest_is map k (suc n) (suc m) h none some =
    let z : k + 0 ≡ k = omega arith in
    rw (rw z at (none 0 (omega arith))) (lowest_is map (suc k) n m (omega arith) (λ j l. rw (shift j) (none (suc j) (omega arith))) (later some) ∙ shift m)
  where
    shift : (j : ℕ) → suc k + j ≡ k + suc j
    shift j = omega arith

    later : (suc m ≡ suc n) ⊎ (elem (k + suc m) map ≡ true) → (m ≡ n) ⊎ (elem (suc k + m) map ≡ true)
    later (inl e) = inl (omega arith)
    later (inr e) = inr (rw (shift m) e)

-- ---- the loop: `least` is the lowest of the entries before index i that are at least lo, or hi
pub record Least (map : List ℕ) (lo hi i least : ℕ) : Type 0 where
  pub low : lo ≤ least
  pub high : least ≤ hi
  pub none : (j : ℕ) → j < i → lo ≤ get_or map j 0 → least ≤ get_or map j 0
  pub some : (least ≡ hi) ⊎ (elem least map ≡ true)

module _ (map : List ℕ) (lo hi : ℕ) where
  pub least_first : lo ≤ hi → Least map lo hi 0 hi
  least_first h = record { low = h; high = omega arith; none = λ j l. absurd (omega arith); some = inl refl }

  module _ (i least : ℕ) (s : Least map lo hi i least) where
    -- the next entry is no page from lo on and below the least so far, or it is
    pub least_out : (leb lo (get_or map i 0) && ltb (get_or map i 0) least) ≡ false → Least map lo hi (i + 1) least
    least_out f =
        record {
          low = s.low;
          high = s.high;
          none = below_more (λ (j : ℕ). lo ≤ get_or map j 0 → least ≤ get_or map j 0) i s.none (λ h. ltb-false (get_or map i 0) least (rw (le-leb lo (get_or map i 0) h) at f));
          some = s.some;
        }

    pub least_here : i < length map → (leb lo (get_or map i 0) && ltb (get_or map i 0) least) ≡ true → Least map lo hi (i + 1) (get_or map i 0)
    least_here h f =
        let a = s.high in
        let k = ltb-true (get_or map i 0) least (and_right (leb lo (get_or map i 0)) (ltb (get_or map i 0) least) f) in
        record {
          low = leb-true lo (get_or map i 0) (and_left (leb lo (get_or map i 0)) (ltb (get_or map i 0) least) f);
          high = omega arith;
          none = below_more (λ (j : ℕ). lo ≤ get_or map j 0 → get_or map i 0 ≤ get_or map j 0) i (λ j m g. below j k (s.none j m g)) (λ g. omega arith);
          some = inr (elem_at map i h);
        }
      where
        below : (j : ℕ) → get_or map i 0 < least → least ≤ get_or map j 0 → get_or map i 0 ≤ get_or map j 0
        below j k m = omega arith

    pub least_end : length map ≤ i → least ≡ lowest_from map lo (hi - lo)
    least_end h =
        let a = s.low in
        let b = s.high in
        let e : lo + (least - lo) ≡ least = omega arith in
        sym (lowest_is map lo (hi - lo) (least - lo) (omega arith) (λ j l. elem_none (lo + j) map (λ x k q. apart j l x (s.none x (omega arith)) q)) (either s.some e) ∙ e)
      where
        apart : (j : ℕ) → j < least - lo → (x : ℕ) → (lo ≤ get_or map x 0 → least ≤ get_or map x 0) → get_or map x 0 ≡ lo + j → ⊥
        apart j l x f q = let m = f (omega arith) in omega arith

        either : (least ≡ hi) ⊎ (elem least map ≡ true) → lo + (least - lo) ≡ least → (least - lo ≡ hi - lo) ⊎ (elem (lo + (least - lo)) map ≡ true)
        either (inl q) e = inl (ap (λ (x : ℕ). x - lo) q)
        either (inr q) e = inr (rw e q)

-- ---- where it lies
-- some page of block b is mapped
some_mapped : (p b : ℕ) (map : List ℕ) → 0 < count (in_block p b) map → (i : ℕ) × ((i < length map) × (in_block p b (get_or map i 0) ≡ true))
unfolding count
some_mapped p b [] h = absurd (omega arith)
some_mapped p b (x ∷ map) h = go (in_block p b x) refl h (some_mapped p b map)
  where
    go : (t : Bool) → in_block p b x ≡ t → 0 < cond t (suc (count (in_block p b) map)) (count (in_block p b) map)
        → (0 < count (in_block p b) map → (i : ℕ) × ((i < length map) × (in_block p b (get_or map i 0) ≡ true)))
        → (i : ℕ) × ((i < suc (length map)) × (in_block p b (get_or (x ∷ map) i 0) ≡ true))
    go true t k f = (0, (omega arith, t))
    go false t k f = let r = f k in let l = r.1.0 in (suc r.0, (omega arith, r.1.1))

-- a mapped page that is one of n from page k on
pub record Among (map : List ℕ) (k n j : ℕ) : Type 0 where
  pub mapped : elem j map ≡ true
  pub least : k ≤ j
  pub most : j < k + n

lowest_among : (map : List ℕ) (k n e : ℕ) → Among map k n e → Among map k n (lowest_from map k n)
unfolding lowest_from
lowest_among map k zero e h = let a = h.least in let b = h.most in absurd (omega arith)
lowest_among map k (suc n) e h = go (elem k map) refl (lowest_among map (suc k) n e)
  where
    go : (t : Bool) → elem k map ≡ t → (Among map (suc k) n e → Among map (suc k) n (lowest_from map (suc k) n)) → Among map k (suc n) (cond t k (lowest_from map (suc k) n))
    go true t f = record { mapped = t; least = omega arith; most = omega arith }
    go false t f =
        let r = f (record { mapped = h.mapped; least = apart (eqb_cases e k); most = let m = h.most in omega arith }) in
        let a = r.least in
        let b = r.most in
        record { mapped = r.mapped; least = omega arith; most = omega arith }
      where
        apart : Is e k → suc k ≤ e
        apart (inl q) = clash h.mapped (rw q.0 t)
        apart (inr q) = less q.0 h.least
          where
            less : (e ≡ k → ⊥) → k ≤ e → suc k ≤ e
            less z l = omega arith

-- the lowest mapped page of a block that has one
pub lowest_mapped : (map : List ℕ) (p b : ℕ) → 0 < mapped_in map p b → Among map (b * p) p (lowest_from map (b * p) p)
unfolding in_block
lowest_mapped map p b h =
    let s = some_mapped p b map (rw (← mapped_is map p b) h) in
    let e = get_or map s.0 0 in
    lowest_among map (b * p) p e
    (record {
      mapped = elem_at map s.0 s.1.0;
      least = leb-true (b * p) e (and_left (leb (b * p) e) (ltb e (b * p + p)) s.1.1);
      most = ltb-true e (b * p + p) (and_right (leb (b * p) e) (ltb e (b * p + p)) s.1.1);
    })
