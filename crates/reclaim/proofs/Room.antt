-- What a reclaim counts on: room for one more free block, pages and blocks in the array, numbers that fit. Assumes nothing.
use mathlib.Core.Path.{◌≡◌, refl}
use mathlib.Core.Bool.{Bool, true, false, ◌&&◌}
use mathlib.Core.List.{List, [], ◌∷◌, ◌++◌}
use Prim.Native.Nat.{ℕ, suc, ◌+◌, ◌-◌, ◌*◌, ◌≤◌, ◌<◌}
use native.Mathlib.Nat.{mul-le-mul}
use native.Mathlib.Omega.{arith}
use lib.ListN.{length}
use lib.Seq.{length-take-le}
use lib.Dec.{eqb, leb, ltb}
use borrow.Author.Tests.{lt-ltb, le-ltb, ltb-true, ltb-false, eqb-false, ne_eqb, not-true}
use Rattle.model.specs.Lists.{all, any, all_heads, find, elem, rising}
use Rattle.model.specs.Geometry.{geometry_ok, data_block}
use Rattle.model.specs.Zones.{available_of, unavailable_of, free_of, listed_in, new_block, checkpointed, zone_lists_ok, zones_ok, clean_in}
use Rattle.model.specs.Order.{first_number}
use Rattle.model.specs.Strides.{mapped_in, lowest_from}
use Rattle.model.specs.declared.Geometry.{Geometry}
use Rattle.model.specs.declared.State.{State}
use Rattle.model.specs.declared.Zones.{Zones}
use Rattle.arrays.specs.Tests.{and_left, and_right, or_false_left, or_false_right, all_head, all_tail, all_weaker, tails_head, tails_tail, elem_append}
use Rattle.arrays.specs.Order.{numbered, Unless, none_applies}
use Rattle.arrays.specs.Ranges.{geometry_in, block_least, block_most, block_page_is, page_most, page_small, data_page_fits}
use Rattle.zones.proofs.Listed.{listed}
use Rattle.strides.specs.Strode.{Fit}
use Rattle.reclaim.specs.Copies.{copies_checks, Copying}
use Rattle.reclaim.proofs.Lowest.{elem_found, lowest_mapped}

-- ---- a rising list of numbers above y and below `hi` that lacks one of them has room for it
module _ (hi : ℕ) where
  few : (y : ℕ) (xs : List ℕ) → rising xs ≡ true → all (ltb y) xs ≡ true → all (λ (x : ℕ). ltb x hi) xs ≡ true → length xs ≤ hi - suc y
  unfolding rising
  few y [] r l h = omega arith
  few y (x ∷ xs) r l h =
      let later : ℕ → List ℕ → Bool = λ (e : ℕ) (es : List ℕ). all (ltb e) es in
      let a = ltb-true y x (all_head (ltb y) x xs l) in
      let b = ltb-true x hi (all_head (λ (e : ℕ). ltb e hi) x xs h) in
      let i = few x xs (tails_tail later x xs r) (tails_head later x xs r) (all_tail (λ (e : ℕ). ltb e hi) x xs h) in
      omega arith

  pub lacks_one : (b y : ℕ) (xs : List ℕ) → y < b → b < hi → elem b xs ≡ false → rising xs ≡ true → all (ltb y) xs ≡ true → all (λ (x : ℕ). ltb x hi) xs ≡ true → length xs < hi - suc y
  unfolding rising elem any
  lacks_one b y [] g k n r l h = omega arith
  lacks_one b y (x ∷ xs) g k n r l h =
      let later : ℕ → List ℕ → Bool = λ (e : ℕ) (es : List ℕ). all (ltb e) es in
      let a = ltb-true y x (all_head (ltb y) x xs l) in
      let c = ltb-true x hi (all_head (λ (e : ℕ). ltb e hi) x xs h) in
      let t = tails_tail later x xs r in
      let u = tails_head later x xs r in
      let v = all_tail (λ (e : ℕ). ltb e hi) x xs h in
      let f = few x xs t u v in
      go (ltb x b) refl a c f (λ d. lacks_one b x xs d k (or_false_right (eqb b x) (any (eqb b) xs) n) t u v) (eqb-false b x (or_false_left (eqb b x) (any (eqb b) xs) n))
    where
      go : (t : Bool) → ltb x b ≡ t → y < x → x < hi → length xs ≤ hi - suc x → (x < b → length xs < hi - suc x) → (b ≡ x → ⊥) → suc (length xs) < hi - suc y
      go true t a c f i z = let m = i (ltb-true x b t) in omega arith
      go false t a c f i z = let m = ltb-false x b t in omega arith

-- ---- a checkpointed block may be freed
module _ (g : Geometry) (z : Zones) (shape : geometry_ok g ≡ true) (lists : zones_ok g z ≡ true) where
  free_rises : rising (free_of z) ≡ true
  unfolding zones_ok zone_lists_ok
  free_rises =
      let last = data_block g z.pointer in
      let heads = all_heads (new_block g) [] (available_of z ++ (unavailable_of z ++ free_of z)) in
      let most = leb z.na 3 in
      let counts = leb (z.na + z.nu + z.nf) (g.blocks - 2) in
      and_left (rising (free_of z)) last (and_right heads (rising (free_of z) && last) (and_right most (heads && (rising (free_of z) && last)) (and_right counts (most && (heads && (rising (free_of z) && last))) lists)))

  pub free_room : (b : ℕ) → data_block g b ≡ true → checkpointed z b ≡ true → length z.free ≡ 126 → z.nf < 126
  unfolding checkpointed
  free_room b d c l =
      let s = listed g z shape lists in
      let m = s.counts in
      let n = (geometry_in g shape).blocks_most in
      let k = block_least g b d in
      let e = not-true (elem b (listed_in z)) c in
      let f = or_false_right (elem b (available_of z)) (elem b (unavailable_of z ++ free_of z)) (rw (elem_append b (available_of z) (unavailable_of z ++ free_of z)) at e) in
      let h = or_false_right (elem b (unavailable_of z)) (elem b (free_of z)) (rw (elem_append b (unavailable_of z) (free_of z)) at f) in
      let r = lacks_one g.blocks b 1 (free_of z) (omega arith) (block_most g b d) h free_rises (all_weaker (data_block g) (ltb 1) (λ x t. lt-ltb 1 x (block_least g x t)) (free_of z) s.free) (all_weaker (data_block g) (λ (x : ℕ). ltb x g.blocks) (λ x t. lt-ltb x g.blocks (block_most g x t)) (free_of z) s.free) in
      let t = length-take-le z.nf z.free (omega arith) in
      omega arith

-- ---- a page that is copied
pub record Places (xs map : List ℕ) (j : ℕ) : Type 0 where
  pub entry : find (eqb j) map < length map
  pub entries : length map ≤ 1024
  pub «from» : j * 528 + 528 ≤ length xs
  pub number : j < 8192

pub copy_places : (s : State) (xs map : List ℕ) (j : ℕ) → Copying s xs map j → Places xs map j
copy_places s xs map j c =
    let g = s.geometry in
    let f = c.fit in
    let h = geometry_in g f.shape in
    let e = f.entries in
    let l = h.logical_most in
    record {
      entry = elem_found j map c.mapped;
      entries = omega arith;
      «from» = data_page_fits g xs f.bytes j c.«data»;
      number = page_small g j h (page_most g j c.«data»);
    }

-- ---- where no copy is due nothing refuses one
pub none_due : (s : State) (xs : List ℕ) (due : ℕ) → due ≡ 0 → 0 ≡ first_number (copies_checks s xs due)
unfolding first_number
none_due s xs due z = rw (z, le-ltb (clean_in xs s.geometry.pages (available_of s.zones)) 0 (omega arith))

-- ---- a block that is reclaimed
module _ (s : State) (xs map : List ℕ) (f : Fit s xs map) (b : ℕ) (d : data_block s.geometry b ≡ true) where
  -- the numbers that its mapped pages are counted by
  pub block_numbers : (length map ≤ 1024) × ((s.geometry.pages ≤ 64) × (b < 128))
  block_numbers =
      let h = geometry_in s.geometry f.shape in
      let l = h.logical_most in
      let e = f.entries in
      let n = h.blocks_most in
      let m = block_most s.geometry b d in
      (omega arith, (h.pages_most, omega arith))

  -- the number behind its last page
  pub block_ends : b * s.geometry.pages + s.geometry.pages ≤ 8192
  block_ends =
      let n = block_numbers in
      let k : b ≤ 127 = omega arith in
      let m : b * s.geometry.pages ≤ 127 * 64 = mul-le-mul k n.1.0 in
      omega arith

  -- its lowest mapped page, where nothing refuses the copies due
  pub block_copying : (due : ℕ) → due ≡ mapped_in map s.geometry.pages b → (due ≡ 0 → ⊥) → first_number (copies_checks s xs due) ≡ 0
      → (j : ℕ) → j ≡ lowest_from map (b * s.geometry.pages) s.geometry.pages → Copying s xs map j
  unfolding numbered all Unless
  block_copying due e z free j ej =
      let p = s.geometry.pages in
      let v = none_applies (copies_checks s xs due) refl free (λ spent short. ltb-false 4294967294 (s.version + due) (rw (ne_eqb due 0 z) at spent)) in
      let n = none_applies (copies_checks s xs due) refl free (λ spent short. ltb-false (clean_in xs p (available_of s.zones)) due short) in
      let o = some due z in
      let a = rw (← ej) at (lowest_mapped map p b (rw (← e) o)) in
      let l = a.least in
      let h = a.most in
      let i : b * p + (j - b * p) ≡ j = omega arith in
      record {
        fit = f;
        mapped = a.mapped;
        «data» = rw i at (block_page_is s.geometry b (j - b * p) d (omega arith));
        clean = omega arith;
        number = omega arith;
      }
    where
      some : (x : ℕ) → (x ≡ 0 → ⊥) → 0 < x
      some x y = omega arith
