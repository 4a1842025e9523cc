-- The blocks that the next page is taken from; that page lies in the array, and its number fits the map, also where no clean page is there. Assumes nothing.
use mathlib.Core.Path.{◌≡◌, refl, sym, ◌∙◌}
use mathlib.Core.Bool.{Bool, true, false, cond, ◌&&◌}
use mathlib.Core.List.{List, [], ◌∷◌}
use Prim.Native.Nat.{ℕ, suc, ◌+◌, ◌*◌, ◌≤◌, ◌<◌}
use native.Mathlib.Omega.{arith}
use native.Mathlib.Nat.{mul-le-mul}
use native.Mathlib.Numerals.{add-one}
use lib.ListN.{length, take, get_or, set}
use lib.Seq.{take-suc-set}
use lib.Dec.{eqb, ltb}
use borrow.Author.Tests.{lt-ltb, le-ltb, ltb-true, ltb-false, eq-eqb}
use Rattle.model.specs.Lists.{those}
use Rattle.model.specs.Page.{blank_at}
use Rattle.model.specs.Zones.{available_of, used_in, clean_in, next_in, other_plane, taken_from}
use Rattle.model.specs.declared.Geometry.{Geometry}
use Rattle.model.specs.declared.Plane.{Plane}
use Rattle.model.specs.declared.State.{State}
use Rattle.arrays.specs.Ranges.{geometry_in, page_small}
use Rattle.arrays.specs.Scan.{next_blank, taken_clean}
use Rattle.flash.specs.Ranges.{Within}
use Rattle.zones.specs.Judging.{Ready}
use Rattle.zones.proofs.Listed.{available_within}
use Rattle.zones.proofs.Picks.{more_no, more_yes}
use Rattle.zones.proofs.Sliding.{picked_within}
use Rattle.change.specs.Changes.{next_of}

-- ---- those of the first i blocks of bs that pass a test, listed as the first m of some numbers
module _ (q : ℕ → Bool) (bs list : List ℕ) (i m : ℕ) (h : i < length bs) (e : take m list ≡ those q (take i bs)) where
  pub picked_pass : q (get_or bs i 0) ≡ false → take m list ≡ those q (take (i + 1) bs)
  picked_pass n = e ∙ sym (more_no q bs i h n)

  pub picked_more : m < length list → q (get_or bs i 0) ≡ true → take (m + 1) (set list m (get_or bs i 0)) ≡ those q (take (i + 1) bs)
  picked_more l y = rw (more_yes q bs i h y, ← e, add-one) (take-suc-set list m (get_or bs i 0) l)

-- ---- the page taken next, of blocks that lie in an array of n bytes, which has room for page 0
next_within : (xs : List ℕ) (n p : ℕ) (bs : List ℕ) → 528 ≤ n → Within n p bs → next_in xs p bs * 528 + 528 ≤ n
unfolding next_in
next_within xs n p [] h w = h
next_within xs n p (b ∷ bs) h w =
    go (ltb (used_in xs p b) p) refl
    (next_within xs n p bs h (record { each = λ i l. w.each (suc i) (omega arith); few = let k = w.few in omega arith }))
  where
    go : (t : Bool) → ltb (used_in xs p b) p ≡ t → next_in xs p bs * 528 + 528 ≤ n → cond t (b * p + used_in xs p b) (next_in xs p bs) * 528 + 528 ≤ n
    go true e r =
        let l = ltb-true (used_in xs p b) p e in
        let k = w.each 0 (omega arith) in
        omega arith
    go false e r = r

-- ---- the blocks that the next page is taken from
module _ (g : Geometry) (last : Plane) (xs bs : List ℕ) where
  abbrev other_clean : ℕ
  other_clean = clean_in xs g.pages (those (other_plane last) bs)

  -- where the other plane has no clean page they are all, else those of the other plane
  module _ (two : g.planes ≡ 2) where
    pub taken_all : ltb other_clean 1 ≡ true → taken_from g last xs bs ≡ bs
    unfolding taken_from
    taken_all h =
        let l = ltb-true other_clean 1 h in
        rw (eq-eqb g.planes 2 two, le-ltb 0 other_clean (omega arith))

    pub taken_other : ltb other_clean 1 ≡ false → taken_from g last xs bs ≡ those (other_plane last) bs
    unfolding taken_from
    taken_other h =
        let l = ltb-false other_clean 1 h in
        rw (eq-eqb g.planes 2 two, lt-ltb 0 other_clean (omega arith))

module _ (s : State) (xs : List ℕ) (r : Ready s.geometry xs s.zones) where
  abbrev available : List ℕ
  available = available_of s.zones

  taken_within : Within (length xs) s.geometry.pages (taken_from s.geometry s.last xs available)
  unfolding taken_from
  taken_within = go (eqb s.geometry.planes 2 && ltb 0 (other_clean s.geometry s.last xs available))
    where
      go : (t : Bool) → Within (length xs) s.geometry.pages (cond t (those (other_plane s.last) available) available)
      go true = picked_within s.geometry xs s.zones r (other_plane s.last)
      go false = available_within s.geometry xs s.zones r

  pub next_fits : next_of s xs * 528 + 528 ≤ length xs
  next_fits =
      let g = s.geometry in
      let i = geometry_in g r.shape in
      let m : 8 * 8 ≤ g.blocks * g.pages = mul-le-mul i.blocks_least i.pages_least in
      let l = r.bytes in
      next_within xs (length xs) g.pages (taken_from g s.last xs available) (omega arith) taken_within

  pub next_small : next_of s xs < 8192
  next_small =
      let l = r.bytes in
      page_small s.geometry (next_of s xs) (geometry_in s.geometry r.shape) (omega (arith, next_fits))

  pub some_pages : 0 < s.geometry.pages
  some_pages = let l = (geometry_in s.geometry r.shape).pages_least in omega arith

  -- and is erased where a clean page is there
  pub next_erased : 0 < clean_in xs s.geometry.pages available → blank_at xs (next_of s xs) ≡ true
  next_erased h =
      next_blank xs s.geometry.pages (taken_from s.geometry s.last xs available) (taken_clean s.geometry s.last xs available h)
