-- What a read answers and hands back, a test after the other. Assumes nothing.
use Prim.Native.Nat.{ℕ, zero, suc, ◌+◌, ◌*◌, ◌≤◌, ◌<◌}
use mathlib.Core.Path.{◌≡◌, refl, sym, ◌∙◌}
use mathlib.Core.Bool.{Bool, true, false, cond, not}
use mathlib.Core.List.{List, [], ◌∷◌}
use lib.ListN.{length, get_or, take}
use lib.Dec.{eqb}
use native.Mathlib.Omega.{arith}
use borrow.Author.Tests.{le-leb, lt-leb, leb-false, eq-eqb, ne_eqb, eqb-false, not-false}
use Rattle.model.specs.Lists.{all, elem}
use Rattle.model.specs.Page.{page_at, data_at}
use Rattle.model.specs.Geometry.{data_page, unmapped, entry_ok, map_ok}
use Rattle.model.specs.World.{World}
use Rattle.model.specs.Order.{first_number}
use Rattle.model.specs.Frame.{frame_ok}
use Rattle.model.specs.Transactions.{read_checks, read_answer, read_part}
use Rattle.model.specs.declared.Geometry.{Geometry}
use Rattle.arrays.specs.Tests.{heads_all, all_at}
use Rattle.arrays.specs.Order.{numbered, Unless, none_applies}
use Rattle.arrays.specs.Ranges.{data_page_fits}
use Rattle.arrays.specs.Frame.{frame_in}

-- an element of a list, whatever stands for those past its end
pub get_d_same : (l : List ℕ) (i d e : ℕ) → i < length l → get_or l i d ≡ get_or l i e
get_d_same [] i d e h = absurd (omega arith)
get_d_same (x ∷ l) zero d e h = refl
get_d_same (x ∷ l) (suc i) d e h = get_d_same l i d e (omega arith)

-- an entry of the map is unmapped or a data page
unfoldable mapped : Geometry → ℕ → Bool
mapped g x = cond (eqb x unmapped) true (data_page g x)

mapped_of : (g : Geometry) (seen : List ℕ) (x : ℕ) → entry_ok g seen x ≡ true → mapped g x ≡ true
unfolding mapped entry_ok
mapped_of g seen x e = by_cases (eqb x unmapped) (data_page g x) (not (elem x seen)) e
  where
    by_cases : (u d n : Bool) → cond u true (cond d n false) ≡ true → cond u true d ≡ true
    by_cases true d n e = refl
    by_cases false true n e = refl
    by_cases false false n e = e

mapped_is : (g : Geometry) (x : ℕ) → mapped g x ≡ true → (x ≡ unmapped → ⊥) → data_page g x ≡ true
unfolding mapped
mapped_is g x e u = rw (ne_eqb x unmapped u) at e

-- what the test of the frame tells
pub frame_failed : (w : World) (ok : Bool) → ok ≡ frame_ok w → ok ≡ false → frame_ok w ≡ false
frame_failed w ok e t = sym e ∙ t

pub frame_passed : (w : World) (ok : Bool) → ok ≡ frame_ok w → ok ≡ true → frame_ok w ≡ true
frame_passed w ok e t = sym e ∙ t

module _ (w : World) (lpn : ℕ) where
  -- ---- the answer
  pub read_bad : frame_ok w ≡ false → 1 ≡ read_answer lpn w
  unfolding read_answer first_number
  read_bad f = rw f

  module _ (f : frame_ok w ≡ true) where
    pub read_past : w.state.geometry.logical ≤ lpn → 5 ≡ read_answer lpn w
    unfolding read_answer first_number
    read_past l = rw (f, le-leb w.state.geometry.logical lpn l)

    module _ (l : lpn < w.state.geometry.logical) where
      pub in_map : lpn < length w.map
      in_map = let n = (frame_in w f).lengths.map in omega arith

      entry : get_or w.map lpn unmapped ≡ get_or w.map lpn 0
      entry = get_d_same w.map lpn unmapped 0 in_map

      pub read_never : get_or w.map lpn 0 ≡ unmapped → 14 ≡ read_answer lpn w
      unfolding read_answer first_number
      read_never u = rw (f, lt-leb w.state.geometry.logical lpn l, eq-eqb (get_or w.map lpn unmapped) unmapped (entry ∙ u))

      pub read_done : (get_or w.map lpn 0 ≡ unmapped → ⊥) → 0 ≡ read_answer lpn w
      unfolding read_answer first_number
      read_done u = rw (f, lt-leb w.state.geometry.logical lpn l, ne_eqb (get_or w.map lpn unmapped) unmapped (λ e. u (sym entry ∙ e)))

  -- ---- the part, n being the answer
  module _ (n : ℕ) (a : n ≡ read_answer lpn w) where
    pub part_none : (n ≡ 0 → ⊥) → ◌≡◌ {A = List ℕ} [] (read_part lpn w)
    unfolding read_part
    part_none z = rw (← a, ne_eqb n 0 z)

    module _ (z : n ≡ 0) where
      -- what none of the checks leaves
      passed : {B : Type 0} → (frame_ok w ≡ true → lpn < w.state.geometry.logical → (get_or w.map lpn unmapped ≡ unmapped → ⊥) → B) → B
      unfolding read_answer numbered all Unless
      passed b = none_applies (read_checks lpn w) refl (sym a ∙ z) (λ f l u.
          b (not-false (frame_ok w) f) (leb-false w.state.geometry.logical lpn l) (eqb-false (get_or w.map lpn unmapped) unmapped u))

      pub part_in_map : lpn < length w.map
      part_in_map = passed (λ f l u. in_map f l)

      pub part_done : (page : List ℕ) → page ≡ page_at w.array (get_or w.map lpn 0) → take 512 page ≡ read_part lpn w
      unfolding read_part data_at
      part_done page p = passed (λ f l u. rw (p, ← a, z, entry f l))

      -- its page lies in the array
      pub mapped_fits : get_or w.map lpn 0 * 528 + 528 ≤ length w.array
      unfolding map_ok
      mapped_fits = passed (λ f l u.
          let g = w.state.geometry in
          let m : all (mapped g) w.map ≡ true = heads_all _ _ (mapped_of g) [] w.map (frame_in w f).map in
          data_page_fits g w.array (frame_in w f).lengths.array _
          (mapped_is g _ (all_at (mapped g) w.map lpn 0 m (in_map f l)) (λ e. u (entry f l ∙ e))))
