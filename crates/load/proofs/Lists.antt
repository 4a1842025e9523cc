-- The zone lists in the data of a zone page: as parts of them, one after the other. Assumes nothing.
use mathlib.Core.Path.{◌≡◌, ap, sym, ◌∙◌}
use mathlib.Core.Bool.{Bool, true, false, ◌&&◌, and_assoc}
use mathlib.Core.List.{List, ◌++◌}
use Prim.Native.Nat.{ℕ, ◌+◌, ◌-◌, ◌≤◌, ◌<◌}
use native.Mathlib.Omega.{arith}
use lib.ListN.{length, take, drop, get_or}
use lib.Seq.{take-add, drop-drop}
use lib.Dec.{eqb, leb}
use borrow.Author.Tests.{lt-leb}
use Rattle.model.specs.Lists.{all, part}
use Rattle.model.specs.Geometry.{unmapped, map_ok}
use Rattle.model.specs.Zones.{zones_of, zone_lists_ok}
use Rattle.model.specs.Checkpoint.{available_in, unavailable_in, free_in, zones_in, load_ok}
use Rattle.model.specs.declared.Geometry.{Geometry}
use Rattle.model.specs.declared.Zones.{Zones}
use Rattle.arrays.specs.Splice.{length_part}
use Rattle.std.proofs.lemmas.List.{take_rest}
use Rattle.ranges.proofs.Listed.{laid_ok, laid_lists}
use Rattle.load.specs.Load.{zone_page_ok}

-- both halves of refusal 3 are the whole of it
pub halves : (g : Geometry) (entries z : List ℕ)
    → ((map_ok g (take g.logical entries) && all (eqb unmapped) (drop g.logical entries)) && zone_page_ok g z) ≡ load_ok g entries z
unfolding zone_page_ok load_ok
halves g entries z = and_assoc (map_ok g (take g.logical entries)) (all (eqb unmapped) (drop g.logical entries)) _

-- ---- parts
-- from byte i up to byte e
pub part_is : (z : List ℕ) (i e n : ℕ) (r : List ℕ) → e ≡ i + n → r ≡ take (e - i) (drop i z) → r ≡ part i n z
unfolding part
part_is z i e n r h k =
    let s : e - i ≡ n = omega arith in
    k ∙ ap (λ (j : ℕ). take j (drop i z)) s

-- the zones of the three parts, whose lengths are the counts in the data
pub zones_read : (z : List ℕ) (na nu nf : ℕ) (a u f : List ℕ) (r : Zones) → na ≡ get_or z 5 0 → nu ≡ get_or z 6 0 → nf ≡ get_or z 7 0
    → a ≡ part 8 na z → u ≡ part (8 + na) nu z → f ≡ part (8 + na + nu) nf z
    → r ≡ zones_of a u f (get_or z 4 0) → r ≡ zones_in z
unfolding zones_in
zones_read z na nu nf a u f r ea eu ef la lu lf e = e ∙ rw (la, lu, lf, ea, eu, ef)

-- three parts one after the other are one part
parts_joined : (z : List ℕ) (i a u f : ℕ) → part i (a + u + f) z ≡ part i a z ++ (part (i + a) u z ++ part (i + a + u) f z)
unfolding part
parts_joined z i a u f =
    let s : a + u + f ≡ a + (u + f) = omega arith in
    ap (λ (j : ℕ). take j (drop i z)) s ∙ take-add a (u + f) (drop i z)
    ∙ ap (λ (l : List ℕ). take a (drop i z) ++ take (u + f) l) (drop-drop a i z)
    ∙ ap (λ (l : List ℕ). take a (drop i z) ++ l) (take-add u f (drop (i + a) z) ∙ ap (λ (l : List ℕ). take u (drop (i + a) z) ++ take f l) (drop-drop u (i + a) z))

-- the test of the lists as they stand one after the other is the test of the three parts
pub lists_read : (g : Geometry) (z : List ℕ) (na nu nf e p : ℕ) → na ≡ get_or z 5 0 → nu ≡ get_or z 6 0 → nf ≡ get_or z 7 0 → e ≡ 8 + (na + nu + nf) → e ≤ length z
    → laid_ok g (take (e - 8) (drop 8 z)) na nu p ≡ zone_lists_ok g (get_or z 5 0) (get_or z 6 0) (get_or z 7 0) (available_in z) (unavailable_in z) (free_in z) p
unfolding part
lists_read g z na nu nf e p ea eu ef ee h =
    let s : e - 8 ≡ na + nu + nf = omega arith in
    ap (λ (j : ℕ). laid_ok g (take j (drop 8 z)) na nu p) s ∙ ap (λ (l : List ℕ). laid_ok g l na nu p) (parts_joined z 8 na nu nf)
    ∙ laid_lists g (part 8 na z) (part (8 + na) nu z) (part (8 + na + nu) nf z) na nu nf p (length_part 8 na z (omega arith)) (length_part (8 + na) nu z (omega arith)) (length_part (8 + na + nu) nf z (omega arith))
    ∙ rw (ea, eu, ef)

-- ---- refusal 3 of the data z of a zone page, whose counts are na, nu and nf, and whose lists end before byte e
module _ (g : Geometry) (z : List ℕ) (na nu nf e : ℕ) (ea : na ≡ get_or z 5 0) (eu : nu ≡ get_or z 6 0) (ef : nf ≡ get_or z 7 0) (ee : e ≡ 8 + (na + nu + nf)) where
  -- too many blocks
  pub counts_fail : g.blocks - 2 < na + nu + nf → false ≡ zone_page_ok g z
  unfolding zone_page_ok zone_lists_ok
  counts_fail h =
      let t : leb (get_or z 5 0 + get_or z 6 0 + get_or z 7 0) (g.blocks - 2) ≡ false = lt-leb (get_or z 5 0 + get_or z 6 0 + get_or z 7 0) (g.blocks - 2) (omega arith) in
      rw t

  -- lists that are not in range
  pub lists_fail : (t : Bool) → e ≤ length z → t ≡ laid_ok g (take (e - 8) (drop 8 z)) na nu (get_or z 4 0) → t ≡ false → false ≡ zone_page_ok g z
  unfolding zone_page_ok
  lists_fail t h l f =
      ap (λ (b : Bool). b && all (eqb 0) (drop (8 + get_or z 5 0 + get_or z 6 0 + get_or z 7 0) z)) (sym f ∙ l ∙ lists_read g z na nu nf e (get_or z 4 0) ea eu ef ee h)

  -- lists in range: the rest
  pub rest_decides : (t r : Bool) → e ≤ length z → t ≡ laid_ok g (take (e - 8) (drop 8 z)) na nu (get_or z 4 0) → t ≡ true
      → r ≡ all (eqb 0) (take (length z - e) (drop e z)) → r ≡ zone_page_ok g z
  unfolding zone_page_ok
  rest_decides t r h l f k =
      let s : e ≡ 8 + get_or z 5 0 + get_or z 6 0 + get_or z 7 0 = omega arith in
      k ∙ ap (all (eqb 0)) (take_rest z e) ∙ ap (λ (j : ℕ). all (eqb 0) (drop j z)) s
      ∙ ap (λ (b : Bool). b && all (eqb 0) (drop (8 + get_or z 5 0 + get_or z 6 0 + get_or z 7 0) z)) (sym f ∙ l ∙ lists_read g z na nu nf e (get_or z 4 0) ea eu ef ee h)
