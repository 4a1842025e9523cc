-- Zone lists that stand one after the other: their parts are the lists, and the test of the lists is a test of the whole. Assumes nothing.
use mathlib.Core.Path.{◌≡◌, refl, ap, sym, ◌∙◌}
use mathlib.Core.Bool.{Bool, true, false, ◌&&◌}
use mathlib.Core.List.{List, [], ◌++◌}
use Prim.Native.Nat.{ℕ, ◌+◌, ◌-◌}
use native.Mathlib.Omega.{arith}
use lib.Dec.{leb, ltb}
use lib.ListN.{length, take, drop, length-append, length-drop, take-append-drop}
use lib.Seq.{take_all, take_at, drop_at, drop-drop}
use borrow.Author.Tests.{le-leb}
use Rattle.model.specs.Lists.{all_heads, rising}
use Rattle.model.specs.Geometry.{data_block}
use Rattle.model.specs.Zones.{new_block, zone_lists_ok}
use Rattle.model.specs.declared.Geometry.{Geometry}
use Rattle.ranges.specs.Ranges.{Laid}

-- the test of zone lists by their counts and what stands there
abbrev pub laid_ok : Geometry → List ℕ → ℕ → ℕ → ℕ → Bool
laid_ok g l na nu p = zone_lists_ok g na nu (length l - (na + nu)) (take na l) (take nu (drop na l)) (drop (na + nu) l) p

-- within the counts that the geometry allows, what is left to test
pub laid_is : (g : Geometry) (l : List ℕ) (na nu p : ℕ) → Laid g l na nu
    → laid_ok g l na nu p ≡ (leb na 3 && (all_heads (new_block g) [] l && (rising (drop (na + nu) l) && data_block g p)))
unfolding zone_lists_ok
laid_is g l na nu p h =
    let i = h.parts in
    let j = h.all in
    let sum : leb (na + nu + (length l - (na + nu))) (g.blocks - 2) ≡ true = le-leb (na + nu + (length l - (na + nu))) (g.blocks - 2) (omega arith) in
    let back : take nu (drop na l) ++ drop (na + nu) l ≡ drop na l = rw (← drop-drop nu na l) (take-append-drop nu (drop na l)) in
    rw (sum, back, take-append-drop na l)

-- the same as a row of tests
pub laid_row : (g : Geometry) (l : List ℕ) (na nu p : ℕ) → Laid g l na nu
    → laid_ok g l na nu p ≡ ((((leb na 3 && all_heads (new_block g) [] l) && rising (drop (na + nu) l)) && leb 2 p) && ltb p g.blocks)
unfolding data_block
laid_row g l na nu p h =
    laid_is g l na nu p h ∙ row (leb na 3) (all_heads (new_block g) [] l) (rising (drop (na + nu) l)) (leb 2 p) (ltb p g.blocks)
  where
    row : (a b c d e : Bool) → (a && (b && (c && (d && e)))) ≡ ((((a && b) && c) && d) && e)
    row true true true d e = refl
    row true true false d e = refl
    row true false c d e = refl
    row false b c d e = refl

-- lists of these lengths, one after the other
pub laid_lists : (g : Geometry) (a u f : List ℕ) (na nu nf p : ℕ) → length a ≡ na → length u ≡ nu → length f ≡ nf
    → laid_ok g (a ++ (u ++ f)) na nu p ≡ zone_lists_ok g na nu nf a u f p
laid_lists g a u f na nu nf p ea eu ef =
    let n : length (a ++ (u ++ f)) - (na + nu) ≡ nf = omega (arith, length-append a (u ++ f), length-append u f) in
    let d : drop (na + nu) (a ++ (u ++ f)) ≡ f = sym (drop-drop nu na (a ++ (u ++ f))) ∙ ap (drop nu) (drop_at a (u ++ f) na ea) ∙ drop_at u f nu eu in
    rw (n, d, take_at a (u ++ f) na ea, drop_at a (u ++ f) na ea, take_at u f nu eu)
