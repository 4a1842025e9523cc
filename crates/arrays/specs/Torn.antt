-- How torn a page is, by point 5 of document 02 (docs/PAPERS.md): "the difference Zeros minus counted zero bits". It falls with each bit that is
-- turned to zero, so that of two cuts in one program the later one leaves less. And "it can be below zero only on pages the layer never wrote": every
-- page of a layer's own array is lean, and a lean page that is torn is so by at least 1.
use Rattle.std.specs.Prelude.{◌≡◌, refl, Bool, true, false, cond, List, [], ◌∷◌, ℕ, zero, suc, ◌+◌, ◌-◌, ◌≤◌, ◌<◌, length, take, T, eqb, ltb, ℤ, pos, negsuc, ◌-ℤ◌, ◌≤ℤ◌, ◌<ℤ◌}
use Rattle.std.proofs.Common.{sym, ap, ◌∙◌, subst, arith, ltb-true, ltb-false, lt-ltb, le-ltb, le-leb}
use Rattle.std.proofs.Math.Decide.{dec_lt}
use Rattle.std.proofs.lemmas.Bool.{eqb-false}
use Rattle.model.specs.Bytes.{zero_bits, all_ff, le16, ors, minus}
use Rattle.model.specs.Page.{class_of, torn_by, page_at}
use Rattle.model.specs.World.{program, turned_bits, cut_op}
use Rattle.model.specs.declared.Class.{Class}
use Rattle.model.specs.declared.Class.TheVariants.{Erased, Whole, Torn}
use Rattle.arrays.specs.Bits.{over_others, and_keeps}
use Rattle.arrays.specs.Bytelist.{Bytes, Overs, overs_refl, ors_over, length_minus, bytes_minus, bytes_ors}
use Rattle.arrays.specs.Pages.{PageFits, length_page, bytes_page}
use Rattle.arrays.specs.Ops.{bytes_turned, cut_program_at}
use Rattle.arrays.specs.Whole.{Lean, over_same}

-- ---- differences of numbers, and their order
above : (a b : ℕ) → b ≤ a → pos a -ℤ pos b ≡ pos (a - b)
above a zero h = ap pos (omega arith)
above a (suc b) h = rw (le-ltb a (suc b) h)

below : (a b : ℕ) → a < b → pos a -ℤ pos b ≡ negsuc (b - suc a)
below a zero h = absurd (omega arith)
below a (suc b) h = rw (lt-ltb a (suc b) h)

passes : {b : Bool} → b ≡ true → T b
passes e = subst T (sym e) tt

least : (a b : ℕ) → b < a → pos 1 ≤ℤ (pos a -ℤ pos b)
least a b h = rw (above a b (omega arith)) (record { le = passes (le-leb 1 (a - b) (omega arith)) })

less : (a b c d : ℕ) → a + d < c + b → (pos a -ℤ pos b) <ℤ (pos c -ℤ pos d)
less a b c d h = go (ltb a b) (ltb c d) refl refl
  where
    go : (t u : Bool) → ltb a b ≡ t → ltb c d ≡ u → (pos a -ℤ pos b) <ℤ (pos c -ℤ pos d)
    go true true e f =
        let l = ltb-true a b e in
        let m = ltb-true c d f in
        rw (below a b l, below c d m) (record { lt = passes (lt-ltb (d - suc c) (b - suc a) (omega arith)) })
    go true false e f = rw (below a b (ltb-true a b e), above c d (ltb-false c d f)) (record { lt = tt })
    go false true e f = let l = ltb-false a b e in let m = ltb-true c d f in absurd (omega arith)
    go false false e f =
        let l = ltb-false a b e in
        let m = ltb-false c d f in
        rw (above a b l, above c d m) (record { lt = passes (lt-ltb (a - b) (c - d) (omega arith)) })

-- ---- a torn page
-- its Zeros does not agree, and the difference is told
pub torn_is : (p : List ℕ) (d : ℤ) → class_of p ≡ Torn d → (zero_bits (take 526 p) ≡ le16 p 526 → ⊥) × (torn_by p ≡ d)
unfolding class_of
torn_is p d e = go (all_ff p) (eqb (zero_bits (take 526 p)) (le16 p 526)) (eqb-false (zero_bits (take 526 p)) (le16 p 526)) e
  where
    by : Class → ℤ
    by Erased = pos 0
    by Whole = pos 0
    by (Torn z) = z

    go : (b c : Bool) → (c ≡ false → zero_bits (take 526 p) ≡ le16 p 526 → ⊥) → cond b Erased (cond c Whole (Torn (torn_by p))) ≡ Torn d
        → (zero_bits (take 526 p) ≡ le16 p 526 → ⊥) × (torn_by p ≡ d)
    go true c k e = let z : ◌≡◌ {A = ℕ} 0 1 = cc in absurd (omega arith)
    go false true k e = let z : ◌≡◌ {A = ℕ} 0 1 = cc in absurd (omega arith)
    go false false k e = (k refl, ap by e)

-- a lean one: at least 1
pub lean_torn : (p : List ℕ) (d : ℤ) → Lean p → class_of p ≡ Torn d → pos 1 ≤ℤ d
unfolding Lean torn_by
lean_torn p d l e =
    let t = torn_is p d e in
    subst (λ (z : ℤ). pos 1 ≤ℤ z) t.1 (least (le16 p 526) (zero_bits (take 526 p)) (go t.0 (dec_lt (zero_bits (take 526 p)) (le16 p 526))))
  where
    go : (zero_bits (take 526 p) ≡ le16 p 526 → ⊥) → Dec (zero_bits (take 526 p) < le16 p 526) → zero_bits (take 526 p) < le16 p 526
    go n (yes h) = h
    go n (no h) = absurd (n (omega (arith, l)))

-- ---- early and late
-- a page that lies over another is torn by more, unless it is that page
pub over_more : (p w : List ℕ) → length w ≡ 528 → Bytes p → Overs p w → (p ≡ w → ⊥) → torn_by w <ℤ torn_by p
unfolding torn_by
over_more p w e y h n = go (dec_lt (le16 w 526 + zero_bits (take 526 p)) (le16 p 526 + zero_bits (take 526 w)))
  where
    go : Dec (le16 w 526 + zero_bits (take 526 p) < le16 p 526 + zero_bits (take 526 w)) → torn_by w <ℤ torn_by p
    go (yes l) = less (le16 w 526) (zero_bits (take 526 w)) (le16 p 526) (zero_bits (take 526 p)) l
    go (no l) = absurd (n (over_same p w e y h (omega arith)))

-- where all bits of t are among those of u, turning t leaves a page over what turning u leaves
turned_over : (old t u : List ℕ) → Bytes u → Overs u t → Overs (minus old t) (minus old u)
unfolding minus
turned_over [] t u y h = tt
turned_over (x ∷ old) [] [] y h = overs_refl (x ∷ old)
turned_over (x ∷ old) [] (b ∷ u) y h = absurd h
turned_over (x ∷ old) (a ∷ t) [] y h = absurd h
turned_over (x ∷ old) (a ∷ t) (b ∷ u) y h = (and_keeps x (255 - a) (255 - b) (over_others b a y.0 h.0), turned_over old t u y.1 h.1)

-- of two cuts in one program, the one that turned all that the other did, and more, leaves the page torn by less
pub later_less : (p : ℕ) (xs : List ℕ) (k : ℕ) (new : List ℕ) → PageFits xs k → Bytes xs → (early late : List ℕ)
    → Overs (turned_bits p (program k new) late xs) (turned_bits p (program k new) early xs)
    → (page_at (cut_op p (program k new) early xs) k ≡ page_at (cut_op p (program k new) late xs) k → ⊥)
    → torn_by (page_at (cut_op p (program k new) late xs) k) <ℤ torn_by (page_at (cut_op p (program k new) early xs) k)
later_less p xs k new f y early late o =
    let old = page_at xs k in
    let t = turned_bits p (program k new) early xs in
    let u = turned_bits p (program k new) late xs in
    rw (cut_program_at p xs k new f early, cut_program_at p xs k new f late)
    (over_more (minus old t) (minus old u) (length_minus old u ∙ length_page xs k f) (bytes_minus old t (bytes_page xs k y))
    (turned_over old t u (bytes_turned p (program k new) late xs y) o))

-- an erase goes the other way: with each bit that it turns to one the difference rises
pub erase_more : (q turned : List ℕ) → length q ≡ 528 → Bytes q → Bytes turned → (ors q turned ≡ q → ⊥) → torn_by q <ℤ torn_by (ors q turned)
erase_more q turned e y z n = over_more (ors q turned) q e (bytes_ors q turned y z) (ors_over q turned) n
