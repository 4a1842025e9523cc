-- Refusal 4: what it passes it passes in part, in another order, and with one more entry, wherever it stands, that is fine by itself and clear of the
-- others: a page of an open change, a mark that closes one with a new version, or a lone page.
use Rattle.std.specs.Prelude.{◌≡◌, ◌⊎◌, ◌≢◌, Bool, false, ◌&&◌, ◌||◌, ℕ, ◌≤◌, ◌<◌, length, leb}
use Rattle.std.proofs.Math.Path.{refl, subst}
use Rattle.std.proofs.Common.{sym, ◌∙◌, inl, inr}
use Rattle.std.proofs.Math.Bool.{true, not, cond}
use native.Mathlib.Omega.{arith}
use mathlib.Core.List.{List, [], ◌∷◌, ◌++◌}
use Rattle.std.proofs.Math.Dec.{eqb}
use borrow.Author.Tests.{eq-eqb, ne_eqb, eqb-true, lt-ltb, le-leb}
use Rattle.model.specs.Lists.{all, keep, those}
use Rattle.model.specs.Zones.{Entry}
use Rattle.model.specs.Recovery.{kind_good, mark_new, number_good, entry_good, of_id, top}
use Rattle.model.specs.Transactions.{page_kind}
use Rattle.arrays.specs.Tests.{Is, eqb_cases, or_right}
use Rattle.arrays.specs.Insert.{Insert, here, there}
use Rattle.ranks.specs.Dealt.{each_map, passed, those_off}
use Rattle.ranks.specs.Entries.{Entries, entries_in_law, entries_both}
use Rattle.ranks.specs.Clear.{Fine, Clear, clear_sym, Pairs, Good}
use Rattle.ranks.specs.InTurn.{top_insert}
use Rattle.scanlog.specs.Sublist.{Sublist, nil, skip, both, each_part, sub_those}
use Rattle.scanlog.specs.Perm.{Perm, empty, put, entries_perm}
use Rattle.scanlog.specs.Turn.{numbered, Single}
use Rattle.scanlog.specs.Log.{NoMark}

-- ---- a part, one more, another order
module _ (planes logical : ℕ) where
  rest : {e : Entry} {es : List Entry} → Good planes logical (e ∷ es) → Good planes logical es
  rest g = record { fine = g.fine.1; pairs = g.pairs.1 }

  pub good_part : {xs ys : List Entry} → Sublist xs ys → Good planes logical ys → Good planes logical xs
  good_part nil g = g
  good_part (skip y s) g = good_part s (rest g)
  good_part (both y s) g =
      let h = good_part s (rest g) in
      record { fine = (g.fine.0, h.fine); pairs = (each_part (Clear planes y) s g.pairs.0, h.pairs) }

  -- it is fine by itself, and clear of those that were there
  pub good_in : (e : Entry) {xs ys : List Entry} → Insert e xs ys → Fine planes logical e → Entries (Clear planes e) xs → Good planes logical xs
      → Good planes logical ys
  good_in e (here xs) f c g = record { fine = (f, g.fine); pairs = (c, g.pairs) }
  good_in e (there x i) f c g =
      let h = good_in e i f c.1 (rest g) in
      record { fine = (g.fine.0, h.fine); pairs = (entries_in_law (Clear planes x) e i (clear_sym planes e x c.0) g.pairs.0, h.pairs) }

  pub good_perm : {xs ys : List Entry} → Perm xs ys → Good planes logical xs → Good planes logical ys
  good_perm empty g = g
  good_perm (put x p i) g = good_in x i g.fine.0 (entries_perm (Clear planes x) p g.pairs.0) (good_perm p (rest g))

-- ---- the entries of a layer
-- refusal 4 passes the kinds of a write and of a drop, and tells the one from the other
pub change_kind : (drop : Bool) → kind_good (page_kind drop) ≡ true
change_kind true = refl
change_kind false = refl

pub change_drop : (drop : Bool) → eqb (page_kind drop) 3 ≡ drop
change_drop true = refl
change_drop false = refl

-- what every entry of a layer has
pub record Plain (planes logical : ℕ) (e : Entry) : Type 0 where
  pub kind : kind_good e.kind ≡ true
  pub lpn : e.lpn < logical
  pub id : e.id ≢ 4294967295
  pub ver : e.ver ≢ 4294967295
  -- its write number on two planes, on pages of a nonzero identifier; else 0
  pub none : (planes ≢ 2) ⊎ (e.id ≡ 0) → e.reserved ≡ 0
  pub least : planes ≡ 2 → e.id ≢ 0 → 1 ≤ e.reserved
  pub most : planes ≡ 2 → e.reserved ≤ 41

-- the pages of the identifier of e have lower numbers
abbrev pub Lower : ℕ → Entry → List Entry → Type 0
Lower planes e es = planes ≡ 2 → e.id ≢ 0 → Entries (λ (y : Entry). y.id ≡ e.id → y.reserved < e.reserved) es

module _ (planes logical : ℕ) (e : Entry) (plain : Plain planes logical e) where
  number_fine_law : number_good planes [] e ≡ true
  unfolding number_good all
  number_fine_law = go (eqb_cases planes 2) (eqb_cases e.id 0)
    where
      go : Is planes 2 → Is e.id 0 → cond (eqb planes 2 && not (eqb e.id 0)) (leb 1 e.reserved && (leb e.reserved 41 && true)) (eqb e.reserved 0)
          ≡ true
      go (inr q) r = rw q.1 (eq-eqb e.reserved 0 (plain.none (inl q.0)))
      go (inl q) (inl r) = rw (q.1, r.1) (eq-eqb e.reserved 0 (plain.none (inr r.0)))
      go (inl q) (inr r) = rw (q.1, r.1, le-leb 1 e.reserved (plain.least q.0 r.0), le-leb e.reserved 41 (plain.most q.0))

  new_none : mark_new [] e ≡ true
  unfolding mark_new all
  new_none = or_right (eqb e.id 0) true refl

  -- a page of a transaction that is not marked yet
  pub fine_page : e.id ≢ 0 → e.cnt ≡ 0 → e.ver ≡ 0 → Fine planes logical e
  unfolding entry_good
  fine_page i c v =
      rw (
        plain.kind,
        number_fine_law,
        lt-ltb e.lpn logical plain.lpn,
        ne_eqb e.id 4294967295 plain.id,
        ne_eqb e.ver 4294967295 plain.ver,
        ne_eqb e.id 0 i,
        eq-eqb e.cnt 0 c,
        eq-eqb e.ver 0 v,
      )

  -- its mark, or a lone page
  pub fine_marked : (e.id ≡ 0 → e.cnt ≡ 1) → e.cnt ≢ 0 → e.ver ≢ 0 → Fine planes logical e
  unfolding entry_good
  fine_marked one c v =
      rw (
        plain.kind,
        number_fine_law,
        lt-ltb e.lpn logical plain.lpn,
        ne_eqb e.id 4294967295 plain.id,
        ne_eqb e.ver 4294967295 plain.ver,
        owner (eqb_cases e.id 0),
        ne_eqb e.cnt 0 c,
        ne_eqb e.ver 0 v,
        new_none,
      )
    where
      owner : Is e.id 0 → (not (eqb e.id 0) || eqb e.cnt 1) ≡ true
      owner (inl q) = rw q.1 (eq-eqb e.cnt 1 (one q.0))
      owner (inr q) = rw q.1

-- a page that is no mark is clear of all
pub clear_page : (planes : ℕ) (e : Entry) (es : List Entry) → e.cnt ≡ 0 → Lower planes e es → Entries (Clear planes e) es
clear_page planes e [] c l = tt
clear_page planes e (y ∷ es) c l = (
  record {
    ver = λ z. absurd (z c);
    id = λ z. absurd (z c);
    number = λ t i q r. absurd (omega (arith, (l t i).0 (sym q), r));
  },
  clear_page planes e es c (λ t i. (l t i).1),
)

-- so is one of a new version, a mark of an identifier that has none or a lone page
pub clear_marked : (planes : ℕ) (e : Entry) (es : List Entry) → (e.id ≢ 0 → NoMark e.id es) → top es < e.ver → Lower planes e es
    → Entries (Clear planes e) es
unfolding top
clear_marked planes e [] m v l = tt
clear_marked planes e (y ∷ es) m v l = (
  record {
    ver = λ z k q. absurd (omega (arith, q));
    id = λ z k i q. k ((m i).0 (sym q));
    number = λ t i q r. absurd (omega (arith, (l t i).0 (sym q), r));
  },
  clear_marked planes e es (λ i. (m i).1) (omega arith) (λ t i. (l t i).1),
)

-- ---- the highest version
pub top_sub : {xs ys : List Entry} → Sublist xs ys → top xs ≤ top ys
unfolding top
top_sub nil = omega arith
top_sub (skip y s) = omega (arith, top_sub s)
top_sub (both y s) = omega (arith, top_sub s)

pub top_perm : {xs ys : List Entry} → Perm xs ys → top ys ≡ top xs
unfolding top
top_perm empty = refl
top_perm (put x p i) = omega (arith, top_insert x i, top_perm p)

-- ---- on two planes no number stands twice on the pages of an identifier
owned : (i : ℕ) (es : List Entry) → Entries (λ (e : Entry). e.id ≡ i) (of_id i es)
unfolding of_id
owned i es = each_map _ _ (λ (e : Entry) t. eqb-true e.id i t) (of_id i es) (passed (λ (e : Entry). eqb e.id i) es)

module _ (planes logical i : ℕ) (two : planes ≡ 2) (some : i ≢ 0) where
  -- those behind a page of the identifier have other numbers
  other_number_law : (e : Entry) (xs : List Entry) → e.id ≡ i → Entries (Clear planes e) xs → Entries (λ (y : Entry). y.id ≡ i) xs
      → numbered e.reserved xs ≡ []
  other_number_law e xs q c o =
      those_off (λ (y : Entry). eqb y.reserved e.reserved) xs (entries_both (Clear planes e) (λ (y : Entry). y.id ≡ i) _
      (λ y d p. ne_eqb y.reserved e.reserved (λ s. d.number two (λ z. some (sym q ∙ z)) (q ∙ sym p) (sym s))) xs c o)

  single : (xs : List Entry) → Pairs (Clear planes) xs → Entries (λ (e : Entry). e.id ≡ i) xs → Single xs
  unfolding those
  single [] p o k = omega arith
  single (e ∷ xs) p o k = go (eqb_cases e.reserved k) (single xs p.1 o.1 k)
    where
      none : e.reserved ≡ k → numbered k xs ≡ []
      none q = subst (λ (j : ℕ). numbered j xs ≡ []) q (other_number_law e xs o.0 p.0 o.1)

      go : Is e.reserved k → length (numbered k xs) ≤ 1 → length (keep (eqb e.reserved k) (e ∷ []) ++ numbered k xs) ≤ 1
      go (inl q) ih = rw (q.1, none q.0) (omega arith)
      go (inr q) ih = rw q.1 ih

  pub good_single : (es : List Entry) → Good planes logical es → Single (of_id i es)
  unfolding of_id
  good_single es g =
      single (those (λ (e : Entry). eqb e.id i) es) (good_part planes logical (sub_those (λ (e : Entry). eqb e.id i) es) g).pairs (owned i es)
