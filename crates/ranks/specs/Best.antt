-- Redo by the best version: where refusal 4 passes the scan, what is redone by rising version is redone by one pass over the pages, in any order that
-- has those of each identifier in turn. A page's rank is the version of its committed transaction.
use Rattle.std.specs.Prelude.{◌≡◌, ◌⊎◌, ◌≢◌, Bool, false, not, ◌&&◌, length, leb}
use Rattle.std.proofs.Math.Path.{refl, sym, ap}
use Rattle.std.proofs.Common.{◌∙◌, inl, inr}
use Rattle.std.proofs.Math.Bool.{true}
use Prim.Native.Nat.{ℕ, zero, suc, ◌+◌, ◌-◌, ◌≤◌, ◌<◌}
use native.Mathlib.Omega.{arith}
use mathlib.Core.List.{List, [], ◌∷◌, ◌++◌, append-nil}
use Rattle.std.proofs.Math.Dec.{eqb}
use borrow.Author.Tests.{leb-true, leb-false, eq-eqb, ne_eqb, eqb-true}
use Rattle.model.specs.Lists.{those}
use Rattle.model.specs.Zones.{Entry}
use Rattle.model.specs.Recovery.{is_mark, pages_good, of_id, pages_of, committed, in_turn, txns_in, span, top, applied, redone}
use Rattle.arrays.specs.Tests.{Is, eqb_cases, decide, clash, not_so, and_left, and_right, those_append}
use Rattle.ranks.specs.Dealt.{every, each_map, passed, digit_own, those_off, those_on}
use Rattle.arrays.specs.Insert.{Insert, here, there, those_in}
use Rattle.ranks.specs.Entries.{Entries, entries_in_law, entries_out, entries_both, entries_those, those_entries, those_same, those_alone}
use Rattle.ranks.specs.Entries.{Found, none, one, search_in}
use Rattle.ranks.specs.Clear.{Clear, clear_sym, Pairs, Good, passed_good}
use Rattle.ranks.specs.InTurn.{turn_nil, entries_turn, those_turn}
use Rattle.ranks.specs.Pass.{best_of, start_best, level, Climbs, climbs_append, climbs_flat, enter_best_law}

-- ---- the rank of a page
-- the version of the committed transaction that page e is of, or 0
unfoldable pub ver_of : List Entry → Entry → ℕ
ver_of es e = top (those (committed es) (pages_of es e))

-- by what a page outranks another of its logical page
unfoldable pub rank_of : List Entry → Entry → ℕ
rank_of es e = ver_of es e

-- what the map becomes by one pass over the pages ys of the scan es
unfoldable pub best_pass : ℕ → List Entry → List Entry → List ℕ → List ℕ
best_pass floor es ys m = (best_of (rank_of es) ys (start_best (suc floor) m)).map

-- ---- the pages of a transaction
-- of a change those of its identifier, of a lone page itself
pub pages_many : (es : List Entry) (e : Entry) → e.id ≢ 0 → pages_of es e ≡ of_id e.id es
unfolding pages_of
pages_many es e i = rw (ne_eqb e.id 0 i)

pub pages_lone : (es : List Entry) (e : Entry) → e.id ≡ 0 → pages_of es e ≡ e ∷ []
unfolding pages_of
pages_lone es e z = rw (eq-eqb e.id 0 z)

-- the entries of an identifier, and each entry that has it
entries_own : (P : Entry → Type 0) (i : ℕ) (es : List Entry) → Entries (λ (e : Entry). e.id ≡ i → P e) es → Entries P (of_id i es)
unfolding of_id
entries_own P i es h = entries_those P _ es (each_map _ _ (λ e f t. f (eqb-true e.id i t)) es h)

own_entries : (P : Entry → Type 0) (i : ℕ) (es : List Entry) → Entries P (of_id i es) → Entries (λ (e : Entry). e.id ≡ i → P e) es
unfolding of_id
own_entries P i es h = each_map _ _ (λ e f q. f (eq-eqb e.id i q)) es (those_entries P (λ (e : Entry). eqb e.id i) es h)

-- what is so of page e and of each entry that has its identifier
entries_pages : (P : Entry → Type 0) (es : List Entry) (e : Entry) → P e → Entries (λ (z : Entry). z.id ≡ e.id → P z) es → Entries P (pages_of es e)
entries_pages P es e p h = go (eqb_cases e.id 0)
  where
    go : Is e.id 0 → Entries P (pages_of es e)
    go (inl q) = rw (pages_lone es e q.0) (p, tt)
    go (inr q) = rw (pages_many es e q.0) (entries_own P e.id es h)

-- ---- the version of a page
-- of a lone page its own
pub ver_lone : (es : List Entry) (e : Entry) → e.id ≡ 0 → e.cnt ≡ 1 → ver_of es e ≡ e.ver
unfolding ver_of top
ver_lone es e z c =
    ap (λ (zs : List Entry). top (those (committed es) zs)) (pages_lone es e z)
    ∙ ap top (those_alone (committed es) e (here []) (unfold committed in whole) tt)
    ∙ omega arith
  where
    whole : (is_mark e && eqb e.cnt (length (pages_of es e))) ≡ true
    whole = rw (ne_eqb e.cnt 0 (λ q. absurd (omega arith))) (eq-eqb e.cnt (length (pages_of es e)) (c ∙ rw (pages_lone es e z)))

-- of a page of a change that of the mark which counts the pages of its identifier, or 0
pub ver_run : (es : List Entry) (e : Entry) → e.id ≢ 0
    → ver_of es e ≡ top (those (λ (x : Entry). not (eqb x.cnt 0) && eqb x.cnt (length (of_id e.id es))) (of_id e.id es))
unfolding ver_of committed
ver_run es e i = rw (pages_many es e i) (ap top (those_same _ _ (of_id e.id es) (entries_own _ e.id es (every _ same es))))
  where
    same : (x : Entry) → x.id ≡ e.id → (is_mark x && eqb x.cnt (length (pages_of es x))) ≡ (is_mark x && eqb x.cnt (length (of_id e.id es)))
    same x q = rw (pages_many es x (λ z. i (sym q ∙ z)), q)

-- the pages of a change have one version
pub ver_same : (es : List Entry) (x y : Entry) → y.id ≢ 0 → x.id ≡ y.id → ver_of es x ≡ ver_of es y
unfolding ver_of
ver_same es x y i q =
    ap (λ (zs : List Entry). top (those (committed es) zs))
    (pages_many es x (λ z. i (sym q ∙ z)) ∙ ap (λ (k : ℕ). of_id k es) q ∙ sym (pages_many es y i))

-- none of them is v
top_not : (v : ℕ) (es : List Entry) → v ≢ 0 → Entries (λ (e : Entry). e.ver ≢ v) es → top es ≢ v
unfolding top
top_not v [] z h q = z (sym q)
top_not v (e ∷ es) z h q = go (eqb_cases (top es) v) (top_not v es z h.1)
  where
    go : Is (top es) v → top es ≢ v → ⊥
    go (inl r) n = n r.0
    go (inr r) n = h.0 (omega (arith, r.0))

top_in : (y : Entry) {xs es : List Entry} → Insert y xs es → y.ver ≤ top es
unfolding top
top_in y (here xs) = omega arith
top_in y (there x i) = omega (arith, top_in y i)

committed_mark : (es : List Entry) (e : Entry) → committed es e ≡ true → e.cnt ≢ 0
unfolding committed
committed_mark es e h q = clash (and_left (is_mark e) _ h) (rw (eq-eqb e.cnt 0 q))

-- one entry with each of the others
pairs_out : (planes : ℕ) (y : Entry) {xs es : List Entry} → Insert y xs es → Pairs (Clear planes) es → Entries (Clear planes y) xs
pairs_out planes y (here xs) p = p.0
pairs_out planes y (there x i) p = (clear_sym planes x y (entries_out (Clear planes x) y i p.0).0, pairs_out planes y i p.1)

-- ---- the pages of a version
module _ (planes logical : ℕ) (es : List Entry) (g : Good planes logical es) where
  abbrev ver : Entry → ℕ
  ver = ver_of es

  -- the pages of the committed transaction of version v
  abbrev layer : ℕ → List Entry
  layer v = level ver v es

  -- in turn
  abbrev turned : ℕ → List Entry
  turned v = in_turn planes (layer v)

  -- y commits version v
  abbrev gives : ℕ → Entry → Bool
  gives v y = eqb y.ver v && committed es y

  -- y commits another version, or none
  abbrev Off : ℕ → Entry → Type 0
  Off v y = committed es y ≡ true → y.ver ≢ v

  gives_off : (v : ℕ) (y : Entry) → gives v y ≡ false → Off v y
  gives_off v y h c q = clash (rw (eq-eqb y.ver v q) c) h

  off_gives : (v : ℕ) (y : Entry) → Off v y → gives v y ≡ false
  off_gives v y h = not_so (gives v y) (λ t. h (and_right (eqb y.ver v) _ t) (eqb-true y.ver v (and_left (eqb y.ver v) _ t)))

  txns_none : (v : ℕ) (ys : List Entry) → Entries (λ (y : Entry). gives v y ≡ false) ys → txns_in planes es v ys ≡ []
  unfolding txns_in
  txns_none v [] h = refl
  txns_none v (y ∷ ys) h = rw h.0 (txns_none v ys h.1)

  txns_alone : (v : ℕ) (y : Entry) {xs ys : List Entry} → Insert y xs ys → gives v y ≡ true → Entries (λ (y : Entry). gives v y ≡ false) xs
      → txns_in planes es v ys ≡ in_turn planes (pages_of es y)
  unfolding txns_in
  txns_alone v y (here xs) h k = rw (h, txns_none v xs k) (append-nil (in_turn planes (pages_of es y)))
  txns_alone v y (there x i) h k = rw k.0 (txns_alone v y i h k.1)

  -- no page of e's transaction commits version v
  ver_off : (v : ℕ) (e : Entry) → v ≢ 0 → Entries (Off v) (pages_of es e) → ver e ≢ v
  unfolding ver_of
  ver_off v e nz h = top_not v (those (committed es) (pages_of es e)) nz (entries_those (λ (z : Entry). z.ver ≢ v) (committed es) (pages_of es e) h)

  -- version v is nobody's
  ver_none : (v : ℕ) → v ≢ 0 → Entries (λ (y : Entry). gives v y ≡ false) es → Entries (λ (e : Entry). ver e ≢ v) es
  ver_none v nz h = each_map _ _ (λ e k. ver_off v e nz (entries_pages (Off v) es e k (each_map _ _ (λ z f q. f) es off))) es off
    where
      off : Entries (Off v) es
      off = each_map _ _ (gives_off v) es h

  -- version v is committed by y
  module _ (v : ℕ) (nz : v ≢ 0) (y : Entry) (xs : List Entry) (i : Insert y xs es) (h : gives v y ≡ true) where
    ver_y : y.ver ≡ v
    ver_y = eqb-true y.ver v (and_left (eqb y.ver v) (committed es y) h)

    com_y : committed es y ≡ true
    com_y = and_right (eqb y.ver v) (committed es y) h

    clears : Entries (Clear planes y) xs
    clears = pairs_out planes y i g.pairs

    -- by no other
    others : Entries (Off v) xs
    others = each_map _ _ (λ x c k q. c.ver (committed_mark es y com_y) (committed_mark es x k) (ver_y ∙ sym q)) xs clears

    -- nor by a page of another identifier
    foreign : Entries (λ (z : Entry). z.id ≢ y.id → Off v z) es
    foreign = entries_in_law _ y i (λ q. absurd (q refl)) (each_map _ _ (λ x k q. k) xs others)

    ver_apart : Entries (λ (e : Entry). e.id ≢ y.id → ver e ≢ v) es
    ver_apart = each_map _ _ (λ e f q. ver_off v e nz (entries_pages (Off v) es e (f q) (each_map _ _ (λ z k s. k (λ r. q (sym s ∙ r))) es foreign))) es foreign

    -- it is the version of y's pages
    mine : ver y ≡ v
    unfolding ver_of top
    mine = ap top (go (eqb_cases y.id 0)) ∙ omega (arith, ver_y)
      where
        go : Is y.id 0 → those (committed es) (pages_of es y) ≡ y ∷ []
        go (inl q) = rw (pages_lone es y q.0) (those_alone (committed es) y (here []) com_y tt)
        go (inr q) = rw (pages_many es y q.0) (those_alone (committed es) y (own i) com_y (entries_own _ y.id xs
            (each_map _ _ (λ x c same. not_so (committed es x) (λ k. c.id (committed_mark es y com_y) (committed_mark es x k) q.0 (sym same))) xs clears)))
          where
            own : Insert y xs es → Insert y (of_id y.id xs) (of_id y.id es)
            own i = unfold of_id in those_in y (λ (e : Entry). eqb e.id y.id) i (eq-eqb y.id y.id refl)

    -- the layer is the transaction
    layer_one : layer v ≡ pages_of es y
    layer_one = go (eqb_cases y.id 0)
      where
        go : Is y.id 0 → layer v ≡ pages_of es y
        go (inl q) = rw (pages_lone es y q.0) (those_alone (λ (e : Entry). eqb (ver e) v) y i (eq-eqb (ver y) v mine)
            (entries_both _ _ _ (λ x k f. ne_eqb (ver x) v (off x k f (eqb_cases x.id 0))) xs others (entries_out _ y i ver_apart).1))
          where
            off : (x : Entry) → Off v x → (x.id ≢ y.id → ver x ≢ v) → Is x.id 0 → ver x ≢ v
            off x k f (inl r) = ver_off v x nz (rw (pages_lone es x r.0) (k, tt))
            off x k f (inr r) = f (λ s. r.0 (s ∙ q.0))
        go (inr q) = rw (pages_many es y q.0) (unfold of_id in those_same _ _ es (each_map _ _ (λ e f. test e f (eqb_cases e.id y.id)) es ver_apart))
          where
            test : (e : Entry) → (e.id ≢ y.id → ver e ≢ v) → Is e.id y.id → eqb (ver e) v ≡ eqb e.id y.id
            test e f (inl r) = rw r.1 (eq-eqb (ver e) v (ver_same es e y q.0 r.0 ∙ mine))
            test e f (inr r) = rw r.1 (ne_eqb (ver e) v (f r.0))

  layer_none : (v : ℕ) → v ≢ 0 → Entries (λ (y : Entry). gives v y ≡ false) es → layer v ≡ []
  layer_none v nz h = those_off _ es (each_map _ _ (λ e k. ne_eqb (ver e) v k) es (ver_none v nz h))

  -- the transactions of a version are its layer, in turn
  txns_layer : (v : ℕ) → v ≢ 0 → txns_in planes es v es ≡ turned v
  txns_layer v nz = go (search_in (gives v) es)
    where
      go : Found (gives v) es → txns_in planes es v es ≡ turned v
      go (none h) = txns_none v es h ∙ sym (turn_nil planes) ∙ ap (in_turn planes) (sym (layer_none v nz h))
      go (one y xs i h) = txns_alone v y i h (each_map _ _ (off_gives v) xs (others v nz y xs i h)) ∙ ap (in_turn planes) (sym (layer_one v nz y xs i h))

  -- each of its pages has that version
  turned_ver : (v : ℕ) → Entries (λ (e : Entry). ver e ≡ v) (turned v)
  turned_ver v = entries_turn _ planes (layer v) (each_map _ _ (λ e t. eqb-true (ver e) v t) (layer v) (passed (λ (e : Entry). eqb (ver e) v) es))

  -- ---- what is applied, by layers
  -- its versions rise
  span_climbs : (floor k : ℕ) → Climbs ver (suc floor) (suc (floor + k)) (span planes es floor k)
  unfolding span
  span_climbs floor zero = omega arith
  span_climbs floor (suc k) =
      let v = floor + suc k in
      climbs_append ver (suc floor) (suc (floor + k)) (suc v) (span planes es floor k) (txns_in planes es v es) (span_climbs floor k)
      (rw (txns_layer v (λ q. absurd (omega arith))) (climbs_flat ver (suc (floor + k)) (suc v) v (turned v) (omega arith) (omega arith) (turned_ver v)))

  txns_own : (v : ℕ) → v ≢ 0 → level ver v (txns_in planes es v es) ≡ turned v
  txns_own v nz = ap (level ver v) (txns_layer v nz) ∙ those_on _ (turned v) (each_map _ _ (λ e q. eq-eqb (ver e) v q) (turned v) (turned_ver v))

  txns_other : (v r : ℕ) → v ≢ 0 → r ≢ v → level ver r (txns_in planes es v es) ≡ []
  txns_other v r nz h =
      ap (level ver r) (txns_layer v nz) ∙ those_off _ (turned v) (each_map _ _ (λ e q. ne_eqb (ver e) r (λ k. h (sym k ∙ q))) (turned v) (turned_ver v))

  span_out : (floor k r : ℕ) → floor + k < r → level ver r (span planes es floor k) ≡ []
  unfolding span those
  span_out floor zero r h = refl
  span_out floor (suc k) r h =
      those_append _ (span planes es floor k) (txns_in planes es (floor + suc k) es)
      ∙ rw (span_out floor k r (omega arith), txns_other (floor + suc k) r (λ q. absurd (omega arith)) (λ q. absurd (omega arith)))

  span_in : (floor k r : ℕ) → floor < r → r ≤ floor + k → level ver r (span planes es floor k) ≡ turned r
  unfolding span
  span_in floor zero r h j = absurd (omega arith)
  span_in floor (suc k) r h j = those_append _ (span planes es floor k) (txns_in planes es (floor + suc k) es) ∙ go (eqb_cases r (floor + suc k)) (span_in floor k r h)
    where
      go : Is r (floor + suc k) → (r ≤ floor + k → level ver r (span planes es floor k) ≡ turned r)
          → level ver r (span planes es floor k) ++ level ver r (txns_in planes es (floor + suc k) es) ≡ turned r
      go (inl q) ih = rw (span_out floor k r (omega (arith, q.0)), ← q.0) (txns_own r (λ z. absurd (omega arith)))
      go (inr q) ih = rw (ih (omega (arith, q.0)), txns_other (floor + suc k) r (λ z. absurd (omega arith)) q.0) (append-nil (turned r))

  -- no version is above the highest
  layer_above : (v : ℕ) → top es < v → layer v ≡ []
  layer_above v h = go (search_in (gives v) es)
    where
      go : Found (gives v) es → layer v ≡ []
      go (none k) = layer_none v (λ q. absurd (omega arith)) k
      go (one y xs i k) = absurd (omega (arith, top_in y i, ver_y v (λ q. absurd (omega arith)) y xs i k))

  applied_layer : (floor r : ℕ) → floor < r → level ver r (applied planes floor es) ≡ turned r
  unfolding applied
  applied_layer floor r h = go (decide (leb r (floor + (top es - floor))))
    where
      go : (leb r (floor + (top es - floor)) ≡ true) ⊎ (leb r (floor + (top es - floor)) ≡ false) → level ver r (span planes es floor (top es - floor)) ≡ turned r
      go (inl t) = span_in floor (top es - floor) r h (leb-true r _ t)
      go (inr t) = let l = leb-false r (floor + (top es - floor)) t in span_out floor (top es - floor) r l ∙ sym (ap (in_turn planes) (layer_above r (omega arith)) ∙ turn_nil planes)

  -- ---- the same pages, those of each identifier in turn
  module _ (ys : List Entry) (grouped : (i : ℕ) → of_id i ys ≡ in_turn planes (of_id i es)) where
    -- what is so of each page of the one is so of each of the other
    entries_over : (P : Entry → Type 0) → Entries P es → Entries P ys
    entries_over P h =
        each ys (λ i. own_entries P i ys (rw (grouped i) (entries_turn P planes (of_id i es) (entries_own P i es (each_map _ _ (λ e p q. p) es h)))))
      where
        each : (zs : List Entry) → ((i : ℕ) → Entries (λ (z : Entry). z.id ≡ i → P z) zs) → Entries P zs
        each [] k = tt
        each (z ∷ zs) k = ((k z.id).0 refl, each zs (λ i. (k i).1))

    -- a version above 0 is of one identifier
    layer_grouped : (v : ℕ) → v ≢ 0 → turned v ≡ level ver v ys
    unfolding of_id
    layer_grouped v nz = go (search_in (gives v) es)
      where
        go : Found (gives v) es → turned v ≡ level ver v ys
        go (none h) =
            ap (in_turn planes) (layer_none v nz h) ∙ turn_nil planes
            ∙ sym (those_off _ ys (each_map _ _ (λ e k. ne_eqb (ver e) v k) ys (entries_over _ (ver_none v nz h))))
        go (one y xs i h) =
            let own : Entries (λ (e : Entry). eqb (ver e) v ≡ true → e.id ≡ y.id) es
            = each_map _ _ (λ e f t. is e f (eqb-true (ver e) v t) (eqb_cases e.id y.id)) es (ver_apart v nz y xs i h) in
            ap (in_turn planes) (sym (digit_own (λ (e : Entry). e.id) _ y.id es own))
            ∙ sym (those_turn (λ (e : Entry). eqb (ver e) v) planes (of_id y.id es))
            ∙ ap (level ver v) (sym (grouped y.id))
            ∙ digit_own (λ (e : Entry). e.id) _ y.id ys (entries_over _ own)
          where
            is : (e : Entry) → (e.id ≢ y.id → ver e ≢ v) → ver e ≡ v → Is e.id y.id → e.id ≡ y.id
            is e f a (inl q) = q.0
            is e f a (inr q) = absurd (f q.0 a)

-- ---- redo by the best version
-- the map that recovery redoes, by one pass over the scan's pages in such an order
pub best_redone : (planes logical floor : ℕ) (es ys : List Entry) (m : List ℕ) → pages_good planes logical es ≡ true
    → ((i : ℕ) → of_id i ys ≡ in_turn planes (of_id i es)) → redone planes floor es m ≡ best_pass floor es ys m
unfolding redone best_pass rank_of applied
best_redone planes logical floor es ys m h grouped =
    let g = passed_good planes logical es h in
    enter_best_law (ver_of es) (suc floor) (suc (floor + (top es - floor))) (applied planes floor es) ys m (span_climbs planes logical es g floor (top es - floor))
    (λ v l. applied_layer planes logical es g floor v l ∙ layer_grouped planes logical es g ys grouped v (λ q. absurd (omega arith)))
