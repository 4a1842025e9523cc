-- The log: what recovery makes of one more entry, wherever it stands in the scan. A page of an unmarked identifier changes nothing; a mark of the
-- next version applies its transaction on top, or nothing where its count is not that of its pages; a lone page sets its entry.
use Rattle.std.specs.Prelude.{◌≡◌, ◌⊎◌, ◌≢◌, not, ◌&&◌, eqb}
use Rattle.std.proofs.Math.Path.{refl, ap}
use Rattle.std.proofs.Common.{sym, ◌∙◌, inl, inr, add-zero, add-suc}
use Rattle.std.proofs.Math.Bool.{and-false}
use Prim.Native.Nat.{ℕ, zero, suc, ◌+◌, ◌-◌, ◌≤◌, ◌<◌, max}
use native.Mathlib.Omega.{arith}
use mathlib.Core.List.{List, [], ◌∷◌, ◌++◌, append-nil, append_assoc}
use Rattle.std.proofs.Math.ListN.{length}
use borrow.Author.Tests.{eq-eqb, ne_eqb}
use Rattle.model.specs.Lists.{keep}
use Rattle.model.specs.Geometry.{enter_page}
use Rattle.model.specs.Zones.{Entry}
use Rattle.model.specs.Recovery.{leads_to, of_id, pages_of, committed, in_turn, txns_in, span, top, applied, enter, redone}
use Rattle.arrays.specs.Tests.{Is, eqb_cases, those_append}
use Rattle.arrays.specs.Insert.{Insert, here, there, those_in, those_out}
use Rattle.ranks.specs.Dealt.{each_map}
use Rattle.ranks.specs.Entries.{Entries, those_entries}
use Rattle.ranks.specs.InTurn.{turn_none, top_insert}
use Rattle.ranks.specs.Best.{pages_many, pages_lone}
use Rattle.scanlog.specs.Sublist.{those_last}

-- ---- the entries of an identifier
pub of_id_append : (i : ℕ) (xs ys : List Entry) → of_id i (xs ++ ys) ≡ of_id i xs ++ of_id i ys
unfolding of_id
of_id_append i xs ys = those_append (λ (e : Entry). eqb e.id i) xs ys

pub of_id_other : (i : ℕ) {xs fs : List Entry} (e : Entry) → Insert e xs fs → e.id ≢ i → of_id i fs ≡ of_id i xs
unfolding of_id
of_id_other i e s n = those_out e (λ (e : Entry). eqb e.id i) s (ne_eqb e.id i n)

pub of_id_in : (i : ℕ) {xs fs : List Entry} (e : Entry) → Insert e xs fs → e.id ≡ i → Insert e (of_id i xs) (of_id i fs)
unfolding of_id
of_id_in i e s h = those_in e (λ (e : Entry). eqb e.id i) s (eq-eqb e.id i h)

pub of_id_last : (i : ℕ) (xs : List Entry) (e : Entry) → e.id ≡ i → of_id i (xs ++ (e ∷ [])) ≡ of_id i xs ++ (e ∷ [])
unfolding of_id
of_id_last i xs e h = those_last (λ (e : Entry). eqb e.id i) xs e (eq-eqb e.id i h)

-- what is so of each of them, is so of each entry that is of the identifier
pub own_entries : (P : Entry → Type 0) (i : ℕ) (es : List Entry) → Entries P (of_id i es) → Entries (λ (y : Entry). y.id ≡ i → P y) es
unfolding of_id
own_entries P i es h = each_map _ _ (λ y k q. k (eq-eqb y.id i q)) es (those_entries P (λ (e : Entry). eqb e.id i) es h)

-- ---- the transactions of a version
-- no mark of the entries but a lone one has e's identifier
abbrev pub Apart : Entry → List Entry → Type 0
Apart e [] = Unit {0}
Apart e (y ∷ ys) = (y.cnt ≢ 0 → y.id ≢ 0 → y.id ≢ e.id) × Apart e ys

module _ (planes : ℕ) where
  -- what page y commits to version v in a scan
  abbrev commits : List Entry → ℕ → Entry → List Entry
  commits xs v y = keep (eqb y.ver v && committed xs y) (in_turn planes (pages_of xs y))

  -- a mark sees two scans alike if its identifier has the same entries in both
  alike : (xs zs : List Entry) (v : ℕ) (y : Entry) → (y.cnt ≢ 0 → y.ver ≡ v → y.id ≢ 0 → of_id y.id xs ≡ of_id y.id zs) → commits xs v y ≡ commits zs v y
  unfolding committed pages_of
  alike xs zs v y h = go (eqb_cases y.cnt 0) (eqb_cases y.ver v) (eqb_cases y.id 0)
    where
      go : Is y.cnt 0 → Is y.ver v → Is y.id 0 → commits xs v y ≡ commits zs v y
      go (inl c) w z = rw (c.1, and-false (eqb y.ver v))
      go (inr c) (inr w) z = rw w.1
      go (inr c) (inl w) (inl z) = rw (c.1, w.1, z.1)
      go (inr c) (inl w) (inr z) = rw (c.1, w.1, z.1, h c.0 w.0 z.0)

  -- no mark, or one of another version, commits nothing to version v
  commits_none : (xs : List Entry) (v : ℕ) (y : Entry) → (y.cnt ≡ 0) ⊎ (y.ver ≢ v) → commits xs v y ≡ []
  unfolding committed
  commits_none xs v y (inl z) = rw (eq-eqb y.cnt 0 z, and-false (eqb y.ver v))
  commits_none xs v y (inr d) = rw (ne_eqb y.ver v d)

  -- above the highest version nothing is committed
  txns_above : (xs : List Entry) (v : ℕ) (ys : List Entry) → top ys < v → txns_in planes xs v ys ≡ []
  unfolding txns_in top
  txns_above xs v [] h = refl
  txns_above xs v (y ∷ ys) h = rw (commits_none xs v y (inr (omega arith)), txns_above xs v ys (omega arith))

  -- one more entry e
  module _ {xs fs : List Entry} (e : Entry) (s : Insert e xs fs) where
    -- a mark of another identifier sees it no more than before
    others : (v : ℕ) (y : Entry) → (y.cnt ≢ 0 → y.id ≢ 0 → y.id ≢ e.id) → commits fs v y ≡ commits xs v y
    others v y a = alike fs xs v y (λ c w z. of_id_other y.id e s (λ q. a c z (sym q)))

    txns_same : (v : ℕ) (ys : List Entry) → Apart e ys → txns_in planes fs v ys ≡ txns_in planes xs v ys
    unfolding txns_in
    txns_same v [] a = refl
    txns_same v (y ∷ ys) a = rw (others v y a.0, txns_same v ys a.1)

    -- it commits nothing to version v: what version v has is what it had
    txns_quiet : (v : ℕ) {ys zs : List Entry} → Insert e ys zs → Apart e ys → commits fs v e ≡ [] → txns_in planes fs v zs ≡ txns_in planes xs v ys
    unfolding txns_in
    txns_quiet v (here ys) a q = rw q (txns_same v ys a)
    txns_quiet v (there y i) a q = rw (others v y a.0, txns_quiet v i a.1 q)

    -- nothing else has a version as high: version v is what it commits
    txns_mark : (v : ℕ) {ys zs : List Entry} → Insert e ys zs → top ys < v → txns_in planes fs v zs ≡ commits fs v e
    unfolding txns_in top
    txns_mark v (here ys) h = rw (txns_above fs v ys h) (append-nil (commits fs v e))
    txns_mark v (there y i) h = rw (commits_none fs v y (inr (omega arith)), txns_mark v i (omega arith))

  -- ---- spans of versions
  -- two scans that agree on the versions of a span
  span_same : (xs ys : List Entry) (floor k : ℕ) → ((v : ℕ) → floor < v → v ≤ floor + k → txns_in planes ys v ys ≡ txns_in planes xs v xs)
      → span planes ys floor k ≡ span planes xs floor k
  unfolding span
  span_same xs ys floor zero h = refl
  span_same xs ys floor (suc k) h = rw (span_same xs ys floor k (λ v a b. h v a (omega arith)), h (floor + suc k) (omega arith) (omega arith))

  span_add : (xs : List Entry) (floor j k : ℕ) → span planes xs floor (j + k) ≡ span planes xs floor j ++ span planes xs (floor + j) k
  unfolding span
  span_add xs floor j zero = rw (add-zero j) (sym (append-nil (span planes xs floor j)))
  span_add xs floor j (suc k) =
      let e : floor + suc (j + k) ≡ floor + j + suc k = omega arith in
      rw (add-suc j k) (rw (span_add xs floor j k, e)
      (append_assoc (span planes xs floor j) (span planes xs (floor + j) k) (txns_in planes xs (floor + j + suc k) xs)))

  -- a span with nothing in it
  span_empty : (xs : List Entry) (floor k : ℕ) → ((v : ℕ) → floor < v → v ≤ floor + k → txns_in planes xs v xs ≡ []) → span planes xs floor k ≡ []
  unfolding span
  span_empty xs floor zero h = refl
  span_empty xs floor (suc k) h = rw (span_empty xs floor k (λ v a b. h v a (omega arith)), h (floor + suc k) (omega arith) (omega arith))

  -- any span that reaches past the top is all that is applied
  applied_long : (xs : List Entry) (floor k : ℕ) → top xs ≤ floor + k → span planes xs floor k ≡ applied planes floor xs
  unfolding applied
  applied_long xs floor k h =
      let e : k ≡ (top xs - floor) + (k - (top xs - floor)) = omega arith in
      ap (span planes xs floor) e ∙ span_add xs floor (top xs - floor) (k - (top xs - floor))
      ∙ rw (span_empty xs (floor + (top xs - floor)) (k - (top xs - floor)) (λ v a b. txns_above xs v xs (omega arith)))
      (append-nil (span planes xs floor (top xs - floor)))

  -- ---- what is applied
  -- an entry that commits nothing to any version up to the top
  applied_none : (floor : ℕ) {xs fs : List Entry} (e : Entry) → Insert e xs fs → Apart e xs → ((v : ℕ) → commits fs v e ≡ [])
      → applied planes floor fs ≡ applied planes floor xs
  unfolding applied
  applied_none floor {xs} {fs} e s a q =
      span_same xs fs floor (top fs - floor) (λ v h k. txns_quiet e s v s a (q v)) ∙ applied_long xs floor (top fs - floor) (omega (arith, top_insert e s))

  -- a mark of the next version adds what it commits
  applied_mark : (floor : ℕ) {xs fs : List Entry} (e : Entry) → Insert e xs fs → Apart e xs → e.cnt ≢ 0 → e.ver ≡ suc (max floor (top xs))
      → e.cnt ≡ length (pages_of fs e) → applied planes floor fs ≡ applied planes floor xs ++ in_turn planes (pages_of fs e)
  unfolding applied span committed
  applied_mark floor {xs} {fs} e s a m v c =
      let k = max floor (top xs) - floor in
      let t : top fs - floor ≡ suc k = omega (arith, top_insert e s) in
      let u : floor + suc k ≡ e.ver = omega arith in
      let r : span planes fs floor k ≡ applied planes floor xs
      = span_same xs fs floor k (λ x h j. txns_quiet e s x s a (commits_none fs x e (inr (omega arith)))) ∙ applied_long xs floor k (omega arith) in
      let w : txns_in planes fs e.ver fs ≡ in_turn planes (pages_of fs e)
      = txns_mark e s e.ver s (omega arith) ∙ rw (eq-eqb e.ver e.ver refl, ne_eqb e.cnt 0 m, eq-eqb e.cnt (length (pages_of fs e)) c) in
      rw t (rw (u, r, w))

-- ---- the map that is redone
pub enter_append : (m : List ℕ) (es fs : List Entry) → enter m (es ++ fs) ≡ enter (enter m es) fs
unfolding enter
enter_append m [] fs = refl
enter_append m (e ∷ es) fs = enter_append (enter_page m e.lpn (leads_to e)) es fs

-- no entry of the identifier is a mark
abbrev pub NoMark : ℕ → List Entry → Type 0
NoMark i es = Entries (λ (y : Entry). y.id ≡ i → y.cnt ≡ 0) es

no_mark_apart : (e : Entry) (xs : List Entry) → NoMark e.id xs → Apart e xs
no_mark_apart e [] n = tt
no_mark_apart e (y ∷ ys) n = ((λ c j q. c (n.0 q)), no_mark_apart e ys n.1)

lone_apart : (e : Entry) (xs : List Entry) → e.id ≡ 0 → Apart e xs
lone_apart e [] z = tt
lone_apart e (y ∷ ys) z = ((λ c j q. j (q ∙ z)), lone_apart e ys z)

module _ (planes floor : ℕ) (m : List ℕ) {xs fs : List Entry} (e : Entry) (s : Insert e xs fs) where
  -- a page of an identifier that has no mark changes nothing
  pub redone_page : e.cnt ≡ 0 → NoMark e.id xs → redone planes floor fs m ≡ redone planes floor xs m
  unfolding redone
  redone_page z u = rw (applied_none planes floor e s (no_mark_apart e xs u) (λ v. commits_none planes fs v e (inl z)))

  -- a mark that counts other pages than its transaction has changes nothing
  pub redone_miscount : NoMark e.id xs → e.cnt ≢ length (pages_of fs e) → redone planes floor fs m ≡ redone planes floor xs m
  unfolding redone
  redone_miscount u c = rw (applied_none planes floor e s (no_mark_apart e xs u) (λ v. commits_other v))
    where
      commits_other : (v : ℕ) → commits planes fs v e ≡ []
      commits_other v = unfold committed in rw (ne_eqb e.cnt (length (pages_of fs e)) c, and-false (not (eqb e.cnt 0)), and-false (eqb e.ver v))

  -- the mark of a transaction applies it on top
  pub redone_mark : e.id ≢ 0 → NoMark e.id xs → e.cnt ≢ 0 → e.cnt ≡ length (of_id e.id fs) → e.ver ≡ suc (max floor (top xs))
      → redone planes floor fs m ≡ enter (redone planes floor xs m) (in_turn planes (of_id e.id fs))
  unfolding redone
  redone_mark i u z c v =
      let d : e.cnt ≡ length (pages_of fs e) = c ∙ rw (pages_many fs e i) in
      rw (applied_mark planes floor e s (no_mark_apart e xs u) z v d, pages_many fs e i)
      (enter_append m (applied planes floor xs) (in_turn planes (of_id e.id fs)))

  -- a lone page sets its entry
  pub redone_lone : e.id ≡ 0 → e.reserved ≡ 0 → e.cnt ≡ 1 → e.ver ≡ suc (max floor (top xs))
      → redone planes floor fs m ≡ enter_page (redone planes floor xs m) e.lpn (leads_to e)
  unfolding redone enter
  redone_lone z r c v =
      let d : e.cnt ≡ length (pages_of fs e) = c ∙ rw (pages_lone fs e z) in
      rw (applied_mark planes floor e s (lone_apart e xs z) (omega arith) v d, pages_lone fs e z, turn_none planes (e ∷ []) (r, tt))
      (enter_append m (applied planes floor xs) (e ∷ []))

-- where nothing is above the floor, nothing is redone
pub redone_none : (planes floor : ℕ) (m : List ℕ) (xs : List Entry) → top xs ≤ floor → redone planes floor xs m ≡ m
unfolding redone applied span enter
redone_none planes floor m xs h =
    let z : top xs - floor ≡ 0 = omega arith in
    rw z
