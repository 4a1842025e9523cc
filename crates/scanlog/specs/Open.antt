-- Open changes in the log: the programmed pages of an active place are the entries of its identifier in turn, unmarked and of lower numbers than the held
-- page; each command keeps that, and a commit enters them in the map as redoing its transaction does.
use Rattle.std.specs.Prelude.{◌≡◌, ◌≢◌, Bool, true, length, get_or}
use Rattle.std.proofs.Math.Path.{refl, sym, ap}
use Rattle.std.proofs.Common.{◌∙◌, subst, inl, inr, length-set, ne_eqb, eq-eqb}
use Rattle.std.proofs.Math.Bool.{false}
use Prim.Native.Nat.{ℕ, zero, suc, ◌+◌, ◌-◌, ◌≤◌, ◌<◌}
use native.Mathlib.Omega.{arith}
use mathlib.Core.List.{List, [], ◌∷◌, ◌++◌}
use Rattle.std.proofs.Math.ListN.{set}
use Rattle.std.proofs.Math.Seq.{get_or-set_same, get_or-set_other}
use Rattle.model.specs.Geometry.{enter_page, leads}
use Rattle.model.specs.Zones.{Entry, on_pages, has_id, active}
use Rattle.model.specs.Recovery.{is_drop, leads_to, of_id, in_turn, enter}
use Rattle.model.specs.Frame.{no_place}
use Rattle.model.specs.Transactions.{page_kind, number_of, held_page, held_drop, begun, written, entered}
use Rattle.model.specs.declared.Geometry.{Geometry}
use Rattle.model.specs.declared.Place.{Place}
use Rattle.arrays.specs.Tests.{Is, eqb_cases, any_at}
use Rattle.arrays.specs.Insert.{Insert, insert_length}
use Rattle.ranks.specs.Dealt.{each_map}
use Rattle.ranks.specs.Entries.{Entries, entries_in_law}
use Rattle.ranks.specs.Clear.{Good}
use Rattle.ranks.specs.InTurn.{turn_nil}
use Rattle.scanlog.specs.Perm.{Perm, perm_length, entries_perm}
use Rattle.scanlog.specs.Turn.{turn_last, turn_perm}
use Rattle.scanlog.specs.Log.{NoMark, of_id_in, own_entries, enter_append}
use Rattle.scanlog.specs.Good.{Lower, change_drop, good_single}
use Rattle.scanlog.specs.Logged.{off_none}

-- ---- the pages of a place as entries
-- the entry of page k with the j-th page of a change that is not marked, a write or a drop
abbrev pub open_entry : Geometry → ℕ → ℕ → ℕ → Bool → ℕ → Entry
open_entry g id k lpn drop j = record { ppn = k; lpn = lpn; cnt = 0; id = id; ver = 0; kind = page_kind drop; reserved = number_of g j }

-- the entries of the first n pages of a place
unfoldable pub laid : Geometry → ℕ → List ℕ → List ℕ → List Bool → ℕ → List Entry
laid g id lpns ppns drops zero = []
laid g id lpns ppns drops (suc n) = laid g id lpns ppns drops n ++ (open_entry g id (get_or ppns n 0) (get_or lpns n 0) (get_or drops n false) (suc n) ∷ [])

-- the programmed pages of the place are the entries of its identifier, in turn; none is a mark, and all have lower numbers than the held page
pub record Open (g : Geometry) (p : Place) (es : List Entry) : Type 0 where
  pub turns : in_turn g.planes (of_id p.id es) ≡ laid g p.id p.lpns p.ppns p.drops (p.count - 1)
  pub many : length (of_id p.id es) ≡ p.count - 1
  pub quiet : Entries (λ (y : Entry). y.cnt ≡ 0) (of_id p.id es)
  pub low : Entries (λ (y : Entry). y.reserved < p.count) (of_id p.id es)

-- the number of the n-th page: n on two planes, else 0
pub number_two : (g : Geometry) (n : ℕ) → g.planes ≡ 2 → number_of g n ≡ n
unfolding number_of
number_two g n e = rw (eq-eqb g.planes 2 e)

pub number_one : (g : Geometry) (n : ℕ) → g.planes ≢ 2 → number_of g n ≡ 0
unfolding number_of
number_one g n e = rw (ne_eqb g.planes 2 e)

pub number_le : (g : Geometry) (n : ℕ) → number_of g n ≤ n
number_le g n = go (eqb_cases g.planes 2)
  where
    go : Is g.planes 2 → number_of g n ≤ n
    go (inl q) = omega (arith, number_two g n q.0)
    go (inr q) = omega (arith, number_one g n q.0)

module _ (g : Geometry) where
  laid_zero : (id : ℕ) (lpns ppns : List ℕ) (drops : List Bool) → laid g id lpns ppns drops 0 ≡ []
  unfolding laid
  laid_zero id lpns ppns drops = refl

  laid_suc : (id : ℕ) (lpns ppns : List ℕ) (drops : List Bool) (n : ℕ)
      → laid g id lpns ppns drops (suc n) ≡ laid g id lpns ppns drops n ++ (open_entry g id (get_or ppns n 0) (get_or lpns n 0) (get_or drops n false) (suc n) ∷ [])
  unfolding laid
  laid_suc id lpns ppns drops n = refl

  -- pages that are written later do not alter them
  laid_same : (id : ℕ) (lpns ppns lpns' ppns' : List ℕ) (drops drops' : List Bool) (n : ℕ) → ((i : ℕ) → i < n → get_or lpns' i 0 ≡ get_or lpns i 0)
      → ((i : ℕ) → i < n → get_or ppns' i 0 ≡ get_or ppns i 0)
      → ((i : ℕ) → i < n → get_or drops' i false ≡ get_or drops i false) → laid g id lpns' ppns' drops' n ≡ laid g id lpns ppns drops n
  unfolding laid
  laid_same id lpns ppns lpns' ppns' drops drops' zero h k d = refl
  laid_same id lpns ppns lpns' ppns' drops drops' (suc n) h k d =
      rw (
        laid_same id lpns ppns lpns' ppns' drops drops' n (λ i l. h i (omega arith)) (λ i l. k i (omega arith)) (λ i l. d i (omega arith)),
        h n (omega arith),
        k n (omega arith),
        d n (omega arith),
      )

  -- entered in a map, they are what a commit enters
  laid_entered : (m : List ℕ) (id : ℕ) (lpns ppns : List ℕ) (drops : List Bool) (n : ℕ) → enter m (laid g id lpns ppns drops n) ≡ entered m lpns ppns drops n
  unfolding laid entered enter
  laid_entered m id lpns ppns drops zero = refl
  laid_entered m id lpns ppns drops (suc n) =
      enter_append m (laid g id lpns ppns drops n) (open_entry g id (get_or ppns n 0) (get_or lpns n 0) (get_or drops n false) (suc n) ∷ [])
      ∙ rw (change_drop (get_or drops n false)) (ap (λ (l : List ℕ). enter_page l (get_or lpns n 0) (leads (get_or drops n false) (get_or ppns n 0)))
      (laid_entered m id lpns ppns drops n))

entered_suc : (m lpns ppns : List ℕ) (drops : List Bool) (n : ℕ)
    → entered m lpns ppns drops (suc n) ≡ enter_page (entered m lpns ppns drops n) (get_or lpns n 0) (leads (get_or drops n false) (get_or ppns n 0))
unfolding entered
entered_suc m lpns ppns drops n = refl

module _ (g : Geometry) (p : Place) (es : List Entry) (o : Open g p es) where
  -- the identifier of an open change has no mark
  pub open_no_mark : NoMark p.id es
  open_no_mark = own_entries (λ (y : Entry). y.cnt ≡ 0) p.id es o.quiet

  -- the first write is held
  pub open_first : (k lpn : ℕ) (drop : Bool) → p.count ≡ 0 → Open g (written p k lpn drop) es
  unfolding written
  open_first k lpn drop z =
      let a : p.count - 1 ≡ 0 = omega arith in
      let b : p.count + 1 - 1 ≡ 0 = omega arith in
      record {
        turns = o.turns ∙ rw (a, b) (laid_zero g p.id p.lpns p.ppns p.drops ∙ sym (laid_zero g p.id _ _ _));
        many = omega (arith, o.many);
        quiet = o.quiet;
        low = each_map _ _ (λ y l. absurd (omega arith)) (of_id p.id es) o.low;
      }

  -- one more entry of the change, with the number of the held page
  module _ (fs : List Entry) (e : Entry) (s : Insert e es fs) (mine : e.id ≡ p.id) (number : e.reserved ≡ number_of g p.count) where
    pub open_lower : Lower g.planes e es
    open_lower two i =
        each_map _ _ (λ y l q. omega (arith, l (q ∙ mine), number, number_two g p.count two)) es
        (own_entries (λ (y : Entry). y.reserved < p.count) p.id es o.low)

    own_in : Insert e (of_id p.id es) (of_id p.id fs)
    own_in = of_id_in p.id e s mine

    pub open_count : p.count ≢ 0 → p.count ≡ length (of_id p.id fs)
    open_count z = omega (arith, insert_length e own_in, o.many)

    -- on one plane it is the last, on two the highest
    pub open_turn : (g.planes ≡ 2 → p.count ≤ 41) → (g.planes ≢ 2 → of_id p.id fs ≡ of_id p.id es ++ (e ∷ []))
        → in_turn g.planes (of_id p.id fs) ≡ in_turn g.planes (of_id p.id es) ++ (e ∷ [])
    open_turn few last = turn_last g.planes e own_in last (λ two.
        let r : e.reserved ≡ p.count = number ∙ number_two g p.count two in
        (each_map _ _ (λ y l. omega (arith, r)) (of_id p.id es) o.low, omega (arith, r, few two)))

    module _ (z : p.count ≢ 0) (room : p.count ≤ length p.ppns)
        (turn : in_turn g.planes (of_id p.id fs) ≡ in_turn g.planes (of_id p.id es) ++ (e ∷ [])) where
      -- the next write programs the page held before it
      pub open_more : (lpn : ℕ) (drop : Bool) → e ≡ open_entry g p.id e.ppn (held_page p) (held_drop p) p.count → Open g (written p e.ppn lpn drop) fs
      unfolding written
      open_more lpn drop is =
          let k = e.ppn in
          let n = p.count - 1 in
          let c : suc n ≡ p.count = omega arith in
          let b : p.count + 1 - 1 ≡ suc n = omega arith in
          let s' : laid g p.id (set p.lpns p.count lpn) (set p.ppns n k) (set p.drops p.count drop) n
          ≡ laid g p.id p.lpns p.ppns p.drops n
          = laid_same g p.id p.lpns p.ppns (set p.lpns p.count lpn) (set p.ppns n k) p.drops (set p.drops p.count drop) n
          (λ i h. get_or-set_other p.lpns p.count i lpn 0 (λ q. absurd (omega arith))) (λ i h. get_or-set_other p.ppns n i k 0 (λ q. absurd (omega arith)))
          (λ i h. get_or-set_other p.drops p.count i drop false (λ q. absurd (omega arith))) in
          let t : laid g p.id (set p.lpns p.count lpn) (set p.ppns n k) (set p.drops p.count drop) (suc n)
          ≡ laid g p.id p.lpns p.ppns p.drops n ++ (open_entry g p.id k (held_page p) (held_drop p) p.count ∷ [])
          = laid_suc g p.id (set p.lpns p.count lpn) (set p.ppns n k) (set p.drops p.count drop) n
          ∙ rw (
            s',
            get_or-set_same p.ppns n k 0 (omega arith),
            get_or-set_other p.lpns p.count n lpn 0 (λ q. absurd (omega arith)),
            get_or-set_other p.drops p.count n drop false (λ q. absurd (omega arith)),
            c,
          ) in
          record {
            turns = turn ∙ ap (λ (l : List Entry). l ++ (e ∷ [])) o.turns ∙ ap (λ (x : Entry). laid g p.id p.lpns p.ppns p.drops n ++ (x ∷ []))
                is ∙ rw (ne_eqb p.count 0 z, b) (sym t);
            many = omega (arith, insert_length e own_in, o.many);
            quiet = entries_in_law (λ (y : Entry). y.cnt ≡ 0) e own_in (ap (λ (x : Entry). x.cnt) is) o.quiet;
            low = entries_in_law _ e own_in (omega (arith, number, number_le g p.count)) (each_map _ _ (λ y l. omega arith) (of_id p.id es) o.low);
          }

      -- the mark: what redoing the transaction enters is what the commit enters
      pub open_mark : (m : List ℕ) → e.lpn ≡ held_page p → is_drop e ≡ held_drop p
          → enter m (in_turn g.planes (of_id p.id fs)) ≡ entered m p.lpns (set p.ppns (p.count - 1) e.ppn) p.drops p.count
      unfolding enter
      open_mark m q d =
          let n = p.count - 1 in
          let c : p.count ≡ suc n = omega arith in
          let qs = set p.ppns n e.ppn in
          let s' : laid g p.id p.lpns p.ppns p.drops n ≡ laid g p.id p.lpns qs p.drops n
          = sym (laid_same g p.id p.lpns p.ppns p.lpns qs p.drops p.drops n (λ i h. refl)
          (λ i h. get_or-set_other p.ppns n i e.ppn 0 (λ r. absurd (omega arith))) (λ i h. refl)) in
          let own = in_turn g.planes (of_id p.id es) in
          let a : enter m own ≡ entered m p.lpns qs p.drops n = ap (enter m) (o.turns ∙ s') ∙ laid_entered g m p.id p.lpns qs p.drops n in
          let t : entered m p.lpns qs p.drops (suc n) ≡ enter_page (entered m p.lpns qs p.drops n) e.lpn (leads_to e)
          = entered_suc m p.lpns qs p.drops n ∙ rw (get_or-set_same p.ppns n e.ppn 0 (omega arith), q, d) in
          ap (enter m) turn ∙ enter_append m own (e ∷ []) ∙ ap (λ (l : List ℕ). enter_page l e.lpn (leads_to e)) a ∙ sym t
          ∙ ap (entered m p.lpns qs p.drops) (sym c)

-- an identifier on no page: a change begins
pub open_begun : (g : Geometry) (id : ℕ) (es : List Entry) → on_pages id es ≡ false → Open g (begun id) es
unfolding begun
open_begun g id es h =
    let n : of_id id es ≡ [] = off_none id es h in
    record { turns = rw n (turn_nil g.planes ∙ sym (laid_zero g id _ _ _)); many = ap length n; quiet = rw n tt; low = rw n tt }

-- the entries of the change are the same
pub open_same : (g : Geometry) (p : Place) (es fs : List Entry) → of_id p.id fs ≡ of_id p.id es → Open g p es → Open g p fs
open_same g p es fs e o = record { turns = rw e o.turns; many = rw e o.many; quiet = rw e o.quiet; low = rw e o.low }

-- or, on two planes, the same in another order
pub open_perm : (g : Geometry) (logical : ℕ) (p : Place) (es fs : List Entry) → g.planes ≡ 2 → p.id ≢ 0 → Good g.planes logical es
    → Perm (of_id p.id es) (of_id p.id fs) → Open g p es → Open g p fs
open_perm g logical p es fs two some good q o = record {
  turns = ap (λ (n : ℕ). in_turn n (of_id p.id fs)) two ∙ sym (turn_perm (good_single g.planes logical p.id two some es good) q)
      ∙ ap (λ (n : ℕ). in_turn n (of_id p.id es)) (sym two) ∙ o.turns;
  many = perm_length q ∙ o.many;
  quiet = entries_perm _ q o.quiet;
  low = entries_perm _ q o.low;
}

-- ---- all places
-- each active place is open
abbrev pub Opens : Geometry → List Place → List Entry → Type 0
Opens g ps es = (i : ℕ) → i < length ps → (get_or ps i no_place).id ≢ 0 → Open g (get_or ps i no_place) es

-- one place changes, and the entries of the other identifiers are as they were
pub opens_set : (g : Geometry) (ps : List Place) (es fs : List Entry) (i : ℕ) (p : Place) → Opens g ps es → (p.id ≢ 0 → Open g p fs)
    → ((j : ℕ) → j < length ps → j ≢ i → (get_or ps j no_place).id ≢ 0 → of_id (get_or ps j no_place).id fs ≡ of_id (get_or ps j no_place).id es)
    → Opens g (set ps i p) fs
opens_set g ps es fs i p o h k j l = go (eqb_cases j i)
  where
    lt : j < length ps
    lt = rw (← length-set ps i p) l

    go : Is j i → (get_or (set ps i p) j no_place).id ≢ 0 → Open g (get_or (set ps i p) j no_place) fs
    go (inl q) =
        let e : get_or (set ps i p) j no_place ≡ p = ap (λ (n : ℕ). get_or (set ps i p) n no_place) q.0 ∙ get_or-set_same ps i p no_place (omega (arith, lt, q.0)) in
        subst (λ (r : Place). r.id ≢ 0 → Open g r fs) (sym e) h
    go (inr q) =
        let e : get_or (set ps i p) j no_place ≡ get_or ps j no_place = get_or-set_other ps i j p no_place q.0 in
        subst (λ (r : Place). r.id ≢ 0 → Open g r fs) (sym e) (λ n. open_same g (get_or ps j no_place) es fs (k j lt q.0 n) (o j lt n))

-- no place changes
pub opens_same : (g : Geometry) (ps : List Place) (es fs : List Entry) → Opens g ps es
    → ((j : ℕ) → j < length ps → (get_or ps j no_place).id ≢ 0 → of_id (get_or ps j no_place).id fs ≡ of_id (get_or ps j no_place).id es) → Opens g ps fs
opens_same g ps es fs o k j l n = open_same g (get_or ps j no_place) es fs (k j l n) (o j l n)

-- a place that is not free is active
pub place_active : (ps : List Place) (i : ℕ) → i < length ps → (get_or ps i no_place).id ≢ 0 → active (get_or ps i no_place).id ps ≡ true
unfolding active
place_active ps i l n =
    let id = (get_or ps i no_place).id in
    rw (ne_eqb id 0 n, any_at (has_id id) ps i no_place l (eq-eqb id id refl))
