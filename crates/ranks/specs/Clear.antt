-- Refusal 4 as what it says: every page is fine by itself, and every two are clear of each other.
use Rattle.std.specs.Prelude.{◌≡◌, ◌⊎◌, ◌≢◌, Bool, false, not, cond, ◌&&◌, ◌||◌, ℕ, leb, ltb}
use Rattle.std.proofs.Math.Path.{refl}
use Rattle.std.proofs.Common.{sym, ◌∙◌, inl, inr, eq-eqb, ne_eqb, eqb-true}
use Rattle.std.proofs.Math.Bool.{true}
use Rattle.std.proofs.lemmas.Bool.{false≢true, eqb-false, not-true}
use mathlib.Core.List.{List, [], ◌∷◌, ◌++◌}
use Rattle.std.proofs.Math.Dec.{eqb}
use Rattle.model.specs.Lists.{all, all_heads}
use Rattle.model.specs.Zones.{Entry}
use Rattle.model.specs.Recovery.{is_mark, kind_good, mark_new, number_good, entry_good, pages_good}
use Rattle.arrays.specs.Tests.{Is, eqb_cases, decide, clash, and_left, and_right, and_both, and_weaker, or_left, or_right}
use Rattle.arrays.specs.Tests.{all_nil, all_cons, all_head, all_tail, heads_cons, heads_head, heads_tail}
use Rattle.ranks.specs.Dealt.{every, each_map, each_append}
use Rattle.ranks.specs.Entries.{Entries, entries_parts, entries_both}

-- refusal 4 passes the entry by itself
abbrev pub Fine : ℕ → ℕ → Entry → Type 0
Fine planes logical e = entry_good planes logical [] e ≡ true

-- on two planes two pages of a change have different numbers
abbrev pub Numbers : ℕ → Entry → Entry → Type 0
Numbers planes x y = planes ≡ 2 → x.id ≢ 0 → x.id ≡ y.id → x.reserved ≢ y.reserved

-- two marks share neither a version nor a nonzero identifier, and two pages of a change no number
pub record Clear (planes : ℕ) (x y : Entry) : Type 0 where
  pub ver : x.cnt ≢ 0 → y.cnt ≢ 0 → x.ver ≢ y.ver
  pub id : x.cnt ≢ 0 → y.cnt ≢ 0 → x.id ≢ 0 → x.id ≢ y.id
  pub number : Numbers planes x y

-- the other way round
pub clear_sym : (planes : ℕ) (x y : Entry) → Clear planes x y → Clear planes y x
clear_sym planes x y c = record {
  ver = λ a b q. c.ver b a (sym q);
  id = λ a b z q. c.id b a (λ r. z (q ∙ r)) (sym q);
  number = λ two z q r. c.number two (λ k. z (q ∙ k)) (sym q) (sym r);
}

-- every two, the one that stands first on the left
abbrev pub Pairs : (Entry → Entry → Type 0) → List Entry → Type 0
Pairs R [] = Unit {0}
Pairs R (e ∷ es) = Entries (R e) es × Pairs R es

-- what refusal 4 passes
pub record Good (planes logical : ℕ) (es : List Entry) : Type 0 where
  pub fine : Entries (Fine planes logical) es
  pub pairs : Pairs (Clear planes) es

-- ---- tests as facts
pub all_entries : (p : Entry → Bool) (es : List Entry) → all p es ≡ true → Entries (λ (e : Entry). p e ≡ true) es
all_entries p [] h = tt
all_entries p (e ∷ es) h = (all_head p e es h, all_entries p es (all_tail p e es h))

pub entries_all : (p : Entry → Bool) (es : List Entry) → Entries (λ (e : Entry). p e ≡ true) es → all p es ≡ true
entries_all p [] h = all_nil p
entries_all p (e ∷ es) h = all_cons p e es h.0 (entries_all p es h.1)

-- ---- a mark that is new differs from those before it, and the other way round
-- another version, another identifier
abbrev other_ver : Entry → Entry → Bool
other_ver e x = not (eqb x.ver e.ver)

abbrev other_id : Entry → Entry → Bool
other_id e x = not (is_mark x && eqb x.id e.id)

record Marks (x y : Entry) : Type 0 where
  ver : x.cnt ≢ 0 → y.cnt ≢ 0 → x.ver ≢ y.ver
  id : x.cnt ≢ 0 → y.cnt ≢ 0 → x.id ≢ 0 → x.id ≢ y.id

new_marks : (seen : List Entry) (e : Entry) → mark_new seen e ≡ true → Entries (Marks e) seen
unfolding mark_new
new_marks seen e h = go (eqb_cases e.id 0) (and_right (all (other_ver e) seen) _ h)
  where
    vers : Entries (λ (y : Entry). other_ver e y ≡ true) seen
    vers = all_entries (other_ver e) seen (and_left (all (other_ver e) seen) _ h)

    apart : (y : Entry) → other_ver e y ≡ true → e.ver ≢ y.ver
    apart y t q = eqb-false y.ver e.ver (not-true (eqb y.ver e.ver) t) (sym q)

    other : (y : Entry) → other_id e y ≡ true → y.cnt ≢ 0 → e.id ≢ y.id
    other y t c q = absurd (false≢true (rw (ne_eqb y.cnt 0 c, eq-eqb y.id e.id (sym q)) at t))

    go : Is e.id 0 → (eqb e.id 0 || all (other_id e) seen) ≡ true → Entries (Marks e) seen
    go (inl q) t = each_map _ (Marks e) (λ y v. record { ver = λ a b. apart y v; id = λ a b z. absurd (z q.0) }) seen vers
    go (inr q) t =
        let a : all (other_id e) seen ≡ true = rw q.1 at t in
        entries_both _ _ (Marks e) (λ y v i. record { ver = λ a b. apart y v; id = λ a b z. other y i b }) seen vers (all_entries (other_id e) seen a)

-- ---- a number that is new differs from those before it, and the other way round
abbrev other_number : Entry → Entry → Bool
other_number e x = not (eqb x.id e.id && eqb x.reserved e.reserved)

-- a page of a change on two planes
abbrev numbered : ℕ → Entry → Bool
numbered planes e = eqb planes 2 && not (eqb e.id 0)

numbered_two : (planes : ℕ) (e : Entry) → planes ≡ 2 → e.id ≢ 0 → numbered planes e ≡ true
numbered_two planes e two z = rw (eq-eqb planes 2 two, ne_eqb e.id 0 z)

new_number : (planes : ℕ) (seen : List Entry) (e : Entry) → number_good planes seen e ≡ true → Entries (Numbers planes e) seen
unfolding number_good
new_number planes seen e h = go (decide (numbered planes e))
  where
    other : (y : Entry) → other_number e y ≡ true → Numbers planes e y
    other y t two z q r = absurd (false≢true (rw (eq-eqb y.id e.id (sym q), eq-eqb y.reserved e.reserved (sym r)) at t))

    go : (numbered planes e ≡ true) ⊎ (numbered planes e ≡ false) → Entries (Numbers planes e) seen
    go (inl t) =
        let k : (leb 1 e.reserved && (leb e.reserved 41 && all (other_number e) seen)) ≡ true = rw t at h in
        each_map _ (Numbers planes e) other seen (all_entries (other_number e) seen (and_right (leb e.reserved 41) _ (and_right (leb 1 e.reserved) _ k)))
    go (inr t) = every (Numbers planes e) (λ y two z. clash (numbered_two planes e two z) t) seen

number_new : (planes : ℕ) (seen : List Entry) (e : Entry) → number_good planes [] e ≡ true → Entries (Numbers planes e) seen → number_good planes seen e ≡ true
unfolding number_good
number_new planes seen e h c = go (decide (numbered planes e))
  where
    other : (two : planes ≡ 2) (z : e.id ≢ 0) (y : Entry) → Numbers planes e y → Is y.id e.id → Is y.reserved e.reserved → other_number e y ≡ true
    other two z y k (inl q) (inl r) = absurd (k two z (sym q.0) (sym r.0))
    other two z y k (inl q) (inr r) = rw (q.1, r.1)
    other two z y k (inr q) r = rw q.1

    go : (numbered planes e ≡ true) ⊎ (numbered planes e ≡ false) → number_good planes seen e ≡ true
    go (inl t) =
        let two = eqb-true planes 2 (and_left (eqb planes 2) _ t) in
        let z = eqb-false e.id 0 (not-true (eqb e.id 0) (and_right (eqb planes 2) _ t)) in
        let k : (leb 1 e.reserved && (leb e.reserved 41 && all (other_number e) [])) ≡ true = rw t at h in
        let new : all (other_number e) seen ≡ true
        = entries_all (other_number e) seen (each_map _ _ (λ y d. other two z y d (eqb_cases y.id e.id) (eqb_cases y.reserved e.reserved)) seen c) in
        rw t (and_weaker (leb 1 e.reserved) (λ a. a) (and_weaker (leb e.reserved 41) (λ a. a) (λ a. new)) k)
    go (inr t) = rw t (rw t at h)

number_alone : (planes : ℕ) (seen : List Entry) (e : Entry) → number_good planes seen e ≡ true → number_good planes [] e ≡ true
unfolding number_good all
number_alone planes seen e h = go (decide (numbered planes e))
  where
    go : (numbered planes e ≡ true) ⊎ (numbered planes e ≡ false) → number_good planes [] e ≡ true
    go (inl t) =
        let k : (leb 1 e.reserved && (leb e.reserved 41 && all (other_number e) seen)) ≡ true = rw t at h in
        rw t (and_weaker (leb 1 e.reserved) (λ a. a) (and_weaker (leb e.reserved 41) (λ a. a) (λ a. refl)) k)
    go (inr t) = rw t (rw t at h)

module _ (planes logical : ℕ) where
  -- what refusal 4 asks of versions and of marks
  abbrev Marked : List Entry → Entry → Type 0
  Marked seen e = cond (is_mark e) (not (eqb e.ver 0) && mark_new seen e) (eqb e.ver 0) ≡ true

  entry_marked : (seen : List Entry) (e : Entry) → entry_good planes logical seen e ≡ true → Marked seen e
  unfolding entry_good
  entry_marked seen e h =
      and_right (not (eqb e.id 0) || eqb e.cnt 1) _ (and_right (not (eqb e.ver 4294967295)) _ (and_right (not (eqb e.id 4294967295)) _
      (and_right (ltb e.lpn logical) _ (and_right (number_good planes seen e) _ (and_right (kind_good e.kind) _ h)))))

  -- a mark has a version, and no other page has
  pub fine_ver : (e : Entry) → Fine planes logical e → (e.cnt ≡ 0 → e.ver ≡ 0) × (e.cnt ≢ 0 → e.ver ≢ 0)
  fine_ver e h = ((λ z. none z (entry_marked [] e h)), (λ z. some z (entry_marked [] e h)))
    where
      none : e.cnt ≡ 0 → Marked [] e → e.ver ≡ 0
      none z k = eqb-true e.ver 0 (rw (eq-eqb e.cnt 0 z) at k)

      some : e.cnt ≢ 0 → Marked [] e → e.ver ≢ 0
      some z k =
          let t : (not (eqb e.ver 0) && mark_new [] e) ≡ true = rw (ne_eqb e.cnt 0 z) at k in
          eqb-false e.ver 0 (not-true (eqb e.ver 0) (and_left (not (eqb e.ver 0)) _ t))

  clear_new : (seen : List Entry) (e : Entry) → e.cnt ≢ 0 → Fine planes logical e → Entries (Fine planes logical) seen → Entries (Clear planes e) seen → mark_new seen e ≡ true
  unfolding mark_new
  clear_new seen e m fine others c = and_both _ _ vers (owner (eqb_cases e.id 0))
    where
      vers : all (other_ver e) seen ≡ true
      vers =
          entries_all _ seen (entries_both (Fine planes logical) (Clear planes e) _ (λ y f k. rw (ne_eqb y.ver e.ver (apart y f k (eqb_cases y.cnt 0)))) seen others c)
        where
          apart : (y : Entry) → Fine planes logical y → Clear planes e y → Is y.cnt 0 → y.ver ≢ e.ver
          apart y f k (inl q) r = (fine_ver e fine).1 m (sym r ∙ (fine_ver y f).0 q.0)
          apart y f k (inr q) r = k.ver m q.0 (sym r)

      owner : Is e.id 0 → (eqb e.id 0 || all (other_id e) seen) ≡ true
      owner (inl q) = or_left (eqb e.id 0) _ q.1
      owner (inr z) =
          or_right (eqb e.id 0) _ (entries_all _ seen (each_map (Clear planes e) _ (λ y k. other y k (eqb_cases y.cnt 0) (eqb_cases y.id e.id)) seen c))
        where
          other : (y : Entry) → Clear planes e y → Is y.cnt 0 → Is y.id e.id → other_id e y ≡ true
          other y k (inl q) r = rw q.1
          other y k (inr q) (inl r) = absurd (k.id m q.0 z.0 (sym r.0))
          other y k (inr q) (inr r) = rw (q.1, r.1)

  -- ---- one entry, with those before it
  -- what is seen before it matters to its number and to a mark
  entry_seen : (seen others : List Entry) (e : Entry) → (number_good planes seen e ≡ true → number_good planes others e ≡ true)
      → (e.cnt ≢ 0 → mark_new seen e ≡ true → mark_new others e ≡ true)
      → entry_good planes logical seen e ≡ true → entry_good planes logical others e ≡ true
  unfolding entry_good
  entry_seen seen others e number new =
      then (kind_good e.kind) (and_weaker (number_good planes seen e) number (then (ltb e.lpn logical) (then (not (eqb e.id 4294967295)) (then (not (eqb e.ver 4294967295))
      (then (not (eqb e.id 0) || eqb e.cnt 1) (mark (eqb_cases e.cnt 0)))))))
    where
      then : (a : Bool) {b c : Bool} → (b ≡ true → c ≡ true) → (a && b) ≡ true → (a && c) ≡ true
      then a = and_weaker a (λ k. k)

      mark : Is e.cnt 0 → Marked seen e → Marked others e
      mark (inl q) k = rw q.1 (rw q.1 at k)
      mark (inr q) k = let t : (not (eqb e.ver 0) && mark_new seen e) ≡ true = rw q.1 at k in rw q.1 (then (not (eqb e.ver 0)) (new q.0) t)

  entry_fine : (seen : List Entry) (e : Entry) → entry_good planes logical seen e ≡ true → Fine planes logical e
  unfolding mark_new all
  entry_fine seen e = entry_seen seen [] e (number_alone planes seen e) (λ z k. or_right (eqb e.id 0) true refl)

  entry_number : (seen : List Entry) (e : Entry) → entry_good planes logical seen e ≡ true → number_good planes seen e ≡ true
  unfolding entry_good
  entry_number seen e h = and_left (number_good planes seen e) _ (and_right (kind_good e.kind) _ h)

  entry_marks : (seen : List Entry) (e : Entry) → entry_good planes logical seen e ≡ true → Entries (Marks e) seen
  entry_marks seen e h = go (eqb_cases e.cnt 0) (entry_marked seen e h)
    where
      go : Is e.cnt 0 → Marked seen e → Entries (Marks e) seen
      go (inl q) k = every (Marks e) (λ y. record { ver = λ z. absurd (z q.0); id = λ z. absurd (z q.0) }) seen
      go (inr q) k = let t : (not (eqb e.ver 0) && mark_new seen e) ≡ true = rw q.1 at k in new_marks seen e (and_right (not (eqb e.ver 0)) _ t)

  entry_clear : (seen : List Entry) (e : Entry) → entry_good planes logical seen e ≡ true → Entries (Clear planes e) seen
  entry_clear seen e h =
      entries_both (Marks e) (Numbers planes e) (Clear planes e) (λ y m n. record { ver = m.ver; id = m.id; number = n }) seen
      (entry_marks seen e h) (new_number planes seen e (entry_number seen e h))

  -- ---- the whole list, behind what was seen
  heads_good : (seen es : List Entry) → all_heads (entry_good planes logical) seen es ≡ true → Good planes logical es × Entries (λ (e : Entry). Entries (Clear planes e) seen) es
  heads_good seen [] h = (record { fine = tt; pairs = tt }, tt)
  heads_good seen (e ∷ es) h =
      let k = heads_head (entry_good planes logical) seen e es h in
      let r = heads_good (seen ++ (e ∷ [])) es (heads_tail (entry_good planes logical) seen e es h) in
      let parts = each_map _ _ (λ y c. entries_parts (Clear planes y) seen (e ∷ []) c) es r.1 in (
        record { fine = (entry_fine seen e k, r.0.fine); pairs = (each_map _ (Clear planes e) (λ y c. clear_sym planes y e c.1.0) es parts, r.0.pairs) },
        (entry_clear seen e k, each_map _ _ (λ y c. c.0) es parts),
      )

  good_heads : (seen es : List Entry) → Entries (Fine planes logical) seen → Good planes logical es → Entries (λ (e : Entry). Entries (Clear planes e) seen) es
      → all_heads (entry_good planes logical) seen es ≡ true
  unfolding all_heads
  good_heads seen [] f g c = refl
  good_heads seen (e ∷ es) f g c =
      heads_cons (entry_good planes logical) seen e es
      (entry_seen [] seen e (λ n. number_new planes seen e n (each_map _ _ (λ y d. d.number) seen c.0))
      (λ m k. clear_new seen e m g.fine.0 f c.0) g.fine.0)
      (good_heads (seen ++ (e ∷ [])) es (each_append (Fine planes logical) seen (e ∷ []) f (g.fine.0, tt)) (record { fine = g.fine.1; pairs = g.pairs.1 })
      (entries_both _ (Clear planes e) _ (λ y u k. each_append (Clear planes y) seen (e ∷ []) u (clear_sym planes e y k, tt)) es c.1 g.pairs.0))

  -- refusal 4 says just that
  pub passed_good : (es : List Entry) → pages_good planes logical es ≡ true → Good planes logical es
  unfolding pages_good
  passed_good es h = (heads_good [] es h).0

  pub good_passes : (es : List Entry) → Good planes logical es → pages_good planes logical es ≡ true
  unfolding pages_good
  good_passes es g = good_heads [] es tt g (every _ (λ e. tt) es)
