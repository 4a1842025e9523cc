-- A begin keeps the world live: the lowest free place is taken, and the book has an open change; and what another place leaves of a live world.
use Rattle.std.specs.Prelude.{◌≡◌, ◌≢◌, Bool, ◌||◌, ℕ, ◌<◌, List, [], ◌∷◌, ◌++◌, length, set, eqb, leb}
use Rattle.std.proofs.Math.Path.{refl, ap}
use Rattle.std.proofs.Common.{sym, ◌∙◌, inl, inr, arith, get_or-set_same, get_or-set_other}
use Rattle.std.proofs.Math.Bool.{true, false}
use Rattle.std.proofs.Math.ListN.{length-set}
use borrow.Author.Tests.{eq-eqb, ne_eqb, ltb-true}
use Rattle.model.specs.Lists.{find, all}
use Rattle.model.specs.Zones.{has_id, active, on_pages}
use Rattle.model.specs.World.{World, Plan, apply_op}
use Rattle.model.specs.Frame.{no_place, bad_id, is_idle}
use Rattle.model.specs.Transactions.{with_place, begun, live_id, plan_begin, begin_plan, begin_checks}
use Rattle.model.specs.Commands.{begin, plan, carried}
use Rattle.model.specs.Book.{Book, entering, changing, writes_of}
use Rattle.model.specs.Sequence.{fits}
use Rattle.model.specs.declared.Place.{Place}
use Rattle.arrays.specs.Tests.{Is, eqb_cases, clash, or_false_left, or_false_right}
use Rattle.arrays.specs.Order.{numbered, Unless}
use Rattle.front.specs.Kept.{kept_away}
use Rattle.scanlog.specs.Open.{Opens, opens_set, open_begun}
use Rattle.sequence.specs.Places.{PlacesGood, place_at, places_set, begun_ok, inactive, free_found}
use Rattle.sequence.specs.OpenBook.{is_open, opened, begin_own, begin_other, begin_open}
use Rattle.sequence.specs.Writes.{Writes, writes_begun}
use Rattle.sequence.specs.Live.{Changing, Live, scanned}
use Rattle.sequence.specs.View.{View, yes, view_checks, idle_only, idle_calm, Keeps, done_live, view_keeps}

-- ---- a world with another place i
abbrev pub placed : World → ℕ → Place → World
placed w i p = record { array = w.array; map = w.map; hold = w.hold; state = with_place w.state i p }

-- places, entries and open changes agree again
pub live_place : (w : World) (b b' : Book) (i : ℕ) (p : Place) → Live w b → is_idle w.state.work ≡ true → b'.pages ≡ b.pages
    → PlacesGood w.state.geometry (set w.state.places i p) → Opens w.state.geometry (set w.state.places i p) (scanned w)
    → Changing w.array w.map w.hold (set w.state.places i p) b' → Live (placed w i p) b'
unfolding with_place
live_place w b b' i p h idle e good opens changing = record {
  saved = h.saved;
  sound = rw e h.sound;
  kept = kept_away w (placed w i p) h.saved h.kept (idle_calm w.state.work idle) (idle_calm w.state.work idle)
      (record { geometry = refl; checkpoint = refl; front = refl; first = refl }) (λ k l. refl);
  grown = h.grown;
  tidy = h.tidy;
  hold = h.hold;
  places = good;
  opens = opens;
  changing = changing;
}

-- ---- begin
pub record Begins (w : World) (id : ℕ) (p : Plan) : Type 0 where
  pub idle : is_idle w.state.work ≡ true
  pub name : bad_id id ≡ false
  pub fresh : live_id id w ≡ false
  pub room : leb 8 (find (has_id 0) w.state.places) ≡ false
  pub is : p ≡ begin_plan id w

pub begin_view : (id : ℕ) (w : World) → View w (Begins w id) (plan_begin id w)
unfolding plan_begin numbered all Unless
begin_view id w = view_checks w (Begins w id) (begin_plan id w) (begin_checks id w) refl (λ f i a c d.
    yes _ (record { idle = idle_only (is_idle w.state.work) i; name = a; fresh = c; room = d; is = refl }))

module _ (w : World) (b : Book) (id : ℕ) (h : Live w b) (small : id < 4294967296) (idle : is_idle w.state.work ≡ true) (name : bad_id id ≡ false)
    (fresh : live_id id w ≡ false) (room : leb 8 (find (has_id 0) w.state.places) ≡ false) where
  -- the places, and the lowest free one
  abbrev ps : List Place
  ps = w.state.places

  abbrev slot : ℕ
  slot = find (has_id 0) ps

  low : slot < length ps
  low = (free_found ps h.changing.eight room).0

  some : id ≢ 0
  unfolding bad_id
  some q = clash (eq-eqb id 0 q) (or_false_left (eqb id 0) (eqb id 4294967295) name)

  unused : (j : ℕ) → j < length ps → (place_at ps j).id ≢ id
  unfolding live_id
  unused = inactive ps id some (or_false_left (active id ps) _ fresh)

  off : on_pages id (scanned w) ≡ false
  unfolding live_id
  off = or_false_right (active id ps) _ fresh

  -- the book after it
  abbrev after : Book
  after = record { pages = b.pages; changes = b.changes ++ (opened id ∷ []) }

  at_own : place_at (set ps slot (begun id)) slot ≡ begun id
  at_own = get_or-set_same ps slot (begun id) no_place low

  at_other : (j : ℕ) → j ≢ slot → place_at (set ps slot (begun id)) j ≡ place_at ps j
  at_other j n = get_or-set_other ps slot j (begun id) no_place n

  closed_before : is_open id b.changes ≡ false
  closed_before = h.changing.closed id some (λ i l. unused i (omega (arith, h.changing.eight)))

  writes_at : (j : ℕ) → j < 8 → Is j slot → (place_at (set ps slot (begun id)) j).id ≢ 0
      → Writes w.array w.map w.hold j (place_at (set ps slot (begun id)) j) (writes_of (place_at (set ps slot (begun id)) j).id after.changes)
  writes_at j l (inl q) z =
      rw (q.0, at_own) (unfold begun in rw (begin_own id b.changes closed_before) (writes_begun w.array w.map w.hold slot id small))
  writes_at j l (inr q) z =
      let n : (place_at ps j).id ≢ 0 = rw (at_other j q.0) at z in
      rw (at_other j q.0, begin_other id (place_at ps j).id b.changes (unused j (omega (arith, h.changing.eight)))) (h.changing.writes j l n)

  opened_at : (j : ℕ) → j < 8 → Is j slot → (place_at (set ps slot (begun id)) j).id ≢ 0 → is_open (place_at (set ps slot (begun id)) j).id after.changes ≡ true
  opened_at j l (inl q) z = rw (q.0, at_own) (unfold begun in rw (begin_open id id b.changes, eq-eqb id id refl) (or_true (is_open id b.changes)))
    where
      or_true : (t : Bool) → (t || true) ≡ true
      or_true true = refl
      or_true false = refl
  opened_at j l (inr q) z =
      let n : (place_at ps j).id ≢ 0 = rw (at_other j q.0) at z in
      rw (at_other j q.0, begin_open id (place_at ps j).id b.changes, h.changing.opened j l n) refl

  closed_at : (x : ℕ) → x ≢ 0 → ((j : ℕ) → j < 8 → (place_at (set ps slot (begun id)) j).id ≢ x) → is_open x after.changes ≡ false
  unfolding begun
  closed_at x n k =
      let a : id ≢ x = rw at_own at (k slot (omega (arith, low, h.changing.eight))) in
      let c : is_open x b.changes ≡ false = h.changing.closed x n (λ j l. other j l (eqb_cases j slot)) in
      rw (begin_open id x b.changes, c, ne_eqb id x a) refl
    where
      other : (j : ℕ) → j < 8 → Is j slot → (place_at ps j).id ≢ x
      other j l (inl q) = λ e. n (sym e ∙ ap (λ (i : ℕ). (place_at ps i).id) q.0 ∙ (free_found ps h.changing.eight room).1)
      other j l (inr q) = rw (at_other j q.0) at (k j l)

  begin_live : Live (placed w slot (begun id)) after
  begin_live = live_place w b after slot (begun id) h idle refl
      (places_set w.state.geometry ps slot (begun id) h.places (begun_ok w.state.geometry id name) (λ z j l n. unfold begun in unused j l))
      (opens_set w.state.geometry ps (scanned w) (scanned w) slot (begun id) h.opens (λ z. open_begun w.state.geometry id (scanned w) off)
      (λ j l n z. refl))
      (record {
        eight = length-set ps slot (begun id) ∙ h.changing.eight;
        writes = λ j l. writes_at j l (eqb_cases j slot);
        opened = λ j l. opened_at j l (eqb_cases j slot);
        closed = closed_at;
      })

-- begin keeps the world live
pub begin_keeps : (w : World) (b : Book) (id : ℕ) → Live w b → fits (begin id) ≡ true → Keeps (begin id) w b
unfolding plan fits carried apply_op
begin_keeps w b id h f = view_keeps (begin id) w b (Begins w id) h (begin_view id w) (λ p e v.
    done_live (begin id) w b p e (rw v.is) (rw v.is (unfold entering changing in
    begin_live w b id h (ltb-true id 4294967296 f) v.idle v.name v.fresh v.room)))
