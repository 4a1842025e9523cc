-- A place is forgotten: abort, and a commit with nothing written, keep the world live and close the change.
use Rattle.std.specs.Prelude.{◌≡◌, ◌≢◌, true, false, ℕ, ◌<◌, List, length, set, leb}
use Rattle.std.proofs.Math.Path.{refl}
use Rattle.std.proofs.Common.{sym, ap, ◌∙◌, inl, inr, arith, length-set, get_or-set_same, get_or-set_other}
use Rattle.model.specs.World.{World, Plan, apply_op}
use Rattle.model.specs.Frame.{free_place, no_place, is_idle}
use Rattle.model.specs.Transactions.{place_of, forget_plan, plan_abort, abort_checks}
use Rattle.model.specs.Commands.{abort, plan, carried}
use Rattle.model.specs.Book.{Book, entering, changing, writes_of, close}
use Rattle.model.specs.declared.Place.{Place}
use Rattle.model.specs.Lists.{all}
use Rattle.arrays.specs.Tests.{Is, eqb_cases}
use Rattle.arrays.specs.Order.{numbered, Unless}
use Rattle.scanlog.specs.Open.{opens_set}
use Rattle.sequence.specs.Places.{place_at, places_set, free_ok, Found, place_found}
use Rattle.sequence.specs.OpenBook.{is_open, close_own, close_other, close_open}
use Rattle.sequence.specs.Writes.{Writes}
use Rattle.sequence.specs.Live.{Changing, Live, scanned}
use Rattle.sequence.specs.View.{View, yes, view_checks, idle_only, Keeps, done_live, view_keeps}
use Rattle.sequence.specs.Begin.{placed, live_place}

-- ---- the open changes without that of place i
module _ (xs map hold : List ℕ) (ps : List Place) (b : Book) (id i : ℕ) (f : Found ps id i) (c : Changing xs map hold ps b)
    (apart : (j : ℕ) → j < length ps → j ≢ i → (place_at ps j).id ≢ id) where
  at_other : (j : ℕ) → j ≢ i → place_at (set ps i free_place) j ≡ place_at ps j
  at_other j n = get_or-set_other ps i j free_place no_place n

  at_own : (j : ℕ) → j ≡ i → (place_at (set ps i free_place) j).id ≡ 0
  at_own j e = rw (e, get_or-set_same ps i free_place no_place f.low)

  pub changing_close : (ps' : Book) → ps'.changes ≡ close id b.changes → Changing xs map hold (set ps i free_place) ps'
  changing_close b' e = record {
    eight = length-set ps i free_place ∙ c.eight;
    writes = λ j l z. writes_at j l z (eqb_cases j i);
    opened = λ j l z. opened_at j l z (eqb_cases j i);
    closed = λ x n k. closed_at x n k (eqb_cases x id);
  }
    where
      writes_at : (j : ℕ) → j < 8 → (place_at (set ps i free_place) j).id ≢ 0 → Is j i
          → Writes xs map hold j (place_at (set ps i free_place) j) (writes_of (place_at (set ps i free_place) j).id b'.changes)
      writes_at j l z (inl q) = absurd (z (at_own j q.0))
      writes_at j l z (inr q) =
          let n : (place_at ps j).id ≢ 0 = rw (at_other j q.0) at z in
          rw (at_other j q.0, e, close_other id (place_at ps j).id b.changes (apart j (omega (arith, c.eight)) q.0)) (c.writes j l n)

      opened_at : (j : ℕ) → j < 8 → (place_at (set ps i free_place) j).id ≢ 0 → Is j i → is_open (place_at (set ps i free_place) j).id b'.changes ≡ true
      opened_at j l z (inl q) = absurd (z (at_own j q.0))
      opened_at j l z (inr q) =
          let n : (place_at ps j).id ≢ 0 = rw (at_other j q.0) at z in
          rw (at_other j q.0, e, close_open id (place_at ps j).id b.changes (apart j (omega (arith, c.eight)) q.0)) (c.opened j l n)

      closed_at : (x : ℕ) → x ≢ 0 → ((j : ℕ) → j < 8 → (place_at (set ps i free_place) j).id ≢ x) → Is x id → is_open x b'.changes ≡ false
      closed_at x n k (inl q) = rw (e, q.0) (close_own id b.changes)
      closed_at x n k (inr q) = rw (e, close_open id x b.changes q.0) (c.closed x n (λ j l. other j l (eqb_cases j i)))
        where
          other : (j : ℕ) → j < 8 → Is j i → (place_at ps j).id ≢ x
          other j l (inl r) = λ y. q.0 (sym y ∙ ap (λ (m : ℕ). (place_at ps m).id) r.0 ∙ f.is)
          other j l (inr r) = rw (at_other j r.0) at (k j l)

-- the identifier of place i is in no other place
pub found_apart : (w : World) (b : Book) (id i : ℕ) → Live w b → Found w.state.places id i → (j : ℕ) → j < length w.state.places → j ≢ i
    → (place_at w.state.places j).id ≢ id
found_apart w b id i h f j l n =
    let z : (place_at w.state.places i).id ≢ 0 = λ q. f.some (sym f.is ∙ q) in
    λ e. h.places.apart i j f.low l (λ q. n (sym q)) z (e ∙ sym f.is)

-- ---- the place is forgotten
pub forget_live : (w : World) (b b' : Book) (id i : ℕ) → Live w b → is_idle w.state.work ≡ true → Found w.state.places id i
    → b'.pages ≡ b.pages → b'.changes ≡ close id b.changes → Live (placed w i free_place) b'
forget_live w b b' id i h idle f p e = live_place w b b' i free_place h idle p
    (places_set w.state.geometry w.state.places i free_place h.places (free_ok w.state.geometry) (λ z. absurd (z refl)))
    (opens_set w.state.geometry w.state.places (scanned w) (scanned w) i free_place h.opens (λ z. absurd (z refl)) (λ j l n z. refl))
    (changing_close w.array w.map w.hold w.state.places b id i f h.changing (found_apart w b id i h f) b' e)

-- ---- abort
pub record Aborts (w : World) (id : ℕ) (p : Plan) : Type 0 where
  pub idle : is_idle w.state.work ≡ true
  pub begun : leb 8 (place_of w.state.places id) ≡ false
  pub is : p ≡ forget_plan (place_of w.state.places id) w

pub abort_view : (id : ℕ) (w : World) → View w (Aborts w id) (plan_abort id w)
unfolding plan_abort numbered all Unless
abort_view id w = view_checks w (Aborts w id) (forget_plan (place_of w.state.places id) w) (abort_checks id w) refl (λ f i a.
    yes _ (record { idle = idle_only (is_idle w.state.work) i; begun = a; is = refl }))

pub abort_keeps : (w : World) (b : Book) (id : ℕ) → Live w b → Keeps (abort id) w b
unfolding plan carried apply_op forget_plan
abort_keeps w b id h = view_keeps (abort id) w b (Aborts w id) h (abort_view id w) (λ p e v.
    done_live (abort id) w b p e (rw v.is) (rw v.is (unfold entering changing in
    forget_live w b _ id (place_of w.state.places id) h v.idle (place_found w.state.places id h.changing.eight v.begun) refl refl)))
