-- Two commits that are done one straight after the other are done in the other order too: each takes one page and one version, or with nothing written
-- none, and leaves the place of the other as it was.
use Rattle.std.specs.Prelude.{◌≡◌, refl, ◌⊎◌, ◌≢◌, true, false, cond, ℕ, ◌+◌, ◌<◌, List, length, set, eqb, leb}
use Rattle.std.proofs.Common.{sym, ap, ◌∙◌, subst, inl, inr, arith, length-set, get_or-set_same, get_or-set_other, eq-eqb, ne_eqb, leb-false, le-ltb, ltb-false}
use Rattle.std.proofs.lemmas.Bool.{lt-leb}
use Rattle.model.specs.Answers.{refused}
use Rattle.model.specs.World.{World, Plan, apply_op}
use Rattle.model.specs.Order.{first_number}
use Rattle.model.specs.Frame.{free_place, no_place, is_idle}
use Rattle.model.specs.Transactions.{place_of, with_place, with_version, with_last, clean_pages, mark_plan, forget_plan, plan_commit}
use Rattle.model.specs.Commands.{commit, plan, carried, exec}
use Rattle.model.specs.Book.{Book, called, tell}
use Rattle.model.specs.EitherOrder.{after_commit, BothDone}
use Rattle.model.specs.declared.Geometry.{Geometry}
use Rattle.model.specs.declared.Place.{Place}
use Rattle.model.specs.declared.Work.{Work}
use Rattle.arrays.specs.Tests.{Is, eqb_cases, clash}
use Rattle.sequence.specs.Places.{place_at, Found, place_found, found_place}
use Rattle.sequence.specs.Live.{Live, live_frame}
use Rattle.sequence.specs.View.{View, no, yes, after}
use Rattle.sequence.specs.Append.{append_clean}
use Rattle.sequence.specs.Commit.{Commits, forgets, marks, commit_view, mark_appends, commit_keeps}

-- ---- a commit that is done
-- the pages that a change has
abbrev many : World → ℕ → ℕ
many w id = (place_at w.state.places (place_of w.state.places id)).count

-- the pages that its commit programs, and the versions that it takes: "With nothing written, commit is done with no page and no version"
abbrev takes : World → ℕ → ℕ
takes w id = cond (eqb (many w id) 0) 0 1

takes_none : (w : World) (id : ℕ) → many w id ≡ 0 → takes w id ≡ 0
takes_none w id z = rw (eq-eqb _ 0 z)

takes_one : (w : World) (id : ℕ) → many w id ≢ 0 → takes w id ≡ 1
takes_one w id z = rw (ne_eqb _ 0 z)

takes_cases : (w : World) (id : ℕ) → (takes w id ≡ 0) ⊎ (takes w id ≡ 1)
takes_cases w id = go (eqb_cases (many w id) 0)
  where
    go : Is (many w id) 0 → (takes w id ≡ 0) ⊎ (takes w id ≡ 1)
    go (inl q) = inl (takes_none w id q.0)
    go (inr q) = inr (takes_one w id q.0)

-- what it asks of a live world
record Ready (w : World) (id : ℕ) : Type 0 where
  idle : is_idle w.state.work ≡ true
  begun : leb 8 (place_of w.state.places id) ≡ false
  number : takes w id ≡ 1 → w.state.version < 4294967294
  room : takes w id ≡ 1 → w.state.geometry.pages < clean_pages w

ready_done : (w : World) (b : Book) (id : ℕ) → Live w b → Ready w id → (exec (commit id) w).answer ≡ 0
unfolding exec plan carried plan_commit first_number forget_plan mark_plan
ready_done w b id h r = go (eqb_cases (many w id) 0)
  where
    go : Is (many w id) 0 → (exec (commit id) w).answer ≡ 0
    go (inl q) = rw (live_frame w b h, r.idle, r.begun, q.1)
    go (inr q) =
        let one = takes_one w id q.0 in
        rw (
          live_frame w b h,
          r.idle,
          r.begun,
          q.1,
          le-ltb 4294967294 (w.state.version + 1) (omega (arith, r.number one)),
          lt-leb (clean_pages w) w.state.geometry.pages (r.room one),
        )

-- what it found, and what it leaves
record Left (w : World) (id : ℕ) (v : World) : Type 0 where
  ready : Ready w id
  geometry : v.state.geometry ≡ w.state.geometry
  work : v.state.work ≡ w.state.work
  places : v.state.places ≡ set w.state.places (place_of w.state.places id) free_place
  version : v.state.version ≡ w.state.version + takes w id
  clean : clean_pages w ≡ takes w id + clean_pages v

commits_left : (w : World) (b : Book) (id : ℕ) → Live w b → (p : Plan) → Commits w id p → Left w id (after p w)
unfolding carried forget_plan mark_plan with_place with_version with_last apply_op
commits_left w b id h p (forgets idle begun z) =
    let t = takes_none w id z in
    record {
      ready = record { idle = idle; begun = begun; number = λ o. absurd (omega (arith, o, t)); room = λ o. absurd (omega (arith, o, t)) };
      geometry = refl;
      work = refl;
      places = refl;
      version = omega (arith, t);
      clean = omega (arith, t);
    }
commits_left w b id h p (marks idle begun some more short) =
    let i = place_of w.state.places id in
    let t = takes_one w id some in
    let one = append_clean w b h _ p (mark_appends w b h id i idle (place_found w.state.places id h.changing.eight begun) some more short) in
    record {
      ready = record {
        idle = idle;
        begun = begun;
        number = λ o. omega (arith, ltb-false 4294967294 (w.state.version + 1) more);
        room = λ o. leb-false _ _ short;
      };
      geometry = refl;
      work = refl;
      places = refl;
      version = omega (arith, t);
      clean = omega (arith, one, t);
    }

done_left : (w : World) (b : Book) (id : ℕ) → Live w b → (exec (commit id) w).answer ≡ 0 → Left w id (after_commit id w)
unfolding exec plan
done_left w b id h e = go (plan_commit id w) (commit_view id w) (unfold carried in e)
  where
    go : (p : Plan) → View w (Commits w id) p → p.answer ≡ 0 → Left w id (after p w)
    go p (no n r) z = clash r (unfold refused in rw z)
    go p (yes q v) z = commits_left w b id h q v

-- ---- the place of the other change
-- with place i free an identifier is found in another, and was found there before
record Elsewhere (ps : List Place) (i id j : ℕ) : Type 0 where
  other : j ≢ i
  found : Found ps id j
  same : place_at (set ps i free_place) j ≡ place_at ps j

elsewhere : (ps : List Place) (i id j : ℕ) → i < length ps → Found (set ps i free_place) id j → Elsewhere ps i id j
elsewhere ps i id j l f = go (eqb_cases j i)
  where
    go : Is j i → Elsewhere ps i id j
    go (inl q) = absurd (f.some (sym f.is ∙ rw (q.0, get_or-set_same ps i free_place no_place l)))
    go (inr q) =
        let s : place_at (set ps i free_place) j ≡ place_at ps j = get_or-set_other ps i j free_place no_place q.0 in
        record { other = q.0; found = record { low = rw length-set at f.low; is = sym (ap (λ (p : Place). p.id) s) ∙ f.is; some = f.some }; same = s }

-- an identifier of another place is still found there
still_found : (ps : List Place) (i id j : ℕ) → j ≢ i → Found ps id j → Found (set ps i free_place) id j
still_found ps i id j n f =
    record { low = rw length-set f.low; is = ap (λ (p : Place). p.id) (get_or-set_other ps i j free_place no_place n) ∙ f.is; some = f.some }

-- ---- the other order
module _ (w : World) (bk : Book) (h : Live w bk) (a b : ℕ) (d : BothDone a b w) where
  -- places, and where change a is; the world after its commit, and where change b is there
  abbrev ps : List Place
  ps = w.state.places

  abbrev i : ℕ
  i = place_of ps a

  abbrev va : World
  va = after_commit a w

  abbrev j : ℕ
  j = place_of va.state.places b

  live_a : Live va (tell bk (called (commit a) (exec (commit a) w).answer))
  live_a = commit_keeps w bk a h

  left_a : Left w a va
  left_a = done_left w bk a h d.first

  left_ab : Left va b (after_commit b va)
  left_ab = done_left va _ b live_a d.second

  found_a : Found ps a i
  found_a = place_found ps a h.changing.eight left_a.ready.begun

  away : Elsewhere ps i b j
  away = elsewhere ps i b j found_a.low
      (subst (λ (qs : List Place). Found qs b j) left_a.places (place_found va.state.places b live_a.changing.eight left_ab.ready.begun))

  place_b : place_of ps b ≡ j
  place_b = found_place w.state.geometry ps b j h.places away.found

  -- they are two changes
  pub differ : b ≢ a
  differ q = away.other (sym place_b ∙ ap (place_of ps) q)

  -- their identifiers are of 32 bits
  small : (id k : ℕ) → Found ps id k → id < 4294967296
  small id k f = subst (λ (n : ℕ). n < 4294967296) f.is
      (h.changing.writes k (omega (arith, f.low, h.changing.eight)) (λ q. f.some (sym f.is ∙ q))).small

  pub both_small : (a < 4294967296) × (b < 4294967296)
  both_small = (small a i found_a, small b j away.found)

  takes_b : takes w b ≡ takes va b
  takes_b = ap (λ (p : Place). cond (eqb p.count 0) 0 1)
      (ap (place_at ps) place_b ∙ sym away.same ∙ ap (λ (qs : List Place). place_at qs j) (sym left_a.places))

  -- b first: what was left for it after a was there before
  ready_b : Ready w b
  ready_b = record {
    idle = left_a.ready.idle;
    begun = rw place_b left_ab.ready.begun;
    number = λ o. omega (arith, left_ab.ready.number (sym takes_b ∙ o), left_a.version);
    room = λ o. omega (arith, left_ab.ready.room (sym takes_b ∙ o), left_a.clean, ap (λ (k : Geometry). k.pages) left_a.geometry);
  }

  first_done : (exec (commit b) w).answer ≡ 0
  first_done = ready_done w bk b h ready_b

  -- the world after it, and where change a is there
  abbrev vb : World
  vb = after_commit b w

  live_b : Live vb (tell bk (called (commit b) (exec (commit b) w).answer))
  live_b = commit_keeps w bk b h

  left_b : Left w b vb
  left_b = done_left w bk b h first_done

  places_b : vb.state.places ≡ set ps j free_place
  places_b = left_b.places ∙ ap (λ (k : ℕ). set ps k free_place) place_b

  apart_a : i ≢ j
  apart_a q = away.other (sym q)

  place_a : place_of vb.state.places a ≡ i
  place_a = found_place vb.state.geometry vb.state.places a i live_b.places
      (subst (λ (qs : List Place). Found qs a i) (sym places_b) (still_found ps j a i apart_a found_a))

  takes_a : takes vb a ≡ takes w a
  takes_a = ap (λ (p : Place). cond (eqb p.count 0) 0 1)
      (ap (place_at vb.state.places) place_a ∙ ap (λ (qs : List Place). place_at qs i) places_b ∙ get_or-set_other ps j i free_place no_place apart_a)

  -- then a: what both took together was there
  ready_a : Ready vb a
  ready_a = record {
    idle = subst (λ (k : Work). is_idle k ≡ true) (sym left_b.work) left_a.ready.idle;
    begun = rw place_a left_a.ready.begun;
    number = λ o. number_a (sym takes_a ∙ o) (takes_cases w b);
    room = λ o. omega (arith, room_a (sym takes_a ∙ o) (takes_cases w b), ap (λ (k : Geometry). k.pages) left_b.geometry);
  }
    where
      number_a : takes w a ≡ 1 → (takes w b ≡ 0) ⊎ (takes w b ≡ 1) → vb.state.version < 4294967294
      number_a o (inl z) = omega (arith, left_a.ready.number o, left_b.version, z)
      number_a o (inr z) = omega (arith, left_ab.ready.number (sym takes_b ∙ z), left_a.version, left_b.version, z, o)

      room_a : takes w a ≡ 1 → (takes w b ≡ 0) ⊎ (takes w b ≡ 1) → w.state.geometry.pages < clean_pages vb
      room_a o (inl z) = omega (arith, left_a.ready.room o, left_b.clean, z)
      room_a o (inr z) =
          omega (arith, left_ab.ready.room (sym takes_b ∙ z), left_a.clean, left_b.clean, z, o, ap (λ (k : Geometry). k.pages) left_a.geometry)

  pub other_order : BothDone b a w
  other_order = record { first = first_done; second = ready_done vb _ a live_b ready_a }
