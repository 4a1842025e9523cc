-- A commit keeps the world live: its mark is programmed, its pages are entered in write order, and the book has its writes.
use Rattle.std.specs.Prelude.{◌≡◌, ◌⊎◌, ◌≢◌, true, false, ℕ, suc, ◌+◌, ◌-◌, ◌≤◌, ◌<◌, length, get_or, set, eqb, leb, ltb}
use Rattle.std.proofs.Math.Path.{refl, subst}
use Rattle.std.proofs.Common.{sym, ap, ◌∙◌, arith, add-one, get_or-set_same, get_or-set_other, take_all, eqb-true, ltb-true, ltb-false}
use Rattle.std.proofs.Math.Logic.{inl, inr}
use mathlib.Core.List.{List, [], ◌∷◌, ◌++◌}
use Rattle.std.proofs.lemmas.Bool.{eqb-false, not-true, not-false}
use Rattle.model.specs.Lists.{all}
use Rattle.model.specs.Page.{page_at, data_at, spare_of, whole_at, blank_at}
use Rattle.model.specs.Geometry.{data_page}
use Rattle.model.specs.Zones.{Entry, entry_of}
use Rattle.model.specs.Recovery.{of_id}
use Rattle.model.specs.World.{World, Plan, apply_op}
use Rattle.model.specs.Frame.{free_place, no_place, bad_id, is_idle}
use Rattle.model.specs.Transactions.{place_of, with_place, with_version, clean_pages, next_page, zone_short, spent, page_kind, change_bytes, held_at, place_with, has_held, commit_plan, commit_checks}
use Rattle.model.specs.Transactions.{held_page, held_drop, entered, mark_plan, forget_plan, plan_commit, with_last, number_of}
use Rattle.model.specs.Commands.{commit, plan, carried}
use Rattle.model.specs.Book.{Book, Write, entering, changing, writes_of, close, enter_all}
use Rattle.model.specs.declared.Geometry.{Geometry}
use Rattle.model.specs.declared.Place.{Place}
use Rattle.model.specs.declared.Spare.{Spare}
use Rattle.arrays.specs.Tests.{Is, eqb_cases, clash}
use Rattle.arrays.specs.Order.{numbered, Unless}
use Rattle.arrays.specs.Bytelist.{Bytes}
use Rattle.arrays.specs.Image.{SpareFits}
use Rattle.arrays.specs.Whole.{whole_not_blank}
use Rattle.front.specs.Kept.{kept_away}
use Rattle.scanlog.specs.Occ.{occ}
use Rattle.arrays.specs.Insert.{Insert}
use Rattle.scanlog.specs.Log.{of_id_other}
use Rattle.scanlog.specs.Good.{change_kind, change_drop, Plain}
use Rattle.scanlog.specs.Logged.{Logged, logged_mark}
use Rattle.scanlog.specs.Open.{opens_set, open_no_mark, open_mark, Open, number_le, number_one, number_two, open_lower, open_count, open_turn}
use Rattle.sequence.specs.Contents.{Contents, content_of}
use Rattle.sequence.specs.Places.{place_at, places_set, free_ok, Found, place_found}
use Rattle.sequence.specs.Writes.{Laid, Writes, Enters, Entered, WholeSame, write_at, laid_keep, stored_keep, enters_all, held_long}
use Rattle.sequence.specs.Live.{Live, live_range, live_logged, scanned}
use Rattle.sequence.specs.View.{View, yes, view_checks, view_cond, idle_only, Keeps, done_live, view_keeps, idle_calm}
use Rattle.sequence.specs.Abort.{changing_close, found_apart, forget_live}
use Rattle.sequence.specs.Lone.{changing_grow, room_clean}
use Rattle.sequence.specs.Write.{kind_small}
use Rattle.sequence.specs.PlaceIn.{PlaceIn, place_in, first_passes, good_name, most_room, most_two}
use Rattle.sequence.specs.Append.{Appends, appends, appended, next_is_data, next_mapped, next_blank, next_free_law, append_whole, append_data, append_spare}
use Rattle.sequence.specs.Append.{append_keeps, append_tidy, rescanned, append_in, append_front, append_sound, append_contents, append_last}

-- ---- the plan
pub data Commits (w : World) (id : ℕ) : Plan → Type 0 where
  forgets : is_idle w.state.work ≡ true → leb 8 (place_of w.state.places id) ≡ false
      → (place_at w.state.places (place_of w.state.places id)).count ≡ 0 → Commits w id (forget_plan (place_of w.state.places id) w)
  marks : is_idle w.state.work ≡ true → leb 8 (place_of w.state.places id) ≡ false → (place_at w.state.places (place_of w.state.places id)).count ≢ 0
      → spent w.state.version 1 ≡ false → zone_short w ≡ false
      → Commits w id (mark_plan (place_of w.state.places id) (place_at w.state.places (place_of w.state.places id)) w)

pub commit_view : (id : ℕ) (w : World) → View w (Commits w id) (plan_commit id w)
unfolding plan_commit numbered all Unless
commit_view id w =
    let p = place_with id w in
    view_checks w (Commits w id) (commit_plan id w) (commit_checks id w) refl (λ f o a c e.
    view_cond w (Commits w id) (has_held id w) _ _
    (λ z. yes _ (marks (idle_only (is_idle w.state.work) o) a (eqb-false p.count 0 (not-true (eqb p.count 0) z)) (rw z at c) (rw z at e)))
    (λ z. yes _ (forgets (idle_only (is_idle w.state.work) o) a (eqb-true p.count 0 (not-false (eqb p.count 0) z)))))

-- ---- the mark
module _ (w : World) (b : Book) (h : Live w b) (id i : ℕ) (idle : is_idle w.state.work ≡ true) (f : Found w.state.places id i)
    (many : (place_at w.state.places i).count ≢ 0) (more : spent w.state.version 1 ≡ false) (short : zone_short w ≡ false) where
  -- geometry, places, the place of the change, its writes in the book, and the version of the mark
  abbrev g : Geometry
  g = w.state.geometry

  abbrev ps : List Place
  ps = w.state.places

  abbrev p : Place
  p = place_at ps i

  abbrev ws : List Write
  ws = writes_of id b.changes

  abbrev v : ℕ
  v = w.state.version + 1

  low8 : i < 8
  low8 = omega (arith, f.low, h.changing.eight)

  some : p.id ≢ 0
  some q = f.some (sym f.is ∙ q)

  own : Writes w.array w.map w.hold i p ws
  own = subst (λ (n : ℕ). Writes w.array w.map w.hold i p (writes_of n b.changes)) f.is (h.changing.writes i low8 some)

  inside : PlaceIn g p
  inside = place_in g p (h.places.ok i f.low)

  few : p.count ≤ 64
  few = omega (arith, inside.few, (most_room g).1)

  few_two : g.planes ≡ 2 → p.count ≤ 41
  few_two two = omega (arith, inside.few, most_two g two)

  pub version_small : v ≤ 4294967294
  version_small = omega (arith, ltb-false 4294967294 v more)

  -- the pages programmed before
  abbrev n : ℕ
  n = p.count - 1

  count_is : p.count ≡ suc n
  count_is = omega arith

  lpn_low : (j : ℕ) → j < p.count → get_or p.lpns j 0 < g.logical
  lpn_low j l = ltb-true _ g.logical (first_passes (λ (x : ℕ). ltb x g.logical) p.count p.lpns (omega (arith, own.lpns, few)) inside.lpns j l)

  held_name' : p.id ≢ 4294967295
  held_name' = pick inside.name
    where
      pick : (bad_id p.id ≡ false) ⊎ ((p.id ≡ 0) × (p.count ≡ 0)) → p.id ≢ 4294967295
      pick (inl e) = good_name p.id e
      pick (inr e) = absurd (some e.0)

  -- the spare area of the mark
  abbrev pub mark_spare : Spare
  mark_spare = record { lpn = held_page p; cnt = p.count; id = p.id; ver = v; kind = page_kind (held_drop p); reserved = number_of g p.count }

  mark_fits : SpareFits mark_spare
  mark_fits = record {
    lpn = omega (arith, lpn_low n (omega arith), (live_range w b h).logical_most);
    cnt = omega (arith, few);
    id = own.small;
    ver = omega (arith, version_small);
    kind = kind_small (held_drop p);
    reserved = omega (arith, number_le g p.count, few);
  }

  -- its data
  abbrev mark_data : List ℕ
  mark_data = held_at i w.hold

  mark_long : length mark_data ≡ 512
  mark_long = held_long w.hold i h.hold low8

  mark_small : Bytes mark_data
  mark_small = own.bytes (omega arith)

  clean : 0 < clean_pages w
  clean = room_clean w b h short

  -- its page, the array after it, the pages of the change, and the map after it
  abbrev k : ℕ
  k = next_page w

  abbrev ys : List ℕ
  ys = appended w b h clean mark_data mark_spare mark_long mark_small mark_fits

  abbrev qs : List ℕ
  qs = set p.ppns n k

  abbrev map' : List ℕ
  map' = entered w.map p.lpns qs p.drops p.count

  keeps : WholeSame w.array ys
  keeps = append_keeps w b h clean mark_data mark_spare mark_long mark_small mark_fits

  blank : blank_at w.array k ≡ true
  blank = next_blank w b h clean mark_data mark_spare mark_long mark_small mark_fits

  qs_old : (j : ℕ) → suc j < p.count → get_or qs j 0 ≡ get_or p.ppns j 0
  qs_old j l = get_or-set_other p.ppns n j k 0 (λ q. absurd (omega arith))

  qs_new : get_or qs n 0 ≡ k
  qs_new = get_or-set_same p.ppns n k 0 (omega (arith, own.ppns, few))

  marked : Laid ys w.map p.id k
  marked = record {
    real = next_mapped w b h clean mark_data mark_spare mark_long mark_small mark_fits;
    whole = append_whole w b h clean mark_data mark_spare mark_long mark_small mark_fits;
    owner = ap (λ (s : Spare). s.id) (append_spare w b h clean mark_data mark_spare mark_long mark_small mark_fits);
    free = next_free_law w b h clean mark_data mark_spare mark_long mark_small mark_fits;
  }

  -- an old page of the change is not the new one
  old_new : (j : ℕ) → suc j < p.count → get_or p.ppns j 0 ≢ k
  old_new j l q = clash blank (whole_not_blank w.array k (subst (λ (x : ℕ). whole_at w.array x ≡ true) q (own.laid j l).whole))

  laid_at : (j : ℕ) → j < p.count → Is j n → Laid ys w.map p.id (get_or qs j 0)
  laid_at j l (inl q) = rw (q.0, qs_new) marked
  laid_at j l (inr q) =
      let m : suc j < p.count = omega (arith, q.0) in
      rw (qs_old j m) (laid_keep w.array ys w.map w.map p.id _ keeps (own.laid j m).free (own.laid j m))

  stored_at : (j : ℕ) → j < p.count → Is j n → (write_at ws j).content ≡ content_of (get_or p.drops j false) (data_at ys (get_or qs j 0))
  stored_at j l (inl q) = rw (q.0, qs_new, append_data w b h clean mark_data mark_spare mark_long mark_small mark_fits) (own.held n count_is)
  stored_at j l (inr q) =
      let m : suc j < p.count = omega (arith, q.0) in
      rw (qs_old j m) (stored_keep w.array ys (get_or p.drops j false) _ _ keeps (own.laid j m).whole (own.stored j m))

  page_at_law : (j : ℕ) → j < p.count → Is j n → data_page g (get_or qs j 0) ≡ true
  page_at_law j l (inl q) = rw (q.0, qs_new) (next_is_data w b h clean mark_data mark_spare mark_long mark_small mark_fits)
  page_at_law j l (inr q) =
      rw (qs_old j (omega (arith, q.0))) (first_passes (data_page g) n p.ppns (omega (arith, own.ppns, few)) inside.ppns j (omega (arith, q.0)))

  apart_at : (j m : ℕ) → j < m → m < p.count → Is m n → get_or qs j 0 ≢ get_or qs m 0
  apart_at j m l c (inl q) = rw (q.0, qs_new, qs_old j (omega (arith, q.0))) (old_new j (omega (arith, q.0)))
  apart_at j m l c (inr q) = rw (qs_old j (omega (arith, q.0)), qs_old m (omega (arith, q.0))) (own.apart j m l (omega (arith, q.0)))

  enters : Enters g ys w.map p.lpns qs p.drops ws p.id p.count
  enters = record {
    names = own.names;
    low = λ j l. omega (arith, lpn_low j l, h.sound.wide);
    laid = λ j l. laid_at j l (eqb_cases j n);
    stored = λ j l. stored_at j l (eqb_cases j n);
    page = λ j l. page_at_law j l (eqb_cases j n);
    apart = λ j m l c. apart_at j m l c (eqb_cases m n);
  }

  all_in : Entered g ys w.map p.lpns qs p.drops b.pages ws p.count
  all_in = enters_all g ys w.map p.lpns qs p.drops b.pages ws p.id p.count enters own.count h.sound.good
      (append_contents w b h clean mark_data mark_spare mark_long mark_small mark_fits) p.count (omega arith)

  contents : Contents ys map' (enter_all b.pages ws)
  contents = subst (λ (l : List Write). Contents ys map' (enter_all b.pages l)) (take_all p.count ws (omega (arith, own.count))) all_in.contents

  -- the pages of other identifiers stay unmapped
  pub mark_others : (name x : ℕ) → Laid w.array w.map name x → name ≢ p.id → occ x map' ≡ 0
  mark_others name x a e = omega (arith, a.free, all_in.others x a.real (λ m c. page m c (eqb_cases m n)))
    where
      page : (m : ℕ) → m < p.count → Is m n → x ≢ get_or qs m 0
      page m c (inl q) = rw (q.0, qs_new) (λ r. clash blank (whole_not_blank w.array k (subst (λ (t : ℕ). whole_at w.array t ≡ true) r a.whole)))
      page m c (inr q) =
          let u : suc m < p.count = omega (arith, q.0) in
          rw (qs_old m u) (λ r. e (sym a.owner ∙ ap (λ (t : ℕ). (spare_of (page_at w.array t)).id) r ∙ (own.laid m u).owner))

  -- the pages of the other changes stay unmapped
  others_free : (j : ℕ) → j < 8 → (place_at (set ps i free_place) j).id ≢ 0 → (x : ℕ) → Laid w.array w.map (place_at (set ps i free_place) j).id x
      → occ x map' ≡ 0
  others_free j l z x y = go (eqb_cases j i)
    where
      other_page : (place_at ps j).id ≢ p.id → Laid w.array w.map (place_at ps j).id x → (m : ℕ) → m < p.count → Is m n → x ≢ get_or qs m 0
      other_page e a m c (inl q) =
          rw (q.0, qs_new) (λ r. clash blank (whole_not_blank w.array k (subst (λ (t : ℕ). whole_at w.array t ≡ true) r a.whole)))
      other_page e a m c (inr q) =
          let u : suc m < p.count = omega (arith, q.0) in
          rw (qs_old m u) (λ r. e (sym a.owner ∙ ap (λ (t : ℕ). (spare_of (page_at w.array t)).id) r ∙ (own.laid m u).owner))

      go : Is j i → occ x map' ≡ 0
      go (inl q) = absurd (z (rw (q.0, get_or-set_same ps i free_place no_place f.low)))
      go (inr q) =
          let e : place_at (set ps i free_place) j ≡ place_at ps j = get_or-set_other ps i j free_place no_place q.0 in
          let a : Laid w.array w.map (place_at ps j).id x = rw e at y in
          let t : (place_at ps j).id ≢ p.id = h.places.apart i j f.low (omega (arith, h.changing.eight)) (λ r. q.0 (sym r)) some in
          omega (arith, a.free, all_in.others x a.real (λ m c. other_page t a m c (eqb_cases m n)))

  -- what is scanned after it
  abbrev es : List Entry
  es = rescanned w b h clean mark_data mark_spare mark_long mark_small mark_fits

  put_in : Insert (entry_of k mark_spare) (scanned w) es
  put_in = append_in w b h clean mark_data mark_spare mark_long mark_small mark_fits

  pub mark_opened : Open g p (scanned w)
  mark_opened = h.opens i f.low some

  pub mark_number : (entry_of k mark_spare).reserved ≡ number_of g p.count
  unfolding entry_of
  mark_number = refl

  pub mark_plain : Plain g.planes g.logical (entry_of k mark_spare)
  unfolding entry_of
  mark_plain = record {
    kind = change_kind (held_drop p);
    lpn = lpn_low n (omega arith);
    id = held_name';
    ver = λ q. absurd (omega (arith, q, version_small));
    none = elim [ inl q ↦ number_one g p.count q | inr q ↦ absurd (some q) ];
    least = λ two z. omega (arith, number_two g p.count two);
    most = λ two. omega (arith, number_two g p.count two, few_two two);
  }

  last : g.planes ≢ 2 → of_id p.id es ≡ of_id p.id (scanned w) ++ (entry_of k mark_spare ∷ [])
  unfolding entry_of
  last = append_last w b h clean mark_data mark_spare mark_long mark_small mark_fits

  -- what the log makes of it
  logged : Logged g.planes g.logical h.saved.version h.saved.map es map' v
  unfolding entry_of
  logged =
      let e = entry_of k mark_spare in
      let l = logged_mark g.planes g.logical h.saved.version h.saved.map w.map w.state.version (live_logged w b h) e put_in mark_plain
      (open_lower g p (scanned w) mark_opened es e put_in refl refl) some (open_no_mark g p (scanned w) mark_opened) many
      (open_count g p (scanned w) mark_opened es e put_in refl refl many) (add-one w.state.version) in
      subst (λ (u : ℕ). Logged g.planes g.logical h.saved.version h.saved.map es map' u) (sym (add-one w.state.version))
      (subst (λ (m : List ℕ). Logged g.planes g.logical h.saved.version h.saved.map es m (suc w.state.version))
      (open_mark g p (scanned w) mark_opened es e put_in refl refl many (omega (arith, own.ppns, few))
      (open_turn g p (scanned w) mark_opened es e put_in refl refl few_two last) w.map refl (change_drop (held_drop p))) l)

  mark_id : (entry_of k mark_spare).id ≡ p.id
  unfolding entry_of
  mark_id = refl

  -- the book after it
  abbrev told : Book
  told = record { pages = enter_all b.pages ws; changes = close id b.changes }

  pub mark_live : Live (carried (mark_plan i p w) w).world told
  unfolding carried mark_plan with_place with_version with_last change_bytes
  mark_live = record {
    saved = h.saved;
    sound = append_sound w b h clean mark_data mark_spare mark_long mark_small mark_fits map' v (enter_all b.pages ws) logged all_in.good
        (all_in.long ∙ h.sound.wide) contents version_small;
    kept = kept_away w _ h.saved h.kept (idle_calm w.state.work idle) (idle_calm w.state.work idle)
        (record { geometry = refl; checkpoint = refl; front = refl; first = refl })
        (append_front w b h clean mark_data mark_spare mark_long mark_small mark_fits);
    grown = h.grown;
    tidy = append_tidy w b h clean mark_data mark_spare mark_long mark_small mark_fits;
    hold = h.hold;
    places = places_set g ps i free_place h.places (free_ok g) (λ z. absurd (z refl));
    opens = (opens_set g ps (scanned w) _ i free_place h.opens (λ z. absurd (z refl))
        (λ j l m z. of_id_other (place_at ps j).id _ put_in (λ q. h.places.apart i j f.low l (λ r. m (sym r)) some (sym q ∙ mark_id))));
    changing = changing_grow w.array ys w.map map' w.hold (set ps i free_place) told told refl keeps others_free
        (changing_close w.array w.map w.hold ps b id i f h.changing (found_apart w b id i h f) told refl);
  }

  -- it appends the mark
  pub mark_appends : Appends w b h mark_spare (mark_plan i p w)
  mark_appends = appends w b h clean mark_data mark_spare mark_long mark_small mark_fits (mark_plan i p w)
      (unfold mark_plan change_bytes in refl) (unfold mark_plan with_place with_version with_last in refl) (unfold mark_plan with_place with_version with_last in refl)

-- "With nothing written, commit is done with no page and no version"
nothing_written : (w : World) (b : Book) (h : Live w b) (id i : ℕ) → Found w.state.places id i → (place_at w.state.places i).count ≡ 0
    → enter_all b.pages (writes_of id b.changes) ≡ b.pages
unfolding enter_all
nothing_written w b h id i f z =
    let own = h.changing.writes i (omega (arith, f.low, h.changing.eight)) (λ q. f.some (sym f.is ∙ q)) in
    go (writes_of id b.changes) (ap (λ (n : ℕ). length (writes_of n b.changes)) (sym f.is) ∙ own.count ∙ z)
  where
    go : (ws : List Write) → length ws ≡ 0 → enter_all b.pages ws ≡ b.pages
    go [] e = refl
    go (x ∷ ws) e = absurd (omega (arith, e))

-- ---- commit keeps the world live
pub commit_keeps : (w : World) (b : Book) (id : ℕ) → Live w b → Keeps (commit id) w b
unfolding plan
commit_keeps w b id h = view_keeps (commit id) w b (Commits w id) h (commit_view id w) (λ p e v. go p e v)
  where
    go : (p : Plan) → plan_commit id w ≡ p → Commits w id p → Keeps (commit id) w b
    go p e (forgets idle found zero') =
        let i = place_of w.state.places id in
        let f = place_found w.state.places id h.changing.eight found in
        done_live (commit id) w b p e (unfold forget_plan in refl) (unfold carried apply_op forget_plan entering changing in
        forget_live w b _ id i h idle f (nothing_written w b h id i f zero') refl)
    go p e (marks idle found many more short) =
        let i = place_of w.state.places id in
        done_live (commit id) w b p e (unfold mark_plan in refl) (unfold entering changing in
        mark_live w b h id i idle (place_found w.state.places id h.changing.eight found) many more short)
