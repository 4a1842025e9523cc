-- A write or a drop keeps the world live: the page held before is programmed without a mark, and the new one is held.
use Rattle.std.specs.Prelude.{◌≡◌, ◌⊎◌, ◌≢◌, Bool, true, false, not, cond, ℕ, ◌-◌, ◌<◌, List, [], ◌∷◌, ◌++◌, length, set, eqb, leb, ltb}
use Rattle.std.proofs.Math.Path.{refl, ap}
use Rattle.std.proofs.Common.{sym, ◌∙◌, subst, inl, inr, arith, get_or-set_same, get_or-set_other, eqb-true, ne_eqb, ltb-true, leb-false}
use Rattle.std.proofs.Math.ListN.{length-set}
use Rattle.std.proofs.lemmas.List.{length-replicate}
use Rattle.std.proofs.lemmas.Bool.{not-false}
use Rattle.model.specs.Lists.{those, all}
use Rattle.model.specs.Bytes.{bytes}
use Rattle.model.specs.Geometry.{unmapped, data_page}
use Rattle.model.specs.Zones.{Entry, entry_of, scan_of}
use Rattle.model.specs.Recovery.{of_id}
use Rattle.model.specs.World.{World, Plan, none, program, apply_op}
use Rattle.model.specs.Order.{leave_out}
use Rattle.model.specs.Frame.{no_place, bad_id, most_pages, is_idle}
use Rattle.model.specs.Transactions.{place_of, with_place, clean_pages, next_page, zone_short, page_kind, change_bytes, held_at, hold_with, held_page, held_drop}
use Rattle.model.specs.Transactions.{place_with, has_held, bad_logical_page, not_begun, too_long, short_zone, write_checks, drop_checks, longest_change, written, held_op, write_plan, add_plan, plan_write, gone, plan_drop, with_last, taking, number_of, held_state}
use Rattle.model.specs.Commands.{Call, write, drop_page, plan, carried, exec}
use Rattle.model.specs.Book.{Book, Write, called, entering, changing, tell, writes_of, add_to}
use Rattle.model.specs.Sequence.{fits}
use Rattle.model.specs.declared.Geometry.{Geometry}
use Rattle.model.specs.declared.Place.{Place}
use Rattle.model.specs.declared.Plane.{Plane}
use Rattle.model.specs.declared.State.{State}
use Rattle.model.specs.declared.Spare.{Spare}
use Rattle.arrays.specs.Tests.{Is, eqb_cases, and_right}
use Rattle.arrays.specs.Order.{numbered, Unless}
use Rattle.arrays.specs.Bytelist.{Bytes, bytes_true, bytes_replicate}
use Rattle.arrays.specs.Image.{SpareFits}
use Rattle.front.specs.Newest.{SameFront}
use Rattle.front.specs.Kept.{kept_away}
use Rattle.arrays.specs.Insert.{Insert}
use Rattle.scanlog.specs.Log.{of_id_other}
use Rattle.scanlog.specs.Good.{change_kind}
use Rattle.scanlog.specs.Logged.{Logged, logged_page}
use Rattle.scanlog.specs.Open.{Open, open_entry, opens_set, number_le, number_one, number_two, open_no_mark, open_lower, open_turn, open_first, open_more}
use Rattle.scanlog.specs.Tidy.{Tidy}
use Rattle.sequence.specs.Contents.{content_of}
use Rattle.sequence.specs.Places.{place_at, places_set, Found, place_found}
use Rattle.sequence.specs.PlaceIn.{PlaceIn, place_in, in_place, good_name, first_passes, written_in, most_room, most_two}
use Rattle.sequence.specs.OpenBook.{is_open, add_own, add_other, add_open}
use Rattle.sequence.specs.Writes.{Writes, WholeSame, writes_keep, writes_more, hold_own, hold_other, hold_long, held_long}
use Rattle.sequence.specs.Sound.{Sound}
use Rattle.sequence.specs.Live.{Live, live_range, live_logged, scanned}
use Rattle.sequence.specs.View.{View, no, yes, view_checks, idle_only, after, told_refused, Keeps, idle_calm}
use Rattle.sequence.specs.SameShape.{held_shape}
use Rattle.sequence.specs.Abort.{found_apart}
use Rattle.sequence.specs.Lone.{room_clean}
use Rattle.sequence.specs.Append.{Appends, appends, appended, next_is_data, next_mapped, next_blank, next_free_law, append_whole, append_data, append_spare}
use Rattle.sequence.specs.Append.{append_keeps, append_tidy, rescanned, append_in, append_front, append_sound, append_contents, append_last}

-- ---- the plan
pub record WritesTo (w : World) (id lpn : ℕ) (drop : Bool) (d : List ℕ) (p : Plan) : Type 0 where
  pub idle : is_idle w.state.work ≡ true
  pub long : length d ≡ 512
  pub low : lpn < w.state.geometry.logical
  pub begun : leb 8 (place_of w.state.places id) ≡ false
  pub room : (place_at w.state.places (place_of w.state.places id)).count < most_pages w.state.geometry
  pub clean : (place_at w.state.places (place_of w.state.places id)).count ≢ 0 → zone_short w ≡ false
  pub is : p ≡ write_plan (place_of w.state.places id) (place_at w.state.places (place_of w.state.places id)) lpn drop d w

-- where none of 5, 8, 10 and 12 applies
adds : (id lpn : ℕ) (drop : Bool) (d : List ℕ) (w : World) → is_idle w.state.work ≡ true → length d ≡ 512 → (bad_logical_page lpn w).when ≡ false
    → (not_begun id w).when ≡ false → (too_long id w).when ≡ false → (short_zone (has_held id w) w).when ≡ false
    → View w (WritesTo w id lpn drop d) (add_plan id lpn drop d w)
adds id lpn drop d w i long c e z y =
    let p = place_with id w in
    yes _ (record {
      idle = i;
      long = long;
      low = leb-false w.state.geometry.logical lpn c;
      begun = e;
      room = (let h = leb-false longest_change p.count z in omega (arith, (most_room w.state.geometry).0));
      clean = λ n. let t : not (eqb p.count 0) ≡ true = ap not (ne_eqb p.count 0 n) in rw t at y;
      is = refl;
    })

pub write_view : (id lpn : ℕ) (d : List ℕ) (w : World) → View w (WritesTo w id lpn false d) (plan_write id lpn d w)
unfolding plan_write numbered all Unless
write_view id lpn d w = view_checks w (WritesTo w id lpn false d) (add_plan id lpn false d w) (write_checks id lpn d w) refl (λ f o a.
    adds id lpn false d w (idle_only (is_idle w.state.work) o) (eqb-true (length d) 512 (not-false (eqb (length d) 512) a)))

-- the data of a drop
gone_long : length gone ≡ 512
unfolding gone
gone_long = length-replicate {A = ℕ} 512 255

pub gone_small : Bytes gone
unfolding gone
gone_small = bytes_replicate 512 255 (omega arith)

pub drop_view : (id lpn : ℕ) (w : World) → View w (WritesTo w id lpn true gone) (plan_drop id lpn w)
unfolding plan_drop leave_out those numbered all Unless
drop_view id lpn w = view_checks w (WritesTo w id lpn true gone) (add_plan id lpn true gone w) (drop_checks id lpn w) refl (λ f o.
    adds id lpn true gone w (idle_only (is_idle w.state.work) o) gone_long)

pub kind_small : (drop : Bool) → page_kind drop < 256
kind_small true = omega arith
kind_small false = omega arith

-- ---- the world with the page held, and perhaps one programmed
-- the state with this plane of the last data block page
abbrev on_plane : State → Plane → State
on_plane s t =
    record {
      geometry = s.geometry;
      zones = s.zones;
      version = s.version;
      checkpoint = s.checkpoint;
      front = s.front;
      first = s.first;
      work = s.work;
      last = t;
      places = s.places;
    }

module _ (w : World) (b : Book) (h : Live w b) (id lpn : ℕ) (drop : Bool) (d : List ℕ) (idle : is_idle w.state.work ≡ true) (long : length d ≡ 512)
    (small : Bytes d) (low : lpn < w.state.geometry.logical) (i : ℕ) (f : Found w.state.places id i)
    (room : (place_at w.state.places i).count < most_pages w.state.geometry) where
  -- geometry, places, the place of the change, and the write
  abbrev g : Geometry
  g = w.state.geometry

  abbrev ps : List Place
  ps = w.state.places

  abbrev p : Place
  p = place_at ps i

  abbrev x : Write
  x = record { lpn = lpn; content = content_of drop d }

  low8 : i < 8
  low8 = omega (arith, f.low, h.changing.eight)

  some : p.id ≢ 0
  some q = f.some (sym f.is ∙ q)

  named : bad_id p.id ≡ false
  named = pick (place_in g p (h.places.ok i f.low)).name
    where
      pick : (bad_id p.id ≡ false) ⊎ ((p.id ≡ 0) × (p.count ≡ 0)) → bad_id p.id ≡ false
      pick (inl e) = e
      pick (inr e) = absurd (some e.0)

  own : Writes w.array w.map w.hold i p (writes_of id b.changes)
  own = subst (λ (n : ℕ). Writes w.array w.map w.hold i p (writes_of n b.changes)) f.is (h.changing.writes i low8 some)

  -- ys is the array after it, es its scan, t the plane of the last data block page
  module _ (ys : List ℕ) (es : List Entry) (k : ℕ) (t : Plane) (sound : Sound g ys h.saved w.map w.state.version b.pages)
      (tidy : Tidy g ys w.state.zones) (scan : scan_of ys g.pages w.state.zones ≡ es) (front : SameFront w.array ys g.pages)
      (same : WholeSame w.array ys) (mine : Open g (written p k lpn drop) es)
      (others : (j : ℕ) → j < length ps → j ≢ i → (place_at ps j).id ≢ 0 → of_id (place_at ps j).id es ≡ of_id (place_at ps j).id (scanned w))
      (page : p.count ≢ 0 → data_page g k ≡ true)
      (new : Writes ys w.map (hold_with w.hold i d) i (written p k lpn drop) (writes_of id b.changes ++ (x ∷ []))) where
    -- the place, the world and the book after it
    abbrev q : Place
    q = written p k lpn drop

    abbrev then : World
    then = record { array = ys; map = w.map; hold = hold_with w.hold i d; state = with_place (on_plane w.state t) i q }

    abbrev told : Book
    told = record { pages = b.pages; changes = add_to id x b.changes }

    q_id : q.id ≡ id
    unfolding written
    q_id = f.is

    at_own : place_at (set ps i q) i ≡ q
    at_own = get_or-set_same ps i q no_place f.low

    at_other : (j : ℕ) → j ≢ i → place_at (set ps i q) j ≡ place_at ps j
    at_other j n = get_or-set_other ps i j q no_place n

    apart : (j : ℕ) → j < 8 → j ≢ i → (place_at ps j).id ≢ id
    apart j l n = found_apart w b id i h f j (omega (arith, h.changing.eight)) n

    open_id : is_open id b.changes ≡ true
    open_id = subst (λ (n : ℕ). is_open n b.changes ≡ true) f.is (h.changing.opened i low8 some)

    grew : writes_of q.id told.changes ≡ writes_of id b.changes ++ (x ∷ [])
    grew = ap (λ (n : ℕ). writes_of n told.changes) q_id ∙ add_own id x b.changes open_id

    writes_at : (j : ℕ) → j < 8 → (place_at (set ps i q) j).id ≢ 0 → Is j i
        → Writes ys w.map (hold_with w.hold i d) j (place_at (set ps i q) j) (writes_of (place_at (set ps i q) j).id told.changes)
    writes_at j l z (inl e) = rw (e.0, at_own, grew) new
    writes_at j l z (inr e) =
        let n : (place_at ps j).id ≢ 0 = rw (at_other j e.0) at z in
        rw (at_other j e.0, add_other id x (place_at ps j).id b.changes (apart j l e.0))
        (writes_keep w.array ys w.map w.map w.hold (hold_with w.hold i d) j (place_at ps j) _ same (λ y a. a.free)
        (hold_other w.hold i d h.hold low8 long j e.0) (h.changing.writes j l n))

    opened_at : (j : ℕ) → j < 8 → (place_at (set ps i q) j).id ≢ 0 → Is j i → is_open (place_at (set ps i q) j).id told.changes ≡ true
    opened_at j l z (inl e) = rw (e.0, at_own, q_id, add_open id x id b.changes) open_id
    opened_at j l z (inr e) =
        let n : (place_at ps j).id ≢ 0 = rw (at_other j e.0) at z in
        rw (at_other j e.0, add_open id x (place_at ps j).id b.changes) (h.changing.opened j l n)

    closed_at : (y : ℕ) → y ≢ 0 → ((j : ℕ) → j < 8 → (place_at (set ps i q) j).id ≢ y) → is_open y told.changes ≡ false
    closed_at y n c = rw (add_open id x y b.changes) (h.changing.closed y n (λ j l. other j l (eqb_cases j i)))
      where
        other : (j : ℕ) → j < 8 → Is j i → (place_at ps j).id ≢ y
        other j l (inl e) = λ r. c i low8 (ap (λ (t : Place). t.id) at_own ∙ q_id ∙ sym f.is ∙ ap (λ (m : ℕ). (place_at ps m).id) (sym e.0) ∙ r)
        other j l (inr e) = rw (at_other j e.0) at (c j l)

    held_live : Live then told
    unfolding with_place
    held_live = record {
      saved = h.saved;
      sound = sound;
      kept = kept_away w then h.saved h.kept (idle_calm w.state.work idle) (idle_calm w.state.work idle)
          (record { geometry = refl; checkpoint = refl; front = refl; first = refl }) front;
      grown = h.grown;
      tidy = tidy;
      hold = hold_long w.hold i d h.hold low8 long;
      places =
          places_set g ps i q h.places (in_place g q
          (written_in g p k lpn drop room named own.lpns own.ppns low page (place_in g p (h.places.ok i f.low))))
          (λ z j l n. rw q_id (found_apart w b id i h f j l n));
      opens = rw scan (opens_set g ps (scanned w) es i q h.opens (λ z. mine) others);
      changing = record {
        eight = length-set ps i q ∙ h.changing.eight;
        writes = λ j l z. writes_at j l z (eqb_cases j i);
        opened = λ j l z. opened_at j l z (eqb_cases j i);
        closed = closed_at;
      };
    }

  -- the first write: nothing is programmed
  first_live : (k : ℕ) → p.count ≡ 0 → Live (record {
    array = w.array;
    map = w.map;
    hold = hold_with w.hold i d;
    state = with_place w.state i (written p k lpn drop);
  })
      (record { pages = b.pages; changes = add_to id x b.changes })
  unfolding with_place
  first_live k z = held_live w.array (scanned w) k w.state.last h.sound h.tidy refl (λ j l. refl) (λ j l. refl)
      (open_first g p (scanned w) (h.opens i f.low some) k lpn drop z) (λ j l n m. refl) (λ n. absurd (n z))
      (writes_more w.array w.array w.map w.hold (hold_with w.hold i d) i p (writes_of id b.changes) k lpn drop d own (λ j l. refl)
      (omega (arith, (most_room g).1))
      (hold_own w.hold i d h.hold low8 long) small (λ n. absurd (n z)) (λ n. absurd (n z)) (λ n. absurd (n z)))

  -- a later one: the page held before is programmed
  module _ (many : p.count ≢ 0) (short : zone_short w ≡ false) where
    inside : PlaceIn g p
    inside = place_in g p (h.places.ok i f.low)

    held_low : held_page p < g.logical
    held_low =
        ltb-true (held_page p) g.logical (first_passes (λ (l : ℕ). ltb l g.logical) p.count p.lpns (omega (arith, own.lpns, (most_room g).1))
        inside.lpns (p.count - 1) (omega arith))

    held_name : p.id ≢ 4294967295
    held_name = good_name p.id named

    -- the spare area of the page held before
    abbrev pub page_spare : Spare
    page_spare = record { lpn = held_page p; cnt = 0; id = p.id; ver = 0; kind = page_kind (held_drop p); reserved = number_of g p.count }

    page_fits : SpareFits page_spare
    page_fits = record {
      lpn = omega (arith, held_low, (live_range w b h).logical_most);
      cnt = omega arith;
      id = own.small;
      ver = omega arith;
      kind = kind_small (held_drop p);
      reserved = omega (arith, number_le g p.count, (most_room g).1);
    }

    -- its data
    abbrev page_data : List ℕ
    page_data = held_at i w.hold

    data_long : length page_data ≡ 512
    data_long = held_long w.hold i h.hold low8

    data_small : Bytes page_data
    data_small = own.bytes (omega (arith, some_count))
      where
        some_count : 0 < p.count
        some_count = omega arith

    clean : 0 < clean_pages w
    clean = room_clean w b h short

    -- its page, the array after it, and what is scanned then
    abbrev k : ℕ
    k = next_page w

    abbrev ys : List ℕ
    ys = appended w b h clean page_data page_spare data_long data_small page_fits

    abbrev es : List Entry
    es = rescanned w b h clean page_data page_spare data_long data_small page_fits

    pub page_mapped : k ≢ unmapped
    page_mapped = next_mapped w b h clean page_data page_spare data_long data_small page_fits

    -- its entry
    abbrev e : Entry
    e = open_entry g p.id k (held_page p) (held_drop p) p.count

    put_in : Insert e (scanned w) es
    unfolding entry_of
    put_in = append_in w b h clean page_data page_spare data_long data_small page_fits

    last : g.planes ≢ 2 → of_id p.id es ≡ of_id p.id (scanned w) ++ (e ∷ [])
    unfolding entry_of
    last = append_last w b h clean page_data page_spare data_long data_small page_fits

    opened : Open g p (scanned w)
    opened = h.opens i f.low some

    logged : Logged g.planes g.logical h.saved.version h.saved.map es w.map w.state.version
    logged = logged_page g.planes g.logical h.saved.version h.saved.map w.map w.state.version (live_logged w b h) e put_in
        (record {
          kind = change_kind (held_drop p);
          lpn = held_low;
          id = held_name;
          ver = λ q. absurd (omega (arith, q));
          none = elim [ inl q ↦ number_one g p.count q | inr q ↦ absurd (some q) ];
          least = λ two n. omega (arith, number_two g p.count two);
          most = λ two. omega (arith, number_two g p.count two, most_two g two);
        }) (open_lower g p (scanned w) opened es e put_in refl refl) some refl refl (open_no_mark g p (scanned w) opened)

    more_live : Live (record { array = ys; map = w.map; hold = hold_with w.hold i d; state = with_place (taking w) i (written p k lpn drop) })
        (record { pages = b.pages; changes = add_to id x b.changes })
    unfolding with_place with_last
    more_live = held_live ys es k _
        (append_sound w b h clean page_data page_spare data_long data_small page_fits w.map w.state.version b.pages logged h.sound.good
        h.sound.wide
        (append_contents w b h clean page_data page_spare data_long data_small page_fits) h.sound.last)
        (append_tidy w b h clean page_data page_spare data_long data_small page_fits)
        refl
        (append_front w b h clean page_data page_spare data_long data_small page_fits)
        (append_keeps w b h clean page_data page_spare data_long data_small page_fits)
        (open_more g p (scanned w) opened es e put_in refl refl many (omega (arith, own.ppns, (most_room g).1))
        (open_turn g p (scanned w) opened es e put_in refl refl (λ two. omega (arith, most_two g two)) last) lpn drop refl)
        (λ j l n m. of_id_other (place_at ps j).id _ put_in (λ q. h.places.apart i j f.low l (λ r. n (sym r)) some (sym q)))
        (λ n. next_is_data w b h clean page_data page_spare data_long data_small page_fits)
        (writes_more w.array ys w.map w.hold (hold_with w.hold i d) i p (writes_of id b.changes) k lpn drop d own
        (append_keeps w b h clean page_data page_spare data_long data_small page_fits) (omega (arith, (most_room g).1))
        (hold_own w.hold i d h.hold low8 long) small
        (λ n. record {
          real = page_mapped;
          whole = append_whole w b h clean page_data page_spare data_long data_small page_fits;
          owner = ap (λ (s : Spare). s.id) (append_spare w b h clean page_data page_spare data_long data_small page_fits);
          free = next_free_law w b h clean page_data page_spare data_long data_small page_fits;
        })
        (λ n. append_data w b h clean page_data page_spare data_long data_small page_fits)
        (λ n. next_blank w b h clean page_data page_spare data_long data_small page_fits))

    -- it appends that page
    pub page_appends : Appends w b h page_spare (write_plan i p lpn drop d w)
    page_appends = appends w b h clean page_data page_spare data_long data_small page_fits (write_plan i p lpn drop d w)
        (unfold write_plan held_op change_bytes in rw (ne_eqb p.count 0 many)) (unfold write_plan held_state with_place with_last in rw (ne_eqb p.count 0 many))
        (unfold write_plan held_state with_place with_last in rw (ne_eqb p.count 0 many))

  pub write_live : (p.count ≢ 0 → zone_short w ≡ false)
      → Live (carried (write_plan i p lpn drop d w) w).world (record { pages = b.pages; changes = add_to id x b.changes })
  unfolding carried write_plan held_op held_state apply_op change_bytes with_place with_last
  write_live short = go (eqb_cases p.count 0)
    where
      go : Is p.count 0 → Live (record {
        array = apply_op (cond (eqb p.count 0) w.state (taking w)).geometry.pages (cond (eqb p.count 0) none (program (next_page w)
            (change_bytes (held_at i w.hold) (held_drop p) (held_page p) 0 p.id 0 (number_of g p.count)))) w.array;
        map = w.map;
        hold = hold_with w.hold i d;
        state = with_place (cond (eqb p.count 0) w.state (taking w)) i (written p (next_page w) lpn drop);
      }) (record { pages = b.pages; changes = add_to id x b.changes })
      go (inl q) = rw q.1 (first_live (next_page w) q.0)
      go (inr q) = rw q.1 (more_live q.0 (short q.0))

-- ---- a plan that adds a page so, or refuses
-- what the book makes of the call: one more write of the change
pub record Told (c : Call) (b : Book) (id lpn : ℕ) (drop : Bool) (d : List ℕ) : Type 0 where
  pub pages : entering c b ≡ b.pages
  pub changes : changing c b.changes ≡ add_to id (record { lpn = lpn; content = content_of drop d }) b.changes

pub write_told : (b : Book) (id lpn : ℕ) (d : List ℕ) → Told (write id lpn d) b id lpn false d
unfolding entering changing
write_told b id lpn d = record { pages = refl; changes = refl }

drop_told : (b : Book) (id lpn : ℕ) → Told (drop_page id lpn) b id lpn true gone
unfolding entering changing
drop_told b id lpn = record { pages = refl; changes = refl }

pub write_bytes : (id lpn : ℕ) (d : List ℕ) → fits (write id lpn d) ≡ true → Bytes d
unfolding fits
write_bytes id lpn d f = bytes_true d (and_right (ltb lpn 65536) (bytes d) (and_right (ltb id 4294967296) _ f))

module _ (w : World) (b : Book) (id lpn : ℕ) (drop : Bool) (d : List ℕ) (h : Live w b) (small : Bytes d) where
  -- the change that it goes on with
  pub add_found : {q : Plan} → WritesTo w id lpn drop d q → Found w.state.places id (place_of w.state.places id)
  add_found v = place_found w.state.places id h.changing.eight v.begun

  -- the geometry stays
  pub add_shape : (q : Plan) → View w (WritesTo w id lpn drop d) q → q.state.geometry ≡ w.state.geometry
  unfolding write_plan with_place
  add_shape q (no n r) = refl
  add_shape q (yes r v) = rw v.is (held_shape w (place_at w.state.places (place_of w.state.places id)))

  -- the world stays live
  pub add_live : (c : Call) → Told c b id lpn drop d → (q : Plan) → View w (WritesTo w id lpn drop d) q → Live (after q w) (tell b (called c q.answer))
  unfolding carried apply_op write_plan
  add_live c t q (no n r) = rw (told_refused b c n r) h
  add_live c t q (yes p v) = rw v.is (unfold tell in rw (t.pages, t.changes)
      (write_live w b h id lpn drop d v.idle v.long small v.low (place_of w.state.places id) (add_found v) v.room v.clean))

pub write_keeps : (w : World) (b : Book) (id lpn : ℕ) (d : List ℕ) → Live w b → fits (write id lpn d) ≡ true → Keeps (write id lpn d) w b
unfolding exec plan carried
write_keeps w b id lpn d h f =
    add_live w b id lpn false d h (write_bytes id lpn d f) (write id lpn d) (write_told b id lpn d) (plan_write id lpn d w) (write_view id lpn d w)

pub drop_keeps : (w : World) (b : Book) (id lpn : ℕ) → Live w b → Keeps (drop_page id lpn) w b
unfolding exec plan carried
drop_keeps w b id lpn h = add_live w b id lpn true gone h gone_small (drop_page id lpn) (drop_told b id lpn) (plan_drop id lpn w) (drop_view id lpn w)
