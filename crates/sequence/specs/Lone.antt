-- A lone write keeps the world live, and the book has its page.
use Rattle.std.specs.Prelude.{◌≡◌, ◌≢◌, true, false, ℕ, ◌+◌, ◌<◌, List, length, set, eqb, ltb}
use Rattle.std.proofs.Math.Path.{refl, subst}
use Rattle.std.proofs.Common.{sym, ◌∙◌, arith, add-one, length-set}
use borrow.Author.Tests.{eqb-true, ltb-false, leb-false, not-false}
use Rattle.model.specs.Lists.{all}
use Rattle.model.specs.Page.{whole_at, blank_at}
use Rattle.model.specs.Bytes.{bytes}
use Rattle.model.specs.Zones.{entry_of}
use Rattle.model.specs.World.{World, Plan}
use Rattle.model.specs.Frame.{is_idle}
use Rattle.model.specs.Transactions.{clean_pages, next_page, zone_short, spent, data_bytes, lone_map, lone_plan, plan_lone, with_version, with_last, lone_checks}
use Rattle.model.specs.Commands.{lone, plan, carried}
use Rattle.model.specs.Book.{Book, holds, entering, changing}
use Rattle.model.specs.Sequence.{fits}
use Rattle.model.specs.declared.Place.{Place}
use Rattle.model.specs.declared.Spare.{Spare}
use Rattle.arrays.specs.Tests.{clash, and_right}
use Rattle.arrays.specs.Order.{numbered, Unless}
use Rattle.arrays.specs.Bytelist.{Bytes, bytes_true}
use Rattle.arrays.specs.Image.{SpareFits}
use Rattle.arrays.specs.Whole.{whole_not_blank}
use Rattle.front.specs.Kept.{kept_away}
use Rattle.scanlog.specs.Occ.{occ, occ_no}
use Rattle.scanlog.specs.Log.{of_id_other}
use Rattle.scanlog.specs.Logged.{Logged, logged_lone}
use Rattle.scanlog.specs.Open.{Opens, opens_same}
use Rattle.sequence.specs.Maps.{good_set, occ_set}
use Rattle.sequence.specs.Contents.{contents_set}
use Rattle.sequence.specs.Places.{place_at}
use Rattle.sequence.specs.Writes.{Laid, WholeSame, writes_keep}
use Rattle.sequence.specs.Live.{Changing, Live, live_range, live_logged, scanned}
use Rattle.sequence.specs.View.{View, yes, view_checks, idle_only, Keeps, done_live, view_keeps, idle_calm}
use Rattle.sequence.specs.Append.{Appends, appends, appended, next_is_data, next_mapped, next_blank, next_free_law, append_whole, append_data, append_keeps}
use Rattle.sequence.specs.Append.{append_tidy, rescanned, append_in, append_front, append_sound, append_contents}

-- ---- the open changes while the array grows
-- every place keeps its writes
pub changing_grow : (xs ys map map' hold : List ℕ) (ps : List Place) (b b' : Book) → b'.changes ≡ b.changes → WholeSame xs ys
    → ((i : ℕ) → i < 8 → (place_at ps i).id ≢ 0 → (x : ℕ) → Laid xs map (place_at ps i).id x → occ x map' ≡ 0) → Changing xs map hold ps b
    → Changing ys map' hold ps b'
changing_grow xs ys map map' hold ps b b' e same o c = record {
  eight = c.eight;
  writes = λ i l z. rw e (writes_keep xs ys map map' hold hold i (place_at ps i) _ same (o i l z) refl (c.writes i l z));
  opened = λ i l z. rw e (c.opened i l z);
  closed = λ id n k. rw e (c.closed id n k);
}

-- a page of a change is not the erased page that is mapped next
pub laid_still : (xs map : List ℕ) (lpn k : ℕ) → blank_at xs k ≡ true → (id x : ℕ) → Laid xs map id x → occ x (set map lpn k) ≡ 0
laid_still xs map lpn k blank id x l =
    let n : x ≢ k = λ q. clash blank (whole_not_blank xs k (subst (λ (j : ℕ). whole_at xs j ≡ true) q l.whole)) in
    omega (arith, l.free, occ_set x map lpn k, occ_no x k n)

-- ---- where there is room
pub room_clean : (w : World) (b : Book) → Live w b → zone_short w ≡ false → 0 < clean_pages w
room_clean w b h z = omega (arith, leb-false (clean_pages w) w.state.geometry.pages z, (live_range w b h).pages_least)

-- ---- a lone page: of a lone write, or a copy
abbrev pub lone_spare : ℕ → ℕ → Spare
lone_spare lpn v = record { lpn = lpn; cnt = 1; id = 0; ver = v; kind = 0; reserved = 0 }

module _ (w : World) (b : Book) (h : Live w b) (clean : 0 < clean_pages w) (lpn : ℕ) (d : List ℕ) (long : length d ≡ 512) (small : Bytes d)
    (low : lpn < w.state.geometry.logical) (more : spent w.state.version 1 ≡ false) where
  -- its numbers fit their fields
  abbrev pub lone_fits : SpareFits (lone_spare lpn (w.state.version + 1))
  lone_fits =
      let r = live_range w b h in
      let v = ltb-false 4294967294 (w.state.version + 1) more in
      record { lpn = omega (arith, r.logical_most); cnt = omega arith; id = omega arith; ver = omega arith; kind = omega arith; reserved = omega arith }

  pub lone_logged : Logged w.state.geometry.planes w.state.geometry.logical h.saved.version h.saved.map
      (rescanned w b h clean d (lone_spare lpn (w.state.version + 1)) long small lone_fits)
      (lone_map lpn w) (w.state.version + 1)
  unfolding entry_of
  lone_logged =
      let v = ltb-false 4294967294 (w.state.version + 1) more in
      subst (λ (u : ℕ). Logged w.state.geometry.planes w.state.geometry.logical h.saved.version h.saved.map
      (rescanned w b h clean d (lone_spare lpn (w.state.version + 1)) long small lone_fits) (lone_map lpn w) u)
      (sym (add-one w.state.version))
      (logged_lone w.state.geometry.planes w.state.geometry.logical h.saved.version h.saved.map w.map w.state.version
      (live_logged w b h) _
      (append_in w b h clean d (lone_spare lpn (w.state.version + 1)) long small lone_fits)
      (record {
        kind = refl;
        lpn = low;
        id = λ q. absurd (omega (arith, q));
        ver = λ q. absurd (omega (arith, q));
        none = λ q. refl;
        least = λ t i. absurd (i refl);
        most = λ t. omega arith;
      })
      (λ t i. absurd (i refl)) refl refl (add-one w.state.version))

  pub lone_opens : Opens w.state.geometry w.state.places (rescanned w b h clean d (lone_spare lpn (w.state.version + 1)) long small lone_fits)
  unfolding entry_of
  lone_opens =
      opens_same w.state.geometry w.state.places (scanned w) _ h.opens
      (λ j l z. of_id_other (place_at w.state.places j).id _ (append_in w b h clean d (lone_spare lpn (w.state.version + 1)) long small lone_fits)
      (λ q. z (sym q)))

-- ---- lone write
pub record Lones (w : World) (lpn : ℕ) (d : List ℕ) (p : Plan) : Type 0 where
  pub idle : is_idle w.state.work ≡ true
  pub long : length d ≡ 512
  pub low : lpn < w.state.geometry.logical
  pub more : spent w.state.version 1 ≡ false
  pub room : zone_short w ≡ false
  pub is : p ≡ lone_plan lpn d w

pub lone_view : (lpn : ℕ) (d : List ℕ) (w : World) → View w (Lones w lpn d) (plan_lone lpn d w)
unfolding plan_lone numbered all Unless
lone_view lpn d w = view_checks w (Lones w lpn d) (lone_plan lpn d w) (lone_checks lpn d w) refl (λ f i a c e z.
    yes _ (record {
      idle = idle_only (is_idle w.state.work) i;
      long = eqb-true (length d) 512 (not-false (eqb (length d) 512) a);
      low = leb-false w.state.geometry.logical lpn c;
      more = e;
      room = z;
      is = refl;
    }))

pub lone_live : (w : World) (b : Book) (lpn : ℕ) (d : List ℕ) → Live w b → Bytes d → Lones w lpn d (lone_plan lpn d w)
    → Live (carried (lone_plan lpn d w) w).world (record { pages = set b.pages lpn (holds d); changes = b.changes })
unfolding carried lone_plan with_version with_last data_bytes
lone_live w b lpn d h small v =
    let clean = room_clean w b h v.room in
    let r = live_range w b h in
    let fit = lone_fits w b h clean lpn d v.long small v.low v.more in
    let s = lone_spare lpn (w.state.version + 1) in
    let k = next_page w in
    let ys = appended w b h clean d s v.long small fit in
    record {
      saved = h.saved;
      sound = append_sound w b h clean d s v.long small fit (lone_map lpn w) (w.state.version + 1) (set b.pages lpn (holds d))
          (lone_logged w b h clean lpn d v.long small v.low v.more)
          (good_set w.state.geometry w.map lpn k h.sound.good (next_is_data w b h clean d s v.long small fit)
          (next_free_law w b h clean d s v.long small fit))
          (length-set w.map lpn k ∙ h.sound.wide)
          (contents_set ys w.map b.pages lpn k d (omega (arith, v.low, h.sound.wide)) (next_mapped w b h clean d s v.long small fit)
          (append_whole w b h clean d s v.long small fit) (append_data w b h clean d s v.long small fit)
          (append_contents w b h clean d s v.long small fit))
          (omega (arith, ltb-false 4294967294 (w.state.version + 1) v.more));
      kept = kept_away w _ h.saved h.kept (idle_calm w.state.work v.idle) (idle_calm w.state.work v.idle)
          (record { geometry = refl; checkpoint = refl; front = refl; first = refl }) (append_front w b h clean d s v.long small fit);
      grown = h.grown;
      tidy = append_tidy w b h clean d s v.long small fit;
      hold = h.hold;
      places = h.places;
      opens = lone_opens w b h clean lpn d v.long small v.low v.more;
      changing = changing_grow w.array ys w.map (lone_map lpn w) w.hold w.state.places b _ refl (append_keeps w b h clean d s v.long small fit)
          (λ j l z. laid_still w.array w.map lpn k (next_blank w b h clean d s v.long small fit) (place_at w.state.places j).id) h.changing;
    }

-- it appends its page
pub lone_appends : (w : World) (b : Book) (lpn : ℕ) (d : List ℕ) (h : Live w b) → Bytes d → Lones w lpn d (lone_plan lpn d w)
    → Appends w b h (lone_spare lpn (w.state.version + 1)) (lone_plan lpn d w)
lone_appends w b lpn d h small v =
    let clean = room_clean w b h v.room in
    appends w b h clean d (lone_spare lpn (w.state.version + 1)) v.long small (lone_fits w b h clean lpn d v.long small v.low v.more)
    (lone_plan lpn d w)
    (unfold lone_plan data_bytes in refl) (unfold lone_plan with_version with_last in refl) (unfold lone_plan with_version with_last in refl)

pub lone_keeps : (w : World) (b : Book) (lpn : ℕ) (d : List ℕ) → Live w b → fits (lone lpn d) ≡ true → Keeps (lone lpn d) w b
unfolding plan fits
lone_keeps w b lpn d h f = view_keeps (lone lpn d) w b (Lones w lpn d) h (lone_view lpn d w) (λ p e v.
    done_live (lone lpn d) w b p e (unfold lone_plan in rw v.is) (rw v.is (unfold entering changing in
    lone_live w b lpn d h (bytes_true d (and_right (ltb lpn 65536) (bytes d) f)) (subst (Lones w lpn d) v.is v))))
