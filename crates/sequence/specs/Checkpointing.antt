-- A stride of a checkpoint keeps the world live; cut at any bit, the array is sound with the same pages of the book.
use Rattle.std.specs.Prelude.{◌≡◌, ◌⊎◌, ◌≢◌, true, false, ℕ, ◌+◌, ◌-◌, ◌*◌, ◌<◌, List, length}
use Rattle.std.proofs.Math.Path.{refl, ap}
use Rattle.std.proofs.Common.{◌∙◌, inl, inr, arith}
use borrow.Author.Tests.{ltb-false}
use Rattle.model.specs.Geometry.{map_pages}
use Rattle.model.specs.Zones.{scan_of, slide, zones_ok}
use Rattle.model.specs.World.{World, Plan, apply_op, cut_op}
use Rattle.model.specs.Transactions.{spent}
use Rattle.model.specs.Strides.{with_work, with_zones, with_number, map_stride, zone_stride, other_stride, plan_checkpoint}
use Rattle.model.specs.Commands.{checkpoint, plan, carried, exec}
use Rattle.model.specs.Book.{Book, entering, changing}
use Rattle.model.specs.declared.Geometry.{Geometry}
use Rattle.model.specs.declared.State.{State}
use Rattle.model.specs.declared.Zones.{Zones}
use Rattle.model.specs.declared.Work.TheVariants.{Checkpoint}
use Rattle.arrays.specs.Tests.{Is, eqb_cases}
use Rattle.arrays.specs.Bytelist.{Bytes}
use Rattle.arrays.specs.Ops.{length_apply, length_cut, bytes_apply, bytes_cut}
use Rattle.arrays.specs.Arrays as operation
use Rattle.arrays.specs.Arrays.{Leans, leans_apply, leans_cut, sound_range}
use Rattle.front.specs.Blocks.{SameData, front_done, front_cut}
use Rattle.front.specs.Front.{Front}
use Rattle.front.specs.Kept.{Kept}
use Rattle.front.specs.ZoneBack.{slide_fits}
use Rattle.front.specs.Effect.{sound_did, sound_cut}
use Rattle.front.specs.CheckpointStrides.{after, saving, Stride, refuses, erases, maps, zones, checkpoint_stride_law}
use Rattle.front.specs.CheckpointFront.{newest_then, stride_did, stride_cut}
use Rattle.front.specs.CheckpointOps.{Holds, saving_sane, stride_geometry, stride_sound, stride_in_front}
use Rattle.scanlog.specs.Sublist.{Sublist, sub_refl}
use Rattle.scanlog.specs.Logged.{logged_saved}
use Rattle.scanlog.specs.Open.{Open, open_same, open_perm, place_active}
use Rattle.scanlog.specs.Slide.{slide_active, slide_active_perm, slide_perm, slide_part}
use Rattle.scanlog.specs.Tidy.{Tidy, tidy_slide, sub_slide}
use Rattle.scanlog.specs.Free.{grown_same}
use Rattle.sequence.specs.Places.{place_at}
use Rattle.sequence.specs.Sound.{Sound, Stored}
use Rattle.sequence.specs.Live.{Changing, Live, live_range, live_logged, live_frame, scanned}
use Rattle.sequence.specs.View.{Keeps, done_live, more_live, refused_live}
use Rattle.sequence.specs.Spared.{Spared, spared_tidy, spared_scan, spared_contents, spared_changing, spared_sound, front_spares}

module _ (w : World) (b : Book) (h : Live w b) where
  -- geometry and array, and the zones that the last stride makes
  abbrev g : Geometry
  g = w.state.geometry

  abbrev xs : List ℕ
  xs = w.array

  abbrev slid : Zones
  slid = slide g xs w.state.places w.state.zones

  slid_tidy : Tidy g xs slid
  slid_tidy = tidy_slide g xs w.state.places w.state.zones h.tidy

  live_holds : Holds w
  live_holds = record { version = omega (arith, h.sound.last); moved = slid_tidy.ok }

  -- the stride that the call does
  abbrev does : Stride w (plan_checkpoint w)
  does = checkpoint_stride_law w h.saved h.kept

  -- every open change is still there: on one plane in the same order, on two in turn
  slid_open : (i : ℕ) → i < length w.state.places → (place_at w.state.places i).id ≢ 0 → Is g.planes 2
      → Open g (place_at w.state.places i) (scan_of xs g.pages slid)
  slid_open i l z (inl q) =
      open_perm g g.logical (place_at w.state.places i) (scanned w) (scan_of xs g.pages slid) q.0 z (live_logged w b h).good
      (slide_active_perm g xs w.state.places w.state.zones h.tidy.blank (place_at w.state.places i).id (place_active w.state.places i l z))
      (h.opens i l z)
  slid_open i l z (inr q) =
      open_same g (place_at w.state.places i) (scanned w) (scan_of xs g.pages slid)
      (slide_active g xs w.state.places w.state.zones h.tidy.blank (h.tidy.order q.0) (omega (arith, (live_range w b h).pages_least))
      (place_at w.state.places i).id (place_active w.state.places i l z)) (h.opens i l z)

  -- ---- the array after an operation in the front
  module _ (ys : List ℕ) (same : SameData xs ys g.pages) (long : length ys ≡ length xs) (y : Bytes ys) (l : Leans ys) where
    spares : (z : Zones) → zones_ok g z ≡ true → Spared g xs ys z w.map
    spares z ok = front_spares g xs ys z w.map ok h.sound.good same

    -- with the same newest checkpoint
    same_sound : Front g ys h.saved → Sound g ys h.saved w.map w.state.version b.pages
    same_sound f =
        spared_sound g xs ys w.state.zones w.map (spares w.state.zones h.tidy.ok) h.saved w.state.version b.pages h.grown long y l f
        h.sound

    -- with the one that the last stride completes
    next_sound : (j : ℕ) → spent w.state.checkpoint 1 ≡ false → Front g ys (saving w j) → Sound g ys (saving w j) w.map w.state.version b.pages
    unfolding saving
    next_sound j n f =
        let s = spares slid slid_tidy.ok in
        record {
          geometry = h.sound.geometry;
          long = long ∙ h.sound.long;
          bytes = y;
          lean = l;
          front = f;
          sane = saving_sane w j (live_frame w b h) live_holds;
          tidy = spared_tidy g xs ys slid w.map s slid_tidy;
          logged = rw (spared_scan g xs ys slid w.map s)
              (logged_saved g.planes g.logical h.saved.version h.saved.map w.map w.state.version (live_logged w b h)
              (slide_perm g xs w.state.places w.state.zones h.tidy.blank) (slide_part g xs w.state.places w.state.zones h.tidy.blank));
          good = h.sound.good;
          wide = h.sound.wide;
          contents = spared_contents g xs ys slid w.map s b.pages h.sound.contents;
          last = h.sound.last;
          numbered = omega (arith, ltb-false 4294967294 (w.state.checkpoint + 1) n);
        }

    still_changing : Changing ys w.map w.hold w.state.places b
    still_changing =
        spared_changing g xs ys w.state.zones w.map (spares w.state.zones h.tidy.ok) w.hold w.state.places b h.opens h.changing

    -- a stride before the last
    more_strides : (s : State) → s.geometry ≡ g → s.zones ≡ w.state.zones → s.version ≡ w.state.version → s.places ≡ w.state.places
        → Kept (record { array = ys; map = w.map; hold = w.hold; state = s }) h.saved
        → Live (record { array = ys; map = w.map; hold = w.hold; state = s }) b
    more_strides s a c d f k = record {
      saved = h.saved;
      sound = rw (a, d) (same_sound (rw a at k.front));
      kept = k;
      grown = rw c h.grown;
      tidy = rw (a, c) (spared_tidy g xs ys w.state.zones w.map (spares w.state.zones h.tidy.ok) h.tidy);
      hold = h.hold;
      places = rw (a, f) h.places;
      opens = rw (a, c, f, spared_scan g xs ys w.state.zones w.map (spares w.state.zones h.tidy.ok)) h.opens;
      changing = rw f still_changing;
    }

    -- the last stride
    last_stride : (j : ℕ) → spent w.state.checkpoint 1 ≡ false → (s : State) → s.geometry ≡ g → s.zones ≡ slid → s.version ≡ w.state.version
        → s.places ≡ w.state.places → Kept (record { array = ys; map = w.map; hold = w.hold; state = s }) (saving w j)
        → Live (record { array = ys; map = w.map; hold = w.hold; state = s }) b
    unfolding saving
    last_stride j n s a c d f k = record {
      saved = saving w j;
      sound = rw (a, d) (next_sound j n (rw a at k.front));
      kept = k;
      grown = rw c (grown_same slid);
      tidy = rw (a, c) (spared_tidy g xs ys slid w.map (spares slid slid_tidy.ok) slid_tidy);
      hold = h.hold;
      places = rw (a, f) h.places;
      opens = rw (a, c, f, spared_scan g xs ys slid w.map (spares slid slid_tidy.ok))
          (λ i l z. slid_open i l z (eqb_cases g.planes 2));
      changing = rw f still_changing;
    }

  -- ---- a stride done
  module _ (l : Plan) (s : Stride w l) where
    ok : operation.Sound g.pages l.op xs
    ok = stride_sound w live_holds l s

    -- the array after it
    abbrev ys : List ℕ
    ys = apply_op g.pages l.op xs

    done_data : SameData xs ys g.pages
    done_data = front_done g.pages l.op xs (sound_range g.pages l.op xs ok) (stride_in_front w l s)

    done_long : length ys ≡ length xs
    done_long = length_apply g.pages l.op xs (sound_range g.pages l.op xs ok)

    done_bytes : Bytes ys
    done_bytes = bytes_apply g.pages l.op xs h.sound.bytes

    done_leans : Leans ys
    done_leans = leans_apply g.pages l.op xs ok h.sound.lean

    done_kept : Kept (after ys l) (newest_then s h.saved)
    done_kept =
        stride_did w ys h.saved h.kept (slide_fits g xs w.state.places w.state.zones (live_range w b h) slid_tidy.ok) l s
        (sound_did g.pages l.op xs ok)

  -- what the call does to the array is sound
  pub checkpoint_sound : operation.Sound g.pages (plan_checkpoint w).op xs
  checkpoint_sound = ok (plan_checkpoint w) does

  stride_keeps : (l : Plan) → Stride w l → plan_checkpoint w ≡ l → Keeps checkpoint w b
  unfolding plan
  stride_keeps l (refuses n r) e = refused_live w b checkpoint (unfold exec carried in rw e r) h
  stride_keeps l (erases a i) e =
      let s = erases a i in
      more_live checkpoint w b l e (unfold other_stride in refl) (unfold carried other_stride with_work in
      more_strides (ys l s) (done_data l s) (done_long l s) (done_bytes l s) (done_leans l s) (with_work w.state (1 - w.state.front) 0 (Checkpoint 0)) refl
      refl refl refl (done_kept l s))
  stride_keeps l (maps q i a r m) e =
      let s = maps q i a r m in
      more_live checkpoint w b l e (unfold map_stride in refl) (unfold carried map_stride with_work in
      more_strides (ys l s) (done_data l s) (done_long l s) (done_bytes l s) (done_leans l s) (with_work w.state w.state.front q (Checkpoint (i + 1)))
      refl refl refl refl (done_kept l s))
  stride_keeps l (zones q a r) e =
      let s = zones q a r in
      done_live checkpoint w b l e (unfold zone_stride in refl) (unfold carried zone_stride with_work with_zones with_number entering changing in
      last_stride (ys l s) (done_data l s) (done_long l s) (done_bytes l s) (done_leans l s) (w.state.front * g.pages + q) a.number
      (zone_stride q (map_pages g) w).state refl refl refl refl (done_kept l s))

  -- what is scanned then, on one plane: all of it, or after the last stride what did not leave, in order
  pub stride_scan : g.planes ≢ 2 → (l : Plan) → Stride w l → Sublist (scanned (carried l w).world) (scanned w)
  stride_scan one l (refuses n r) = unfold carried apply_op in sub_refl (scanned w)
  stride_scan one l (erases a i) =
      let s = erases a i in
      let t = spared_scan g xs (ys l s) w.state.zones w.map
      (spares (ys l s) (done_data l s) (done_long l s) (done_bytes l s) (done_leans l s) w.state.zones h.tidy.ok) in
      unfold carried other_stride with_work in rw t (sub_refl (scanned w))
  stride_scan one l (maps q i a r m) =
      let s = maps q i a r m in
      let t = spared_scan g xs (ys l s) w.state.zones w.map
      (spares (ys l s) (done_data l s) (done_long l s) (done_bytes l s) (done_leans l s) w.state.zones h.tidy.ok) in
      unfold carried map_stride with_work in rw t (sub_refl (scanned w))
  stride_scan one l (zones q a r) =
      let s = zones q a r in
      let t = spared_scan g xs (ys l s) slid w.map
      (spares (ys l s) (done_data l s) (done_long l s) (done_bytes l s) (done_leans l s) slid slid_tidy.ok) in
      unfold carried zone_stride with_work with_zones with_number in rw t
      (sub_slide g xs w.state.places w.state.zones h.tidy one (omega (arith, (live_range w b h).pages_least)))

  pub checkpoint_live : Keeps checkpoint w b
  checkpoint_live = stride_keeps (plan_checkpoint w) does refl

  -- ---- a stride cut
  module _ (l : Plan) (s : Stride w l) (lets : List ℕ) where
    -- the array that the cut leaves
    abbrev zs : List ℕ
    zs = cut_op g.pages l.op lets xs

    cut_data : SameData xs zs g.pages
    cut_data = front_cut g.pages l.op lets xs (sound_range g.pages l.op xs (ok l s)) (stride_in_front w l s)

    cut_long : length zs ≡ length xs
    cut_long = length_cut g.pages l.op lets xs

    cut_bytes : Bytes zs
    cut_bytes = bytes_cut g.pages l.op lets xs h.sound.bytes

    cut_leans : Leans zs
    cut_leans = leans_cut g.pages l.op lets xs h.sound.bytes (ok l s) h.sound.lean

    as_before : Front g zs h.saved → Stored g zs b.pages
    as_before f = record { saved = h.saved; map = w.map; version = w.state.version; sound = same_sound zs cut_data cut_long cut_bytes cut_leans f }

  cut_stored : (l : Plan) (s : Stride w l) (lets : List ℕ)
      → Front g (cut_op g.pages l.op lets xs) h.saved ⊎ Front g (cut_op g.pages l.op lets xs) (newest_then s h.saved)
      → Stored g (cut_op g.pages l.op lets xs) b.pages
  cut_stored l s lets (inl f) = as_before l s lets f
  cut_stored l (refuses n r) lets (inr f) = as_before l (refuses n r) lets f
  cut_stored l (erases a i) lets (inr f) = as_before l (erases a i) lets f
  cut_stored l (maps q i a r m) lets (inr f) = as_before l (maps q i a r m) lets f
  cut_stored l (zones q a r) lets (inr f) =
      let s = zones q a r in
      record {
        saved = saving w (w.state.front * g.pages + q);
        map = w.map;
        version = w.state.version;
        sound = next_sound (zs l s lets) (cut_data l s lets) (cut_long l s lets) (cut_bytes l s lets) (cut_leans l s lets) (w.state.front * g.pages + q)
            a.number f;
      }

  pub checkpoint_cuts : (lets : List ℕ) → Stored g (cut_op (plan checkpoint w).state.geometry.pages (plan checkpoint w).op lets xs) b.pages
  unfolding plan
  checkpoint_cuts lets =
      let e : (plan_checkpoint w).state.geometry.pages ≡ g.pages = ap (λ (k : Geometry). k.pages) (stride_geometry w (plan_checkpoint w) does) in
      rw e (cut_stored (plan_checkpoint w) does lets (stride_cut w (zs (plan_checkpoint w) does lets) h.saved h.kept
      (slide_fits g xs w.state.places w.state.zones (live_range w b h) slid_tidy.ok) (plan_checkpoint w) does
      (sound_cut g.pages (plan_checkpoint w).op lets xs h.sound.bytes (ok (plan_checkpoint w) does) h.sound.lean)))
