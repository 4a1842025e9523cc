-- What a call does to the array is sound: inside the array, and a program puts a whole page of 528 bytes on an erased one. Of a format on every world,
-- by its checks; of any call on a live world.
use Rattle.std.specs.Prelude.{◌≡◌, Bool, not, cond, ◌&&◌, ◌||◌, ℕ, ◌+◌, ◌-◌, ◌*◌, ◌≤◌, ◌<◌, List, leb}
use Rattle.std.proofs.Math.Path.{refl}
use Rattle.std.proofs.Common.{sym, subst, inl, inr, arith, mul-le-mul_right}
use Rattle.std.proofs.Math.Bool.{true, false}
use Rattle.model.specs.Lists.{all}
use Rattle.std.proofs.Math.Dec.{ltb}
use borrow.Author.Tests.{ltb-true, ltb-false, lt-ltb, leb-true, not-false}
use Rattle.model.specs.Page.{blank_at}
use Rattle.model.specs.Bytes.{bytes}
use Rattle.model.specs.Geometry.{blank_map, map_pages, same_geometry}
use Rattle.model.specs.Zones.{format_zones}
use Rattle.model.specs.Checkpoint.{map_page, zone_page}
use Rattle.model.specs.World.{World, Plan, program, erase}
use Rattle.model.specs.Frame.{lent_ok, format_stride_ok, fresh_state}
use Rattle.model.specs.Transactions.{place_of, held_op, write_plan, gone, lone_plan, forget_plan, plan_begin, plan_write, plan_drop, plan_lone, plan_commit, plan_abort}
use Rattle.model.specs.Strides.{with_work, with_zones, strides_done, format_work_ok, format_more, format_last, format_stride, plan_format, free_stride, plan_checkpoint, plan_reclaim}
use Rattle.model.specs.Commands.{Call, format, recover, begin, write, drop_page, lone, commit, abort, read, checkpoint, reclaim, plan}
use Rattle.model.specs.Book.{Book}
use Rattle.model.specs.Sequence.{fits}
use Rattle.model.specs.declared.Geometry.{Geometry}
use Rattle.model.specs.declared.Place.{Place}
use Rattle.model.specs.declared.Spare.{Spare}
use Rattle.model.specs.declared.Work.{Work}
use Rattle.model.specs.declared.Work.TheVariants.{Idle, Format, Checkpoint, Reclaim}
use Rattle.arrays.specs.Tests.{Is, eqb_cases, and_left, and_right, or_left}
use Rattle.arrays.specs.Bytelist.{Bytes, bytes_true}
use Rattle.arrays.specs.Order.{numbered, Unless, by_checks}
use Rattle.arrays.specs.Pages.{PageFits}
use Rattle.arrays.specs.Ranges.{InGeometry, maps_few, any_page_fits, any_block_fits}
use Rattle.arrays.specs.Frame.{lent_geometry, lent_lengths}
use Rattle.arrays.specs.Arrays.{ProgramOk, Sound}
use Rattle.front.specs.ZoneBack.{format_fits}
use Rattle.front.specs.Programs.{map_page_ok, map_small, zone_page_ok_law, zones_small}
use Rattle.front.specs.FormatCalls.{blank_map_ok}
use Rattle.sequence.specs.Places.{place_at, place_found}
use Rattle.sequence.specs.Refused.{recover_none}
use Rattle.sequence.specs.Live.{Live}
use Rattle.sequence.specs.View.{View, no, yes}
use Rattle.sequence.specs.Append.{Appends}
use Rattle.sequence.specs.SameShape.{same_checkpoint}
use Rattle.sequence.specs.Begin.{Begins, begin_view}
use Rattle.sequence.specs.Abort.{Aborts, abort_view}
use Rattle.sequence.specs.Lone.{Lones, lone_view, lone_appends}
use Rattle.sequence.specs.Write.{WritesTo, write_view, drop_view, gone_small, page_appends, write_bytes, add_found}
use Rattle.sequence.specs.Commit.{Commits, forgets, marks, commit_view, mark_appends}
use Rattle.sequence.specs.Checkpointing.{checkpoint_sound}
use Rattle.sequence.specs.Reclaiming.{Reclaims, copies, frees, reclaim_view, copy_appends, inside}
use Rattle.sequence.specs.Start.{format_zones_ok}

-- what a plan does to the array is sound
abbrev pub Does : World → Plan → Type 0
Does w p = Sound p.state.geometry.pages p.op w.array

-- ---- a format, on every world
module _ (g : Geometry) (w : World) (lent : lent_ok g w ≡ true) where
  -- its numbers are in range
  range : InGeometry g
  range = lent_geometry g w lent

  -- k strides are done: no more than there are, and the next front page is erased
  abbrev Ready : ℕ → Type 0
  Ready k = (k ≤ g.blocks + map_pages g) × ((ltb k g.blocks || blank_at w.array (k - g.blocks)) ≡ true)

  -- none is done
  ready_none : Ready 0
  ready_none = (omega arith, or_left (ltb 0 g.blocks) _ (lt-ltb 0 g.blocks (omega (arith, range.blocks_least))))

  -- by the work under way
  ready : (k : Work) → format_work_ok g w k ≡ true → Ready (strides_done g w.state k)
  unfolding format_work_ok strides_done format_stride_ok
  ready Idle e = ready_none
  ready (Format k) e = go (same_geometry g w.state.geometry) e
    where
      go : (t : Bool) → (not t || format_stride_ok g w.array k) ≡ true → Ready (cond t k 0)
      go true e =
          let m = and_right (leb 1 k) _ e in
          (leb-true k (g.blocks + map_pages g) (and_left (leb k (g.blocks + map_pages g)) _ m), and_right (leb k (g.blocks + map_pages g)) _ m)
      go false e = ready_none
  ready (Checkpoint k) e = ready_none
  ready Reclaim e = ready_none

  -- page i of the checkpoint is inside the array
  front_inside : (i : ℕ) → i ≤ map_pages g → i < g.blocks * g.pages
  front_inside i l =
      let m : 1 * g.pages ≤ g.blocks * g.pages = mul-le-mul_right g.pages (omega (arith, range.blocks_least)) in
      omega (arith, maps_few g range, range.pages_least)

  front_fits : (i : ℕ) → i ≤ map_pages g → PageFits w.array i
  front_fits i l = any_page_fits g w.array (lent_lengths g w lent).array i (front_inside i l)

  -- its pages
  map_ok : (i : ℕ) → i < map_pages g → blank_at w.array i ≡ true → ProgramOk w.array i (map_page (blank_map g) i 1)
  map_ok i l e =
      map_page_ok w.array i (blank_map g) i 1 (front_fits i (omega arith)) e (map_small g (blank_map g) range (blank_map_ok g))
      (omega (arith, maps_few g range)) (omega arith)

  zone_ok : (i : ℕ) → i ≡ map_pages g → blank_at w.array i ≡ true → ProgramOk w.array (map_pages g) (zone_page (map_pages g) 0 (format_zones g) 1)
  zone_ok i q e =
      let m = map_pages g in
      let ok = format_zones_ok g range in
      zone_page_ok_law w.array m m 0 (format_zones g) 1 (front_fits m (omega arith)) (rw q at e) (format_fits g range ok)
      (zones_small g 0 (format_zones g) range ok (omega arith)) (omega (arith, maps_few g range)) (omega arith)

  -- the stride after k
  stride_does : (k : ℕ) → Ready k → Does w (format_stride g k w)
  unfolding format_stride format_more format_last with_work fresh_state
  stride_does k r = go (ltb k g.blocks) refl (ltb (k - g.blocks) (map_pages g)) refl r.1
    where
      go : (a : Bool) → ltb k g.blocks ≡ a → (b : Bool) → ltb (k - g.blocks) (map_pages g) ≡ b → (a || blank_at w.array (k - g.blocks)) ≡ true
          → Does w
          (cond a (format_more g k (erase k) w) (cond b (format_more g k (program (k - g.blocks) (map_page (blank_map g) (k - g.blocks) 1)) w) (format_last g w)))
      go true e b f z = any_block_fits g w.array (lent_lengths g w lent).array k (ltb-true k g.blocks e)
      go false e true f z = map_ok (k - g.blocks) (ltb-true (k - g.blocks) (map_pages g) f) z
      go false e false f z =
          zone_ok (k - g.blocks) (omega (arith, r.0, ltb-false k g.blocks e, ltb-false (k - g.blocks) (map_pages g) f)) z

-- each stride of a format
pub format_does : (g : Geometry) (w : World) → Does w (plan (format g) w)
unfolding plan plan_format numbered all Unless
format_does g w =
    by_checks (Does w) w (format_stride g (strides_done g w.state w.state.work) w) _ refl (λ n r. tt) (λ e.
    let a = not-false (lent_ok g w && format_work_ok g w w.state.work) e in
    let l = and_left (lent_ok g w) _ a in
    stride_does g w l (strides_done g w.state w.state.work) (ready g w l w.state.work (and_right (lent_ok g w) _ a)))

-- a recover, which does nothing
pub recover_does : (g : Geometry) (w : World) → Does w (plan (recover g) w)
recover_does g w = rw (recover_none g w) tt

-- ---- any call, on a live world
-- a refusal does nothing
view_does : (w : World) (P : Plan → Type 0) → ((q : Plan) → P q → Does w q) → (p : Plan) → View w P p → Does w p
view_does w P f p (no n r) = tt
view_does w P f p (yes q v) = f q v

module _ (w : World) (b : Book) (h : Live w b) where
  -- a data page appended
  append_does : (s : Spare) (p : Plan) → Appends w b h s p → Does w p
  append_does s p a = rw a.does a.ok

  -- begin and abort do nothing
  begin_does : (id : ℕ) → Does w (plan_begin id w)
  begin_does id = view_does w (Begins w id) (λ q v. rw v.is tt) (plan_begin id w) (begin_view id w)

  abort_does : (id : ℕ) → Does w (plan_abort id w)
  unfolding forget_plan
  abort_does id = view_does w (Aborts w id) (λ q v. rw v.is tt) (plan_abort id w) (abort_view id w)

  -- a lone write
  lone_does : (lpn : ℕ) (d : List ℕ) → Bytes d → Does w (plan_lone lpn d w)
  lone_does lpn d small = view_does w (Lones w lpn d) (λ q v.
      subst (Does w) (sym v.is) (append_does _ (lone_plan lpn d w) (lone_appends w b lpn d h small (subst (Lones w lpn d) v.is v))))
      (plan_lone lpn d w) (lone_view lpn d w)

  -- a write or drop: the first page of a change is held
  add_does : (id lpn : ℕ) (drop : Bool) (d : List ℕ) → Bytes d → (q : Plan) → WritesTo w id lpn drop d q → Does w q
  add_does id lpn drop d small q v = rw v.is (go (eqb_cases at.count 0))
    where
      i : ℕ
      i = place_of w.state.places id

      at : Place
      at = place_at w.state.places i

      go : Is at.count 0 → Does w (write_plan i at lpn drop d w)
      go (inl z) = unfold write_plan held_op in rw z.1 tt
      go (inr z) =
          append_does _ (write_plan i at lpn drop d w)
          (page_appends w b h id lpn drop d v.idle v.long small v.low i (add_found w b id lpn drop d h small v) v.room z.0 (v.clean z.0))

  -- a commit: nothing, or the mark
  commit_does : (id : ℕ) → Does w (plan_commit id w)
  commit_does id = view_does w (Commits w id) go (plan_commit id w) (commit_view id w)
    where
      go : (q : Plan) → Commits w id q → Does w q
      go q (forgets idle found zero') = unfold forget_plan in tt
      go q (marks idle found many more short) =
          let i = place_of w.state.places id in
          append_does _ q (mark_appends w b h id i idle (place_found w.state.places id h.changing.eight found) many more short)

  -- a stride of a checkpoint
  checkpoint_does : Does w (plan_checkpoint w)
  checkpoint_does = rw (same_checkpoint w).same (checkpoint_sound w b h)

  -- a stride of reclaim: a copy, or the erase
  reclaim_does : Does w (plan_reclaim w)
  reclaim_does = view_does w (Reclaims w) go (plan_reclaim w) (reclaim_view w h.sound.last)
    where
      go : (q : Plan) → Reclaims w q → Does w q
      go q (copies c calm' on some) = append_does _ q (copy_appends w b h c on calm' some)
      go q (frees c calm' on zero') = unfold free_stride with_work with_zones in inside w b h c on

  -- ---- the fact: any call with arguments that fit
  pub call_does : (c : Call) → fits c ≡ true → Does w (plan c w)
  call_does (format g) f = format_does g w
  call_does (recover g) f = recover_does g w
  call_does (begin id) f = unfold plan in begin_does id
  call_does (write id lpn d) f =
      unfold plan in
      view_does w (WritesTo w id lpn false d) (add_does id lpn false d (write_bytes id lpn d f)) (plan_write id lpn d w) (write_view id lpn d w)
  call_does (drop_page id lpn) f =
      unfold plan in view_does w (WritesTo w id lpn true gone) (add_does id lpn true gone gone_small) (plan_drop id lpn w) (drop_view id lpn w)
  call_does (lone lpn d) f = unfold plan in lone_does lpn d (bytes_true d (unfold fits in and_right (ltb lpn 65536) (bytes d) f))
  call_does (commit id) f = unfold plan in commit_does id
  call_does (abort id) f = unfold plan in abort_does id
  call_does (read lpn) f = unfold plan in tt
  call_does checkpoint f = unfold plan in checkpoint_does
  call_does reclaim f = unfold plan in reclaim_does
