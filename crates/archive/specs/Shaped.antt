-- Lists as long as the types have them stay so: what any call on any world leaves of a shaped state is shaped. Assumes nothing.
use Rattle.std.specs.Prelude.{ℕ, zero, suc, ◌+◌, ◌-◌, ◌<◌, ◌≡◌, Bool, cond, List, [], ◌∷◌, length, get_or, set, eqb}
use Rattle.std.proofs.Math.Path.{refl}
use Rattle.std.proofs.Common.{◌∙◌, subst, arith}
use Rattle.std.proofs.Math.Bool.{true, false}
use Rattle.std.proofs.Math.ListN.{length-set}
use Rattle.std.proofs.lemmas.Bool.{not-false}
use Rattle.model.specs.Checkpoint.{at, load_ok, is_nothing}
use Rattle.model.specs.Recover.{entries_at, zones_at, recovered_state, recover_plan, plan_recover, page_taken, recover_checks}
use Rattle.model.specs.World.{World, Op, Plan, refuse}
use Rattle.model.specs.Order.{Check, leave_out, checked}
use Rattle.model.specs.Frame.{free_place, no_place, lent_ok, frame_ok, fresh_state}
use Rattle.model.specs.Transactions.{with_place, with_version, with_last, next_page, taking, begun, plan_begin, written, held_state, write_plan, has_held, begin_checks, write_checks, drop_checks, lone_checks, commit_checks, abort_checks}
use Rattle.model.specs.Transactions.{plan_write, gone, plan_drop, lone_plan, plan_lone, mark_plan, forget_plan, plan_commit, plan_abort, read_answer}
use Rattle.model.specs.Strides.{with_work, with_zones, with_number, map_stride, zone_stride, page_stride, other_stride, first_stride, checkpoint_stride, block_taken, copies_due, no_gain, checkpoint_checks, reclaim_checks, format_checks}
use Rattle.model.specs.Strides.{plan_checkpoint, picked, copy_stride, free_stride, reclaim_stride, plan_reclaim, strides_done, format_more}
use Rattle.model.specs.Strides.{format_last, format_stride, plan_format}
use Rattle.model.specs.Commands.{Call, format, recover, begin, write, drop_page, lone, commit, abort, read, checkpoint, reclaim, plan, carried, exec}
use Rattle.model.specs.declared.Geometry.{Geometry}
use Rattle.model.specs.declared.Place.{Place}
use Rattle.model.specs.declared.Zones.{Zones}
use Rattle.model.specs.declared.State.{State}
use Rattle.model.specs.declared.Work.{Work}
use Rattle.model.specs.declared.Work.TheVariants.{Idle, Format, Checkpoint, Reclaim}
use Rattle.model.specs.Lists.{all, those}
use Rattle.arrays.specs.Tests.{and_left, or_false_left}
use Rattle.arrays.specs.Ranges.{InGeometry}
use Rattle.arrays.specs.Frame.{lent_geometry, frame_in}
use Rattle.arrays.specs.Order.{numbered, Unless, by_checks, found_at}
use Rattle.encoding.specs.StateBack.{PlaceShaped, PlacesShaped, Shaped, fresh_shaped}
use Rattle.scanlog.specs.Pick.{Picked, picked_is}
use Rattle.archive.specs.Zones.{ZonesShaped, slide_shaped, format_shaped, freed_shaped, load_shaped}

-- ---- places
set_shaped : (ps : List Place) (i : ℕ) (p : Place) → PlacesShaped ps → (i < length ps → PlaceShaped p) → PlacesShaped (set ps i p)
set_shaped [] i p h k = tt
set_shaped (q ∷ ps) zero p h k = (k (omega arith), h.1)
set_shaped (q ∷ ps) (suc i) p h k = (h.0, set_shaped ps i p h.1 (λ l. k (omega arith)))

at_shaped : (ps : List Place) (i : ℕ) → PlacesShaped ps → i < length ps → PlaceShaped (get_or ps i no_place)
at_shaped [] i h l = absurd (omega arith)
at_shaped (q ∷ ps) zero h l = h.0
at_shaped (q ∷ ps) (suc i) h l = at_shaped ps i h.1 (omega arith)

free_shaped : PlaceShaped free_place
free_shaped = record { lpns = refl; ppns = refl; drops = refl }

begun_shaped : (id : ℕ) → PlaceShaped (begun id)
unfolding begun
begun_shaped id = record { lpns = refl; ppns = refl; drops = refl }

written_shaped : (p : Place) (k lpn : ℕ) (drop : Bool) → PlaceShaped p → PlaceShaped (written p k lpn drop)
unfolding written
written_shaped p k lpn drop h = record {
  lpns = length-set p.lpns p.count lpn ∙ h.lpns;
  ppns = go (eqb p.count 0);
  drops = length-set p.drops p.count drop ∙ h.drops;
}
  where
    go : (t : Bool) → length (cond t p.ppns (set p.ppns (p.count - 1) k)) ≡ 64
    go true = h.ppns
    go false = length-set p.ppns (p.count - 1) k ∙ h.ppns

-- ---- a state with another place, version, last plane, work, zones or checkpoint number
module _ (s : State) (h : Shaped s) where
  with_place_law : (i : ℕ) (p : Place) → (i < length s.places → PlaceShaped p) → Shaped (with_place s i p)
  unfolding with_place
  with_place_law i p k = record {
    available = h.available;
    unavailable = h.unavailable;
    free = h.free;
    places = length-set s.places i p ∙ h.places;
    each = set_shaped s.places i p h.each k;
  }

  with_version_law : (v : ℕ) → Shaped (with_version s v)
  unfolding with_version
  with_version_law v = record { available = h.available; unavailable = h.unavailable; free = h.free; places = h.places; each = h.each }

  with_last_law : (b : ℕ) → Shaped (with_last s b)
  unfolding with_last
  with_last_law b = record { available = h.available; unavailable = h.unavailable; free = h.free; places = h.places; each = h.each }

  with_work_law : (f q : ℕ) (k : Work) → Shaped (with_work s f q k)
  unfolding with_work
  with_work_law f q k = record { available = h.available; unavailable = h.unavailable; free = h.free; places = h.places; each = h.each }

  with_number_law : (n : ℕ) → Shaped (with_number s n)
  unfolding with_number
  with_number_law n = record { available = h.available; unavailable = h.unavailable; free = h.free; places = h.places; each = h.each }

  with_zones_law : (z : Zones) → ZonesShaped z → Shaped (with_zones s z)
  unfolding with_zones
  with_zones_law z k = record { available = k.available; unavailable = k.unavailable; free = k.free; places = h.places; each = h.each }

-- ---- plans on a world whose state is shaped
-- what a plan leaves is shaped
record Leaves (p : Plan) : Type 0 where
  shaped : Shaped p.state

leaves_cond : (b : Bool) {p q : Plan} → Leaves p → Leaves q → Leaves (cond b p q)
leaves_cond true hp hq = hp
leaves_cond false hp hq = hq

module _ (w : World) (h : Shaped w.state) where
  leaves_refuse : (n : ℕ) → Leaves (refuse w n)
  leaves_refuse n = record { shaped = h }

  -- the checks of a command, and what it does where none applies
  leaves_checks : (p : Plan) (cs : List Check) → numbered cs ≡ true → Unless cs (Leaves p) → Leaves (checked cs w p)
  leaves_checks p cs t hp = by_checks Leaves w p cs t (λ n r. leaves_refuse n) hp

  -- ---- begin, write, drop, lone write, commit, abort
  leaves_begin : (id : ℕ) → Leaves (plan_begin id w)
  unfolding plan_begin numbered all Unless
  leaves_begin id = leaves_checks _ (begin_checks id w) refl (λ f i a c d. record { shaped = with_place_law w.state h _ (begun id) (λ l. begun_shaped id) })

  -- the state when a page is programmed, and when a write may have programmed one: the same places
  taking_shaped : Shaped (taking w)
  taking_shaped = with_last_law w.state h _

  held_shaped : (p : Place) → Shaped (held_state w p) × ((held_state w p).places ≡ w.state.places)
  unfolding held_state
  held_shaped p = go (eqb p.count 0)
    where
      go : (t : Bool) → Shaped (cond t w.state (taking w)) × ((cond t w.state (taking w)).places ≡ w.state.places)
      go true = (h, refl)
      go false = (taking_shaped, unfold with_last in refl)

  leaves_written : (i lpn : ℕ) (drop : Bool) (d : List ℕ) → Leaves (write_plan i (get_or w.state.places i no_place) lpn drop d w)
  unfolding write_plan
  leaves_written i lpn drop d =
      let k = held_shaped (get_or w.state.places i no_place) in
      record { shaped = with_place_law _ k.0 i _ (λ l. written_shaped _ (next_page w) lpn drop (at_shaped w.state.places i h.each (rw k.1 at l))) }

  leaves_write : (id lpn : ℕ) (d : List ℕ) → Leaves (plan_write id lpn d w)
  unfolding plan_write numbered all Unless
  leaves_write id lpn d = leaves_checks _ (write_checks id lpn d w) refl (λ f i a b c e g. leaves_written _ lpn false d)

  leaves_drop : (id lpn : ℕ) → Leaves (plan_drop id lpn w)
  unfolding plan_drop leave_out those numbered all Unless
  leaves_drop id lpn = leaves_checks _ (drop_checks id lpn w) refl (λ f i b c e g. leaves_written _ lpn true gone)

  leaves_page : (lpn : ℕ) (d : List ℕ) → Leaves (lone_plan lpn d w)
  unfolding lone_plan
  leaves_page lpn d = record { shaped = with_version_law _ taking_shaped _ }

  leaves_lone : (lpn : ℕ) (d : List ℕ) → Leaves (plan_lone lpn d w)
  unfolding plan_lone numbered all Unless
  leaves_lone lpn d = leaves_checks _ (lone_checks lpn d w) refl (λ f i a b c e. leaves_page lpn d)

  leaves_forget : (i : ℕ) → Leaves (forget_plan i w)
  unfolding forget_plan
  leaves_forget i = record { shaped = with_place_law w.state h i free_place (λ l. free_shaped) }

  leaves_mark : (i : ℕ) (p : Place) → Leaves (mark_plan i p w)
  unfolding mark_plan
  leaves_mark i p = record { shaped = with_place_law _ (with_version_law _ taking_shaped _) i free_place (λ l. free_shaped) }

  leaves_commit : (id : ℕ) → Leaves (plan_commit id w)
  unfolding plan_commit numbered all Unless
  leaves_commit id = leaves_checks _ (commit_checks id w) refl (λ f i a b c. leaves_cond (has_held id w) (leaves_mark _ _) (leaves_forget _))

  leaves_abort : (id : ℕ) → Leaves (plan_abort id w)
  unfolding plan_abort numbered all Unless
  leaves_abort id = leaves_checks _ (abort_checks id w) refl (λ f i a. leaves_forget _)

  -- ---- checkpoint and reclaim, where refusal 1 passes the zones
  leaves_map : (q i : ℕ) → Leaves (map_stride q i w)
  unfolding map_stride
  leaves_map q i = record { shaped = with_work_law w.state h _ _ _ }

  leaves_other : Leaves (other_stride w)
  unfolding other_stride
  leaves_other = record { shaped = with_work_law w.state h _ _ _ }

  leaves_copy : (j : ℕ) → Leaves (copy_stride j w)
  unfolding copy_stride
  leaves_copy j = record { shaped = with_work_law _ (with_version_law _ taking_shaped _) _ _ _ }

  module _ (f : frame_ok w ≡ true) where
    leaves_zones : (q i : ℕ) → Leaves (zone_stride q i w)
    unfolding zone_stride
    leaves_zones q i =
        let k = frame_in w f in
        let s = w.state in
        record {
          shaped = with_number_law _ (with_zones_law _ (with_work_law s h _ _ _) _
              (slide_shaped s.geometry w.array s.places s.zones k.geometry k.zones)) _;
        }

    leaves_checkpointed : (q i : ℕ) → Leaves (page_stride q i w)
    unfolding page_stride
    leaves_checkpointed q i = search (leaves_cond, leaves_map, leaves_zones)

    leaves_stride : (k : Work) → Leaves (checkpoint_stride w k)
    unfolding checkpoint_stride first_stride
    leaves_stride Idle = search (leaves_cond, leaves_other, leaves_checkpointed)
    leaves_stride (Format k) = leaves_refuse 17
    leaves_stride (Checkpoint k) = leaves_checkpointed _ k
    leaves_stride Reclaim = leaves_refuse 17

    leaves_freed : (b : ℕ) → Picked w.state.zones w.map w.state.geometry.pages 2 (2 + (w.state.geometry.blocks - 2)) (at b)
        → Leaves (free_stride b w)
    unfolding free_stride
    leaves_freed b p =
        let k = frame_in w f in
        record {
          shaped = with_zones_law _ (with_work_law w.state h _ _ _) _ (freed_shaped w.state.geometry w.state.zones w.map b k.geometry k.zones p);
        }

    -- the block that is taken was picked
    leaves_taken : (no_gain w).when ≡ false → Leaves (reclaim_stride w)
    unfolding reclaim_stride picked
    leaves_taken gain =
        let r = picked_is w.state.zones w.map w.state.geometry.pages 2 (w.state.geometry.blocks - 2) in
        let e = found_at (picked w) (or_false_left (is_nothing (picked w)) _ gain) in
        leaves_cond (eqb (copies_due w) 0)
        (leaves_freed (block_taken w) (subst (Picked w.state.zones w.map w.state.geometry.pages 2 (2 + (w.state.geometry.blocks - 2))) e r))
        (leaves_copy _)

  leaves_checkpoint : Leaves (plan_checkpoint w)
  unfolding plan_checkpoint numbered all Unless
  leaves_checkpoint = leaves_checks _ (checkpoint_checks w) refl (λ f i n. leaves_stride (not-false (frame_ok w) f) w.state.work)

  leaves_reclaim : Leaves (plan_reclaim w)
  unfolding plan_reclaim numbered all Unless
  leaves_reclaim = leaves_checks _ (reclaim_checks w) refl (λ f i gain n r. leaves_taken (not-false (frame_ok w) f) gain)

  -- ---- format and recover, with a geometry in range
  leaves_more : (g : Geometry) (k : ℕ) (o : Op) → Leaves (format_more g k o w)
  unfolding format_more
  leaves_more g k o = record { shaped = with_work_law _ (fresh_shaped g) _ _ _ }

  module _ (g : Geometry) (r : InGeometry g) where
    leaves_last : Leaves (format_last g w)
    unfolding format_last
    leaves_last = record { shaped = with_number_law _ (with_zones_law _ (fresh_shaped g) _ (format_shaped g r)) _ }

    leaves_next : (k : ℕ) → Leaves (format_stride g k w)
    unfolding format_stride
    leaves_next k = search (leaves_cond, leaves_more, leaves_last)

    leaves_loaded : (k : ℕ) → load_ok g (entries_at g w.array k) (zones_at g w.array k) ≡ true → Leaves (recover_plan g k w)
    unfolding recover_plan recovered_state fresh_state
    leaves_loaded k e =
        let z = load_shaped g (entries_at g w.array k) (zones_at g w.array k) r e in
        let s = fresh_shaped g in
        record { shaped = record { available = z.available; unavailable = z.unavailable; free = z.free; places = s.places; each = s.each } }

  leaves_format : (g : Geometry) → Leaves (plan_format g w)
  unfolding plan_format numbered all Unless
  leaves_format g = leaves_checks _ (format_checks g w) refl (λ e.
      leaves_next g (lent_geometry g w (and_left (lent_ok g w) _ (not-false _ e))) (strides_done g w.state w.state.work))

  leaves_recover : (g : Geometry) → Leaves (plan_recover g w)
  unfolding plan_recover numbered all Unless
  leaves_recover g = leaves_checks _ (recover_checks g w) refl (λ e none load good.
      leaves_loaded g (lent_geometry g w (not-false (lent_ok g w) e)) (page_taken g w) (not-false _ load))

  leaves_plan : (c : Call) → Leaves (plan c w)
  unfolding plan
  leaves_plan (format g) = leaves_format g
  leaves_plan (recover g) = leaves_recover g
  leaves_plan (begin id) = leaves_begin id
  leaves_plan (write id lpn d) = leaves_write id lpn d
  leaves_plan (drop_page id lpn) = leaves_drop id lpn
  leaves_plan (lone lpn d) = leaves_lone lpn d
  leaves_plan (commit id) = leaves_commit id
  leaves_plan (abort id) = leaves_abort id
  leaves_plan (read lpn) = leaves_refuse (read_answer lpn w)
  leaves_plan checkpoint = leaves_checkpoint
  leaves_plan reclaim = leaves_reclaim

  -- ---- the fact
  pub shaped_after : (c : Call) → Shaped (exec c w).world.state
  unfolding exec carried
  shaped_after c = (leaves_plan c).shaped
