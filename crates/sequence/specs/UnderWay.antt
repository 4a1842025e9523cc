-- Work under way: until its last stride the zones stay, every other call leaves the world as it is, but a recover and an accepted format, and no
-- further stride is refused; each stride of a reclaim picks the same block.
use Rattle.std.proofs.Math.Path.{◌≡◌, refl, sym}
use Rattle.std.proofs.Common.{ap, ◌∙◌, subst, arith}
use Rattle.std.specs.Prelude.{Bool, true, not, cond, List, ◌∷◌, ℕ, ◌*◌, eqb, ltb}
use Rattle.std.proofs.Math.Bool.{false}
use Rattle.std.proofs.lemmas.Bool.{false≢true}
use Rattle.model.specs.Lists.{those, all}
use Rattle.model.specs.Geometry.{map_pages}
use Rattle.model.specs.Answers.{refused}
use Rattle.model.specs.World.{World, Plan, refuse, apply_op}
use Rattle.model.specs.Order.{Check, first_number, leave_out, checked}
use Rattle.model.specs.Frame.{frame_ok, is_idle, bad_frame, busy}
use Rattle.model.specs.Recover.{plan_recover, recover_plan, recovered_state, page_taken, recover_checks}
use Rattle.model.specs.Transactions.{gone, with_place, with_version, plan_begin, plan_write, plan_drop, plan_lone, plan_commit}
use Rattle.model.specs.Transactions.{plan_abort, write_plan, lone_plan, mark_plan, forget_plan, with_last}
use Rattle.model.specs.Strides.{is_checkpoint, is_reclaim, with_work, with_zones, with_number, mapped_in, picked, lowest_from, map_stride, zone_stride, page_stride}
use Rattle.model.specs.Strides.{other_stride, copy_stride, free_stride, plan_checkpoint, plan_reclaim}
use Rattle.model.specs.Commands.{Call, format, recover, begin, write, drop_page, lone, commit, abort, read, checkpoint, reclaim, plan, carried, exec}
use Rattle.model.specs.Book.{Book}
use Rattle.model.specs.Sequence.{Allowed}
use Rattle.model.specs.declared.Geometry.{Geometry}
use Rattle.model.specs.declared.Place.{Place}
use Rattle.model.specs.declared.State.{State}
use Rattle.model.specs.declared.Work.{Work}
use Rattle.model.specs.declared.Work.TheVariants.{Idle, Format, Checkpoint, Reclaim}
use Rattle.arrays.specs.Tests.{clash, or_right}
use Rattle.arrays.specs.Order.{numbered, Unless}
use Rattle.front.specs.CheckpointStrides.{Stride, refuses, erases, maps, zones, checkpoint_stride_law, checkpoint_goes_on}
use Rattle.scanlog.specs.Reclaim.{GoingOn, stride_goes, going_passes}
use Rattle.sequence.specs.Refused.{refused_same, read_same}
use Rattle.sequence.specs.SameShape.{held_same}
use Rattle.sequence.specs.Live.{Live, live_frame}
use Rattle.sequence.specs.View.{View, no, yes, view_checks, view_map}
use Rattle.sequence.specs.Begin.{begin_view}
use Rattle.sequence.specs.Abort.{abort_view}
use Rattle.sequence.specs.Lone.{lone_view}
use Rattle.sequence.specs.Write.{write_view, drop_view}
use Rattle.sequence.specs.Commit.{Commits, forgets, marks, commit_view}
use Rattle.sequence.specs.Reclaiming.{Reclaims, copies, frees, reclaim_view, copy_going}

-- ---- definitions
-- the call is neither the next stride of the work under way, nor a recover or a format
abbrev pub another : Call → Work → Bool
another (format g) k = false
another (recover g) k = false
another (begin id) k = true
another (write id lpn d) k = true
another (drop_page id lpn) k = true
another (lone lpn d) k = true
another (commit id) k = true
another (abort id) k = true
another (read lpn) k = true
another checkpoint k = not (is_checkpoint k)
another reclaim k = not (is_reclaim k)

-- where a reclaim is under way, some block is picked and can be reclaimed to the end
abbrev pub GoesOn : World → Type 0
GoesOn w = is_reclaim w.state.work ≡ true → (c : ℕ) × GoingOn w c

-- ---- other calls
-- refusals 1 and 17 while another's work is under way
busy_plan : (own : Bool) (w : World) (cs : List Check) (p : Plan) → is_idle w.state.work ≡ false → own ≡ false
    → checked (bad_frame w ∷ busy own w ∷ cs) w p ≡ refuse w (first_number (bad_frame w ∷ busy own w ∷ cs))
unfolding first_number
busy_plan own w cs p i o = rw (i, o) (go (frame_ok w))
  where
    go : (f : Bool) → cond (eqb (cond (not f) 1 17) 0) p (refuse w (cond (not f) 1 17)) ≡ refuse w (cond (not f) 1 17)
    go true = refl
    go false = refl

refuse_same : (c : Call) (w : World) (n : ℕ) → plan c w ≡ refuse w n → (exec c w).world ≡ w
unfolding exec carried apply_op
refuse_same c w n e = rw e refl

not_own : (t : Bool) → not t ≡ true → t ≡ false
not_own true h = sym h
not_own false h = refl

-- "busy: another multi-stride command is under way": the world is as it was
pub busy_same : (c : Call) (w : World) → is_idle w.state.work ≡ false → another c w.state.work ≡ true → (exec c w).world ≡ w
unfolding plan plan_begin plan_write plan_drop leave_out those plan_lone plan_commit plan_abort plan_checkpoint plan_reclaim
busy_same (format g) w i a = absurd (false≢true a)
busy_same (recover g) w i a = absurd (false≢true a)
busy_same (begin id) w i a = refuse_same (begin id) w _ (busy_plan false w _ _ i refl)
busy_same (write id lpn d) w i a = refuse_same (write id lpn d) w _ (busy_plan false w _ _ i refl)
busy_same (drop_page id lpn) w i a = refuse_same (drop_page id lpn) w _ (busy_plan false w _ _ i refl)
busy_same (lone lpn d) w i a = refuse_same (lone lpn d) w _ (busy_plan false w _ _ i refl)
busy_same (commit id) w i a = refuse_same (commit id) w _ (busy_plan false w _ _ i refl)
busy_same (abort id) w i a = refuse_same (abort id) w _ (busy_plan false w _ _ i refl)
busy_same (read lpn) w i a = read_same lpn w
busy_same checkpoint w i a = refuse_same checkpoint w _ (busy_plan (is_checkpoint w.state.work) w _ _ i (not_own _ a))
busy_same reclaim w i a = refuse_same reclaim w _ (busy_plan (is_reclaim w.state.work) w _ _ i (not_own _ a))

-- ---- a checkpoint under way
page_goes : (q i : ℕ) (w : World) → refused (page_stride q i w).answer ≡ false
unfolding page_stride refused
page_goes q i w = go (ltb i (map_pages w.state.geometry))
  where
    go : (t : Bool) → refused (cond t (map_stride q i w) (zone_stride q i w)).answer ≡ false
    go true = unfold map_stride refused in refl
    go false = unfold zone_stride refused in refl

-- its next stride is not refused
pub checkpoint_not_refused : (w : World) (b : Book) → Live w b → is_checkpoint w.state.work ≡ true → refused (exec checkpoint w).answer ≡ false
unfolding exec carried plan
checkpoint_not_refused w b h i = go w.state.work refl i
  where
    go : (k : Work) → w.state.work ≡ k → is_checkpoint k ≡ true → refused (plan_checkpoint w).answer ≡ false
    go Idle e i = absurd (false≢true i)
    go (Format k) e i = absurd (false≢true i)
    go (Checkpoint k) e i = rw (checkpoint_goes_on w h.saved k h.kept (live_frame w b h) e) (page_goes w.state.first k w)
    go Reclaim e i = absurd (false≢true i)

-- ---- a reclaim under way
-- its next stride is not refused
pub reclaim_not_refused : (w : World) (b : Book) → Live w b → GoesOn w → is_reclaim w.state.work ≡ true → refused (exec reclaim w).answer ≡ false
unfolding exec carried plan
reclaim_not_refused w b h on i = goes (on i).0 (on i).1
  where
    either : (c : ℕ) (t : Bool) → refused (cond t (free_stride c w)
        (copy_stride (lowest_from w.map (c * w.state.geometry.pages) w.state.geometry.pages) w)).answer ≡ false
    either c true = unfold free_stride refused in refl
    either c false = unfold copy_stride refused in refl

    goes : (c : ℕ) → GoingOn w c → refused (plan_reclaim w).answer ≡ false
    goes c r =
        rw (going_passes w c r (live_frame w b h) (or_right (is_idle w.state.work) (is_reclaim w.state.work) i), stride_goes w c r)
        (either c (eqb (mapped_in w.map w.state.geometry.pages c) 0))

-- no reclaim is under way in what a plan leaves
abbrev Rests : Plan → Type 0
Rests p = is_reclaim p.state.work ≡ false

idle_rests : (k : Work) → is_idle k ≡ true → is_reclaim k ≡ false
idle_rests Idle h = refl
idle_rests (Format k) h = refl
idle_rests (Checkpoint k) h = refl
idle_rests Reclaim h = sym h

stride_rests : (w : World) (p : Plan) → Stride w p → View w Rests p
stride_rests w p (refuses n r) = no n r
stride_rests w p (erases a i) = yes (other_stride w) (unfold other_stride with_work in refl)
stride_rests w p (maps q i a r m) = yes (map_stride q i w) (unfold map_stride with_work in refl)
stride_rests w p (zones q a r) = yes (zone_stride q (map_pages w.state.geometry) w) (unfold zone_stride with_work with_zones with_number in refl)

commit_rests : (w : World) (id : ℕ) (p : Plan) → Commits w id p → Rests p
commit_rests w id p (forgets i f z) = unfold forget_plan with_place in idle_rests w.state.work i
commit_rests w id p (marks i f n m r) = unfold mark_plan with_place with_version with_last in idle_rests w.state.work i

write_rests : (w : World) (i : ℕ) (p : Place) (lpn : ℕ) (drop : Bool) (d : List ℕ) → is_idle w.state.work ≡ true → Rests (write_plan i p lpn drop d w)
unfolding write_plan with_place with_last
write_rests w i p lpn drop d h = rw (held_same w (λ (s : State). s.work) p refl) (idle_rests w.state.work h)

recover_rests : (g : Geometry) (w : World) → View w Rests (plan_recover g w)
unfolding plan_recover recover_plan recovered_state numbered all Unless
recover_rests g w = view_checks w Rests (recover_plan g (page_taken g w) w) (recover_checks g w) refl (λ l n c p. yes _ refl)

-- by what a call plans
goes_after : (c : Call) (w : World) → GoesOn w → View w Rests (plan c w) → GoesOn (exec c w).world
unfolding exec carried
goes_after c w h v = go (plan c w) refl v
  where
    go : (p : Plan) → plan c w ≡ p → View w Rests p → GoesOn (exec c w).world
    go p e (no n r) = subst GoesOn (sym (refuse_same c w n e)) h
    go p e (yes q x) = λ i. clash (rw e at i) x

-- a recover that is done
pub goes_recovered : (g : Geometry) (w : World) → (exec (recover g) w).answer ≡ 0 → GoesOn (exec (recover g) w).world
unfolding exec plan carried
goes_recovered g w a = go (plan_recover g w) refl (recover_rests g w)
  where
    go : (p : Plan) → plan_recover g w ≡ p → View w Rests p → GoesOn (exec (recover g) w).world
    go p e (no n r) = let z : n ≡ 0 = rw e at a in clash (subst (λ (m : ℕ). refused m ≡ true) z r) (unfold refused in refl)
    go p e (yes q x) = λ i. clash (rw e at i) x

reclaim_goes : (w : World) (b : Book) → Live w b → GoesOn w → GoesOn (exec reclaim w).world
unfolding exec plan
reclaim_goes w b h on = go (plan_reclaim w) refl (reclaim_view w h.sound.last)
  where
    does : (p : Plan) → plan_reclaim w ≡ p → Reclaims w p → GoesOn (carried p w).world
    does p e (copies c calm on some) = λ i. (c, copy_going w b h c on calm some)
    does p e (frees c calm on zero) = λ i. clash i (unfold carried free_stride with_work with_zones in refl)

    go : (p : Plan) → plan_reclaim w ≡ p → View w (Reclaims w) p → GoesOn (exec reclaim w).world
    go p e (no n r) = subst GoesOn (sym (refuse_same reclaim w n e)) on
    go p e (yes q x) = rw e (does q e x)

-- a call of a sequence keeps it so
pub goes_call : (g : Geometry) (c : Call) (w : World) (b : Book) → Allowed g c w → Live w b → GoesOn w → GoesOn (exec c w).world
unfolding plan
goes_call g (format k) w b a h on = rw (refused_same w (format k) (unfold exec carried in a)) on
goes_call g (recover k) w b a h on = goes_after (recover k) w on (recover_rests k w)
goes_call g (begin id) w b a h on =
    goes_after (begin id) w on (view_map w _ Rests _ (λ p v. rw v.is (unfold with_place in idle_rests w.state.work v.idle)) (begin_view id w))
goes_call g (write id lpn d) w b a h on =
    goes_after (write id lpn d) w on (view_map w _ Rests _ (λ p v. rw v.is (write_rests w _ _ lpn false d v.idle)) (write_view id lpn d w))
goes_call g (drop_page id lpn) w b a h on =
    goes_after (drop_page id lpn) w on (view_map w _ Rests _ (λ p v. rw v.is (write_rests w _ _ lpn true gone v.idle)) (drop_view id lpn w))
goes_call g (lone lpn d) w b a h on =
    goes_after (lone lpn d) w on (view_map w _ Rests _ (λ p v. rw v.is (unfold lone_plan with_version with_last in idle_rests w.state.work v.idle))
    (lone_view lpn d w))
goes_call g (commit id) w b a h on = goes_after (commit id) w on (view_map w _ Rests _ (commit_rests w id) (commit_view id w))
goes_call g (abort id) w b a h on =
    goes_after (abort id) w on (view_map w _ Rests _ (λ p v. rw v.is (unfold forget_plan with_place in idle_rests w.state.work v.idle))
    (abort_view id w))
goes_call g (read lpn) w b a h on = rw (read_same lpn w) on
goes_call g checkpoint w b a h on = goes_after checkpoint w on (stride_rests w _ (checkpoint_stride_law w h.saved h.kept))
goes_call g reclaim w b a h on = reclaim_goes w b h on

-- ---- the block that is picked
pub copy_picks_same : (w : World) (b : Book) → Live w b → (exec reclaim w).answer ≡ 255 → picked (exec reclaim w).world ≡ picked w
unfolding exec carried plan picked
copy_picks_same w b h a = go (plan_reclaim w) refl (reclaim_view w h.sound.last)
  where
    does : (p : Plan) → p.answer ≡ 255 → Reclaims w p → picked (carried p w).world ≡ picked w
    does p a (copies c calm on some) = unfold picked in (copy_going w b h c on calm some).pick ∙ sym on.pick
    does p a (frees c calm on zero) = let z : ◌≡◌ {A = ℕ} 0 255 = unfold free_stride in a in absurd (omega arith)

    go : (p : Plan) → plan_reclaim w ≡ p → View w (Reclaims w) p → picked (exec reclaim w).world ≡ picked w
    go p e (no n r) = ap picked (refuse_same reclaim w n e)
    go p e (yes q x) = rw e (does q (rw e at a) x)

-- ---- a stride that answers more
-- leaves its work under way, and the zones as they are
pub record More (own : Work → Bool) (w v : World) : Type 0 where
  pub work : own v.state.work ≡ true
  pub zones : v.state.zones ≡ w.state.zones

pub reclaim_more : (w : World) (b : Book) → Live w b → (exec reclaim w).answer ≡ 255 → More is_reclaim w (exec reclaim w).world
unfolding exec carried plan
reclaim_more w b h a = go (plan_reclaim w) refl (reclaim_view w h.sound.last)
  where
    does : (p : Plan) → p.answer ≡ 255 → Reclaims w p → More is_reclaim w (carried p w).world
    does p a (copies c calm on some) = unfold carried copy_stride with_work with_version with_last in record { work = refl; zones = refl }
    does p a (frees c calm on zero) = let z : ◌≡◌ {A = ℕ} 0 255 = unfold free_stride in a in absurd (omega arith)

    go : (p : Plan) → plan_reclaim w ≡ p → View w (Reclaims w) p → More is_reclaim w (exec reclaim w).world
    go p e (no n r) = let z : n ≡ 255 = rw e at a in clash (subst (λ (m : ℕ). refused m ≡ true) z r) (unfold refused in refl)
    go p e (yes q x) = rw e (does q (rw e at a) x)

pub checkpoint_more : (w : World) (b : Book) → Live w b → (exec checkpoint w).answer ≡ 255 → More is_checkpoint w (exec checkpoint w).world
unfolding exec carried plan
checkpoint_more w b h a = go (plan_checkpoint w) (checkpoint_stride_law w h.saved h.kept) a
  where
    go : (p : Plan) → Stride w p → p.answer ≡ 255 → More is_checkpoint w (carried p w).world
    go p (refuses n r) a = clash (subst (λ (m : ℕ). refused m ≡ true) a r) (unfold refused in refl)
    go p (erases s i) a = unfold carried other_stride with_work in record { work = refl; zones = refl }
    go p (maps q i s r m) a = unfold carried map_stride with_work in record { work = refl; zones = refl }
    go p (zones q s r) a = let z : ◌≡◌ {A = ℕ} 0 255 = unfold zone_stride in a in absurd (omega arith)
