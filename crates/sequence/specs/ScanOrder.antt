-- "in scan order, which on a layer's own array is write order", on one plane: a data page that a call programs is scanned after all that were scanned
-- before, and no call changes the order of the others.
use Rattle.std.specs.Prelude.{◌≡◌, ◌≢◌, Bool, ℕ, List, [], ◌∷◌, ◌++◌, ltb}
use Rattle.std.proofs.Math.Path.{refl, sym, subst}
use Rattle.std.proofs.Common.{ap, ◌∙◌, inl, inr, arith, append-nil, eq-eqb}
use Rattle.std.proofs.Math.Bool.{true, false}
use Rattle.std.proofs.lemmas.Bool.{false≢true}
use Rattle.model.specs.Lists.{keep}
use Rattle.model.specs.Bytes.{bytes}
use Rattle.model.specs.Page.{spare_of}
use Rattle.model.specs.Geometry.{data_page}
use Rattle.model.specs.Zones.{Entry, entry_of}
use Rattle.model.specs.World.{World, Op, none, program, erase, programs, Plan, apply_op}
use Rattle.model.specs.Transactions.{place_of, next_page, held_op, with_place, write_plan, gone, lone_plan, forget_plan, held_state}
use Rattle.model.specs.Strides.{plan_checkpoint, free_stride}
use Rattle.model.specs.Commands.{Call, format, recover, begin, write, drop_page, lone, commit, abort, read, checkpoint, reclaim, plan, carried, exec}
use Rattle.model.specs.Book.{Book}
use Rattle.model.specs.Sequence.{fits, Allowed}
use Rattle.model.specs.declared.Geometry.{Geometry}
use Rattle.model.specs.declared.Place.{Place}
use Rattle.model.specs.declared.Spare.{Spare}
use Rattle.arrays.specs.Tests.{Is, eqb_cases, and_right}
use Rattle.arrays.specs.Bytelist.{Bytes, bytes_true}
use Rattle.arrays.specs.Ranges.{page_least}
use Rattle.front.specs.ZoneBack.{plain}
use Rattle.front.specs.Blocks.{InFront}
use Rattle.front.specs.Recovered.{state_of}
use Rattle.front.specs.CheckpointStrides.{checkpoint_stride_law}
use Rattle.front.specs.CheckpointOps.{stride_in_front}
use Rattle.scanlog.specs.Sublist.{Sublist, sub_refl, sub_nil, sub_append}
use Rattle.scanlog.specs.Free.{grown_scan}
use Rattle.scanlog.specs.Tidy.{next_data, scan_order_is_write_order}
use Rattle.sequence.specs.Places.{place_at, place_found}
use Rattle.sequence.specs.Refused.{refused_same, read_same, keeps_plan, recover_none}
use Rattle.sequence.specs.Sound.{sound_recovers}
use Rattle.sequence.specs.Live.{Live, scanned, grown_plain}
use Rattle.sequence.specs.View.{View, no, yes, after}
use Rattle.sequence.specs.Append.{Appends}
use Rattle.sequence.specs.Begin.{Begins, begin_view}
use Rattle.sequence.specs.Abort.{Aborts, abort_view}
use Rattle.sequence.specs.Lone.{Lones, lone_view, lone_appends}
use Rattle.sequence.specs.Write.{WritesTo, write_view, drop_view, gone_small, write_bytes, page_appends}
use Rattle.sequence.specs.Commit.{Commits, forgets, marks, commit_view, mark_appends}
use Rattle.sequence.specs.Reclaiming.{Reclaims, copies, frees, reclaim_view, copy_appends, free_scan}
use Rattle.sequence.specs.Checkpointing.{stride_scan}

-- ---- definitions
-- the entry of the data page that an operation programs
abbrev pub added : Geometry → Op → List Entry
added g none = []
added g (program k new) = keep (data_page g k) (entry_of k (spare_of new) ∷ [])
added g (erase b) = []

-- operation o leads from w to v: the data page that it programs is scanned last
abbrev pub ScannedLast : World → Op → World → Type 0
ScannedLast w none v = Unit {0}
ScannedLast w (program k new) v = data_page w.state.geometry k ≡ true → scanned v ≡ scanned w ++ (entry_of k (spare_of new) ∷ [])
ScannedLast w (erase b) v = Unit {0}

-- and of those scanned before some may leave, the rest stay in order
pub record InOrder (w : World) (o : Op) (v : World) : Type 0 where
  pub last : ScannedLast w o v
  pub rest : Sublist (scanned v) (scanned w ++ added w.state.geometry o)

-- ---- by what is planned
more_behind : {xs ys : List Entry} (zs : List Entry) → Sublist xs ys → Sublist xs (ys ++ zs)
more_behind {xs} {ys} zs s = subst (λ (l : List Entry). Sublist l (ys ++ zs)) (append-nil xs) (sub_append s (sub_nil zs))

same_sub : {xs ys : List Entry} → xs ≡ ys → Sublist xs ys
same_sub {xs} {ys} e = subst (λ (l : List Entry). Sublist l ys) (sym e) (sub_refl ys)

-- no page is programmed
order_none : (w v : World) (o : Op) → programs o ≡ false → scanned v ≡ scanned w → InOrder w o v
order_none w v none f e = record { last = tt; rest = more_behind [] (same_sub e) }
order_none w v (program k new) f e = absurd (false≢true (sym f))
order_none w v (erase b) f e = record { last = tt; rest = more_behind [] (same_sub e) }

-- a page of the front is no data page
order_front : (w v : World) (o : Op) → InFront w.state.geometry.pages o → Sublist (scanned v) (scanned w) → InOrder w o v
order_front w v none f s = record { last = tt; rest = more_behind [] s }
order_front w v (program k new) f s = record {
  last = λ d. absurd (omega (arith, page_least w.state.geometry k d));
  rest = more_behind (added w.state.geometry (program k new)) s;
}
order_front w v (erase b) f s = record { last = tt; rest = more_behind [] s }

-- a data page appended
order_append : (w : World) (b : Book) (s : Spare) (p : Plan) (h : Live w b) → w.state.geometry.planes ≢ 2 → Appends w b h s p → InOrder w p.op (after p w)
order_append w b s p h one a =
    subst (λ (o : Op). InOrder w o (after p w)) (sym a.does)
    (record { last = λ d. appended; rest = rw (next_data g w.array w.state.zones w.state.last h.tidy a.clean) (same_sub appended) })
  where
    g : Geometry
    g = w.state.geometry

    appended : scanned (after p w) ≡ scanned w ++ (entry_of (next_page w) (spare_of a.new) ∷ [])
    appended =
        unfold carried in rw (a.does, a.geometry, a.zones)
        (scan_order_is_write_order g w.array w.state.zones w.state.last h.tidy a.clean g.pages a.new a.ok one)

-- ---- by the command
-- a recover scans what the newest checkpoint lists, and those are the blocks that are listed
recover_scan : (w : World) (b : Book) → Live w b → scanned (exec (recover w.state.geometry) w).world ≡ scanned w
recover_scan w b h =
    rw (sound_recovers g w.array h.saved w.map w.state.version b.pages h.sound w.map w.hold w.state h.sound.wide h.hold)
    (unfold state_of in
    sym (grown_scan h.saved.zones (plain h.saved.zones) (grown_plain h.saved.zones) w.array g.pages) ∙ grown_scan h.saved.zones
    w.state.zones h.grown w.array g.pages)
  where
    g : Geometry
    g = w.state.geometry

module _ (w : World) (b : Book) (h : Live w b) (one : w.state.geometry.planes ≢ 2) where
  -- what is claimed of a call
  abbrev Orders : Call → Type 0
  Orders c = InOrder w (plan c w).op (exec c w).world

  -- by its cases
  view_orders : (c : Call) (P : Plan → Type 0) → View w P (plan c w) → ((p : Plan) → P p → InOrder w p.op (after p w)) → Orders c
  unfolding exec
  view_orders c P v k = go (plan c w) v
    where
      go : (p : Plan) → View w P p → InOrder w p.op (after p w)
      go p (no n r) = order_none w (after p w) none refl (unfold carried apply_op in refl)
      go p (yes q x) = k q x

  lone_orders : (lpn : ℕ) (d : List ℕ) → fits (lone lpn d) ≡ true → Orders (lone lpn d)
  unfolding plan fits
  lone_orders lpn d f = view_orders (lone lpn d) (Lones w lpn d) (lone_view lpn d w) (λ p v.
      let u : Lones w lpn d (lone_plan lpn d w) = subst (Lones w lpn d) v.is v in
      subst (λ (q : Plan). InOrder w q.op (after q w)) (sym v.is)
      (order_append w b _ (lone_plan lpn d w) h one (lone_appends w b lpn d h (bytes_true d (and_right (ltb lpn 65536) (bytes d) f)) u)))

  forget_orders : (i : ℕ) → InOrder w (forget_plan i w).op (after (forget_plan i w) w)
  forget_orders i =
      order_none w (after (forget_plan i w) w) (forget_plan i w).op (unfold forget_plan in refl) (unfold carried forget_plan with_place apply_op in refl)

  commit_orders : (id : ℕ) → Orders (commit id)
  unfolding plan
  commit_orders id = view_orders (commit id) (Commits w id) (commit_view id w) go
    where
      go : (p : Plan) → Commits w id p → InOrder w p.op (after p w)
      go p (forgets idle found zero) = forget_orders (place_of w.state.places id)
      go p (marks idle found many more short) =
          order_append w b _ p h one (mark_appends w b h id (place_of w.state.places id) idle (place_found w.state.places id h.changing.eight found)
          many more short)

  add_orders : (c : Call) (id lpn : ℕ) (drop : Bool) (d : List ℕ) → Bytes d → View w (WritesTo w id lpn drop d) (plan c w) → Orders c
  add_orders c id lpn drop d small v = view_orders c (WritesTo w id lpn drop d) v (λ p u.
      subst (λ (q : Plan). InOrder w q.op (after q w)) (sym u.is)
      (go u (eqb_cases (place_at w.state.places (place_of w.state.places id)).count 0)))
    where
      i : ℕ
      i = place_of w.state.places id

      p : Place
      p = place_at w.state.places i

      first : p.count ≡ 0 → scanned (after (write_plan i p lpn drop d w) w) ≡ scanned w
      first z = unfold carried write_plan held_op held_state with_place apply_op in rw (eq-eqb p.count 0 z)

      go : {q : Plan} → WritesTo w id lpn drop d q → Is p.count 0 → InOrder w (write_plan i p lpn drop d w).op (after (write_plan i p lpn drop d w) w)
      go u (inl z) =
          let n : (write_plan i p lpn drop d w).op ≡ none = unfold write_plan held_op in rw z.1 in
          order_none w (after (write_plan i p lpn drop d w) w) (write_plan i p lpn drop d w).op (ap programs n) (first z.0)
      go u (inr z) = order_append w b _ (write_plan i p lpn drop d w) h one (page_appends w b h id lpn drop d u.idle u.long small u.low i
          (place_found w.state.places id h.changing.eight u.begun) u.room z.0 (u.clean z.0))

  write_orders : (id lpn : ℕ) (d : List ℕ) → fits (write id lpn d) ≡ true → Orders (write id lpn d)
  unfolding plan fits
  write_orders id lpn d f = add_orders (write id lpn d) id lpn false d (write_bytes id lpn d f) (write_view id lpn d w)

  drop_orders : (id lpn : ℕ) → Orders (drop_page id lpn)
  unfolding plan
  drop_orders id lpn = add_orders (drop_page id lpn) id lpn true gone gone_small (drop_view id lpn w)

  begin_orders : (id : ℕ) → Orders (begin id)
  unfolding plan
  begin_orders id = view_orders (begin id) (Begins w id) (begin_view id w) (λ p v.
      subst (λ (q : Plan). InOrder w q.op (after q w)) (sym v.is) (order_none w _ none refl (unfold carried with_place apply_op in refl)))

  checkpoint_orders : Orders checkpoint
  unfolding plan exec
  checkpoint_orders =
      let s = checkpoint_stride_law w h.saved h.kept in
      order_front w (exec checkpoint w).world (plan_checkpoint w).op (stride_in_front w (plan_checkpoint w) s) (stride_scan w b h one (plan_checkpoint w) s)

  reclaim_orders : Orders reclaim
  unfolding plan
  reclaim_orders = view_orders reclaim (Reclaims w) (reclaim_view w h.sound.last) go
    where
      go : (p : Plan) → Reclaims w p → InOrder w p.op (after p w)
      go p (copies c calm on some) = order_append w b _ p h one (copy_appends w b h c on calm some)
      go p (frees c calm on zero) = order_none w (after p w) p.op (unfold free_stride in refl) (free_scan w b h c on calm zero)

  -- ---- the fact
  pub call_orders : (c : Call) → fits c ≡ true → Allowed w.state.geometry c w → Orders c
  unfolding plan
  call_orders (format k) f a =
      let e = (keeps_plan w (format k)).same a in
      order_none w (exec (format k) w).world (plan (format k) w).op (ap (λ (p : Plan). programs p.op) e)
      (ap scanned (refused_same w (format k) (unfold exec carried in a)))
  call_orders (recover k) f a = order_none w (exec (recover k) w).world (plan (recover k) w).op (ap programs (recover_none k w)) (rw a (recover_scan w b h))
  call_orders (begin id) f a = begin_orders id
  call_orders (write id lpn d) f a = write_orders id lpn d f
  call_orders (drop_page id lpn) f a = drop_orders id lpn
  call_orders (lone lpn d) f a = lone_orders lpn d f
  call_orders (commit id) f a = commit_orders id
  call_orders (abort id) f a =
      view_orders (abort id) (Aborts w id) (abort_view id w)
      (λ p v. subst (λ (q : Plan). InOrder w q.op (after q w)) (sym v.is) (forget_orders (place_of w.state.places id)))
  call_orders (read lpn) f a = order_none w (exec (read lpn) w).world none refl (ap scanned (read_same lpn w))
  call_orders checkpoint f a = checkpoint_orders
  call_orders reclaim f a = reclaim_orders
