-- Reclaim's strides: "Each stride picks anew, in a sequence the same block", and "in a sequence only the first can refuse".
use Rattle.std.specs.Prelude.{◌≡◌, refl, true, false, cond, not, ◌||◌, ℕ, ◌+◌, ◌-◌, ◌*◌, ◌≤◌, ◌<◌, List, set, eqb}
use Rattle.std.proofs.Common.{ap, subst, inl, inr, arith, leb-false, ltb-false, le-ltb}
use Rattle.std.proofs.lemmas.Bool.{lt-leb}
use Rattle.model.specs.Lists.{find}
use Rattle.model.specs.Page.{blank_at}
use Rattle.model.specs.Zones.{clean_in, next_in, taken_from, available_of}
use Rattle.model.specs.Checkpoint.{Found, nothing, at, is_nothing}
use Rattle.model.specs.World.{World}
use Rattle.model.specs.Order.{first_number}
use Rattle.model.specs.Frame.{frame_ok, is_idle}
use Rattle.model.specs.Transactions.{clean_pages, versions_spent}
use Rattle.model.specs.Strides.{mapped_in, pick_from, picked, lowest_from, copy_stride, free_stride, reclaim_stride, plan_reclaim, no_gain, reserve_short, copies_due, block_taken, is_reclaim}
use Rattle.model.specs.declared.Geometry.{Geometry}
use Rattle.model.specs.declared.Plane.{Plane}
use Rattle.model.specs.declared.Zones.{Zones}
use Rattle.arrays.specs.Tests.{Is, eqb_cases, and_right_false, or_false_left, or_false_right}
use Rattle.arrays.specs.Order.{found_at}
use Rattle.arrays.specs.Pages.{Other}
use Rattle.scanlog.specs.Occ.{occ}
use Rattle.scanlog.specs.Shape.{Unlisted, checkpointed_unlisted}
use Rattle.scanlog.specs.Pick.{Fewest, Picked, picked_is, in_block, block_inside, inside_one, copied_less, copied_picks}
use Rattle.scanlog.specs.Tidy.{Tidy, Within, next_place, clean_next}

-- block b is picked, has an unmapped page, and numbers and clean pages suffice for its copies
pub record Going (g : Geometry) (z : Zones) (xs map : List ℕ) (version b : ℕ) : Type 0 where
  pub pick : pick_from z map g.pages 2 (g.blocks - 2) nothing ≡ at b
  pub gain : mapped_in map g.pages b < g.pages
  pub numbers : version + mapped_in map g.pages b ≤ 4294967294
  pub reserve : mapped_in map g.pages b ≤ clean_in xs g.pages (available_of z)

-- the picked block is in no list
pub going_unlisted : (g : Geometry) (z : Zones) (map : List ℕ) (b : ℕ) → pick_from z map g.pages 2 (g.blocks - 2) nothing ≡ at b → Unlisted z b
going_unlisted g z map b e =
    let f : Fewest z map g.pages 2 (2 + (g.blocks - 2)) b
    = subst (λ (r : Found). Picked z map g.pages 2 (2 + (g.blocks - 2)) r) e (picked_is z map g.pages 2 (g.blocks - 2)) in
    checkpointed_unlisted z b f.is

-- the next page is in an available block, and so not in it
next_outside : (z : Zones) (p b k : ℕ) → Unlisted z b → Within z p k → in_block p b k ≡ false
next_outside z p b k none n =
    let l : n.block * p ≤ k = omega (arith, n.page) in
    let h : k < n.block * p + p = omega (arith, n.page, n.room) in
    inside_one p n.block b k (λ q. absurd (omega (arith, n.among, ap (λ (x : ℕ). occ x (available_of z)) q))) (block_inside p n.block k l h)

-- ---- a copy: the same block, with one copy less to make
pub going_copy : (g : Geometry) (z : Zones) (last : Plane) (xs ys map : List ℕ) (version b : ℕ) → Going g z xs map version b → Tidy g xs z
    → 0 < mapped_in map g.pages b
    → Other (next_in xs g.pages (taken_from g last xs (available_of z))) xs ys → blank_at ys (next_in xs g.pages (taken_from g last xs (available_of z))) ≡ false
    → Going g z ys (set map (find (eqb (lowest_from map (b * g.pages) g.pages)) map) (next_in xs g.pages (taken_from g last xs (available_of z))))
    (version + 1) b
going_copy g z last xs ys map version b h t due o e =
    let p = g.pages in
    let k = next_in xs p (taken_from g last xs (available_of z)) in
    let clean : 0 < clean_in xs p (available_of z) = omega (arith, h.reserve) in
    let out : in_block p b k ≡ false = next_outside z p b k (going_unlisted g z map b h.pick) (next_place g xs z last t clean) in
    record {
      pick = copied_picks map p b due k z 2 (g.blocks - 2) out h.pick;
      gain = omega (arith, h.gain, copied_less map p b due k out);
      numbers = omega (arith, h.numbers, copied_less map p b due k out);
      reserve = omega (arith, h.reserve, copied_less map p b due k out, clean_next g xs z last t clean ys o e);
    }

-- ---- the strides of a world
abbrev pub GoingOn : World → ℕ → Type 0
GoingOn w b = Going w.state.geometry w.state.zones w.array w.map w.state.version b

-- "in a sequence only the first can refuse": where it is going on no check of its own applies
pub going_passes : (w : World) (b : ℕ) → GoingOn w b → frame_ok w ≡ true → (is_idle w.state.work || is_reclaim w.state.work) ≡ true
    → plan_reclaim w ≡ reclaim_stride w
unfolding picked plan_reclaim first_number
going_passes w b h f i =
    let p = w.state.geometry.pages in
    let due = mapped_in w.map p b in
    rw (
      f,
      i,
      h.pick,
      lt-leb p due h.gain,
      le-ltb 4294967294 (w.state.version + due) h.numbers,
      and_right_false (not (eqb due 0)) false refl,
      le-ltb (clean_pages w) due h.reserve,
    )

-- it copies the lowest mapped page, or erases
pub stride_goes : (w : World) (b : ℕ) → GoingOn w b
    → reclaim_stride w ≡ cond (eqb (mapped_in w.map w.state.geometry.pages b) 0) (free_stride b w)
    (copy_stride (lowest_from w.map (b * w.state.geometry.pages) w.state.geometry.pages) w)
unfolding picked reclaim_stride
stride_goes w b h = rw h.pick

-- where no check applies it is going on
pub stride_going : (w : World) → w.state.version ≤ 4294967294 → (no_gain w).when ≡ false
    → (versions_spent (not (eqb (copies_due w) 0)) w.state.version (copies_due w)).when ≡ false → (reserve_short w).when ≡ false → GoingOn w (block_taken w)
unfolding picked
stride_going w v gain numbers reserve =
    record {
      pick = found_at (picked w) (or_false_left (is_nothing (picked w)) _ gain);
      gain = leb-false w.state.geometry.pages (copies_due w) (or_false_right (is_nothing (picked w)) _ gain);
      numbers = enough (eqb_cases (copies_due w) 0);
      reserve = ltb-false (clean_pages w) (copies_due w) reserve;
    }
  where
    enough : Is (copies_due w) 0 → w.state.version + copies_due w ≤ 4294967294
    enough (inl q) = omega (arith, q.0)
    enough (inr q) = ltb-false 4294967294 (w.state.version + copies_due w) (rw q.1 at numbers)
