-- What the calls of a stride do is its plan carried out, whatever the hold. Assumes nothing.
use mathlib.Core.Path.{◌≡◌}
use mathlib.Core.Bool.{true}
use mathlib.Core.List.{List}
use Prim.Native.Nat.{ℕ, ◌+◌, ◌-◌, ◌*◌, ◌≤◌, ◌<◌}
use borrow.Author.Tests.{lt-ltb, le-ltb}
use Rattle.model.specs.Page.{page_bytes, blank_at}
use Rattle.model.specs.Geometry.{map_pages}
use Rattle.model.specs.Zones.{used_in, slide}
use Rattle.model.specs.Checkpoint.{map_bytes, map_spare, map_page, zone_data, zone_spare, zone_page}
use Rattle.model.specs.World.{World, erase, apply_op}
use Rattle.model.specs.Strides.{with_work, with_zones, with_number, map_stride, zone_stride, page_stride, other_stride, first_stride, checkpoint_stride}
use Rattle.model.specs.Commands.{carried}
use Rattle.model.specs.declared.Spare.{Spare}
use Rattle.model.specs.declared.State.{State}
use Rattle.model.specs.declared.Work.{Work}
use Rattle.model.specs.declared.Work.TheVariants.{Idle, Format, Checkpoint, Reclaim}
use Rattle.model.specs.declared.Zones.{Zones}
use Rattle.flash.specs.Programs.{Programmed}
use Rattle.strides.specs.Strode.{Strode}

module _ (s : State) (xs map : List ℕ) where
  -- ---- page i of the checkpoint that began on page q is programmed with these data and this spare area, which leaves ys
  module _ (q i : ℕ) (blank : blank_at xs (s.front * s.geometry.pages + (q + i)) ≡ true) (d : List ℕ) (sp : Spare) (ys : List ℕ)
      (p : Programmed xs (s.front * s.geometry.pages + (q + i)) (page_bytes d sp) ys) where
    pub map_strode : (n : ℕ) → n ≡ s.checkpoint + 1 → d ≡ map_bytes map (256 * i) 256 → sp ≡ map_spare i n
        → (t : State) → t ≡ with_work s s.front q (Checkpoint (i + 1)) → Strode (map_stride q i) s xs map 255 ys map t
    unfolding carried map_stride map_page with_work
    map_strode n en ed es t et hold =
        let a = rw (ed, es, en) at (p.applied s.geometry.pages blank) in
        λ j. record { answer = 255; world = record { array = a j; map = map; hold = hold; state = et j } }

    pub zone_strode : (n : ℕ) → n ≡ s.checkpoint + 1 → (z : Zones) → z ≡ slide s.geometry xs s.places s.zones
        → d ≡ zone_data s.version z → (m : ℕ) → m ≡ map_pages s.geometry → sp ≡ zone_spare m n
        → (t1 t2 t : State) → t1 ≡ with_work s s.front 0 Idle → t2 ≡ with_zones t1 z → t ≡ with_number t2 n → Strode (zone_stride q i) s xs map 0 ys map t
    unfolding carried zone_stride zone_page with_work with_zones with_number
    zone_strode n en z ez ed m em es t1 t2 t e1 e2 et hold =
        let a = rw (ed, es, em, en, ez) at (p.applied s.geometry.pages blank) in
        let e = rw (e2, e1, en, ez) at et in
        λ j. record { answer = 0; world = record { array = a j; map = map; hold = hold; state = e j } }

  -- ---- what a stride does is what the stride that it goes on with does
  module _ (q i n : ℕ) (ys map' : List ℕ) (t : State) where
    pub page_maps : i < map_pages s.geometry → Strode (map_stride q i) s xs map n ys map' t → Strode (page_stride q i) s xs map n ys map' t
    unfolding page_stride
    page_maps l h = λ hold. rw (lt-ltb i (map_pages s.geometry) l) (h hold)

    pub page_zones : map_pages s.geometry ≤ i → Strode (zone_stride q i) s xs map n ys map' t → Strode (page_stride q i) s xs map n ys map' t
    unfolding page_stride
    page_zones l h = λ hold. rw (le-ltb i (map_pages s.geometry) l) (h hold)

  module _ (n : ℕ) (ys map' : List ℕ) (t : State) where
    pub first_others : s.geometry.pages - used_in xs s.geometry.pages s.front < map_pages s.geometry + 1 → Strode other_stride s xs map n ys map' t
        → Strode first_stride s xs map n ys map' t
    unfolding first_stride
    first_others l h = λ hold. rw (lt-ltb (s.geometry.pages - used_in xs s.geometry.pages s.front) (map_pages s.geometry + 1) l) (h hold)

    pub first_pages : map_pages s.geometry + 1 ≤ s.geometry.pages - used_in xs s.geometry.pages s.front → Strode (page_stride (used_in xs s.geometry.pages s.front) 0) s xs map n ys map' t
        → Strode first_stride s xs map n ys map' t
    unfolding first_stride
    first_pages l h = λ hold. rw (le-ltb (s.geometry.pages - used_in xs s.geometry.pages s.front) (map_pages s.geometry + 1) l) (h hold)

  -- ---- the other front block is erased
  pub other_strode : (ys : List ℕ) → ys ≡ apply_op s.geometry.pages (erase (1 - s.front)) xs
      → (t : State) → t ≡ with_work s (1 - s.front) 0 (Checkpoint 0) → Strode other_stride s xs map 255 ys map t
  unfolding carried other_stride with_work
  other_strode ys e t et hold = λ j. record { answer = 255; world = record { array = e j; map = map; hold = hold; state = et j } }

  -- ---- by the work under way
  module _ (work : Work) where
    module _ (n : ℕ) (ys map' : List ℕ) (t : State) where
      pub stride_first : work ≡ Idle → Strode first_stride s xs map n ys map' t → Strode (λ (w : World). checkpoint_stride w work) s xs map n ys map' t
      unfolding checkpoint_stride
      stride_first e h = λ hold. rw e (h hold)

      pub stride_page : (k : ℕ) → work ≡ Checkpoint k → Strode (page_stride s.first k) s xs map n ys map' t → Strode (λ (w : World). checkpoint_stride w work) s xs map n ys map' t
      unfolding checkpoint_stride
      stride_page k e h = λ hold. rw e (h hold)

    pub stride_format : (k : ℕ) → work ≡ Format k → Strode (λ (w : World). checkpoint_stride w work) s xs map 17 xs map s
    unfolding checkpoint_stride carried apply_op
    stride_format k e = λ hold. rw e

    pub stride_reclaim : work ≡ Reclaim → Strode (λ (w : World). checkpoint_stride w work) s xs map 17 xs map s
    unfolding checkpoint_stride carried apply_op
    stride_reclaim e = λ hold. rw e
