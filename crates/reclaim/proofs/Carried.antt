-- What the calls of a stride of reclaim do is its plan carried out, whatever the hold. Assumes nothing.
use mathlib.Core.Path.{◌≡◌, refl, sym, ap, ◌∙◌}
use mathlib.Core.Bool.{true}
use mathlib.Core.List.{List}
use Prim.Native.Nat.{ℕ, ◌+◌, ◌-◌, ◌*◌, ◌≤◌, ◌<◌}
use native.Mathlib.Omega.{arith}
use lib.ListN.{take, drop}
use lib.Seq.{take-take}
use lib.Dec.{eqb}
use borrow.Author.Tests.{le-leb, lt-leb, ne_eqb}
use Rattle.model.specs.Lists.{find, part}
use Rattle.model.specs.Page.{page_at, data_at, blank_at}
use Rattle.model.specs.Zones.{freed}
use Rattle.model.specs.Checkpoint.{at, nothing}
use Rattle.model.specs.World.{World, erase, apply_op}
use Rattle.model.specs.Order.{first_number}
use Rattle.model.specs.Transactions.{with_version, with_last, lone_plan}
use Rattle.model.specs.Strides.{with_work, with_zones, mapped_in, picked, lowest_from, copy_stride, free_stride, reclaim_stride}
use Rattle.model.specs.Commands.{Outcome, carried}
use Rattle.model.specs.declared.State.{State}
use Rattle.model.specs.declared.Work.TheVariants.{Idle, Reclaim}
use Rattle.model.specs.declared.Zones.{Zones}
use Rattle.change.specs.Changes.{next_of, LonePut}
use Rattle.change.proofs.Carrying.{last_on, lone_done}
use Rattle.strides.specs.Strode.{Strode}
use Rattle.reclaim.specs.Copies.{copies_checks, own_checks, Going}

-- the data of page j, as a part of the array
pub data_copied : (xs : List ℕ) (j to : ℕ) → to ≡ j * 528 + 512 → take (to - j * 528) (drop (j * 528) xs) ≡ data_at xs j
unfolding data_at page_at part
data_copied xs j to t =
    let k : to - j * 528 ≡ 512 = omega arith in
    rw k (sym (take-take 512 528 (drop (j * 528) xs) (omega arith)))

module _ (s : State) (xs map : List ℕ) where
  -- ---- page j copied as a lone page, k being the next page
  pub copy_strode : (j lpn : ℕ) → lpn ≡ find (eqb j) map → (d : List ℕ) → d ≡ data_at xs j → (k : ℕ) → k ≡ next_of s xs → blank_at xs (next_of s xs) ≡ true
      → (ys entries : List ℕ) → LonePut xs map k lpn (s.version + 1) d ys entries
      → (t : State) → t ≡ with_work (with_version (last_on s k) (s.version + 1)) s.front s.first Reclaim → Strode (copy_stride j) s xs map 255 ys entries t
  unfolding carried copy_stride lone_plan with_work with_version with_last
  copy_strode j lpn el d ed k ek b ys entries put t et hold =
      let o = rw (el, ed) at (lone_done s (with_version (last_on s k) (s.version + 1)) xs map hold ys entries lpn d k ek b put refl) in
      let u = et ∙ ap (λ (x : Outcome). with_work x.world.state s.front s.first Reclaim) o in
      λ i. record { answer = 255; world = record { array = (o i).world.array; map = (o i).world.map; hold = hold; state = u i } }

  -- ---- block b erased and free
  pub free_strode : (b : ℕ) (ys : List ℕ) → ys ≡ apply_op s.geometry.pages (erase b) xs
      → (z : Zones) → z ≡ freed s.zones b → (t t2 : State) → t ≡ with_work s s.front s.first Idle → t2 ≡ with_zones t z
      → Strode (free_stride b) s xs map 0 ys map t2
  unfolding carried free_stride with_work with_zones
  free_strode b ys ey z ez t t2 e1 e2 hold =
      let e = rw (e1, ez) at e2 in
      λ i. record { answer = 0; world = record { array = ey i; map = map; hold = hold; state = e i } }

  -- ---- a stride on block b, which is taken
  module _ (b due : ℕ) (g : Going s xs map b due) where
    pub block_frees : due ≡ 0 → (n : ℕ) (ys map' : List ℕ) (t : State) → Strode (free_stride b) s xs map n ys map' t → Strode reclaim_stride s xs map n ys map' t
    unfolding reclaim_stride picked
    block_frees z n ys map' t h = λ hold. rw (g.taken, ← g.due, z) (h hold)

    pub block_copies : (due ≡ 0 → ⊥) → (n : ℕ) (ys map' : List ℕ) (t : State)
        → Strode (copy_stride (lowest_from map (b * s.geometry.pages) s.geometry.pages)) s xs map n ys map' t → Strode reclaim_stride s xs map n ys map' t
    unfolding reclaim_stride picked
    block_copies z n ys map' t h = λ hold. rw (g.taken, ← g.due, ne_eqb due 0 z) (h hold)

-- ---- what refuses a reclaim
module _ (w : World) where
  -- no block is picked
  pub none_gains : picked w ≡ nothing → 15 ≡ first_number (own_checks w)
  unfolding first_number
  none_gains e = rw e

  module _ (b copies : ℕ) (taken : picked w ≡ at b) (due : copies ≡ mapped_in w.map w.state.geometry.pages b) where
    -- every page of it is mapped
    pub block_gains_nothing : w.state.geometry.pages ≤ copies → 15 ≡ first_number (own_checks w)
    unfolding first_number
    block_gains_nothing h = rw (taken, ← due, le-leb w.state.geometry.pages copies h)

    -- else the copies due decide
    pub block_looked : copies < w.state.geometry.pages → first_number (own_checks w) ≡ first_number (copies_checks w.state w.array copies)
    unfolding first_number
    block_looked h = rw (taken, ← due, lt-leb w.state.geometry.pages copies h)
