-- What refusal 1 passed of a format is what its next stride counts on, by the work under way. Assumes nothing.
use mathlib.Core.Path.{◌≡◌}
use mathlib.Core.Bool.{Bool, true, false, not, cond, ◌&&◌, ◌||◌}
use mathlib.Core.Logic.{⊎_elim}
use Prim.Native.Nat.{ℕ, ◌+◌, ◌-◌, ◌≤◌}
use native.Mathlib.Omega.{arith}
use lib.Dec.{leb, ltb}
use borrow.Author.Tests.{leb-true, ltb-true}
use Rattle.model.specs.Page.{blank_at}
use Rattle.model.specs.Geometry.{geometry_ok, lengths_ok, map_pages, same_geometry}
use Rattle.model.specs.World.{World}
use Rattle.model.specs.Frame.{format_stride_ok, lent_ok}
use Rattle.model.specs.Strides.{strides_done, format_work_ok}
use Rattle.model.specs.declared.Geometry.{Geometry}
use Rattle.model.specs.declared.Work.{Work}
use Rattle.model.specs.declared.Work.TheVariants.{Idle, Format, Checkpoint, Reclaim}
use Rattle.arrays.specs.Tests.{and_left, and_right, or_cases}
use Rattle.arrays.specs.Ranges.{geometry_in, lengths_in}
use Rattle.format.specs.Format.{Formattable}

module _ (g : Geometry) (w : World) (l : lent_ok g w ≡ true) where
  module _ (k : ℕ) (u : k ≤ g.blocks + map_pages g) (b : g.blocks ≤ k → blank_at w.array (k - g.blocks) ≡ true) where
    lent_formattable : Formattable g w.array w.map k
    unfolding lent_ok
    lent_formattable =
        let s = and_left (geometry_ok g) (lengths_ok g w.array w.map w.hold) l in
        let n = lengths_in g w.array w.map w.hold (and_right (geometry_ok g) (lengths_ok g w.array w.map w.hold) l) in
        record { shape = s; bytes = n.array; entries = n.map; upto = u; blank = b }

  -- no stride was done
  anew : Formattable g w.array w.map 0
  unfolding lent_ok
  anew =
      let s = (geometry_in g (and_left (geometry_ok g) (lengths_ok g w.array w.map w.hold) l)).blocks_least in
      lent_formattable 0 (omega arith) (λ h. absurd (omega arith))

  -- k strides were done
  going : (k : ℕ) → format_stride_ok g w.array k ≡ true → Formattable g w.array w.map k
  unfolding format_stride_ok
  going k h =
      let next = ltb k g.blocks || blank_at w.array (k - g.blocks) in
      let r = and_right (leb 1 k) (leb k (g.blocks + map_pages g) && next) h in
      lent_formattable k (leb-true k (g.blocks + map_pages g) (and_left (leb k (g.blocks + map_pages g)) next r))
      (λ m. ⊎_elim (λ t. (let f = ltb-true k g.blocks t in absurd (omega arith))) (λ e. e) (or_cases (ltb k g.blocks) (blank_at w.array (k - g.blocks)) (and_right (leb k (g.blocks + map_pages g)) next r)))

  pub formattable : (work : Work) → format_work_ok g w work ≡ true → Formattable g w.array w.map (strides_done g w.state work)
  unfolding format_work_ok strides_done
  formattable Idle h = anew
  formattable (Format k) h = go (same_geometry g w.state.geometry) h
    where
      go : (b : Bool) → (not b || format_stride_ok g w.array k) ≡ true → Formattable g w.array w.map (cond b k 0)
      go true e = going k e
      go false e = anew
  formattable (Checkpoint k) h = anew
  formattable Reclaim h = anew
