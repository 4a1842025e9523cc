-- Format and recover: what their checks give, and what a stride or the recovery may count on behind them. Assumes nothing.
use Prim.Native.Nat.{ℕ, ◌*◌, ◌≤◌}
use mathlib.Core.Path.{◌≡◌, sym, ◌∙◌}
use mathlib.Core.Bool.{Bool, true, false, ◌&&◌}
use native.Mathlib.Omega.{arith}
use lib.ListN.{length}
use Rattle.model.specs.Geometry.{geometry_ok, lengths_ok, map_pages}
use Rattle.model.specs.World.{World, refuse}
use Rattle.model.specs.Order.{first_number}
use Rattle.model.specs.Frame.{lent_ok}
use Rattle.model.specs.Checkpoint.{Found, nothing, at, newest}
use Rattle.model.specs.Strides.{format_work_ok, format_checks}
use Rattle.model.specs.Recover.{plan_recover}
use Rattle.model.specs.Commands.{plan, recover}
use Rattle.model.specs.declared.Geometry.{Geometry}
use Rattle.arrays.specs.Tests.{and_left, and_right}
use Rattle.arrays.specs.Ranges.{geometry_in, InLengths, lengths_in, maps_few, front_fits}
use Rattle.frame.specs.Lent.{Sized}
use Rattle.checkpoint.proofs.Search.{newest_fits}
use Rattle.recover.specs.Recovering.{Standing, from_plan}

-- lent and ok being what their tests say
module _ (g : Geometry) (w : World) (lent : Bool) (e : lent ≡ (geometry_ok g && lengths_ok g w.array w.map w.hold)) where
  pub format_not_lent : lent ≡ false → 1 ≡ first_number (format_checks g w)
  unfolding first_number lent_ok
  format_not_lent z = rw (← e, z)

  module _ (z : lent ≡ true) where
    lent_ok_law : lent_ok g w ≡ true
    unfolding lent_ok
    lent_ok_law = sym e ∙ z

    pub format_sized : Sized g w.array
    format_sized =
        let h = sym e ∙ z in
        record { shape = and_left (geometry_ok g) _ h; bytes = (lengths_in g w.array w.map w.hold (and_right (geometry_ok g) _ h)).array }

    module _ (ok : Bool) (o : ok ≡ format_work_ok g w w.state.work) where
      pub format_bad_work : ok ≡ false → 1 ≡ first_number (format_checks g w)
      unfolding first_number
      format_bad_work y = rw (lent_ok_law, ← o, y)

      pub format_passes : ok ≡ true → 0 ≡ first_number (format_checks g w)
      unfolding first_number
      format_passes y = rw (lent_ok_law, ← o, y)

  pub recover_not_lent : lent ≡ false → plan (recover g) w ≡ refuse w 1
  unfolding plan plan_recover first_number lent_ok
  recover_not_lent z = rw (← e, z)

  -- the newest complete checkpoint, looked for in the array
  module _ (z : lent ≡ true) (m : ℕ) (maps : m ≡ map_pages g) where
    long : InLengths g w.array w.map w.hold
    long = lengths_in g w.array w.map w.hold (and_right (geometry_ok g) _ (sym e ∙ z))

    pub searchable : (2 * g.pages * 528 ≤ length w.array) × ((m ≤ 4) × (8 ≤ g.pages))
    searchable =
        let shape = geometry_in g (and_left (geometry_ok g) _ (sym e ∙ z)) in
        let few : m ≤ 4 = rw maps (maps_few g shape) in
        let fits = front_fits g w.array long.array shape 1 (omega arith) in
        (omega arith, (few, shape.pages_least))

    module _ (found : Found) (n : found ≡ newest w.array m g.pages) where
      pub recover_none : found ≡ nothing → plan (recover g) w ≡ refuse w 2
      unfolding plan plan_recover first_number
      recover_none f = rw (lent_ok_law z, ← maps, ← n, f)

      pub recover_at : (k : ℕ) → found ≡ at k → plan (recover g) w ≡ from_plan g k w
      unfolding plan plan_recover from_plan first_number
      recover_at k f = rw (lent_ok_law z, ← maps, ← n, f)

      pub standing : (k : ℕ) → found ≡ at k → Standing g w.array w.map k
      standing k f =
          let s = searchable in
          let a = newest_fits w.array m g.pages k (omega arith) (sym n ∙ f) in
          record { shape = and_left (geometry_ok g) _ (sym e ∙ z); bytes = long.array; mapped = long.map; ends = rw maps at a }
