-- What a recovery that is done found: a complete checkpoint that lies in the front, whose zones are those of the state; so their blocks can be
-- scanned. Assumes nothing.
use mathlib.Core.Path.{◌≡◌, refl, sym, subst}
use mathlib.Core.Bool.{true}
use mathlib.Core.List.{◌++◌}
use Prim.Native.Nat.{ℕ}
use borrow.Author.Tests.{not-false}
use Rattle.model.specs.Lists.{all}
use Rattle.model.specs.Geometry.{map_pages}
use Rattle.model.specs.Zones.{available_of, unavailable_of}
use Rattle.model.specs.Checkpoint.{zones_in, load_ok}
use Rattle.model.specs.World.{World}
use Rattle.model.specs.Frame.{lent_ok}
use Rattle.model.specs.Recover.{entries_at, zones_at, recovered_state, recover_plan, plan_recover, checkpoint_taken, page_taken, recover_checks}
use Rattle.model.specs.Commands.{recover, plan, carried, exec}
use Rattle.model.specs.declared.Geometry.{Geometry}
use Rattle.model.specs.declared.State.{State}
use Rattle.arrays.specs.Ranges.{geometry_in}
use Rattle.arrays.specs.Order.{numbered, Unless, none_applies, done_first, found_at}
use Rattle.recover.specs.Recovering.{Standing, Loaded}
use Rattle.recover.proofs.Lists.{counted, scannable}
use Rattle.starting.proofs.Starts.{standing}
use Rattle.reporting.specs.Report.{ScanFits}

-- the checkpoint on page k on is complete and passes refusal 3, and the state is made from it
record FoundAt (g : Geometry) (w : World) (s : State) : Type 0 where
  page : ℕ
  stands : Standing g w.array w.map page
  loads : load_ok g (entries_at g w.array page) (zones_at g w.array page) ≡ true
  made : s ≡ recovered_state g w.array page

module _ (g : Geometry) (w : World) where
  done_found : (exec (recover g) w).answer ≡ 0 → FoundAt g w (exec (recover g) w).world.state
  unfolding exec carried plan plan_recover lent_ok numbered all Unless
  done_found z =
      let first = done_first (recover_checks g w) w (recover_plan g (page_taken g w) w) z in
      none_applies (recover_checks g w) refl first (λ lent none load good. rw first (unfold recover_plan in record {
        page = page_taken g w;
        stands = standing g w (lent_ok g w) refl (not-false _ lent) (map_pages g) refl (checkpoint_taken g w) refl (page_taken g w) (found_at (checkpoint_taken g w) none);
        loads = not-false _ load;
        made = refl;
      }))

-- so the blocks in scan order can be looked through
found_fits : (g : Geometry) (w : World) (s : State) (f : FoundAt g w s) → ScanFits w.array (recovered_state g w.array f.page)
unfolding recovered_state
found_fits g w s f =
    let xs = w.array in
    let z = zones_in (zones_at g xs f.page) in
    let d : Loaded g xs f.page (zones_at g xs f.page) (entries_at g xs f.page) = record { zones = refl; used = refl; ok = f.loads } in
    let o = scannable g xs w.map f.page f.stands _ _ d z refl (unavailable_of z ++ available_of z) refl in
    record {
      counts = counted g xs w.map f.page f.stands _ _ d z refl;
      blocks = o.blocks;
      short = (geometry_in g f.stands.shape).pages_most;
    }

pub done_fits : (g : Geometry) (w : World) → (exec (recover g) w).answer ≡ 0 → ScanFits w.array (exec (recover g) w).world.state
done_fits g w e = let f = done_found g w e in subst (ScanFits w.array) (sym f.made) (found_fits g w _ f)
