-- The sound array: what holds of the array at every point of a sequence, cut or not. A recovery of it is done, and leads each logical page
-- to what the book has.
use Rattle.std.specs.Prelude.{◌≡◌, true, ℕ, ◌*◌, ◌≤◌, length}
use Rattle.std.proofs.Common.{ap₂, ◌∙◌}
use mathlib.Core.List.{List}
use Rattle.model.specs.Geometry.{geometry_ok, lengths_ok}
use Rattle.model.specs.Zones.{scan_of}
use Rattle.model.specs.World.{World, apply_op}
use Rattle.model.specs.Frame.{lent_ok}
use Rattle.model.specs.Recover.{recover_plan}
use Rattle.model.specs.Commands.{recover, plan, carried, exec}
use Rattle.model.specs.Book.{Content}
use Rattle.model.specs.declared.Geometry.{Geometry}
use Rattle.model.specs.declared.State.{State}
use Rattle.arrays.specs.Tests.{and_both}
use Rattle.arrays.specs.Bytelist.{Bytes}
use Rattle.arrays.specs.Ranges.{InGeometry, geometry_in, in_lengths}
use Rattle.arrays.specs.Arrays.{Leans}
use Rattle.front.specs.Written.{Saved, Sane}
use Rattle.front.specs.Front.{Front}
use Rattle.front.specs.Recovered.{state_of, front_state, front_redone, recover_done}
use Rattle.scanlog.specs.Logged.{Logged, logged_passes}
use Rattle.scanlog.specs.Tidy.{Tidy}
use Rattle.sequence.specs.Maps.{MapGood}
use Rattle.sequence.specs.Contents.{Contents}

-- c is the newest checkpoint, `map` and `version` are what recovering makes of it, and ps are the pages of the book
pub record Sound (g : Geometry) (xs : List ℕ) (c : Saved) (map : List ℕ) (version : ℕ) (ps : List Content) : Type 0 where
  pub geometry : geometry_ok g ≡ true
  pub long : length xs ≡ g.blocks * g.pages * 528
  pub bytes : Bytes xs
  pub lean : Leans xs
  pub front : Front g xs c
  pub sane : Sane g c
  pub tidy : Tidy g xs c.zones
  pub logged : Logged g.planes g.logical c.version c.map (scan_of xs g.pages c.zones) map version
  pub good : MapGood g map
  pub wide : length map ≡ g.logical
  pub contents : Contents xs map ps
  pub last : version ≤ 4294967294
  pub numbered : c.number ≤ 4294967294

-- an array that is sound for these pages of the book
pub record Stored (g : Geometry) (xs : List ℕ) (ps : List Content) : Type 0 where
  pub saved : Saved
  pub map : List ℕ
  pub version : ℕ
  pub sound : Sound g xs saved map version ps

-- ---- a recovery of it
-- what a recover is handed
abbrev pub handed : List ℕ → List ℕ → List ℕ → State → World
handed xs map hold s = record { array = xs; map = map; hold = hold; state = s }

module _ (g : Geometry) (xs : List ℕ) (c : Saved) (map : List ℕ) (version : ℕ) (ps : List Content) (h : Sound g xs c map version ps) where
  pub sound_range : InGeometry g
  sound_range = geometry_in g h.geometry

  lent : (m hold : List ℕ) (s : State) → length m ≡ g.logical → length hold ≡ 4096 → lent_ok g (handed xs m hold s) ≡ true
  unfolding lent_ok
  lent m hold s a b = and_both (geometry_ok g) (lengths_ok g xs m hold) h.geometry (in_lengths g xs m hold (record { array = h.long; map = a; hold = b }))

  -- the state that it makes
  abbrev pub recovered : State
  recovered = state_of g (scan_of xs g.pages c.zones) c

  -- it is done
  pub sound_recovers : (m hold : List ℕ) (s : State) → length m ≡ g.logical → length hold ≡ 4096
      → exec (recover g) (handed xs m hold s) ≡ record { answer = 0; world = handed xs map hold recovered }
  unfolding exec plan carried recover_plan apply_op
  sound_recovers m hold s a b =
      let e = recover_done g (handed xs m hold s) c h.front h.sane (lent m hold s a b) (logged_passes _ _ _ _ _ _ _ h.logged) in
      rw e (ap₂ (λ (m' : List ℕ) (s' : State). record { answer = 0; world = handed xs m' hold s' }) (front_redone g xs c h.front h.sane ∙ h.logged.made)
      (front_state g xs c h.front))
