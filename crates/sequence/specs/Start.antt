-- The start of a sequence: what a format leaves when it has finished is a live world with the blank book.
use Rattle.std.specs.Prelude.{◌≡◌, refl, ℕ, suc, ◌+◌, ◌*◌, ◌≤◌, ◌<◌, List, length, replicate}
use Rattle.std.proofs.Common.{ap, ◌∙◌, arith, mul-le-mul_right}
use Rattle.std.proofs.Math.Bool.{true}
use Rattle.std.proofs.Math.ListN.{length-replicate}
use Rattle.model.specs.Geometry.{geometry_ok, lengths_ok, unmapped, blank_map, data_block}
use Rattle.model.specs.Zones.{used_in, format_zones, zones_ok}
use Rattle.model.specs.World.{World}
use Rattle.model.specs.Frame.{lent_ok, fresh_state}
use Rattle.model.specs.Strides.{with_zones, with_number}
use Rattle.model.specs.Book.{blank}
use Rattle.model.specs.Sequence.{Formatted}
use Rattle.model.specs.declared.Geometry.{Geometry}
use Rattle.model.specs.declared.State.{State}
use Rattle.model.specs.declared.Work.TheVariants.{Idle}
use Rattle.arrays.specs.Tests.{and_left, and_both}
use Rattle.arrays.specs.Ranges.{InGeometry, in_lengths, block_least, block_most, maps_few}
use Rattle.arrays.specs.Used.{used_in_none}
use Rattle.arrays.specs.Frame.{lent_geometry, lent_lengths}
use Rattle.front.specs.Kept.{Kept}
use Rattle.front.specs.FormatStrides.{format_saved, Fresh}
use Rattle.front.specs.FormatCalls.{Starts, state_done, formatted, starts_kept, format_sane, format_finishes}
use Rattle.scanlog.specs.Logged.{logged_start}
use Rattle.scanlog.specs.Free.{grown_same}
use Rattle.scanlog.specs.Start.{format_ok, tidy_format, scan_format}
use Rattle.sequence.specs.Maps.{blank_good}
use Rattle.sequence.specs.Contents.{contents_blank}
use Rattle.sequence.specs.Sound.{Sound, handed}
use Rattle.sequence.specs.Live.{Live, free_places_good, free_opens, free_changing}

-- the zones of a format pass refusal 3
pub format_zones_ok : (g : Geometry) → InGeometry g → zones_ok g (format_zones g) ≡ true
format_zones_ok g r = format_ok g (omega (arith, r.blocks_least))

-- the data blocks of a fresh array are erased
pub fresh_erased : (g : Geometry) (xs : List ℕ) → InGeometry g → Fresh g xs → (b : ℕ) → data_block g b ≡ true → used_in xs g.pages b ≡ 0
fresh_erased g xs r f b d = used_in_none xs g.pages b (λ i l.
    let m : 2 * g.pages ≤ b * g.pages = mul-le-mul_right g.pages (block_least g b d) in
    let n : suc b * g.pages ≤ g.blocks * g.pages = mul-le-mul_right g.pages (block_most g b d) in
    f.clean (b * g.pages + i) (omega (arith, maps_few g r, r.pages_least)) (omega arith))

module _ (g : Geometry) (xs hold : List ℕ) (ok : geometry_ok g ≡ true) (r : InGeometry g) (long : length hold ≡ 4096) (f : Fresh g xs)
    (k : Kept (handed xs (blank_map g) hold (state_done g)) (format_saved g)) where
  big : 2 < g.blocks
  big = omega (arith, r.blocks_least)

  erased : (b : ℕ) → data_block g b ≡ true → used_in xs g.pages b ≡ 0
  erased = fresh_erased g xs r f

  start_sound : Sound g xs (format_saved g) (blank_map g) 0 (blank g).pages
  unfolding format_saved
  start_sound = record {
    geometry = ok;
    long = f.long;
    bytes = f.small;
    lean = f.lean;
    front = f.front;
    sane = format_sane g (format_zones_ok g r);
    tidy = tidy_format g big xs erased;
    logged = rw (scan_format g big xs erased) (logged_start g.planes g.logical 0 (blank_map g));
    good = blank_good g;
    wide = unfold blank_map in length-replicate g.logical 65535;
    contents = contents_blank xs g;
    last = omega arith;
    numbered = omega arith;
  }

  start_live : Live (handed xs (blank_map g) hold (state_done g)) (blank g)
  unfolding format_saved with_number with_zones fresh_state
  start_live = record {
    saved = format_saved g;
    sound = start_sound;
    kept = k;
    grown = grown_same (format_zones g);
    tidy = tidy_format g big xs erased;
    hold = long;
    places = free_places_good g;
    opens = free_opens g _;
    changing = free_changing xs (blank_map g) hold (blank g) refl;
  }

-- ---- the fact
pub formatted_live : (g : Geometry) (w : World) → Formatted g w → (w.state.geometry ≡ g) × Live w (blank g)
formatted_live g w h = go (formatted g (format_zones_ok g) w h)
  where
    shape : (s : State) → s ≡ state_done g → s.geometry ≡ g
    shape s e = rw e (unfold with_number with_zones fresh_state in refl)

    go : Starts g w → (w.state.geometry ≡ g) × Live w (blank g)
    go s =
        let k : Kept (handed w.array (blank_map g) w.hold (state_done g)) (format_saved g) = rw (s.state, s.map) at (starts_kept g w s) in
        let l = start_live g w.array w.hold (unfold lent_ok in and_left (geometry_ok g) (lengths_ok g w.array w.map w.hold) s.lent)
        (lent_geometry g w s.lent) (lent_lengths g w s.lent).hold s.fresh k in
        (shape w.state s.state, rw (s.state, s.map) l)

-- no work is under way
pub formatted_idle : (g : Geometry) (w : World) → Formatted g w → w.state.work ≡ Idle
formatted_idle g w h = ap (λ (s : State). s.work) (formatted g (format_zones_ok g) w h).state ∙ (unfold with_number with_zones fresh_state in refl)

-- there is such a world, for every geometry in range: a format of idle buffers in range comes to its end
pub some_formatted : (g : Geometry) → geometry_ok g ≡ true → (w : World) × Formatted g w
some_formatted g ok =
    let f = format_finishes g (format_zones_ok g) (handed (replicate (g.blocks * g.pages * 528) 0) (blank_map g) (replicate 4096 0) (fresh_state g)) lent
    (unfold fresh_state in refl) in
    (_, f)
  where
    lent : lent_ok g (handed (replicate (g.blocks * g.pages * 528) 0) (blank_map g) (replicate 4096 0) (fresh_state g)) ≡ true
    lent =
        unfold lent_ok blank_map in and_both (geometry_ok g) _ ok
        (in_lengths g (replicate (g.blocks * g.pages * 528) 0) (replicate g.logical unmapped) (replicate 4096 0)
        (record {
          array = length-replicate {A = ℕ} (g.blocks * g.pages * 528) 0;
          map = length-replicate {A = ℕ} g.logical unmapped;
          hold = length-replicate {A = ℕ} 4096 0;
        }))
