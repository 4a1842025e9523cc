-- What the calls of a recovery do is its plan carried out, whatever the hold. Assumes nothing.
use Rattle.std.specs.Prelude.{Option, Some, None}
use mathlib.Core.Path.{◌≡◌, ap, sym, ◌∙◌}
use mathlib.Core.Logic.{◌⊎◌, inl, inr}
use mathlib.Core.Bool.{Bool, true, false, ◌&&◌}
use mathlib.Core.List.{List, ◌++◌}
use Prim.Native.Nat.{ℕ, ◌+◌, ◌-◌, ◌*◌, ◌≤◌, max}
use native.Mathlib.Omega.{arith}
use lib.ListN.{length, take, drop, replicate}
use lib.Seq.{length-take-le}
use lib.Dec.{eqb}
use Rattle.model.specs.Bytes.{le32}
use Rattle.model.specs.Lists.{all}
use Rattle.model.specs.Page.{data_at}
use Rattle.model.specs.Geometry.{unmapped, map_pages, map_ok}
use Rattle.model.specs.Zones.{Entry, available_of, unavailable_of, scan_in, scan_of}
use Rattle.model.specs.Checkpoint.{number_at, load_map, zones_in, load_ok}
use Rattle.model.specs.Recovery.{pages_good, top, redone}
use Rattle.model.specs.World.{apply_op}
use Rattle.model.specs.Order.{first_number}
use Rattle.model.specs.Recover.{entries_at, zones_at, floor_at, scanned_at, recovered_map, recovered_state, recover_plan}
use Rattle.model.specs.Commands.{carried}
use Rattle.model.specs.declared.Geometry.{Geometry}
use Rattle.model.specs.declared.State.{State}
use Rattle.model.specs.declared.Zones.{Zones}
use Rattle.arrays.specs.Tests.{decide}
use Rattle.arrays.specs.Ranges.{geometry_in}
use Rattle.load.specs.Load.{zone_page_ok}
use Rattle.load.proofs.Lists.{halves}
use Rattle.scan.specs.Taken.{Blocks, listed}
use Rattle.scan.specs.Notes.{notes_of, met_all, start}
use Rattle.scan.specs.Judged.{changes_of, Surveyed}
use Rattle.scan.specs.declared.Note.{Note}
use Rattle.scan.specs.declared.Seen.{Seen}
use Rattle.scan.proofs.Loops.{listed_length, listed_pages}
use Rattle.scan.proofs.Visiting.{met_few}
use Rattle.scan.proofs.Judging.{good_top}
use Rattle.recovery.specs.Redo.{Ready}
use Rattle.strides.specs.Strode.{Strode}
use Rattle.recover.specs.Recovering.{Scan, scanned_of, recovered_of, Scannable, Standing, Loaded, from_plan}
use Rattle.recover.proofs.Entries.{entries_used, data_part, maps_fit}

-- ---- the scan
module _ (g : Geometry) (xs map bs entries : List ℕ) (h : Scannable g xs map bs entries) where
  pub blocks_in : Blocks xs g.pages bs
  blocks_in =
      let i = geometry_in g h.shape in
      let a = i.pages_least in
      record { least = omega arith; most = i.pages_most; within = h.blocks }

  -- all pages of the scan were visited, and met so
  pub scan_met : (order other : List ℕ) (notes : List Note) (m : Seen) → order ≡ listed g.pages bs → length other ≡ length bs * g.pages
      → m ≡ met_all g.planes g.logical xs order start → notes ≡ notes_of xs order → Surveyed g.planes g.logical xs g.pages bs order notes other m
  scan_met order other notes m l r s n =
      record {
        blocks = blocks_in;
        list = l;
        visit = record { pages = rw l (listed_pages xs g.pages bs blocks_in); note = n; room = r ∙ sym (ap length l ∙ listed_length g.pages bs) };
        met = s;
      }

  -- no more pages of changes than pages
  pub changes_few : (order : List ℕ) (m : Seen) → m ≡ met_all g.planes g.logical xs order start → m.changes ≤ length order
  changes_few order m s = omega (arith, ap (λ (x : Seen). x.changes) s, met_few g.planes g.logical xs order start)

  -- entries that were copied into the map m, over a scan that refusal 4 passes
  pub redo_ready : (good : Bool) → good ≡ pages_good g.planes g.logical (scan_in xs g.pages bs) → good ≡ true → (m : List ℕ) → m ≡ take (length map) entries
      → (order other : List ℕ) (notes : List Note) (changes : List ℕ) → order ≡ listed g.pages bs → length other ≡ length bs * g.pages → notes ≡ notes_of xs order
      → changes ≡ changes_of g.planes xs (listed g.pages bs)
      → Ready g.planes m xs g.pages bs changes notes other
  redo_ready good eg ok m e order other notes changes l r n c =
      let i = geometry_in g h.shape in
      let k : length m ≡ g.logical = ap length e ∙ length-take-le (length map) entries (omega (arith, h.mapped, h.enough)) ∙ h.mapped in
      record {
        blocks = blocks_in;
        good = rw k (sym eg ∙ ok);
        few = omega (arith, k, i.logical_most);
        change = c;
        note = n ∙ ap (notes_of xs) l;
        room = r;
      }

  -- the highest version that was met
  pub top_met : (good : Bool) → good ≡ pages_good g.planes g.logical (scan_in xs g.pages bs) → good ≡ true → (order : List ℕ) → order ≡ listed g.pages bs
      → (m : Seen) → m ≡ met_all g.planes g.logical xs order start → m.top ≡ top (scan_in xs g.pages bs)
  top_met good eg ok order l m s =
      ap (λ (x : Seen). x.top) (s ∙ ap (λ (ks : List ℕ). met_all g.planes g.logical xs ks start) l) ∙ good_top g.planes g.logical xs g.pages bs (sym eg ∙ ok)

-- what is made of a scan that refusal 4 does not pass, and of one that it passes
module _ (planes logical : ℕ) (es : List Entry) (floor : ℕ) (entries map : List ℕ) where
  pub scan_refused : (good : Bool) → good ≡ pages_good planes logical es → good ≡ false → scanned_of planes logical es floor (take logical entries) map ≡ record { top = None; map = map }
  unfolding scanned_of
  scan_refused good eg e = rw (← eg, e)

  -- m is the map with the entries copied into it, n with what is applied entered too
  pub scan_passed : (good : Bool) → good ≡ pages_good planes logical es → good ≡ true → (t : ℕ) → t ≡ top es
      → length map ≡ logical → (m : List ℕ) → m ≡ take (length map) entries → (n : List ℕ) → n ≡ redone planes floor es m
      → scanned_of planes logical es floor (take logical entries) map ≡ record { top = Some t; map = n }
  unfolding scanned_of
  scan_passed good eg e t et h m em n en = rw (← eg, e, et, en, em, h)

-- and back
module _ (planes logical : ℕ) (es : List Entry) (floor : ℕ) (entries map : List ℕ) (m : List ℕ) where
  abbrev Made : Option ℕ → Type 0
  Made t = scanned_of planes logical es floor entries map ≡ record { top = t; map = m }

  pub refused_back : Made None → (pages_good planes logical es ≡ false) × (m ≡ map)
  unfolding scanned_of
  refused_back h = go (decide (pages_good planes logical es))
    where
      go : (pages_good planes logical es ≡ true) ⊎ (pages_good planes logical es ≡ false) → (pages_good planes logical es ≡ false) × (m ≡ map)
      go (inl p) = let q = rw p at h in let e : Some (top es) ≡ None = ap (λ (r : Scan). r.top) q in cc
      go (inr p) = let q = rw p at h in (p, ap (λ (r : Scan). r.map) (sym q))

  pub passed_back : (t : ℕ) → Made (Some t) → (pages_good planes logical es ≡ true) × ((t ≡ top es) × (m ≡ redone planes floor es entries))
  unfolding scanned_of
  passed_back t h = go (decide (pages_good planes logical es))
    where
      go : (pages_good planes logical es ≡ true) ⊎ (pages_good planes logical es ≡ false) → (pages_good planes logical es ≡ true) × ((t ≡ top es) × (m ≡ redone planes floor es entries))
      go (inl p) = let q = rw p at h in let e : Some (top es) ≡ Some t = ap (λ (r : Scan). r.top) q in (p, ((let u : t ≡ top es = cc in u), ap (λ (r : Scan). r.map) (sym q)))
      go (inr p) = let q = rw p at h in let e : None ≡ Some t = ap (λ (r : Scan). r.top) q in cc

-- ---- the plan from the checkpoint on page k on
module _ (g : Geometry) (s : State) (xs map : List ℕ) (k : ℕ) where
  -- refusal 3
  pub bad_checkpoint_law : load_ok g (entries_at g xs k) (zones_at g xs k) ≡ false → Strode (from_plan g k) s xs map 3 xs map s
  unfolding carried from_plan first_number apply_op
  bad_checkpoint_law e = λ hold. rw e

  module _ (z entries : List ℕ) (d : Loaded g xs k z entries) (zones : Zones) (ez : zones ≡ zones_in z) (floor : ℕ) (ef : floor ≡ le32 z 0)
      (bs : List ℕ) (eb : bs ≡ unavailable_of zones ++ available_of zones) (m : List ℕ) where
    zones_is : zones ≡ zones_in (zones_at g xs k)
    zones_is = ez ∙ ap zones_in d.zones

    floor_is : floor ≡ floor_at g xs k
    floor_is = ef ∙ ap (λ (y : List ℕ). le32 y 0) d.zones

    scan_is : scan_in xs g.pages bs ≡ scanned_at g xs k
    unfolding scan_of
    scan_is = ap (scan_in xs g.pages) eb ∙ ap (λ (y : Zones). scan_in xs g.pages (unavailable_of y ++ available_of y)) zones_is

    -- refusal 4
    pub bad_page_law : scanned_of g.planes g.logical (scan_in xs g.pages bs) floor (take g.logical entries) map ≡ record { top = None; map = m } → Strode (from_plan g k) s xs map 4 xs m s
    unfolding carried from_plan first_number apply_op
    bad_page_law h =
        let q = refused_back g.planes g.logical (scan_in xs g.pages bs) floor (take g.logical entries) map m h in
        let bad : pages_good g.planes g.logical (scanned_at g xs k) ≡ false = ap (pages_good g.planes g.logical) (sym scan_is) ∙ q.0 in
        λ hold. rw (d.ok, bad, q.1)

    -- done
    pub recovers : (t : ℕ) → scanned_of g.planes g.logical (scan_in xs g.pages bs) floor (take g.logical entries) map ≡ record { top = Some t; map = m }
        → (version number : ℕ) → version ≡ max floor t → number ≡ number_at xs k → (r : State) → r ≡ recovered_of g zones version number k
        → Strode (from_plan g k) s xs map 0 xs m r
    unfolding carried from_plan first_number apply_op recover_plan recovered_map recovered_state recovered_of
    recovers t h version number ev en r er =
        let q = passed_back g.planes g.logical (scan_in xs g.pages bs) floor (take g.logical entries) map m t h in
        let ok : pages_good g.planes g.logical (scanned_at g xs k) ≡ true = ap (pages_good g.planes g.logical) (sym scan_is) ∙ q.0 in
        let v : version ≡ max (floor_at g xs k) (top (scanned_at g xs k)) = ev ∙ rw (q.1.0, floor_is, scan_is) in
        let n : m ≡ redone g.planes (floor_at g xs k) (scanned_at g xs k) (take g.logical (entries_at g xs k)) = q.1.1 ∙ rw (floor_is, scan_is, d.used) in
        λ hold. rw (d.ok, ok, er, v, n, en, zones_is)

-- ---- refusal 3 by its halves: t of the map entries, u of the zone page's data
module _ (g : Geometry) (entries z : List ℕ) (t : Bool) (et : t ≡ (map_ok g (take g.logical entries) && all (eqb unmapped) (drop g.logical entries))) where
  pub entries_bad : t ≡ false → load_ok g entries z ≡ false
  entries_bad e = sym (halves g entries z) ∙ rw (← et, e)

  pub load_is : (u : Bool) → u ≡ zone_page_ok g z → t ≡ true → load_ok g entries z ≡ u
  load_is u eu e = sym (halves g entries z) ∙ rw (← et, ← eu, e)

-- ---- refusal 3 of what is read: l is the entries of m map pages, over 1024 zeros
module _ (g : Geometry) (s : State) (xs map : List ℕ) (k : ℕ) (h : Standing g xs map k) (m : ℕ) (em : m ≡ map_pages g) (l : List ℕ)
    (el : l ≡ load_map xs k m ++ replicate (1024 - 256 * m) 0) where
  abbrev entries : List ℕ
  entries = take (256 * m) l

  abbrev z : List ℕ
  z = take ((k + m) * 528 + 512 - (k + m) * 528) (drop ((k + m) * 528) xs)

  entries_are : entries ≡ entries_at g xs k
  entries_are = let f = maps_fit g xs map k h in entries_used xs l k m (omega arith) el ∙ ap (load_map xs k) em

  zones_are : z ≡ zones_at g xs k
  zones_are = data_part xs (k + m) ∙ ap (λ (j : ℕ). data_at xs (k + j)) em

  load_at : (b : Bool) → load_ok g entries z ≡ b → load_ok g (entries_at g xs k) (zones_at g xs k) ≡ b
  load_at b e = rw (← entries_are, ← zones_are) e

  module _ (t : Bool) (et : t ≡ (map_ok g (take g.logical entries) && all (eqb unmapped) (drop g.logical entries))) where
    pub entries_refused : t ≡ false → Strode (from_plan g k) s xs map 3 xs map s
    entries_refused e = bad_checkpoint_law g s xs map k (load_at false (entries_bad g entries z t et e))

    module _ (e : t ≡ true) (u : Bool) (eu : u ≡ zone_page_ok g z) where
      pub zones_refused : u ≡ false → Strode (from_plan g k) s xs map 3 xs map s
      zones_refused f = bad_checkpoint_law g s xs map k (load_at false (load_is g entries z t et u eu e ∙ f))

      pub loaded : u ≡ true → Loaded g xs k z entries
      loaded f = record { zones = zones_are; used = entries_are; ok = load_at true (load_is g entries z t et u eu e ∙ f) }
