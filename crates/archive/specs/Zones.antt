-- Zone lists that refusal 3 passes have room in a state: as many as the types have, each padded to its length. Assumes nothing.
use Rattle.std.specs.Prelude.{ℕ, ◌+◌, ◌-◌, ◌≤◌, ◌≡◌, true, List, length, get_or, take, drop, eqb, leb}
use Rattle.std.proofs.Common.{arith, length-append, leb-true}
use Rattle.std.proofs.lemmas.List.{length-replicate}
use Rattle.model.specs.Lists.{all, pad_to}
use Rattle.model.specs.Geometry.{unmapped, map_ok}
use Rattle.model.specs.Zones.{zones_of, zone_lists_ok, zones_ok, zones_taken, slide, format_zones, freed}
use Rattle.model.specs.Checkpoint.{at, available_in, unavailable_in, free_in, zones_in, load_ok}
use Rattle.model.specs.declared.Geometry.{Geometry}
use Rattle.model.specs.declared.Place.{Place}
use Rattle.model.specs.declared.Zones.{Zones}
use Rattle.arrays.specs.Tests.{and_left, and_right}
use Rattle.arrays.specs.Splice.{length_part_min}
use Rattle.arrays.specs.Ranges.{InGeometry, block_is}
use Rattle.scanlog.specs.Shape.{shape, checkpointed_unlisted}
use Rattle.scanlog.specs.Pick.{Picked}
use Rattle.scanlog.specs.Slide.{slide_ok}
use Rattle.scanlog.specs.Free.{freed_ok}
use Rattle.scanlog.specs.Start.{format_ok}

pub record ZonesShaped (z : Zones) : Type 0 where
  pub available : length z.available ≡ 3
  pub unavailable : length z.unavailable ≡ 126
  pub free : length z.free ≡ 126

length_pad : (n : ℕ) (l : List ℕ) → length l ≤ n → length (pad_to n l) ≡ n
unfolding pad_to
length_pad n l h = simp (length-append, length-replicate) (omega arith)

-- a zone record of lists that are short enough
lists_shaped : (a u f : List ℕ) (p : ℕ) → length a ≤ 3 → length u ≤ 126 → length f ≤ 126 → ZonesShaped (zones_of a u f p)
unfolding zones_of
lists_shaped a u f p ha hu hf = record { available = length_pad 3 a ha; unavailable = length_pad 126 u hu; free = length_pad 126 f hf }

-- of lists that refusal 3 passes: no more than B − 2 blocks in all, and at most three available
ok_shaped : (g : Geometry) (a u f : List ℕ) (p : ℕ) → InGeometry g → zones_ok g (zones_of a u f p) ≡ true → ZonesShaped (zones_of a u f p)
ok_shaped g a u f p r ok = let s = counts in lists_shaped a u f p (omega arith) (omega (arith, r.blocks_most)) (omega (arith, r.blocks_most))
  where
    counts : (length a + length u + length f ≤ g.blocks - 2) × (length a ≤ 3)
    counts = let s = shape g (zones_of a u f p) ok in unfold zones_of in (s.sum, s.few)

pub slide_shaped : (g : Geometry) (xs : List ℕ) (ps : List Place) (z : Zones) → InGeometry g → zones_ok g z ≡ true → ZonesShaped (slide g xs ps z)
slide_shaped g xs ps z r ok = let k = slide_ok g xs ps z ok in unfold slide zones_taken in ok_shaped g _ _ _ _ r (unfold slide zones_taken in k)

pub format_shaped : (g : Geometry) → InGeometry g → ZonesShaped (format_zones g)
format_shaped g r = let k = format_ok g (omega (arith, r.blocks_least)) in unfold format_zones zones_taken in ok_shaped g _ _ _ _ r (unfold format_zones zones_taken in k)

-- the picked block is a data block of no list, so there is room for it
pub freed_shaped : (g : Geometry) (z : Zones) (map : List ℕ) (b : ℕ) → InGeometry g → zones_ok g z ≡ true → Picked z map g.pages 2 (2 + (g.blocks - 2)) (at b) → ZonesShaped (freed z b)
freed_shaped g z map b r ok f =
    let k = freed_ok g z b (checkpointed_unlisted z b f.is) (block_is g b f.low (omega (arith, f.high, r.blocks_least))) ok in
    unfold freed in ok_shaped g _ _ _ _ r (unfold freed in k)

-- those that a recover reads, where refusal 3 passes them
pub load_shaped : (g : Geometry) (entries z : List ℕ) → InGeometry g → load_ok g entries z ≡ true → ZonesShaped (zones_in z)
unfolding load_ok zones_in zone_lists_ok
load_shaped g entries z r e =
    let e1 = and_right (map_ok g (take g.logical entries)) _ e in
    let e2 = and_right (all (eqb unmapped) (drop g.logical entries)) _ e1 in
    let e3 = and_left (zone_lists_ok g (get_or z 5 0) (get_or z 6 0) (get_or z 7 0) (available_in z) (unavailable_in z) (free_in z) (get_or z 4 0)) _ e2 in
    let sum : get_or z 5 0 + get_or z 6 0 + get_or z 7 0 ≤ g.blocks - 2 = leb-true _ _ (and_left (leb (get_or z 5 0 + get_or z 6 0 + get_or z 7 0) (g.blocks - 2)) _ e3) in
    let few : get_or z 5 0 ≤ 3 = leb-true _ _ (and_left (leb (get_or z 5 0) 3) _ (and_right (leb (get_or z 5 0 + get_or z 6 0 + get_or z 7 0) (g.blocks - 2)) _ e3)) in
    lists_shaped (available_in z) (unavailable_in z) (free_in z) (get_or z 4 0)
    (omega (arith, length_part_min 8 (get_or z 5 0) z))
    (omega (arith, r.blocks_most, length_part_min (8 + get_or z 5 0) (get_or z 6 0) z))
    (omega (arith, r.blocks_most, length_part_min (8 + get_or z 5 0 + get_or z 6 0) (get_or z 7 0) z))
