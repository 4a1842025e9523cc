-- The zones of a formatted device: all data blocks free, three taken; over erased data blocks they are tidy, and nothing is scanned.
use Rattle.std.specs.Prelude.{◌≡◌, true, ℕ, ◌+◌, ◌-◌, ◌<◌}
use Rattle.std.proofs.Math.Path.{refl, ap}
use Rattle.std.proofs.Common.{◌∙◌, arith}
use mathlib.Core.List.{List, []}
use Rattle.std.proofs.Math.ListN.{length}
use Rattle.model.specs.Lists.{up_from}
use Rattle.model.specs.Geometry.{data_block}
use Rattle.model.specs.Zones.{used_in, scan_of, zones_of, zones_taken, zones_ok, Taken, refill, format_zones}
use Rattle.model.specs.declared.Geometry.{Geometry}
use Rattle.arrays.specs.Tests.{length_up}
use Rattle.arrays.specs.Ranges.{block_is}
use Rattle.arrays.specs.Scan.{Blank, scan_blank}
use Rattle.arrays.specs.ZoneLists.{zones_of_available, zones_of_unavailable, zones_of_free, zones_of_ok}
use Rattle.scanlog.specs.Occ.{occ, occ_append}
use Rattle.scanlog.specs.Rising.{rising_sub, up_once, up_in, up_rising}
use Rattle.scanlog.specs.Shape.{Shape, shape_ok}
use Rattle.scanlog.specs.Take.{Took, took_refill}
use Rattle.scanlog.specs.Order.{is_each, blank_order}
use Rattle.scanlog.specs.Tidy.{Tidy}

module _ (g : Geometry) (big : 2 < g.blocks) where
  first : Taken
  first = record { available = []; free = up_from 2 (g.blocks - 2); pointer = 2 }

  last : Taken
  last = refill g 3 first

  took : Took g first last
  unfolding last
  took = took_refill g 3 first

  format_is : format_zones g ≡ zones_of last.available [] last.free last.pointer
  unfolding format_zones zones_taken last first
  format_is = refl

  first_block : (c : ℕ) → 0 < occ c first.free → data_block g c ≡ true
  unfolding first
  first_block c h = let r = up_in c 2 (g.blocks - 2) h in block_is g c (omega (arith, r.0)) (omega (arith, r.1))

  -- each block stands as often as it was free
  each : (c : ℕ) → occ c last.available + occ c last.free ≡ occ c first.free
  unfolding first
  each c = omega (arith, took.each c, ap (occ c) took.available)

  pub format_ok : zones_ok g (format_zones g) ≡ true
  unfolding first
  format_ok =
      let a = last.available in
      let f = last.free in
      let n : Shape g (length a) (length {A = ℕ} []) (length f) a [] f last.pointer
      = record {
        sum = omega (arith, took.sum, ap length took.available, length_up 2 (g.blocks - 2));
        few = took.few (omega arith);
        blocks = λ c h. first_block c (omega (arith, each c, occ_append c a f));
        distinct = λ c. omega (arith, each c, occ_append c a f, up_once c 2 (g.blocks - 2));
        ascending = rising_sub took.sub (up_rising 2 (g.blocks - 2));
        pointer = took.pointer first_block (block_is g 2 (omega arith) big);
      } in
      ap (zones_ok g) format_is ∙ zones_of_ok a [] f last.pointer g ∙ shape_ok g (length a) 0 (length f) a [] f last.pointer n

  module _ (xs : List ℕ) (erased : (b : ℕ) → data_block g b ≡ true → used_in xs g.pages b ≡ 0) where
    blank_available : Blank xs g.pages last.available
    blank_available = is_each (λ (c : ℕ). used_in xs g.pages c ≡ 0) last.available (λ c h. erased c (first_block c (omega (arith, each c))))

    pub tidy_format : Tidy g xs (format_zones g)
    tidy_format = record {
      ok = format_ok;
      order = λ one. rw (format_is, zones_of_available last.available [] last.free last.pointer)
          (blank_order xs g.pages last.available blank_available);
      blank = rw (format_is, zones_of_free last.available [] last.free last.pointer)
          (is_each (λ (c : ℕ). used_in xs g.pages c ≡ 0) last.free (λ c h. erased c (first_block c (omega (arith, each c)))));
    }

    pub scan_format : scan_of xs g.pages (format_zones g) ≡ []
    unfolding scan_of
    scan_format =
        rw (
          format_is,
          zones_of_available last.available [] last.free last.pointer,
          zones_of_unavailable last.available [] last.free last.pointer,
        )
        (scan_blank xs g.pages last.available blank_available)
