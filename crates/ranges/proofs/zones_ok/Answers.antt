-- `ranges::zones_ok` meets its contract: the counts, then the lists one after the other. Assumes nothing.
use mathlib.Core.Path.{◌≡◌, ap, ◌∙◌}
use Prim.Native.Nat.{◌+◌, ◌-◌, ◌≤◌}
use native.Mathlib.Omega.{arith}
use mathlib.Core.Bool.{true}
use mathlib.Core.List.{◌++◌}
use lib.ListN.{length, length-append}
use lib.Seq.{length-take-le}
use borrow.Author.Tests.{le-leb, lt-leb}
use Rattle.model.specs.Geometry.{geometry_ok}
use Rattle.model.specs.declared.Geometry.{Geometry}
use Rattle.model.specs.declared.Zones.{Zones}
use Rattle.model.specs.Zones.{available_of, unavailable_of, free_of, listed_in, zone_lists_ok, zones_ok}
use Rattle.arrays.specs.Ranges.{geometry_in}
use Rattle.ranges.proofs.Listed.{laid_ok, laid_lists}
use borrow.Author.Rules.{rules}
use Rattle.ranges.proofs.zones_ok.Goals.{then-na-nu-via-then-na-nu, then-na-nu-via-else-na-nu+then-na-gt3}
use Rattle.ranges.proofs.zones_ok.Goals as goal

-- with the counts in range, the lists together are as long as these say, and at most 126
listed-long : (g : Geometry) (z : Zones) → length z.available ≡ 3 → length z.unavailable ≡ 126 → length z.free ≡ 126 → geometry_ok g ≡ true
    → z.na + z.nu + z.nf ≤ g.blocks - 2 → z.na ≤ 3
    → (length (listed_in z) ≡ z.na + (z.nu + z.nf)) × (z.na + (z.nu + z.nf) ≤ 126)
listed-long g z la lu lf ok n f =
    let h = geometry_in g ok in
    let ka = length-take-le z.na z.available (omega arith) in
    let ku = length-take-le z.nu z.unavailable (omega arith) in
    let kf = length-take-le z.nf z.free (omega arith) in
    (omega (arith, length-append (available_of z) (unavailable_of z ++ free_of z), length-append (unavailable_of z) (free_of z)), omega arith)

pub overflow_sub-from : goal.overflow_sub-from
overflow_sub-from c =
    let h = (geometry_in c.args.g c.requires).blocks_least in
    let f = c.from.ensures in
    omega arith

pub returns-then-na-nu : goal.returns-then-na-nu
unfolding zones_ok zone_lists_ok
returns-then-na-nu c =
    let z = c.args.z in
    elim c.then-na-nu.branch [
      | then-na-nu-via-then-na-nu w ↦ let t = rw (c.from-na.ensures, c.from-nu.ensures, c.from-nf.ensures, c.from.ensures) at w.if-na-nu.true in simp (lt-leb _ _ t)
      | then-na-nu-via-else-na-nu+then-na-gt3 w ↦
          let f = rw (c.from-na.ensures, c.from-nu.ensures, c.from-nf.ensures, c.from.ensures) at w.if-na-nu.false in
          let t = rw c.from-na.ensures at w.if-na-gt3.true in
          simp (le-leb _ _ f, lt-leb _ _ t)
    ]

pub listed-requires : goal.listed-requires
listed-requires c =
    let h = (geometry_in c.args.g c.requires).blocks_most in
    let f = rw (c.from-na.ensures, c.from-nu.ensures, c.from-nf.ensures, c.from.ensures) at c.if-na-nu.false in
    record { available = rw c.from-na.ensures at c.if-na-gt3.false; all = omega arith }

pub lists_ok-requires : goal.lists_ok-requires
lists_ok-requires c =
    let f = rw (c.from-na.ensures, c.from-nu.ensures, c.from-nf.ensures, c.from.ensures) at c.if-na-nu.false in
    let l = listed-long c.args.g c.args.z (search rules) (search rules) (search rules) c.requires f (rw c.from-na.ensures at c.if-na-gt3.false) in
    let na = c.from-na.ensures in
    let nu = c.from-nu.ensures in
    let m = ap length (c.as_slice.ensures ∙ c.listed.ensures) in
    record { shape = c.requires; parts = omega arith; all = omega arith }

pub returns : goal.returns
unfolding zones_ok
returns c =
    let z = c.args.z in
    let g = c.args.g in
    let h = geometry_in g c.requires in
    let la : length z.available ≡ 3 = search rules in
    let lu : length z.unavailable ≡ 126 = search rules in
    let lf : length z.free ≡ 126 = search rules in
    let f = rw (c.from-na.ensures, c.from-nu.ensures, c.from-nf.ensures, c.from.ensures) at c.if-na-nu.false in
    let few = rw c.from-na.ensures at c.if-na-gt3.false in
    let most = h.blocks_most in
    let ka = length-take-le z.na z.available (omega arith) in
    let ku = length-take-le z.nu z.unavailable (omega arith) in
    let kf = length-take-le z.nf z.free (omega arith) in
    c.lists_ok.ensures
    ∙ rw (c.from-na.ensures, c.from-nu.ensures) (ap (λ u. laid_ok g u z.na z.nu z.pointer) (c.as_slice.ensures ∙ c.listed.ensures) ∙ laid_lists g (available_of z) (unavailable_of z) (free_of z) z.na z.nu z.nf z.pointer ka ku kf)
