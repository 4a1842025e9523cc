-- The zones that a checkpoint leaves: the lists that its steps make lie in the array and fit, and together they are the slide of model.
-- Assumes nothing.
use mathlib.Core.Logic.{◌⊎◌, inl, inr}
use mathlib.Core.Bool.{Bool, not}
use mathlib.Core.List.{List, ◌++◌}
use Prim.Native.Nat.{ℕ, ◌+◌, ◌-◌, ◌*◌, ◌≤◌, ◌<◌}
use native.Mathlib.Omega.{arith}
use lib.ListN.{length, get_or, length-take, length-append, get_or-append}
use lib.Seq.{get_or-append_right}
use Rattle.std.proofs.lemmas.Bool.{cases_lt}
use Rattle.model.specs.Lists.{those}
use Rattle.model.specs.Geometry.{data_block}
use Rattle.model.specs.Zones.{available_of, unavailable_of, free_of, is_full, staying, leaving}
use Rattle.model.specs.declared.Geometry.{Geometry}
use Rattle.model.specs.declared.Zones.{Zones}
use Rattle.arrays.specs.Ranges.{geometry_in}
use Rattle.flash.specs.Ranges.{Within}
use Rattle.flash.proofs.Ranges.{within_data}
use Rattle.refill.specs.Taking.{Fits}
use Rattle.zones.specs.Judging.{Ready, Leaving}
use Rattle.zones.proofs.Picks.{length_those, all_those}
use Rattle.zones.proofs.Listed.{ready_listed, unavailable_within}

-- the unavailable blocks and the leavers lie in the array
pub within_both : (xs : List ℕ) (p : ℕ) (z : Zones) (stay leave : List ℕ) → Leaving xs p z stay leave → Within (length xs) p (unavailable_of z ++ leave)
within_both xs p z stay leave h =
    let s = h.space in
    let u = unavailable_of z in
    record {
      each = λ i k. go i k;
      few = omega (arith, length-append u leave, length-take z.nu z.unavailable);
    }
  where
    go : (i : ℕ) → i < length (unavailable_of z ++ leave) → get_or (unavailable_of z ++ leave) i 0 * p * 528 + p * 528 ≤ length xs
    go i k = side (cases_lt i (length (unavailable_of z)))
      where
        side : (i < length (unavailable_of z)) ⊎ (length (unavailable_of z) ≤ i) → get_or (unavailable_of z ++ leave) i 0 * p * 528 + p * 528 ≤ length xs
        side (inl l) = rw (get_or-append (unavailable_of z) leave 0 i l) (h.old.each i l)
        side (inr g) = rw (get_or-append_right (unavailable_of z) leave i 0 g) (h.new.each (i - length (unavailable_of z)) (omega (arith, length-append (unavailable_of z) leave)))

-- ---- the slide
module _ (g : Geometry) (xs : List ℕ) (z : Zones) (ready : Ready g xs z) where
  -- no more than three are available
  few_available : length (available_of z) ≤ 3
  few_available =
      let a = (ready_listed g xs z ready).few in
      omega (arith, length-take z.na z.available)

  -- those of the available blocks that pass a test
  pub picked_within : (q : ℕ → Bool) → Within (length xs) g.pages (those q (available_of z))
  picked_within q =
      let a = few_available in
      let t = length_those q (available_of z) in
      within_data g (length xs) (those q (available_of z)) ready.bytes (omega arith) (all_those q (data_block g) (available_of z) (ready_listed g xs z ready).available)

  -- what stays and what is free
  pub slide_fits : Fits g (record { available = staying xs g.pages (available_of z); free = free_of z; pointer = z.pointer })
  unfolding staying
  slide_fits =
      let l = ready_listed g xs z ready in
      let a = few_available in
      let t = length_those (λ (b : ℕ). not (is_full xs g.pages b)) (available_of z) in
      record { shape = ready.shape; few = omega arith; blocks = l.free }

  -- no more blocks are judged than a list has room for
  pub slide_leaving : Leaving xs g.pages z (staying xs g.pages (available_of z)) (leaving xs g.pages (available_of z))
  unfolding staying leaving
  slide_leaving =
      let l = ready_listed g xs z ready in
      let a = few_available in
      let full = is_full xs g.pages in
      let left : ℕ → Bool = λ (b : ℕ). not (is_full xs g.pages b) in
      let tl = length_those full (available_of z) in
      let ts = length_those left (available_of z) in
      let n = length-take z.na z.available in
      let c = l.counts in
      record {
        near = record { inside = picked_within left; few = omega arith; short = (geometry_in g ready.shape).pages_most };
        old = unavailable_within g xs z ready;
        new = picked_within full;
        space = omega arith;
      }
