-- `strides::map_stride` meets its contract: from what its calls ensure. Assumes nothing.
use native.Mathlib.Omega.{arith}
use Rattle.strides.proofs.Within.{page_inside}
use Rattle.strides.proofs.Carried.{map_strode}
use mathlib.Core.Path.{refl}
use borrow.Author.Rules.{rules}
use Rattle.strides.proofs.map_stride.Goals as goal

pub map_data-d-requires : goal.map_data-d-requires
map_data-d-requires c =
    let h = page_inside _ _ _ _ _ c.requires.0 in
    omega arith

pub overflow_mul-k : goal.overflow_mul-k
overflow_mul-k c =
    let h = page_inside _ _ _ _ _ c.requires.0 in
    omega arith

pub overflow_add-k-2 : goal.overflow_add-k-2
overflow_add-k-2 c =
    let h = page_inside _ _ _ _ _ c.requires.0 in
    omega arith

pub program_at-requires : goal.program_at-requires
program_at-requires c = ((page_inside _ _ _ _ _ c.requires.0).fits, search rules)

pub overflow_cast-q : goal.overflow_cast-q
overflow_cast-q c =
    let h = page_inside _ _ _ _ _ c.requires.0 in
    omega arith

pub overflow_add-i : goal.overflow_add-i
overflow_add-i c =
    let h = page_inside _ _ _ _ _ c.requires.0 in
    omega arith

pub overflow_cast-i : goal.overflow_cast-i
overflow_cast-i c =
    let h = page_inside _ _ _ _ _ c.requires.0 in
    omega arith

pub returns : goal.returns
returns c = map_strode c.args.s c.args.array.now c.args.map.now c.args.q c.args.i c.requires.0.blank _ _ _ c.program_at.ensures _ refl c.map_data-d.ensures c.map_spare-spare.ensures _ c.with_work-t.ensures
