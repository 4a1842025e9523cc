-- `reclaim::copy_stride` meets its contract: from what its calls ensure. Assumes nothing.
use mathlib.Core.Path.{refl, ◌∙◌}
use native.Mathlib.Omega.{arith}
use Rattle.change.proofs.Next.{next_fits, next_small, next_erased, some_pages}
use Rattle.strides.proofs.Within.{fit_ready}
use Rattle.reclaim.proofs.Room.{copy_places}
use Rattle.reclaim.proofs.Carried.{data_copied, copy_strode}
use borrow.Author.Rules.{rules}
use Rattle.reclaim.proofs.copy_stride.Goals as goal

pub overflow_cast-j : goal.overflow_cast-j
overflow_cast-j c =
    let p = copy_places c.args.s c.args.array.now c.args.map.now c.args.j c.requires in
    omega arith

pub next_page-k-requires : goal.next_page-k-requires
next_page-k-requires c = fit_ready _ _ _ c.requires.fit

pub overflow_mul-from : goal.overflow_mul-from
overflow_mul-from c =
    let p = copy_places c.args.s c.args.array.now c.args.map.now c.args.j c.requires in
    omega arith

pub overflow_add-from : goal.overflow_add-from
overflow_add-from c =
    let p = copy_places c.args.s c.args.array.now c.args.map.now c.args.j c.requires in
    omega arith

pub slice_bounds-copy_from_slice-end-2 : goal.slice_bounds-copy_from_slice-end-2
slice_bounds-copy_from_slice-end-2 c =
    let p = copy_places c.args.s c.args.array.now c.args.map.now c.args.j c.requires in
    omega arith

pub overflow_cast-lpn : goal.overflow_cast-lpn
overflow_cast-lpn c =
    let p = copy_places c.args.s c.args.array.now c.args.map.now c.args.j c.requires in
    let e = c.find_page-lpn.ensures in
    omega arith

pub put_lone-requires : goal.put_lone-requires
put_lone-requires c =
    let p = copy_places c.args.s c.args.array.now c.args.map.now c.args.j c.requires in
    let r = fit_ready _ _ _ c.requires.fit in
    let e = c.next_page-k.ensures in
    record {
      inside = rw e (next_fits c.args.s c.args.array.now r);
      number = rw e (next_small c.args.s c.args.array.now r);
      page = rw c.find_page-lpn.ensures p.entry;
      bytes = search rules;
    }

pub with_copied-requires : goal.with_copied-requires
with_copied-requires c = some_pages c.args.s c.args.array.now (fit_ready _ _ _ c.requires.fit)

pub returns : goal.returns
returns c =
    let a = c.args in
    let r = fit_ready _ _ _ c.requires.fit in
    let d = c.copy_from_slice.ensures.after ∙ data_copied a.array.now a.j _ refl in
    copy_strode a.s a.array.now a.map.now a.j _ c.find_page-lpn.ensures _ d _ c.next_page-k.ensures
    (next_erased a.s a.array.now r c.requires.clean)
    _ _ c.put_lone.ensures _ c.with_copied.ensures
