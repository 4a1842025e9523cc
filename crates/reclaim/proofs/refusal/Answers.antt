-- `reclaim::refusal` meets its contract: by the cases of what is picked. Assumes what refusal 1 leaves.
use mathlib.Core.Path.{sym, ap, ◌∙◌}
use native.Mathlib.Omega.{arith}
use Rattle.model.specs.Strides.{picked}
use Rattle.arrays.specs.Ranges.{geometry_in}
use Rattle.checkpoint.specs.Found.{found_of}
use Rattle.reclaim.specs.Copies.{looked}
use Rattle.reclaim.proofs.Carried.{none_gains}
use Rattle.reclaim.proofs.refusal.Goals as goal

pub picked-requires : goal.picked-requires
picked-requires c =
    let n = c.requires.entries in
    let l = (geometry_in c.args.s.geometry c.requires.shape).logical_most in
    record { shape = c.requires.shape; lists = c.requires.zones; few = omega arith }

pub block_refusal-requires : goal.block_refusal-requires
unfolding picked
block_refusal-requires c = (c.requires, sym c.picked.ensures ∙ ap found_of c.in-Some.is)

pub returns-in_default-clause-refusal : goal.returns-in_default-clause-refusal
unfolding picked
returns-in_default-clause-refusal c = none_gains (looked c.args.s c.args.array.now c.args.map.now) (sym c.picked.ensures ∙ ap found_of c.in_default.is)
