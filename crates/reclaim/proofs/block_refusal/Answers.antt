-- `reclaim::block_refusal` meets its contract: whether a page of the block is unmapped, then by the copies due. Assumes that the block is picked.
use native.Mathlib.Omega.{arith}
use Rattle.std.proofs.lemmas.Result.{err_from_is_err_and}
use Rattle.strides.proofs.Within.{fit_ready}
use Rattle.reclaim.specs.Copies.{looked}
use Rattle.reclaim.proofs.Room.{block_numbers}
use Rattle.reclaim.proofs.Picking.{picked_block}
use Rattle.reclaim.proofs.Carried.{block_gains_nothing, block_looked}
use Rattle.reclaim.proofs.block_refusal.Goals as goal

pub mapped_in-copies-requires : goal.mapped_in-copies-requires
mapped_in-copies-requires c = block_numbers c.args.s c.args.array.now c.args.map.now c.requires.0 c.args.b (picked_block c.args.s c.args.array.now c.args.map.now c.args.b c.requires.0 c.requires.1).0

pub returns-then-copies-pages-clause-refusal : goal.returns-then-copies-pages-clause-refusal
returns-then-copies-pages-clause-refusal c =
    block_gains_nothing (looked c.args.s c.args.array.now c.args.map.now) c.args.b _ c.requires.1 c.mapped_in-copies.ensures c.if-copies-pages.true

pub copies_refusal-requires : goal.copies_refusal-requires
copies_refusal-requires c =
    let n = block_numbers c.args.s c.args.array.now c.args.map.now c.requires.0 c.args.b (picked_block c.args.s c.args.array.now c.args.map.now c.args.b c.requires.0 c.requires.1).0 in
    (fit_ready _ _ _ c.requires.0, omega arith)

pub returns-in_err-copies_refusal-clause-refusal : goal.returns-in_err-copies_refusal-clause-refusal
returns-in_err-copies_refusal-clause-refusal c =
    let p = err_from_is_err_and c.from_residual.result c.from_residual.ensures.1 in
    rw (p.1, p.2, block_looked (looked c.args.s c.args.array.now c.args.map.now) c.args.b _ c.requires.1 c.mapped_in-copies.ensures c.if-copies-pages.false) c.in_err-copies_refusal.ensures

pub returns-clause-refusal : goal.returns-clause-refusal
returns-clause-refusal c =
    rw (block_looked (looked c.args.s c.args.array.now c.args.map.now) c.args.b _ c.requires.1 c.mapped_in-copies.ensures c.if-copies-pages.false) c.in_ok-copies_refusal.ensures

pub returns-clause-taken : goal.returns-clause-taken
returns-clause-taken c = record { block = c.requires.1; due = c.mapped_in-copies.ensures }
