-- `zones::judged` meets its contract: the near identifiers are listed, and the unavailable blocks and the leavers are judged. Assumes nothing.
use mathlib.Core.Path.{ap, ◌∙◌}
use native.Mathlib.Omega.{arith}
use lib.ListN.{length, length-take}
use Rattle.zones.proofs.Sliding.{within_both}
use Rattle.zones.proofs.judged.Goals as goal

pub list_near-requires : goal.list_near-requires
list_near-requires c = (c.requires.near, c.none-near.ensures)

pub unavailable-requires : goal.unavailable-requires
unavailable-requires c = let s = c.requires.space in omega arith

pub joined-all-requires : goal.joined-all-requires
joined-all-requires c =
    let z = c.args.z in
    let s = c.requires.space in
    let l = length-take z.nu z.unavailable in
    let e = ap length c.unavailable.ensures in
    omega arith

pub judge-requires : goal.judge-requires
judge-requires c = rw (c.as_slice-2.ensures, c.joined-all.ensures, c.unavailable.ensures) (within_both c.args.array.now c.args.pages c.args.z c.args.stay.now c.args.leave.now c.requires)

pub returns : goal.returns
returns c = c.judge.ensures ∙ rw (c.as_slice.ensures, c.list_near.ensures, c.as_slice-2.ensures, c.joined-all.ensures, c.unavailable.ensures)
