-- `recover::recovered` is `recovered_of`: the places are free ones. Assumes nothing.
use native.Mathlib.Omega.{arith}
use Rattle.arrays.specs.Ranges.{geometry_in}
use Rattle.recover.specs.Recovering.{recovered_of}
use Rattle.recover.proofs.recovered.Goals as goal

pub nonzero_div-result : goal.nonzero_div-result
nonzero_div-result c = let i = geometry_in c.args.g c.requires.0 in let l = i.pages_least in omega arith

pub returns : goal.returns
unfolding recovered_of
returns c = simp c.free-ps.ensures
