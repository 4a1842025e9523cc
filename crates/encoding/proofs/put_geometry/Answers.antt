-- `encoding::put_geometry` meets its contract: the fields are laid one after the other. Assumes nothing.
use Rattle.std.proofs.Common.{refl, arith}
use Rattle.model.specs.Bytes.{bytes16}
use Rattle.encoding.specs.Encoding.{geometry_bytes}
use Rattle.encoding.proofs.Laid.{laid_none, laid_more}
use Rattle.encoding.proofs.put_geometry.Goals as goal

pub returns : goal.returns
unfolding geometry_bytes
returns c =
    let g = c.args.g in
    let one = laid_more (laid_none c.args.to.now 0 (omega arith)) 0 (bytes16 g.blocks) c.put16.ensures refl (omega arith) in
    let two = laid_more one 2 (bytes16 g.pages) c.put16-2.ensures refl (omega arith) in
    let three = laid_more two 4 (bytes16 g.logical) c.put16-3.ensures refl (omega arith) in
    laid_more three 6 (bytes16 g.planes) c.put16-4.ensures refl (omega arith)
