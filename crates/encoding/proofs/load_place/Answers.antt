-- `encoding::load_place` meets its contract: each field is what was read for it. Assumes nothing.
use Rattle.encoding.proofs.Read.{place_read}
use Rattle.encoding.proofs.load_place.Goals as goal

pub returns : goal.returns
returns c =
    let g = c.args in
    place_read g.from.now g.i _ _ _ _ c.word32.ensures c.load_halves.ensures c.load_halves-2.ensures c.load_drops.ensures
