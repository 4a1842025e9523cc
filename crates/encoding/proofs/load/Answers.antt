-- `encoding::load` meets its contract: each field is what was read for it. Assumes nothing.
use Rattle.std.proofs.Common.{ap, ◌∙◌}
use Rattle.encoding.specs.Encoding.{work_from}
use Rattle.encoding.proofs.Read.{state_read}
use Rattle.encoding.proofs.load.Goals as goal

pub returns : goal.returns
returns c =
    let w = c.load_work.ensures ∙ ap (work_from _) c.word16-5.ensures in
    state_read c.args.from.now _ _ _ _ _ _ _ _ _ _ c.word16.ensures c.word16-2.ensures c.word16-3.ensures c.word16-4.ensures c.load_zones.ensures c.word32.ensures c.word32-2.ensures w c.load_plane.ensures c.load_places.ensures
