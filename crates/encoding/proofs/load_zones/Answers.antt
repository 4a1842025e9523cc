-- `encoding::load_zones` meets its contract: each field is what was read for it. Assumes nothing.
use Rattle.encoding.proofs.Read.{zones_read}
use Rattle.encoding.proofs.load_zones.Goals as goal

pub returns : goal.returns
returns c = zones_read c.args.from.now _ _ _ c.load_bytes.ensures c.load_bytes-2.ensures c.load_bytes-3.ensures
