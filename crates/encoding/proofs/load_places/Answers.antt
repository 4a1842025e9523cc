-- `encoding::load_places` meets its contract: each place is what was read for it. Assumes nothing.
use Rattle.encoding.proofs.Read.{places_read}
use Rattle.encoding.proofs.load_places.Goals as goal

pub returns : goal.returns
returns c = places_read c.args.from.now _ _ _ _ _ _ _ _ c.load_place.ensures c.load_place-2.ensures c.load_place-3.ensures c.load_place-4.ensures c.load_place-5.ensures c.load_place-6.ensures c.load_place-7.ensures c.load_place-8.ensures
