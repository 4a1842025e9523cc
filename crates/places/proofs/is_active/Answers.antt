-- `places::is_active` meets its contract: an identifier is active where it has a place (`place_active`). Assumes nothing.
use Rattle.std.proofs.Common.{rules}
use Rattle.places.proofs.Ids.{place_active}
use Rattle.places.proofs.is_active.Goals as goal

pub returns : goal.returns
returns c = rw (c.is_some.ensures, c.place_of.ensures) (place_active _ _ (search rules))
