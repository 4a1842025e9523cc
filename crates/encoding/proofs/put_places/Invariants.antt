-- `encoding::put_places` meets its contract. The loop's invariant: the first i places are laid. Assumes nothing.
use Rattle.std.proofs.Common.{◌≡◌, ◌*◌, length, take}
use Rattle.encoding.specs.Encoding.{each, place_bytes, Laid}
use Rattle.encoding.proofs.put_places.Given as goal

abbrev pub invariant-loop-i : goal.invariant-loop-i
invariant-loop-i l = (length l.initial.to ≡ 2881) × Laid l.initial.to 281 (325 * l.i) (each place_bytes (take l.i l.places)) l.to
