-- `encoding::put_place` meets its contract: the fields are laid one after the other. Assumes nothing.
use Rattle.std.proofs.Common.{◌≡◌, refl, rules, arith, length, ◌+◌, ◌*◌}
use Rattle.model.specs.Bytes.{bytes32}
use Rattle.encoding.specs.Encoding.{place_bytes}
use Rattle.encoding.proofs.Laid.{laid_none, laid_one, laid_more, laid_join, laid_size}
use Rattle.encoding.proofs.put_place.Goals as goal

pub returns : goal.returns
unfolding place_bytes
returns c =
    let p = c.args.p.now in
    let at = 281 + 325 * c.args.i in
    let h : length c.args.to.now ≡ 2881 = search rules in
    let k : length p.lpns ≡ 64 = search rules in
    let m : length p.ppns ≡ 64 = search rules in
    let d : length p.drops ≡ 64 = search rules in
    let one = laid_one (laid_more (laid_none c.args.to.now at (omega arith)) at (bytes32 p.id) c.put32.ensures (omega arith) (omega arith)) (at + 4) p.count refl (omega arith) in
    let two = laid_join one (laid_size 128 c.put_halves.ensures (omega arith)) refl in
    let three = laid_join two (laid_size 128 c.put_halves-2.ensures (omega arith)) refl in
    laid_join three (laid_size 64 c.put_drops.ensures d) refl
