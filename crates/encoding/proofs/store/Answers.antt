-- `encoding::store` meets its contract: the fields are laid one after the other and fill the bytes. Assumes nothing.
use Rattle.std.proofs.Common.{◌≡◌, refl, arith, length}
use Rattle.model.specs.Bytes.{bytes16, bytes32}
use Rattle.encoding.specs.Encoding.{kind_of, stride_of, plane_byte, bytes_of}
use Rattle.encoding.proofs.Laid.{laid_one, laid_by, laid_more, laid_join, laid_all}
use Rattle.encoding.proofs.store.Goals as goal

pub returns : goal.returns
unfolding bytes_of
returns c =
    let s = c.args.s.now in
    let h : length c.args.to.now ≡ 2881 = c.requires in
    let one = laid_join c.put_geometry.ensures c.put_zones.ensures refl in
    let two = laid_more (laid_more one 267 (bytes32 s.version) c.put32.ensures refl (omega arith)) 271 (bytes32 s.checkpoint) c.put32-2.ensures refl (omega arith) in
    let three = laid_one (laid_one two 275 s.front refl (omega arith)) 276 s.first refl (omega arith) in
    let four = laid_by three 277 (kind_of s.work) refl (omega arith) c.kind_of.ensures in
    let five = laid_more four 278 (bytes16 (stride_of s.work)) (rw c.stride_of.ensures at c.put16.ensures) refl (omega arith) in
    let six = laid_by five 280 (plane_byte s.last) refl (omega arith) c.plane_byte.ensures in
    laid_all (laid_join six c.put_places.ensures refl) h
