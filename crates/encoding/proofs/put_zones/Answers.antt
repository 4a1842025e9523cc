-- `encoding::put_zones` meets its contract: the fields are laid one after the other. Assumes nothing.
use Rattle.std.proofs.Common.{◌≡◌, refl, rules, arith, length}
use Rattle.encoding.specs.Encoding.{zone_bytes}
use Rattle.encoding.proofs.Laid.{laid_none, laid_one, laid_copied}
use Rattle.encoding.proofs.put_zones.Goals as goal

pub returns : goal.returns
unfolding zone_bytes
returns c =
    let z = c.args.z.now in
    let h : length c.args.to.now ≡ 2881 = c.requires in
    let a : length z.available ≡ 3 = search rules in
    let u : length z.unavailable ≡ 126 = search rules in
    let f : length z.free ≡ 126 = search rules in
    let one = laid_one (laid_copied (laid_none c.args.to.now 8 (omega arith)) 8 3 z.available c.copy_from_slice.ensures.after a refl (omega arith)) 11 z.na refl (omega arith) in
    let two = laid_one (laid_copied one 12 126 z.unavailable c.copy_from_slice-2.ensures.after u refl (omega arith)) 138 z.nu refl (omega arith) in
    let three = laid_one (laid_copied two 139 126 z.free c.copy_from_slice-3.ensures.after f refl (omega arith)) 265 z.nf refl (omega arith) in
    laid_one three 266 z.pointer refl (omega arith)
