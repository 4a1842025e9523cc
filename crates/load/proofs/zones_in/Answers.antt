-- `load::zones_in` meets its contract: the three lists, one after the other. Assumes nothing.
use mathlib.Core.Path.{◌≡◌, refl, ap}
use lib.ListN.{length, take, drop, get_or, length-take}
use Prim.Native.Nat.{◌+◌, ◌-◌}
use native.Mathlib.Omega.{arith}
use Rattle.load.proofs.Lists.{part_is, zones_read}
use Rattle.load.proofs.zones_in.Goals as goal

pub zones_of-requires : goal.zones_of-requires
zones_of-requires c =
    let n = get_or c.args.z.now 5 0 in
    let few = c.requires.available in
    let a : length c.of-available.result ≡ length (take (8 + n - 8) (drop 8 c.args.z.now)) = ap length c.of-available.ensures in
    omega (arith, length-take (8 + n - 8) (drop 8 c.args.z.now))

pub returns : goal.returns
returns c =
    let a = c.args.z.now in
    let na = get_or a 5 0 in
    let nu = get_or a 6 0 in
    let nf = get_or a 7 0 in
    let ka = part_is a 8 (8 + na) na c.of-available.result refl c.of-available.ensures in
    let ku = part_is a (8 + na) (8 + na + nu) nu c.of-unavailable.result refl c.of-unavailable.ensures in
    let kf = part_is a (8 + na + nu) (8 + na + nu + nf) nf c.of-free.result refl c.of-free.ensures in
    zones_read a na nu nf c.of-available.result c.of-unavailable.result c.of-free.result c.zones_of.result refl refl refl ka ku kf c.zones_of.ensures
