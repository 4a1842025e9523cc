-- `checkpoint::map_data` meets its contract. The loop's invariant: the first bytes are those of `j` entries. Assumes nothing.
use mathlib.Core.Path.{refl}
use Prim.Native.Nat.{◌*◌}
use native.Mathlib.Omega.{arith}
use borrow.Author.Rules.{rules}
use Rattle.model.specs.Checkpoint.{map_bytes}
use Rattle.checkpoint.proofs.Maps.{stored_more, stored_all}
use Rattle.checkpoint.proofs.map_data.Goals as goal

pub loop-j-init : goal.loop-j-init
loop-j-init c = record { page = refl; stored = unfold map_bytes in refl }

pub loop-j-preserved : goal.loop-j-preserved
loop-j-preserved c =
    let a = c.args in
    let so_far = c.loop-j.invariant in
    record {
      page = search rules;
      stored = stored_more a.map.now c.loop-j.d _ (256 * a.i) c.loop-j.j c.entry_at-x.result (omega arith) so_far.page c.entry_at-x.ensures so_far.stored c.put16.ensures;
    }

pub returns : goal.returns
returns c =
    let a = c.args in
    stored_all a.map.now c.loop-j.d (256 * a.i) c.loop-j.j (omega arith) c.loop-j.invariant.page c.loop-j.invariant.stored
