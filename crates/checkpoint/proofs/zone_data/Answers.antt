-- `checkpoint::zone_data` meets its contract: eight bytes stored over zeros, and the zone lists behind them (`zone_stored`). Assumes nothing.
use mathlib.Core.List.{List, [], ◌∷◌, ◌++◌}
use mathlib.Core.Path.{ap, ◌∙◌}
use Prim.Native.Nat.{ℕ}
use native.Mathlib.Omega.{arith}
use lib.ListN.{length, length-set, length-take, length-drop}
use borrow.Author.Rules.{rules}
use Rattle.model.specs.Checkpoint.{zone_data}
use Rattle.model.specs.Bytes.{bytes32}
use Rattle.model.specs.Lists.{pad_to}
use Rattle.checkpoint.proofs.Stored.{zone_stored, listed_few}
use Rattle.checkpoint.proofs.zone_data.Goals as goal

pub slice_bounds-d-end : goal.slice_bounds-d-end
slice_bounds-d-end c = simp length-set (search rules)

pub copy_from_slice-requires : goal.copy_from_slice-requires
copy_from_slice-requires c =
    let few = listed_few c.args.z c.requires (search rules) (search rules) (search rules) in
    let l = ap length (c.as_slice-list.ensures ∙ c.listed-all.ensures) in
    simp (length-take, length-drop, length-set) (omega arith)

pub returns : goal.returns
unfolding zone_data
returns c =
    let a = c.args in
    let z = a.z in
    zone_stored a.version z.pointer z.na z.nu z.nf _ c.put32.ensures c.as_slice-list.result.now _ _ c.copy_from_slice.ensures.after (omega arith)
    ∙ ap (λ (l : List ℕ). pad_to 512 ((bytes32 a.version ++ (z.pointer ∷ z.na ∷ z.nu ∷ z.nf ∷ [])) ++ l)) (c.as_slice-list.ensures ∙ c.listed-all.ensures)
