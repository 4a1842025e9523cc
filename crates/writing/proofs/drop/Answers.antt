-- `writing::drop` meets its contract: as every command does: by what refuses it (`refuses_why`), else by its plan carried out (`carries`). Assumes nothing.
use Prim.Native.Nat.{ℕ}
use lib.ListN.{length-replicate}
use borrow.Author.Tests.{not-false}
use Rattle.model.specs.Lists.{those}
use Rattle.model.specs.Order.{leave_out}
use Rattle.model.specs.Transactions.{gone}
use Rattle.model.specs.Commands.{drop_page}
use Rattle.model.specs.World.{World}
use Rattle.arrays.specs.Order.{Unless}
use Rattle.frame.proofs.Outcomes.{refuses_why, passes, carries}
use Rattle.writing.proofs.Clean.{page_writing}
use Rattle.writing.proofs.drop.Goals as goal

pub write_in-requires : goal.write_in-requires
unfolding Unless leave_out those
write_in-requires c =
    let a = c.args in
    let w : World = record { array = a.array.now; map = a.map.now; hold = a.hold.now; state = a.s } in
    let i = c.in-Ok.ensures in
    passes w (drop_page a.id a.lpn) i.refusal (λ f idle page begun room short.
    rw i.place.0 (page_writing w (not-false _ f) a.id begun a.lpn _ (length-replicate {A = ℕ} 512 255) page room short))

pub returns-in-Ok : goal.returns-in-Ok
unfolding gone
returns-in-Ok c =
    let a = c.args in
    let w : World = record { array = a.array.now; map = a.map.now; hold = a.hold.now; state = a.s } in
    let i = c.in-Ok.ensures in
    carries w (drop_page a.id a.lpn) i.refusal _ (rw i.place.0 at c.write_in.ensures)

pub returns-in-Err : goal.returns-in-Err
returns-in-Err c =
    let a = c.args in
    let w : World = record { array = a.array.now; map = a.map.now; hold = a.hold.now; state = a.s } in
    refuses_why w (drop_page a.id a.lpn) _ c.in-Err.ensures.refusal _ _ c.refused.ensures
