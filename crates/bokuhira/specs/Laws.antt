-- Where a read is done, the 512 bytes from the place that it gives are the part that document 01 (docs/PAPERS.md) hands back.
-- Assumes nothing.
use Rattle.std.specs.Prelude.{ℕ, ◌*◌, ◌≡◌, refl, Bool, true, false, cond, List, get_or, drop}
use Rattle.std.proofs.Common.{sym, take-take, arith}
use Rattle.model.specs.Lists.{part}
use Rattle.model.specs.Page.{page_at, data_at}
use Rattle.model.specs.Geometry.{unmapped}
use Rattle.model.specs.Transactions.{read_part}
use Rattle.model.specs.Commands.{read, plan, carried, exec}
use Rattle.encoding.specs.Encoding.{encodes}
use Rattle.bokuhira.specs.Calls.{world_from, found_of, read_called}

-- the first 512 bytes of a page
data_part : (xs : List ℕ) (k : ℕ) → part (k * 528) 512 xs ≡ data_at xs k
unfolding part page_at data_at
data_part xs k = sym (take-take 512 528 (drop (k * 528) xs) (omega arith))

done : (t : Bool) (n : ℕ) → cond t n 1 ≡ 0 → (t ≡ true) × (n ≡ 0)
done true n e = (refl, e)
done false n e = absurd (omega arith)

pub found_part : (lpn : ℕ) (xs map hold bs : List ℕ) (at : ℕ) → (read_called lpn xs map hold bs at).answer ≡ 0
    → part (read_called lpn xs map hold bs at).at 512 xs ≡ read_part lpn (world_from xs map hold bs)
unfolding read_called found_of read_part exec carried plan
found_part lpn xs map hold bs at e =
    let d = done (encodes bs) (exec (read lpn) (world_from xs map hold bs)).answer e in
    rw (e, d.1) (data_part xs (get_or map lpn unmapped))
