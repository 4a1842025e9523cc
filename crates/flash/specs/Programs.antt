-- What a program leaves of the array.
use Rattle.std.specs.Prelude.{ℕ, ◌≡◌, true, List}
use Rattle.model.specs.Page.{put_page, blank_at}
use Rattle.model.specs.World.{program, apply_op}

-- page k of xs was programmed with these bytes, which left ys: as the page put in its place, and,
-- where the page was erased, as the operation of a plan, whatever the pages a block
pub record Programmed (xs : List ℕ) (k : ℕ) (new ys : List ℕ) : Type 0 where
  pub put : ys ≡ put_page xs k new
  pub applied : (p : ℕ) → blank_at xs k ≡ true → ys ≡ apply_op p (program k new) xs
