-- What a scan takes from a page, by its 528 bytes.
use Rattle.std.specs.Prelude.{ℕ, ◌≡◌, List}
use Rattle.std.proofs.Common.{ap}
use Rattle.model.specs.Page.{class_of, spare_of, page_at}
use Rattle.table.specs.declared.Looked.{Looked}

-- the class and the spare area of a page with these bytes
unfoldable pub look_of : List ℕ → Looked
look_of q = record { class = class_of q; spare = spare_of q }

-- it depends on the bytes of the page alone: two arrays with the same 528 bytes there give the same
pub look_alone : (xs ys : List ℕ) (j k : ℕ) → page_at xs j ≡ page_at ys k → look_of (page_at xs j) ≡ look_of (page_at ys k)
look_alone xs ys j k e = ap look_of e
