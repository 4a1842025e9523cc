-- What a torn page's difference can be, by point 5 of document 02 (docs/PAPERS.md).
use Rattle.std.specs.Prelude.{ℕ, ◌≡◌, List, [], ℤ, pos, ◌≤ℤ◌}
use Rattle.model.specs.Page.{class_of, page_at}
use Rattle.model.specs.World.{World}
use Rattle.model.specs.Book.{Event}
use Rattle.model.specs.Sequence.{Phase, live, array_of, Run, Formatted}
use Rattle.model.specs.declared.Geometry.{Geometry}
use Rattle.model.specs.declared.Class.TheVariants.{Torn}

-- "it can be below zero only on pages the layer never wrote": on the array of every sequence, cut or not, it is at least 1
abbrev pub OwnTorn : Type 0
OwnTorn =
    (g : Geometry) (w : World) (es : List Event) (p : Phase) → Formatted g w → Run g (live w []) es p
    → (k : ℕ) (d : ℤ) → class_of (page_at (array_of p) k) ≡ Torn d → pos 1 ≤ℤ d
