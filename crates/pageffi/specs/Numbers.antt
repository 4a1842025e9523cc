-- What programs in other languages get, for parts of any length.
use Rattle.std.specs.Prelude.{ℕ, cond, List, length, eqb}
use Rattle.model.specs.Page.{class_of, class_number, page_bytes}
use Rattle.model.specs.declared.Spare.{Spare}

-- the number of a page's class, 3 for a part of another length
unfoldable pub classed : List ℕ → ℕ
classed xs = cond (eqb (length xs) 528) (class_number (class_of xs)) 3

-- the page programmed with these data, as it was where either is of another length
unfoldable pub programmed : List ℕ → List ℕ → Spare → List ℕ
programmed xs d s = cond (eqb (length xs) 528) (cond (eqb (length d) 512) (page_bytes d s) xs) xs
