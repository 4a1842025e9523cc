-- `flash::program_at` meets its contract: the part of the array that is lent is the page, and comes back as the page's bytes. Assumes nothing.
use native.Mathlib.Omega.{arith}
use native.Mathlib.Nat.{add-sub_cancel_left}
use lib.Seq.{drop-drop}
use Rattle.model.specs.Lists.{splice}
use Rattle.model.specs.Page.{page_bytes, put_page}
use Rattle.arrays.specs.Image.{image_length}
use Rattle.flash.proofs.Programming.{programmed}
use Rattle.flash.proofs.program_at.Goals as goal

pub returns : goal.returns
unfolding put_page splice
returns c =
    let a = c.args in
    programmed a.array.now a.k (page_bytes a.«data».now a.s) _ (omega arith) (image_length a.«data».now a.s (omega arith))
    (rw (add-sub_cancel_left, c.program.ensures, drop-drop))
    (λ i. (c.type_inv.array i).fits)
