-- A page put into an array of bytes where an erased one was is that page programmed. Assumes nothing.
use mathlib.Core.Path.{◌≡◌, sym, ◌∙◌}
use mathlib.Core.List.{List, [], ◌∷◌}
use Prim.Native.Nat.{ℕ, suc, ◌<◌}
use lib.ListN.{length, get_or}
use Rattle.model.specs.Page.{put_page}
use Rattle.arrays.specs.Bytelist.{Bytes}
use Rattle.arrays.specs.Pages.{PageFits, bytes_page, put_same}
use Rattle.arrays.specs.Ops.{program_stores}
use Rattle.flash.specs.Programs.{Programmed}

-- every element at its index
at_bytes : (xs : List ℕ) → ((i : ℕ) → get_or xs i 0 < 256) → Bytes xs
at_bytes [] b = tt
at_bytes (x ∷ xs) b = (b 0, at_bytes xs (λ i. b (suc i)))

-- the array of bytes that a page put in its place leaves
pub programmed : (xs : List ℕ) (k : ℕ) (new ys : List ℕ) → PageFits xs k → length new ≡ 528 → ys ≡ put_page xs k new → ((i : ℕ) → get_or ys i 0 < 256)
    → Programmed xs k new ys
programmed xs k new ys h l e b =
    let y : Bytes (put_page xs k new) = at_bytes (put_page xs k new) (λ i. rw e at (b i)) in
    let n : Bytes new = rw (put_same xs k new h l) at (bytes_page (put_page xs k new) k y) in
    record { put = e; applied = λ p t. e ∙ sym (program_stores p xs k new h t l n) }
