-- Refusal 4 as the code asks for it: page by page, then along pages sorted by TxVer and by TxID.
use Rattle.std.specs.Prelude.{ℕ, ◌+◌, ◌*◌, ◌≤◌, ◌≡◌, Bool, true, not, cond, ◌&&◌, ◌||◌, List, [], ◌∷◌, length, take, eqb, ltb}
use Rattle.model.specs.Page.{page_at}
use Rattle.model.specs.Bytes.{le16}
use Rattle.sorting.specs.Sort.{byte_at, key_at, sorted_in, Pages}
use Rattle.scan.specs.Taken.{Blocks, listed}
use Rattle.scan.specs.Notes.{notes_of, noted, met_all, start}
use Rattle.scan.specs.declared.Note.{Note}
use Rattle.scan.specs.declared.Wanted.{Wanted}
use Rattle.scan.specs.declared.Wanted.TheVariants.{Changes}
use Rattle.scan.specs.declared.Seen.{Seen}

-- page k is a mark
unfoldable pub mark_at : List ℕ → ℕ → Bool
mark_at xs k = not (eqb (le16 (page_at xs k) 514) 0)

-- the numbers of four bytes at an offset rise from above `last` on, along the marks
unfoldable pub rises_from : List ℕ → ℕ → ℕ → List ℕ → Bool
rises_from xs at last [] = true
rises_from xs at last (k ∷ ks) = cond (mark_at xs k) (ltb last (key_at xs at k) && rises_from xs at (key_at xs at k) ks) (rises_from xs at last ks)

-- the marks among the wanted pages differ in that number: it rises along them once they are sorted by it
abbrev pub differ : List ℕ → Wanted → ℕ → Bool → List ℕ → Bool
differ xs w at numbered ks = rises_from xs at 0 (sorted_in numbered xs at (noted xs w ks))

-- the first n pages of the list after it are the wanted ones, sorted by the number at an offset
pub record Front (xs ks : List ℕ) (w : Wanted) (n at : ℕ) (numbered : Bool) (after : List ℕ) : Type 0 where
  pub is : take n after ≡ sorted_in numbered xs at (noted xs w ks)
  pub few : n ≤ length after
  pub fits : Pages (length xs) (take n after)

-- what was told of that, and those pages in front of the list
pub record Sorting (xs : List ℕ) (w : Wanted) (at : ℕ) (numbered : Bool) (ks : List ℕ) (r : Bool) (after : List ℕ) : Type 0 where
  pub told : r ≡ differ xs w at numbered ks
  pub front : take (length (noted xs w ks)) after ≡ sorted_in numbered xs at (noted xs w ks)

-- the pages of changes, sorted by TxID; those of one in turn
unfoldable pub changes_of : ℕ → List ℕ → List ℕ → List ℕ
changes_of planes xs ks = sorted_in (eqb planes 2) xs 516 (noted xs Changes ks)

-- the identifier of page k and its write number, as one number
unfoldable pub number_at : List ℕ → ℕ → ℕ
number_at xs k = key_at xs 516 k * 256 + byte_at xs 525 k

-- that number rises from above `last` on
unfoldable pub numbers_from : List ℕ → ℕ → List ℕ → Bool
numbers_from xs last [] = true
numbers_from xs last (k ∷ ks) = ltb last (number_at xs k) && numbers_from xs (number_at xs k) ks

-- on two planes it rises along these pages
unfoldable pub numbers_differ : ℕ → List ℕ → List ℕ → Bool
numbers_differ planes xs ks = not (eqb planes 2) || numbers_from xs 0 ks

-- no change has a second mark or, on two planes, a number twice
unfoldable pub changes_differ : ℕ → List ℕ → List ℕ → Bool
changes_differ planes xs ks = differ xs Changes 516 (eqb planes 2) ks && numbers_differ planes xs (changes_of planes xs ks)

-- a list of pages that were visited, with their notes, and room for as many
pub record Visited (xs order : List ℕ) (notes : List Note) (other : List ℕ) : Type 0 where
  pub pages : Pages (length xs) order
  pub note : notes ≡ notes_of xs order
  pub room : length other ≡ length order

-- all pages of the blocks were visited, and met so
pub record Surveyed (planes logical : ℕ) (xs : List ℕ) (p : ℕ) (bs order : List ℕ) (notes : List Note) (other : List ℕ) (m : Seen) : Type 0 where
  pub blocks : Blocks xs p bs
  pub list : order ≡ listed p bs
  pub visit : Visited xs order notes other
  pub met : m ≡ met_all planes logical xs order start
