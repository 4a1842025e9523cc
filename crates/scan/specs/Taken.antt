-- The pages of a scan by their numbers, and what is taken from each: its entry, by the 528 bytes of the page alone.
use Rattle.std.specs.Prelude.{ℕ, ◌*◌, ◌≤◌, ◌≡◌, refl, List, [], ◌∷◌, ◌++◌, length}
use Rattle.std.proofs.Common.{ap}
use Rattle.model.specs.Lists.{keep, up_from}
use Rattle.model.specs.Page.{spare_of, is_whole, page_at, whole_at}
use Rattle.model.specs.Zones.{Entry, entry_of, entry_at}
use Rattle.flash.specs.Ranges.{Within}
use Rattle.table.specs.declared.Looked.{Looked}
use Rattle.table.specs.Looking.{look_of, look_alone}

-- blocks to scan: p pages a block, all of them in the array
pub record Blocks (xs : List ℕ) (p : ℕ) (bs : List ℕ) : Type 0 where
  pub least : 1 ≤ p
  pub most : p ≤ 64
  pub within : Within (length xs) p bs

-- the pages of some blocks in scan order
unfoldable pub listed : ℕ → List ℕ → List ℕ
listed p [] = []
listed p (b ∷ bs) = up_from (b * p) p ++ listed p bs

-- the entry that a look at page k gives, or none
unfoldable pub taken : ℕ → Looked → List Entry
taken k l = keep (is_whole l.class) (entry_of k l.spare ∷ [])

-- so a scan is made of looks,
pub taken_is : (xs : List ℕ) (k : ℕ) → entry_at xs k ≡ taken k (look_of (page_at xs k))
unfolding entry_at whole_at taken look_of
taken_is xs k = refl

-- and what it takes from a page depends on the page's 528 bytes alone
pub taken_alone : (xs ys : List ℕ) (j k n : ℕ) → page_at xs j ≡ page_at ys k → taken n (look_of (page_at xs j)) ≡ taken n (look_of (page_at ys k))
taken_alone xs ys j k n e = ap (taken n) (look_alone xs ys j k e)

-- the entry of page k, whatever its class
unfoldable pub entry_in : List ℕ → ℕ → Entry
entry_in xs k = entry_of k (spare_of (page_at xs k))

-- the entries of some pages
unfoldable pub entries_in : List ℕ → List ℕ → List Entry
entries_in xs [] = []
entries_in xs (k ∷ ks) = entry_in xs k ∷ entries_in xs ks
