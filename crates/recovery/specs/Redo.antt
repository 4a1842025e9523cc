-- What is applied, in the order in which a program meets it: one run of pages of one identifier after the other, then the lone pages, each page
-- entered where its version is not below the best so far of its logical page.
use Rattle.std.specs.Prelude.{ℕ, suc, ◌*◌, ◌≤◌, ◌<◌, ◌≡◌, ◌≢◌, true, cond, Option, Some, None, List, [], ◌∷◌, length, eqb}
use Rattle.model.specs.Lists.{those}
use Rattle.model.specs.Zones.{Entry, scan_in}
use Rattle.model.specs.Recovery.{pages_good, top}
use Rattle.ranks.specs.Dealt.{Each, Sorted}
use Rattle.ranks.specs.Pass.{Best, best_of}
use Rattle.ranks.specs.Best.{rank_of}
use Rattle.sorting.specs.Sort.{key_at, Pages}
use Rattle.scan.specs.Taken.{Blocks, listed, entry_in, entries_in}
use Rattle.scan.specs.declared.Note.{Note}
use Rattle.scan.specs.Notes.{notes_of}
use Rattle.scan.specs.Judged.{changes_of}

-- a map, and for each logical page the best version so far
abbrev pub best : List ℕ → List ℕ → Best
best map ranks = record { map = map; ranks = ranks }

-- how many pages from the first on have the identifier
unfoldable pub run_of : List ℕ → ℕ → List ℕ → ℕ
run_of xs id [] = 0
run_of xs id (k ∷ ks) = cond (eqb (key_at xs 516 k) id) (suc (run_of xs id ks)) 0

-- the version of a run: of its page whose TxCnt is their number, or 0
unfoldable pub run_version : List ℕ → List ℕ → ℕ
run_version xs run = top (those (λ (e : Entry). eqb e.cnt (length run)) (entries_in xs run))

-- the version that a page is entered with: that of its run, or its own
abbrev pub rank_by : Option ℕ → Entry → ℕ
rank_by (Some v) e = v
rank_by None e = e.ver

-- pages of changes entered with the versions of their runs, then lone pages with their own
abbrev pub all_entered : List ℕ → List ℕ → List ℕ → Best → Best
all_entered xs changes lone r = best_of (λ (e : Entry). e.ver) (entries_in xs lone) (best_of (rank_of (entries_in xs changes)) (entries_in xs changes) r)

-- pages that may be entered: they lie in the array, and their logical pages in the map
pub record Enterable (xs ks map ranks : List ℕ) : Type 0 where
  pub pages : Pages (length xs) ks
  pub logical : Each (λ (k : ℕ). (entry_in xs k).lpn < length map) ks
  pub ranked : length ranks ≡ length map

-- pages of changes, sorted by identifier
pub record Runs (xs ks : List ℕ) : Type 0 where
  pub sorted : Sorted (key_at xs 516) ks
  pub change : Each (λ (k : ℕ). key_at xs 516 k ≢ 0) ks

-- a map and a scan that refusal 4 passes, with its notes, its pages of changes sorted by identifier, those of one in turn, and room for its pages
pub record Ready (planes : ℕ) (map xs : List ℕ) (p : ℕ) (bs changes : List ℕ) (notes : List Note) (other : List ℕ) : Type 0 where
  pub blocks : Blocks xs p bs
  pub good : pages_good planes (length map) (scan_in xs p bs) ≡ true
  pub few : length map ≤ 1024
  pub change : changes ≡ changes_of planes xs (listed p bs)
  pub note : notes ≡ notes_of xs (listed p bs)
  pub room : length other ≡ length bs * p
