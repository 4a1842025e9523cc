-- Demand 3 of what firmware links: after every list of calls of the C interface and cuts, at any bit of any program or erase, the next
-- bokuhira_recover is done and every logical page reads exactly as the book has it.
use Rattle.std.specs.Prelude.{ℕ, ◌+◌, ◌<◌, ◌≤◌, ◌≡◌, true, List, [], length}
use Rattle.model.specs.Lists.{part}
use Rattle.model.specs.Commands.{recover}
use Rattle.model.specs.Book.{Event, Book, Content, never, blank, story, page_of, content_answer, content_part}
use Rattle.model.specs.declared.Geometry.{Geometry}
use Rattle.encoding.specs.Encoding.{encodes}
use Rattle.archive.specs.Lent.{Lent, read_on, bokuhira, after}
use Rattle.archive.specs.LentRuns.{LentPhase, on, off, lent_array, LentRun, LentFormatting, LentFormatted}

-- bokuhira_read of a logical page answers as for this content; where it is done, the 512 bytes of the array from the place that it gives are
-- inside the array, and are the content
pub record LentReadsAs (l : Lent) (lpn : ℕ) (x : Content) : Type 0 where
  pub answer : (at : ℕ) → (read_on lpn l at).answer ≡ content_answer x
  pub inside : (at : ℕ) → (read_on lpn l at).answer ≡ 0 → (read_on lpn l at).at + 512 ≤ length l.array
  pub bytes : (at : ℕ) → (read_on lpn l at).answer ≡ 0 → part (read_on lpn l at).at 512 l.array ≡ content_part x

-- every logical page reads as the book has it
abbrev pub LentReads : Geometry → Book → Lent → Type 0
LentReads g b l = (lpn : ℕ) → lpn < g.logical → LentReadsAs l lpn (page_of b lpn)

-- the bytes encode a state, and every logical page reads so: what holds wherever the state is not lost
pub record LentRight (g : Geometry) (b : Book) (l : Lent) : Type 0 where
  pub coded : encodes l.bytes ≡ true
  pub reads : LentReads g b l

-- what is claimed of the next recovery, l being what it is handed: it is done, then each page reads so, and recovering again answers the same
-- and changes no byte of array, map, hold or state
pub record LentRecovers (g : Geometry) (b : Book) (l : Lent) : Type 0 where
  pub succeeds : (bokuhira (recover g) l).answer ≡ 0
  pub right : LentRight g b (after (recover g) l)
  pub again : bokuhira (recover g) (after (recover g) l) ≡ bokuhira (recover g) l

-- where no cut lost the state, each page already reads so: with it, every read within the list
abbrev pub LentLive : Geometry → Book → LentPhase → Type 0
LentLive g b (on l rs) = LentRight g b l
LentLive g b (off xs) = Unit {0}

-- what is claimed of a list of events that led from a format to phase p: of the array that it left, with any map and hold of the right lengths
-- and any 2,881 bytes; and of what is lent, where the state is not lost
pub record LentKept (g : Geometry) (es : List Event) (p : LentPhase) : Type 0 where
  pub recovers : (map hold bs : List ℕ) → length map ≡ g.logical → length hold ≡ 4096 → length bs ≡ 2881
      → LentRecovers g (story (blank g) es) (record { array = lent_array p; map = map; hold = hold; bytes = bs })
  pub live : LentLive g (story (blank g) es) p

-- Demand 3, of the bytes
abbrev pub Demand3Bytes : Type 0
Demand3Bytes = (g : Geometry) (l : Lent) (es : List Event) (p : LentPhase) → LentFormatted g l → LentRun g (on l []) es p → LentKept g es p

-- beside it: between two strides of that format every page is never written
abbrev pub FormatReadsBytes : Type 0
FormatReadsBytes = (g : Geometry) (l : Lent) → LentFormatting g l → (lpn : ℕ) → lpn < g.logical → LentReadsAs l lpn never
