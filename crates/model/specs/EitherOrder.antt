-- Either order of commit, by point 14 of document 02 (docs/PAPERS.md): of two changes that have no logical page in common "who commits first doesn't
-- matter".
use Rattle.std.specs.Prelude.{ℕ, ◌<◌, ◌≡◌, Bool, true, not, List, [], length, eqb}
use Rattle.model.specs.Lists.{all}
use Rattle.model.specs.World.{World}
use Rattle.model.specs.Transactions.{read_answer, read_part}
use Rattle.model.specs.Commands.{recover, commit, exec, Outcome}
use Rattle.model.specs.Book.{Event, Write, Book, writes_of, blank, tell, story}
use Rattle.model.specs.Sequence.{Running, runs_after, live, dark, Step, Run, Formatted}
use Rattle.model.specs.declared.Geometry.{Geometry}
use Rattle.model.specs.declared.State.{State}

-- "write or drop no logical page in common": the writes of two changes of the book, of which a drop is one
unfoldable pub apart : List Write → List Write → Bool
apart xs ys = all (λ (x : Write). all (λ (y : Write). not (eqb x.lpn y.lpn)) ys) xs

-- "committed one straight after the other": the world after a commit, and after both, a first
abbrev pub after_commit : ℕ → World → World
after_commit id w = (exec (commit id) w).world

abbrev pub after_both : ℕ → ℕ → World → World
after_both a b w = after_commit b (after_commit a w)

-- the pages that run then, if rs ran before
abbrev pub runs_after_both : ℕ → ℕ → World → List Running → List Running
runs_after_both a b w rs = runs_after (commit b) (after_commit a w) (runs_after (commit a) w rs)

-- "and both done"
pub record BothDone (a b : ℕ) (w : World) : Type 0 where
  pub first : (exec (commit a) w).answer ≡ 0
  pub second : (exec (commit b) (after_commit a w)).answer ≡ 0

-- a logical page answers and hands back the same in two worlds; "every logical page"
pub record SameRead (v w : World) (lpn : ℕ) : Type 0 where
  pub answer : read_answer lpn v ≡ read_answer lpn w
  pub bytes : read_part lpn v ≡ read_part lpn w

abbrev pub SameReads : Geometry → World → World → Type 0
SameReads g v w = (lpn : ℕ) → lpn < g.logical → SameRead v w lpn

-- "a cut next", between two calls or in one, and the array that it leaves
pub record CutNext (g : Geometry) (w : World) (rs : List Running) : Type 0 where
  pub event : Event
  pub array : List ℕ
  pub falls : Step g (live w rs) event (dark array)

-- the book enters nothing of it: it falls between two calls, or in one that saves nothing, or short of a bit
abbrev pub EntersNone : Event → Type 0
EntersNone e = (b : Book) → (tell b e).pages ≡ b.pages

-- the book enters the same of two
abbrev pub EntersSame : Event → Event → Type 0
EntersSame e f = (b : Book) → (tell b e).pages ≡ (tell b f).pages

-- what the recover is handed then beside the array: any map and hold of the right lengths, and any state
pub record Hand (g : Geometry) : Type 0 where
  pub map : List ℕ
  pub hold : List ℕ
  pub state : State
  pub wide : length map ≡ g.logical
  pub long : length hold ≡ 4096

-- "and recovery"
abbrev pub recovery : (g : Geometry) → List ℕ → Hand g → Outcome
recovery g xs h = exec (recover g) (record { array = xs; map = h.map; hold = h.hold; state = h.state })

-- "reading the same after a cut next and recovery": it is done, and every page reads as before the cut, unless that saved something more
pub record Outlives (g : Geometry) (w : World) (rs : List Running) : Type 0 where
  pub recovers : (c : CutNext g w rs) (h : Hand g) → (recovery g c.array h).answer ≡ 0
  pub reads : (c : CutNext g w rs) → EntersNone c.event → (h : Hand g) → SameReads g (recovery g c.array h).world w

-- what is claimed of two changes of which a was committed first: the other order is done too; every page reads the same in either; each outlives a cut
-- next; and after a cut next every page reads the same in either, though the cuts may differ, and what the recover is handed
pub record EitherWay (g : Geometry) (w : World) (rs : List Running) (a b : ℕ) : Type 0 where
  pub done : BothDone b a w
  pub reads : SameReads g (after_both a b w) (after_both b a w)
  pub a_first : Outlives g (after_both a b w) (runs_after_both a b w rs)
  pub b_first : Outlives g (after_both b a w) (runs_after_both b a w rs)
  pub alike : (c : CutNext g (after_both a b w) (runs_after_both a b w rs)) (d : CutNext g (after_both b a w) (runs_after_both b a w rs))
      → EntersSame c.event d.event → (h k : Hand g) → SameReads g (recovery g c.array h).world (recovery g d.array k).world

-- "At any point of a sequence of 01": that the two are active, and differ, follows from the answers
abbrev pub EitherOrder : Type 0
EitherOrder =
    (g : Geometry) (w : World) (es : List Event) (v : World) (rs : List Running) → Formatted g w → Run g (live w []) es (live v rs) → (a b : ℕ)
    → apart (writes_of a (story (blank g) es).changes) (writes_of b (story (blank g) es).changes) ≡ true → BothDone a b v → EitherWay g v rs a b
