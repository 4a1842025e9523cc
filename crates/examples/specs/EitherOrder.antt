-- Either order of commit, sentence by sentence of point 14 of document 02 (docs/PAPERS.md): rows of what two changes have in common, and as laws over all
-- worlds what a cut next may be and finds.
use Rattle.std.specs.Prelude.{ℕ, ◌≡◌, refl, Bool, true, false, cond, ◌&&◌, List, [], ◌∷◌}
use Rattle.std.proofs.Math.Bool.{and-false}
use Rattle.model.specs.Lists.{all}
use Rattle.model.specs.Answers.{refused}
use Rattle.model.specs.World.{World, every_turned}
use Rattle.model.specs.Commands.{Call, commit, plan, carried, exec}
use Rattle.model.specs.Book.{cut_in, cut_between, never, holds, Write, Book, enter_all, entering, tell}
use Rattle.model.specs.Sequence.{fits, Running, left, runs_after, Allowed, cut_event, cut_array, early_event, early_array, cut, early, between}
use Rattle.model.specs.EitherOrder.{apart, after_commit, runs_after_both, BothDone, CutNext, EntersNone, EntersSame}
use Rattle.model.specs.declared.Geometry.{Geometry}

-- ---- "write or drop no logical page in common"
abbrev writes : ℕ → ℕ → Write
writes lpn x = record { lpn = lpn; content = holds (x ∷ []) }

abbrev drops : ℕ → Write
drops lpn = record { lpn = lpn; content = never }

-- writes and drops of other pages; a page written in both, dropped in one, dropped in both; wherever in its change it stands
pub common_rows :
    apart (writes 5 7 ∷ drops 3 ∷ []) (writes 4 8 ∷ drops 0 ∷ [])
    ∷ apart (writes 4 7 ∷ []) (writes 4 8 ∷ [])
    ∷ apart (drops 3 ∷ []) (writes 3 8 ∷ [])
    ∷ apart (drops 3 ∷ []) (drops 3 ∷ [])
    ∷ apart (writes 5 7 ∷ writes 4 7 ∷ []) (writes 0 8 ∷ writes 1 8 ∷ writes 4 8 ∷ [])
    ∷ []
    ≡ true ∷ false ∷ false ∷ false ∷ false ∷ []
unfolding apart all
common_rows = refl

-- a change with nothing written has none in common with any
pub nothing_common : (xs : List Write) → apart [] xs ∷ apart xs [] ∷ [] ≡ true ∷ true ∷ []
unfolding apart all
nothing_common [] = refl
nothing_common (x ∷ xs) = nothing_common xs

-- with one in common the orders differ
pub in_common_differs :
    enter_all (enter_all (never ∷ []) (writes 0 7 ∷ [])) (writes 0 8 ∷ [])
    ∷ enter_all (enter_all (never ∷ []) (writes 0 8 ∷ [])) (writes 0 7 ∷ [])
    ∷ []
    ≡ (holds (8 ∷ []) ∷ []) ∷ (holds (7 ∷ []) ∷ []) ∷ []
unfolding enter_all
in_common_differs = refl

-- ---- "a cut next"
-- it finds nothing running: "a commit .. answers done only when both have ended"
pub nothing_runs : (a b : ℕ) (w : World) (rs : List Running) → BothDone a b w → runs_after_both a b w rs ≡ []
unfolding runs_after left refused exec carried
nothing_runs a b w rs d = let e : (plan (commit b) (after_commit a w)).answer ≡ 0 = d.second in rw e refl

-- on every world it may fall between two calls and in any call, at any of its bits or before its first
module _ (g : Geometry) (w : World) (rs : List Running) (parts : ℕ → List ℕ) where
  pub next_between : CutNext g w rs
  next_between = record { event = cut_between; array = early_array w rs parts; falls = between w rs parts }

  pub next_in_law : (c : Call) → fits c ≡ true → Allowed g c w → List ℕ → CutNext g w rs
  next_in_law c f a lets = record { event = cut_event c w rs lets parts; array = cut_array c w rs lets parts; falls = cut c w rs lets parts f a }

  pub next_early : (c : Call) → fits c ≡ true → Allowed g c w → CutNext g w rs
  next_early c f a = record { event = early_event c w; array = early_array w rs parts; falls = early c w rs parts f a }

-- the book enters nothing of one between two calls, or in a call that is neither a commit nor a lone write
pub between_enters_none : EntersNone cut_between
unfolding tell
between_enters_none b = refl

pub other_enters_none : (c : Call) → ((b : Book) → entering c b ≡ b.pages) → (programs : Bool) (due turned : List ℕ) → EntersNone (cut_in c programs due turned)
unfolding tell
other_enters_none c none programs due turned b = go (programs && every_turned due turned)
  where
    go : (t : Bool) → cond t (entering c b) b.pages ≡ b.pages
    go true = none b
    go false = refl

-- nor of a commit or lone write that is cut short of a bit; of one whose bits all turned it enters the same in either order
pub short_enters_none : (c : Call) (programs : Bool) (due turned : List ℕ) → every_turned due turned ≡ false → EntersNone (cut_in c programs due turned)
unfolding tell
short_enters_none c programs due turned e b = rw (e, and-false programs) refl

pub whole_enters_same : (c : Call) (due turned due' turned' : List ℕ) → every_turned due turned ≡ true → every_turned due' turned' ≡ true
    → EntersSame (cut_in c true due turned) (cut_in c true due' turned')
unfolding tell
whole_enters_same c due turned due' turned' e f b = rw (e, f) refl
