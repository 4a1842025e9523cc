-- "A sequence is a list of calls and cuts after a format, run from its first stride on any array and finished": of calls of the C interface.
-- The steps are those of `model`'s Sequence, each call being the function of include/bokuhira.h on what is lent; the events are the same.
use Rattle.std.specs.Prelude.{ℕ, ◌≡◌, true, false, List, [], ◌∷◌}
use Rattle.model.specs.Answers.{refused}
use Rattle.model.specs.Strides.{strides_done}
use Rattle.model.specs.Commands.{Call, format, recover, begin, write, drop_page, lone, commit, abort, read, checkpoint, reclaim}
use Rattle.model.specs.Book.{Event, called, cut_in, cut_between}
use Rattle.model.specs.Sequence.{Running, fits, is_recovery}
use Rattle.model.specs.declared.Geometry.{Geometry}
use Rattle.bokuhira.specs.Calls.{start_from}
use Rattle.archive.specs.Lent.{Lent, bokuhira, after, early_leaves, cut_leaves, cut_tells, early_tells, lent_runs}

-- on: "array, map, hold and state as the one before left them, which nobody else writes", and the pages that run; off: "the state is lost", from a cut
-- until a recover is done
pub data LentPhase : Type 0 where
  on : Lent → List Running → LentPhase
  off : List ℕ → LentPhase

-- the array of a phase
abbrev pub lent_array : LentPhase → List ℕ
lent_array (on l rs) = l.array
lent_array (off xs) = xs

-- "every recover that format's geometry"; "A format refused with nothing changed may stand anywhere; any other starts a new sequence"
abbrev pub LentAllowed : Geometry → Call → Lent → Type 0
LentAllowed g (format h) l = refused (bokuhira (format h) l).answer ≡ true
LentAllowed g (recover h) l = h ≡ g
LentAllowed g (begin id) l = Unit {0}
LentAllowed g (write id lpn d) l = Unit {0}
LentAllowed g (drop_page id lpn) l = Unit {0}
LentAllowed g (lone lpn d) l = Unit {0}
LentAllowed g (commit id) l = Unit {0}
LentAllowed g (abort id) l = Unit {0}
LentAllowed g (read lpn) l = Unit {0}
LentAllowed g checkpoint l = Unit {0}
LentAllowed g reclaim l = Unit {0}

-- what a call or a cut leads to
pub data LentStep (g : Geometry) : LentPhase → Event → LentPhase → Type 0 where
  -- a call on what the one before left
  call : (c : Call) (l : Lent) (rs : List Running) → fits c ≡ true → LentAllowed g c l
      → LentStep g (on l rs) (called c (bokuhira c l).answer) (on (after c l) (lent_runs c l rs))
  -- a cut in a call
  cut : (c : Call) (l : Lent) (rs : List Running) (lets : List ℕ) (parts : ℕ → List ℕ) → fits c ≡ true → LentAllowed g c l
      → LentStep g (on l rs) (cut_tells c l rs lets parts) (off (cut_leaves c l rs lets parts))
  -- a cut in a call before its operation begins
  early : (c : Call) (l : Lent) (rs : List Running) (parts : ℕ → List ℕ) → fits c ≡ true → LentAllowed g c l
      → LentStep g (on l rs) (early_tells c l) (off (early_leaves l rs parts))
  -- a cut between two calls
  between : (l : Lent) (rs : List Running) (parts : ℕ → List ℕ) → LentStep g (on l rs) cut_between (off (early_leaves l rs parts))
  -- after a cut: a recover with any bytes, map and hold that is done
  back : (l : Lent) → (bokuhira (recover g) l).answer ≡ 0 → LentStep g (off l.array) (called (recover g) 0) (on (after (recover g) l) [])
  -- or a recover or a format, so handed, that is refused
  failed : (c : Call) (l : Lent) → is_recovery c ≡ true → fits c ≡ true → LentAllowed g c l → refused (bokuhira c l).answer ≡ true
      → LentStep g (off l.array) (called c (bokuhira c l).answer) (off l.array)
  -- or a cut in one of them, or another between
  lost : (c : Call) (l : Lent) → is_recovery c ≡ true → fits c ≡ true → LentAllowed g c l → LentStep g (off l.array) (cut_in c false [] []) (off l.array)
  again : (xs : List ℕ) → LentStep g (off xs) cut_between (off xs)

-- a list of events, from phase to phase
pub data LentRun (g : Geometry) : LentPhase → List Event → LentPhase → Type 0 where
  stop : (p : LentPhase) → LentRun g p [] p
  next : {p q r : LentPhase} {e : Event} {es : List Event} → LentStep g p e q → LentRun g q es r → LentRun g p (e ∷ es) r

-- the strides of a format of geometry g that the bytes say are done; none where they encode no state
unfoldable pub strides_said : Geometry → List ℕ → ℕ
strides_said g bs = strides_done g (start_from g bs) (start_from g bs).work

-- a format of geometry g under way, "run from its first stride on any array", with any map, hold and bytes; one that is refused in between
-- changes nothing
pub data LentFormatting (g : Geometry) : Lent → Type 0 where
  first : (l : Lent) → strides_said g l.bytes ≡ 0 → (bokuhira (format g) l).answer ≡ 255 → LentFormatting g (after (format g) l)
  more : (l : Lent) → LentFormatting g l → (bokuhira (format g) l).answer ≡ 255 → LentFormatting g (after (format g) l)

-- what a format leaves, "finished"
pub data LentFormatted (g : Geometry) : Lent → Type 0 where
  finished : (l : Lent) → LentFormatting g l → (bokuhira (format g) l).answer ≡ 0 → LentFormatted g (after (format g) l)
