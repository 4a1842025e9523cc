-- "A sequence is a list of calls and cuts after a format, run from its first stride on any array and finished."
use Rattle.std.specs.Prelude.{ℕ, ◌/◌, ◌%◌, ◌≡◌, Bool, true, false, not, cond, ◌&&◌, List, [], ◌∷◌, ◌++◌, ltb, eqb}
use Rattle.model.specs.Lists.{keep, those}
use Rattle.model.specs.Bytes.{bytes}
use Rattle.model.specs.Page.{page_at, put_page}
use Rattle.model.specs.Answers.{refused}
use Rattle.model.specs.World.{World, Op, none, program, erase, due_bits, turned_bits, cut_op, programs, is_none}
use Rattle.model.specs.Strides.{strides_done}
use Rattle.model.specs.Commands.{Call, format, recover, begin, write, drop_page, lone, commit, abort, read, checkpoint, reclaim, plan, exec}
use Rattle.model.specs.Book.{Event, called, cut_in, cut_between}
use Rattle.model.specs.declared.Geometry.{Geometry}

-- the arguments are what the program's types admit: identifiers of 32 bits, other numbers of 16, data bytes
unfoldable pub fits : Call → Bool
fits (format g) = ltb g.blocks 65536 && (ltb g.pages 65536 && (ltb g.logical 65536 && ltb g.planes 65536))
fits (recover g) = ltb g.blocks 65536 && (ltb g.pages 65536 && (ltb g.logical 65536 && ltb g.planes 65536))
fits (begin id) = ltb id 4294967296
fits (write id lpn d) = ltb id 4294967296 && (ltb lpn 65536 && bytes d)
fits (drop_page id lpn) = ltb id 4294967296 && ltb lpn 65536
fits (lone lpn d) = ltb lpn 65536 && bytes d
fits (commit id) = ltb id 4294967296
fits (abort id) = ltb id 4294967296
fits (read lpn) = ltb lpn 65536
fits checkpoint = true
fits reclaim = true

-- ---- pages that run: "A write may return with its program running"
-- such a page: the identifier of its transaction, its page number, and its bytes before the program; "the lent array already holds it in full"
pub record Running : Type 0 where
  pub id : ℕ
  pub page : ℕ
  pub before : List ℕ

-- its program, and the array as it was before
abbrev pub run_op : Running → List ℕ → Op
run_op r xs = program r.page (page_at xs r.page)

abbrev pub unrun : Running → List ℕ → List ℕ
unrun r xs = put_page xs r.page r.before

-- its due bits, and those of them that a cut lets turn
unfoldable pub run_due : ℕ → Running → List ℕ → List ℕ
run_due p r xs = due_bits p (run_op r xs) (unrun r xs)

unfoldable pub run_turned : ℕ → Running → List ℕ → List ℕ → List ℕ
run_turned p r lets xs = turned_bits p (run_op r xs) lets (unrun r xs)

-- "a cut, between calls too, leaves any part of its due bits turned"
unfoldable pub cut_run : ℕ → Running → List ℕ → List ℕ → List ℕ
cut_run p r lets xs = cut_op p (run_op r xs) lets (unrun r xs)

-- the same of each, the bits by its page number
unfoldable pub cut_runs : ℕ → List Running → (ℕ → List ℕ) → List ℕ → List ℕ
cut_runs p [] lets xs = xs
cut_runs p (r ∷ rs) lets xs = cut_run p r (lets r.page) (cut_runs p rs lets xs)

unfoldable pub runs_due : ℕ → List Running → List ℕ → List ℕ
runs_due p [] xs = []
runs_due p (r ∷ rs) xs = run_due p r xs ++ runs_due p rs xs

unfoldable pub runs_turned : ℕ → List Running → (ℕ → List ℕ) → List ℕ → List ℕ
runs_turned p [] lets xs = []
runs_turned p (r ∷ rs) lets xs = run_turned p r (lets r.page) xs ++ runs_turned p rs lets xs

-- a running page is in the other plane than the page that an operation programs
unfoldable pub apart_from : ℕ → Op → Running → Bool
apart_from p none r = true
apart_from p (program k new) r = not (eqb (k / p % 2) (r.page / p % 2))
apart_from p (erase b) r = true

-- "Checkpoint, reclaim, format and recover first wait for both"
abbrev pub waits : Call → Bool
waits (format g) = true
waits (recover g) = true
waits (begin id) = false
waits (write id lpn d) = false
waits (drop_page id lpn) = false
waits (lone lpn d) = false
waits (commit id) = false
waits (abort id) = false
waits (read lpn) = false
waits checkpoint = true
waits reclaim = true

-- those that still run while a call's operation does: "Such a page runs until the next program in its plane begins, .. a command that waits begins"
unfoldable pub during : Call → World → List Running → List Running
during c w rs =
    let o = (plan c w).op in
    cond (is_none o) rs (cond (waits c) [] (those (apart_from w.state.geometry.pages o) rs))

-- the page that an operation of a write of this identifier leaves running, on two planes
unfoldable pub started : ℕ → World → Op → List Running
started id w none = []
started id w (program k new) = keep (eqb w.state.geometry.planes 2) (record { id = id; page = k; before = page_at w.array k } ∷ [])
started id w (erase b) = []

-- those that run when a call has answered: "a commit or lone write answers done only when both have ended"
unfoldable pub left : Call → World → List Running → List Running
left (format g) w rs = []
left (recover g) w rs = []
left (begin id) w rs = rs
left (write id lpn d) w rs = started id w (plan (write id lpn d) w).op ++ during (write id lpn d) w rs
left (drop_page id lpn) w rs = started id w (plan (drop_page id lpn) w).op ++ during (drop_page id lpn) w rs
left (lone lpn d) w rs = []
left (commit id) w rs = []
left (abort id) w rs = rs
left (read lpn) w rs = rs
left checkpoint w rs = []
left reclaim w rs = []

-- "a call refused before any flash operation waits for nothing"
unfoldable pub runs_after : Call → World → List Running → List Running
runs_after c w rs = cond (refused (plan c w).answer && is_none (plan c w).op) rs (left c w rs)

-- a running page is one of the transaction that a call commits
unfoldable pub of_change : Call → Running → Bool
of_change (format g) r = false
of_change (recover g) r = false
of_change (begin id) r = false
of_change (write id lpn d) r = false
of_change (drop_page id lpn) r = false
of_change (lone lpn d) r = false
of_change (commit id) r = eqb r.id id
of_change (abort id) r = false
of_change (read lpn) r = false
of_change checkpoint r = false
of_change reclaim r = false

-- ---- phases
-- live: "array, map, hold and state as the one before left them", and the pages that run; dark: "the state is lost", and "Until a recover is done,
-- only recovers follow, with any state, map and hold"
pub data Phase : Type 0 where
  live : World → List Running → Phase
  dark : List ℕ → Phase

-- the array of a phase
abbrev pub array_of : Phase → List ℕ
array_of (live w rs) = w.array
array_of (dark xs) = xs

-- "every recover that format's geometry"; "A format refused with nothing changed may stand anywhere; any other starts a new sequence"
abbrev pub Allowed : Geometry → Call → World → Type 0
Allowed g (format h) w = refused (plan (format h) w).answer ≡ true
Allowed g (recover h) w = h ≡ g
Allowed g (begin id) w = Unit {0}
Allowed g (write id lpn d) w = Unit {0}
Allowed g (drop_page id lpn) w = Unit {0}
Allowed g (lone lpn d) w = Unit {0}
Allowed g (commit id) w = Unit {0}
Allowed g (abort id) w = Unit {0}
Allowed g (read lpn) w = Unit {0}
Allowed g checkpoint w = Unit {0}
Allowed g reclaim w = Unit {0}

-- a recover, or a format (which must be refused)
abbrev pub is_recovery : Call → Bool
is_recovery (format g) = true
is_recovery (recover g) = true
is_recovery (begin id) = false
is_recovery (write id lpn d) = false
is_recovery (drop_page id lpn) = false
is_recovery (lone lpn d) = false
is_recovery (commit id) = false
is_recovery (abort id) = false
is_recovery (read lpn) = false
is_recovery checkpoint = false
is_recovery reclaim = false

-- a cut in call c while its operation is done, that lets these bits of it turn, and of each page that still runs the bits that stand for its number:
-- what is told of it; of running pages those of "the transaction's pages"
unfoldable pub cut_event : Call → World → List Running → List ℕ → (ℕ → List ℕ) → Event
cut_event c w rs lets parts =
    let p = plan c w in
    let n = p.state.geometry.pages in
    let own = those (of_change c) (during c w rs) in
    cut_in c (programs p.op) (due_bits n p.op w.array ++ runs_due n own w.array)
    (turned_bits n p.op lets w.array ++ runs_turned n own parts w.array)

-- the array that the cut leaves
unfoldable pub cut_array : Call → World → List Running → List ℕ → (ℕ → List ℕ) → List ℕ
cut_array c w rs lets parts =
    let n = (plan c w).state.geometry.pages in
    cut_runs n (during c w rs) parts (cut_op n (plan c w).op lets w.array)

-- a cut in call c before its operation begins: nothing of it is turned
unfoldable pub early_event : Call → World → Event
early_event c w =
    let p = plan c w in
    cut_in c (programs p.op) (due_bits p.state.geometry.pages p.op w.array) []

-- the array that a cut leaves before or between operations
abbrev pub early_array : World → List Running → (ℕ → List ℕ) → List ℕ
early_array w rs parts = cut_runs w.state.geometry.pages rs parts w.array

-- what a call or a cut leads to
pub data Step (g : Geometry) : Phase → Event → Phase → Type 0 where
  -- a call on what the one before left
  call : (c : Call) (w : World) (rs : List Running) → fits c ≡ true → Allowed g c w
      → Step g (live w rs) (called c (exec c w).answer) (live (exec c w).world (runs_after c w rs))
  -- a cut in a call: "it alters only what that call programs or erases, and the state is lost", and what runs
  cut : (c : Call) (w : World) (rs : List Running) (lets : List ℕ) (parts : ℕ → List ℕ) → fits c ≡ true → Allowed g c w
      → Step g (live w rs) (cut_event c w rs lets parts) (dark (cut_array c w rs lets parts))
  -- a cut in a call before its operation begins
  early : (c : Call) (w : World) (rs : List Running) (parts : ℕ → List ℕ) → fits c ≡ true → Allowed g c w
      → Step g (live w rs) (early_event c w) (dark (early_array w rs parts))
  -- a cut between two calls
  between : (w : World) (rs : List Running) (parts : ℕ → List ℕ) → Step g (live w rs) cut_between (dark (early_array w rs parts))
  -- after a cut: a recover with any state, map and hold that is done
  back : (w : World) → (exec (recover g) w).answer ≡ 0 → Step g (dark w.array) (called (recover g) 0) (live (exec (recover g) w).world [])
  -- or a recover or a format, so handed, that is refused
  failed : (c : Call) (w : World) → is_recovery c ≡ true → fits c ≡ true → Allowed g c w → refused (exec c w).answer ≡ true
      → Step g (dark w.array) (called c (exec c w).answer) (dark w.array)
  -- or a cut in one of them, or another between
  lost : (c : Call) (w : World) → is_recovery c ≡ true → fits c ≡ true → Allowed g c w → Step g (dark w.array) (cut_in c false [] []) (dark w.array)
  again : (xs : List ℕ) → Step g (dark xs) cut_between (dark xs)

-- a list of events, from phase to phase
pub data Run (g : Geometry) : Phase → List Event → Phase → Type 0 where
  stop : (p : Phase) → Run g p [] p
  next : {p q r : Phase} {e : Event} {es : List Event} → Step g p e q → Run g q es r → Run g p (e ∷ es) r

-- a format of geometry g under way, "run from its first stride on any array"; one that is refused in between changes nothing
pub data Formatting (g : Geometry) : World → Type 0 where
  first : (w : World) → strides_done g w.state w.state.work ≡ 0 → (exec (format g) w).answer ≡ 255 → Formatting g (exec (format g) w).world
  more : (w : World) → Formatting g w → (exec (format g) w).answer ≡ 255 → Formatting g (exec (format g) w).world

-- the world that a format leaves, "finished"
pub data Formatted (g : Geometry) : World → Type 0 where
  finished : (w : World) → Formatting g w → (exec (format g) w).answer ≡ 0 → Formatted g (exec (format g) w).world
