-- "The book", sentence by sentence, as laws over all books: what each event makes of it. Demand 3 holds most of them too, but not that a cut closes the
-- open changes: the recover that must follow closes them again.
use Rattle.std.specs.Prelude.{ℕ, ◌≡◌, Bool, true, false, List, [], ◌∷◌, ◌++◌, set, replicate, eqb}
use Rattle.std.proofs.Math.Path.{refl}
use Rattle.model.specs.Lists.{those}
use Rattle.model.specs.World.{every_turned}
use Rattle.model.specs.Commands.{Call, format, recover, begin, write, drop_page, lone, commit, abort, read, checkpoint, reclaim}
use Rattle.model.specs.Book.{called, cut_in, cut_between, never, holds, Write, Change, Book, blank, enter_all, writes_of, add_to, close, entering, changing, tell}
use Rattle.model.specs.declared.Geometry.{Geometry}

-- "L pages, at first never written, and the open changes, at first none"
pub starts_blank : (g : Geometry) → blank g ≡ record { pages = replicate g.logical never; changes = [] }
starts_blank g = refl

-- ---- "Answered done"
module _ (b : Book) where
  -- "begin opens an empty change"
  pub begin_opens : (id : ℕ) → tell b (called (begin id) 0) ≡ record { pages = b.pages; changes = b.changes ++ (record { id = id; writes = [] } ∷ []) }
  unfolding tell entering changing
  begin_opens id = refl

  -- "write adds to it"
  pub write_adds : (id lpn : ℕ) (d : List ℕ) → tell b (called (write id lpn d) 0) ≡ record { pages = b.pages; changes = add_to id (record { lpn = lpn; content = holds d }) b.changes }
  unfolding tell entering changing
  write_adds id lpn d = refl

  -- "a drop is a write that leaves its page" never written
  pub drop_adds : (id lpn : ℕ) → tell b (called (drop_page id lpn) 0) ≡ record { pages = b.pages; changes = add_to id (record { lpn = lpn; content = never }) b.changes }
  unfolding tell entering changing
  drop_adds id lpn = refl

  -- "commit enters its writes in the pages in order and closes it"
  pub commit_enters : (id : ℕ) → tell b (called (commit id) 0) ≡ record { pages = enter_all b.pages (writes_of id b.changes); changes = close id b.changes }
  unfolding tell entering changing
  commit_enters id = refl

  -- "abort closes it"
  pub abort_closes : (id : ℕ) → tell b (called (abort id) 0) ≡ record { pages = b.pages; changes = close id b.changes }
  unfolding tell entering changing
  abort_closes id = refl

  -- "lone write enters its page"
  pub lone_enters : (lpn : ℕ) (d : List ℕ) → tell b (called (lone lpn d) 0) ≡ record { pages = set b.pages lpn (holds d); changes = b.changes }
  unfolding tell entering changing
  lone_enters lpn d = refl

  -- "recover closes all"
  pub recover_closes : (g : Geometry) → tell b (called (recover g) 0) ≡ record { pages = b.pages; changes = [] }
  unfolding tell entering changing
  recover_closes g = refl

  -- "No other answer or call alters it"
  pub other_answer : (c : Call) (n : ℕ) → eqb n 0 ≡ false → tell b (called c n) ≡ b
  unfolding tell
  other_answer c n e = rw e refl

  pub format_same : (g : Geometry) → tell b (called (format g) 0) ≡ b
  unfolding tell entering changing
  format_same g = refl

  pub read_same : (lpn : ℕ) → tell b (called (read lpn) 0) ≡ b
  unfolding tell entering changing
  read_same lpn = refl

  pub checkpoint_same : tell b (called checkpoint 0) ≡ b
  unfolding tell entering changing
  checkpoint_same = refl

  pub reclaim_same : tell b (called reclaim 0) ≡ b
  unfolding tell entering changing
  reclaim_same = refl

  -- ---- "A cut closes all"
  pub cut_closes : (c : Call) (p : Bool) (due turned : List ℕ) → (tell b (cut_in c p due turned)).changes ≡ []
  unfolding tell
  cut_closes c p due turned = refl

  pub between_closes : tell b cut_between ≡ record { pages = b.pages; changes = [] }
  unfolding tell
  between_closes = refl

  -- "it first enters the writes, exactly when that call programs its page and all due bits .. are turned"
  module _ (c : Call) (due turned : List ℕ) where
    pub cut_enters : every_turned due turned ≡ true → (tell b (cut_in c true due turned)).pages ≡ entering c b
    unfolding tell
    cut_enters e = rw e refl

    pub cut_short_of_a_bit : every_turned due turned ≡ false → (tell b (cut_in c true due turned)).pages ≡ b.pages
    unfolding tell
    cut_short_of_a_bit e = rw e refl

    pub cut_programs_nothing : (tell b (cut_in c false due turned)).pages ≡ b.pages
    unfolding tell
    cut_programs_nothing = refl

  -- "in a commit or lone write", and in no other call
  abbrev pub Enters : Call → Type 0
  Enters (format g) = entering (format g) b ≡ b.pages
  Enters (recover g) = entering (recover g) b ≡ b.pages
  Enters (begin id) = entering (begin id) b ≡ b.pages
  Enters (write id lpn d) = entering (write id lpn d) b ≡ b.pages
  Enters (drop_page id lpn) = entering (drop_page id lpn) b ≡ b.pages
  Enters (lone lpn d) = entering (lone lpn d) b ≡ set b.pages lpn (holds d)
  Enters (commit id) = entering (commit id) b ≡ enter_all b.pages (writes_of id b.changes)
  Enters (abort id) = entering (abort id) b ≡ b.pages
  Enters (read lpn) = entering (read lpn) b ≡ b.pages
  Enters checkpoint = entering checkpoint b ≡ b.pages
  Enters reclaim = entering reclaim b ≡ b.pages

  pub enters : (c : Call) → Enters c
  unfolding entering
  enters (format g) = refl
  enters (recover g) = refl
  enters (begin id) = refl
  enters (write id lpn d) = refl
  enters (drop_page id lpn) = refl
  enters (lone lpn d) = refl
  enters (commit id) = refl
  enters (abort id) = refl
  enters (read lpn) = refl
  enters checkpoint = refl
  enters reclaim = refl

-- ---- "each an identifier with its writes in order": changes 5 and 6, the writes of 5 both of logical page 1
abbrev page1 : ℕ → Write
page1 x = record { lpn = 1; content = holds (x ∷ []) }

abbrev change : ℕ → List Write → Change
change id ws = record { id = id; writes = ws }

-- a write is the last of its own change
pub added_last : add_to 5 (page1 8) (change 5 (page1 7 ∷ []) ∷ change 6 [] ∷ []) ≡ change 5 (page1 7 ∷ page1 8 ∷ []) ∷ change 6 [] ∷ []
unfolding add_to
added_last = refl

-- "commit enters its writes in the pages in order": the later one holds
pub entered_in_order : enter_all (never ∷ never ∷ []) (writes_of 5 (change 6 (page1 9 ∷ []) ∷ change 5 (page1 7 ∷ page1 8 ∷ []) ∷ [])) ≡ never ∷ holds (8 ∷ []) ∷ []
unfolding enter_all writes_of
entered_in_order = refl

-- a drop after a write, and before one
abbrev drop1 : Write
drop1 = record { lpn = 1; content = never }

pub dropped_in_order : enter_all (never ∷ holds (6 ∷ []) ∷ []) (page1 7 ∷ drop1 ∷ []) ≡ never ∷ never ∷ []
unfolding enter_all
dropped_in_order = refl

pub written_in_order : enter_all (never ∷ holds (6 ∷ []) ∷ []) (drop1 ∷ page1 7 ∷ []) ≡ never ∷ holds (7 ∷ []) ∷ []
unfolding enter_all
written_in_order = refl

-- and its own change is closed, no other
pub closed_alone : close 5 (change 5 (page1 7 ∷ []) ∷ change 6 (page1 9 ∷ []) ∷ []) ≡ change 6 (page1 9 ∷ []) ∷ []
unfolding close those
closed_alone = refl
