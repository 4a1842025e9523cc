-- What runs on two planes, sentence by sentence of point 11 of document 02 (docs/PAPERS.md), as laws over all worlds. Demand 3 does not need most of them:
-- they only bound what a cut may do.
use Rattle.std.specs.Prelude.{ℕ, ◌≡◌, refl, true, false, List, [], ◌∷◌, eqb}
use Rattle.model.specs.Lists.{those}
use Rattle.model.specs.Page.{page_at}
use Rattle.model.specs.Answers.{refused}
use Rattle.model.specs.World.{World, program, refuse, is_none}
use Rattle.model.specs.Commands.{Call, format, recover, begin, lone, commit, abort, read, checkpoint, reclaim, plan}
use Rattle.model.specs.Sequence.{Running, apart_from, during, started, left, runs_after, of_change}
use Rattle.model.specs.declared.Geometry.{Geometry}

-- a page of change id that runs on page k
abbrev runs : ℕ → ℕ → Running
runs id k = record { id = id; page = k; before = [] }

-- "A write may return with its program running": on two planes, and on two planes alone
pub write_runs_on : (w : World) (id k : ℕ) (new : List ℕ) → eqb w.state.geometry.planes 2 ≡ true
    → started id w (program k new) ≡ record { id = id; page = k; before = page_at w.array k } ∷ []
unfolding started
write_runs_on w id k new two = rw two refl

pub one_plane_ends : (w : World) (id k : ℕ) (new : List ℕ) → eqb w.state.geometry.planes 2 ≡ false → started id w (program k new) ≡ []
unfolding started
one_plane_ends w id k new one = rw one refl

-- "until the next program in its plane begins": with blocks of 8 pages, page 17 ends page 16 of its block and page 33 of block 4, not page 24 of block 3
pub plane_ends : those (apart_from 8 (program 17 [])) (runs 5 16 ∷ runs 5 24 ∷ runs 6 33 ∷ []) ≡ runs 5 24 ∷ []
unfolding apart_from those
plane_ends = refl

-- "a commit or lone write answers done, a command that waits begins"
pub waited_for : (g : Geometry) (w : World) (rs : List Running) (id lpn : ℕ) (d : List ℕ)
    → left (commit id) w rs ∷ left (lone lpn d) w rs ∷ left checkpoint w rs ∷ left reclaim w rs ∷ left (format g) w rs ∷ left (recover g) w rs ∷ []
    ≡ [] ∷ [] ∷ [] ∷ [] ∷ [] ∷ [] ∷ []
unfolding left
waited_for g w rs id lpn d = refl

-- the others do not wait
pub not_waited_for : (w : World) (rs : List Running) (id lpn : ℕ) → left (begin id) w rs ∷ left (abort id) w rs ∷ left (read lpn) w rs ∷ [] ≡ rs ∷ rs ∷ rs ∷ []
unfolding left
not_waited_for w rs id lpn = refl

-- "Checkpoint, reclaim, format and recover first wait for both": nothing runs beside what they program or erase
pub begins_alone : (g : Geometry) (w : World) (rs : List Running)
    → (is_none (plan checkpoint w).op ≡ false → during checkpoint w rs ≡ [])
    × ((is_none (plan reclaim w).op ≡ false → during reclaim w rs ≡ [])
    × (is_none (plan (format g) w).op ≡ false → during (format g) w rs ≡ []))
unfolding during
begins_alone g w rs = (
  (λ (o : is_none (plan checkpoint w).op ≡ false). rw o refl),
  (
    (λ (o : is_none (plan reclaim w).op ≡ false). rw o refl),
    (λ (o : is_none (plan (format g) w).op ≡ false). rw o refl),
  ),
)

-- "a call refused before any flash operation waits for nothing"
pub refused_keeps : (c : Call) (w : World) (rs : List Running) (n : ℕ) → plan c w ≡ refuse w n → refused n ≡ true → runs_after c w rs ≡ rs
unfolding runs_after
refused_keeps c w rs n e r = rw (e, r) refl

-- of a cut in a commit the book is told of "the transaction's pages", not of another's
pub told_of_own : those (of_change (commit 5)) (runs 5 16 ∷ runs 6 24 ∷ []) ≡ runs 5 16 ∷ []
unfolding of_change those
told_of_own = refl
