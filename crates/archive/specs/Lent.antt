-- The functions of include/bokuhira.h as calls on what a caller lends: array, map, hold, and the state as bytes. What each answers and leaves is
-- the definition that its contract in crate `bokuhira` names.
use Rattle.std.specs.Prelude.{ℕ, Bool, false, cond, List, []}
use Rattle.model.specs.World.{World}
use Rattle.model.specs.Commands.{Call, format, recover, begin, write, drop_page, lone, commit, abort, read, checkpoint, reclaim}
use Rattle.model.specs.Book.{Event, cut_in}
use Rattle.model.specs.Sequence.{Running, runs_after, cut_event, cut_array, early_event, early_array}
use Rattle.encoding.specs.Encoding.{encodes}
use Rattle.bokuhira.specs.Calls.{Result, world_of, world_from, called, start_from, sized, started, Found, read_called}

-- what is lent: three slices as in a world, and the state's bytes
pub record Lent : Type 0 where
  pub array : List ℕ
  pub map : List ℕ
  pub hold : List ℕ
  pub bytes : List ℕ

-- a read, and the place that it gives; `at` is what stands there before
abbrev pub read_on : ℕ → Lent → ℕ → Found
read_on lpn l at = read_called lpn l.array l.map l.hold l.bytes at

-- the function of each command; a read leaves every slice as it was, and its answer does not hang on the place
unfoldable pub bokuhira : Call → Lent → Result
bokuhira (format g) l = started format g l.array l.map l.hold l.bytes
bokuhira (recover g) l = started recover g l.array l.map l.hold l.bytes
bokuhira (begin id) l = called (begin id) l.array l.map l.hold l.bytes
bokuhira (write id lpn d) l = called (write id lpn d) l.array l.map l.hold l.bytes
bokuhira (drop_page id lpn) l = called (drop_page id lpn) l.array l.map l.hold l.bytes
bokuhira (lone lpn d) l = called (lone lpn d) l.array l.map l.hold l.bytes
bokuhira (commit id) l = called (commit id) l.array l.map l.hold l.bytes
bokuhira (abort id) l = called (abort id) l.array l.map l.hold l.bytes
bokuhira (read lpn) l = record { answer = (read_on lpn l 0).answer; array = l.array; map = l.map; hold = l.hold; bytes = l.bytes }
bokuhira checkpoint l = called checkpoint l.array l.map l.hold l.bytes
bokuhira reclaim l = called reclaim l.array l.map l.hold l.bytes

-- what the slices hold after a call
abbrev pub lent_in : Result → Lent
lent_in r = record { array = r.array; map = r.map; hold = r.hold; bytes = r.bytes }

-- what the slices hold after this one
abbrev pub after : Call → Lent → Lent
after c l = lent_in (bokuhira c l)

-- ---- a cut in a call
-- whether the call takes the bytes for a state: format and recover any 2,881, the others those that encode one
unfoldable pub takes : Call → List ℕ → Bool
takes (format g) bs = sized bs
takes (recover g) bs = sized bs
takes (begin id) bs = encodes bs
takes (write id lpn d) bs = encodes bs
takes (drop_page id lpn) bs = encodes bs
takes (lone lpn d) bs = encodes bs
takes (commit id) bs = encodes bs
takes (abort id) bs = encodes bs
takes (read lpn) bs = encodes bs
takes checkpoint bs = encodes bs
takes reclaim bs = encodes bs

-- the world that it then works on
unfoldable pub world_in : Call → Lent → World
world_in (format g) l = world_of l.array l.map l.hold (start_from g l.bytes)
world_in (recover g) l = world_of l.array l.map l.hold (start_from g l.bytes)
world_in (begin id) l = world_from l.array l.map l.hold l.bytes
world_in (write id lpn d) l = world_from l.array l.map l.hold l.bytes
world_in (drop_page id lpn) l = world_from l.array l.map l.hold l.bytes
world_in (lone lpn d) l = world_from l.array l.map l.hold l.bytes
world_in (commit id) l = world_from l.array l.map l.hold l.bytes
world_in (abort id) l = world_from l.array l.map l.hold l.bytes
world_in (read lpn) l = world_from l.array l.map l.hold l.bytes
world_in checkpoint l = world_from l.array l.map l.hold l.bytes
world_in reclaim l = world_from l.array l.map l.hold l.bytes

-- before or between operations: the array with part of each page that runs
unfoldable pub early_leaves : Lent → List Running → (ℕ → List ℕ) → List ℕ
early_leaves l rs parts = early_array (world_from l.array l.map l.hold l.bytes) rs parts

-- "it alters only what that call programs or erases", and what runs: the array with part of the operation that the call does on that world; none is
-- done where the bytes are not taken
unfoldable pub cut_leaves : Call → Lent → List Running → List ℕ → (ℕ → List ℕ) → List ℕ
cut_leaves c l rs lets parts = cond (takes c l.bytes) (cut_array c (world_in c l) rs lets parts) (early_leaves l rs parts)

-- what is told of it
unfoldable pub cut_tells : Call → Lent → List Running → List ℕ → (ℕ → List ℕ) → Event
cut_tells c l rs lets parts = cond (takes c l.bytes) (cut_event c (world_in c l) rs lets parts) (cut_in c false [] [])

-- and of one before the call's operation begins
unfoldable pub early_tells : Call → Lent → Event
early_tells c l = cond (takes c l.bytes) (early_event c (world_in c l)) (cut_in c false [] [])

-- ---- the pages that run when a call has answered: where the bytes are not taken it waits for nothing
unfoldable pub lent_runs : Call → Lent → List Running → List Running
lent_runs c l rs = cond (takes c l.bytes) (runs_after c (world_in c l) rs) rs
