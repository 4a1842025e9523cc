-- The calls of a caller who lends the state as bytes: what each answers and leaves is what document 01 (docs/PAPERS.md) plans.
use Rattle.std.specs.Prelude.{ℕ, ◌*◌, Bool, cond, List, length, get_or, eqb, ℤ}
use Rattle.model.specs.Answers.{refused}
use Rattle.model.specs.Page.{class_of, class_number}
use Rattle.model.specs.Geometry.{unmapped}
use Rattle.model.specs.World.{World}
use Rattle.model.specs.Frame.{fresh_state}
use Rattle.model.specs.Commands.{Call, read, Outcome, exec}
use Rattle.model.specs.declared.Class.{Class}
use Rattle.model.specs.declared.Class.TheVariants.{Erased, Whole, Torn}
use Rattle.model.specs.declared.Geometry.{Geometry}
use Rattle.model.specs.declared.State.{State}
use Rattle.encoding.specs.Encoding.{encodes, state_from, bytes_of}

-- the answer, and what the lent slices hold then
pub record Result : Type 0 where
  pub answer : ℕ
  pub array : List ℕ
  pub map : List ℕ
  pub hold : List ℕ
  pub bytes : List ℕ

-- the world of the lent slices with a state
abbrev pub world_of : List ℕ → List ℕ → List ℕ → State → World
world_of xs map hold s = record { array = xs; map = map; hold = hold; state = s }

-- the world that the lent slices say
abbrev pub world_from : List ℕ → List ℕ → List ℕ → List ℕ → World
world_from xs map hold bs = world_of xs map hold (state_from bs)

-- an outcome as the caller has it; "a refusal .. changes nothing"
unfoldable pub result_of : List ℕ → Outcome → Result
result_of bs o =
    record {
      answer = o.answer;
      array = o.world.array;
      map = o.world.map;
      hold = o.world.hold;
      bytes = cond (refused o.answer) bs (bytes_of o.world.state);
    }

-- a bad frame, with every slice as it was
abbrev pub bad_frame : List ℕ → List ℕ → List ℕ → List ℕ → Result
bad_frame xs map hold bs = record { answer = 1; array = xs; map = map; hold = hold; bytes = bs }

-- a call: carried out where the bytes encode a state, else a bad frame
unfoldable pub called : Call → List ℕ → List ℕ → List ℕ → List ℕ → Result
called c xs map hold bs = cond (encodes bs) (result_of bs (exec c (world_from xs map hold bs))) (bad_frame xs map hold bs)

-- ---- format and recover, which come first after power-up
-- the state that they start from: what the bytes say; where they encode none, a fresh one ("with any state, map and hold")
unfoldable pub start_from : Geometry → List ℕ → State
start_from g bs = cond (encodes bs) (state_from bs) (fresh_state g)

-- as many bytes as a state has
unfoldable pub sized : List ℕ → Bool
sized bs = eqb (length bs) 2881

-- such a call with its geometry: carried out on any bytes of that number, else a bad frame
unfoldable pub started : (Geometry → Call) → Geometry → List ℕ → List ℕ → List ℕ → List ℕ → Result
started c g xs map hold bs = cond (sized bs) (result_of bs (exec (c g) (world_of xs map hold (start_from g bs)))) (bad_frame xs map hold bs)

-- a read's answer, and the place of the 512 bytes in the array
pub record Found : Type 0 where
  pub answer : ℕ
  pub at : ℕ

-- where it is not refused they are the first of the mapped page
unfoldable pub found_of : ℕ → List ℕ → ℕ → ℕ → Found
found_of lpn map at n = record { answer = n; at = cond (eqb n 0) (get_or map lpn unmapped * 528) at }

-- a read
unfoldable pub read_called : ℕ → List ℕ → List ℕ → List ℕ → List ℕ → ℕ → Found
read_called lpn xs map hold bs at = found_of lpn map at (cond (encodes bs) (exec (read lpn) (world_from xs map hold bs)).answer 1)

-- ---- the class of a page
-- its number, and the difference
pub record Classed : Type 0 where
  pub class : ℕ
  pub difference : ℤ

-- the difference "with torn", with another class what stood there
abbrev pub difference_or : ℤ → Class → ℤ
difference_or z Erased = z
difference_or z Whole = z
difference_or z (Torn d) = d

-- a class as the caller has it
abbrev pub classed_of : ℤ → Class → Classed
classed_of z c = record { class = class_number c; difference = difference_or z c }

-- that of a page; 3 for a part of another length
unfoldable pub class_called : List ℕ → ℤ → Classed
class_called xs z = cond (eqb (length xs) 528) (classed_of z (class_of xs)) (record { class = 3; difference = z })
