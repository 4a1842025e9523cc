-- The report: what the program writes, for every input.
use denote.Bor.{Bor}
use Rattle.std.specs.Prelude.{Option, Some, None, ℕ, ◌≤◌, cond, List, ◌++◌, length, replicate, ltb}
use Rattle.model.specs.Geometry.{blank_map}
use Rattle.model.specs.Zones.{available_of, unavailable_of, torn_of}
use Rattle.model.specs.World.{World}
use Rattle.model.specs.Frame.{fresh_state}
use Rattle.model.specs.Commands.{Outcome, exec, recover}
use Rattle.model.specs.declared.Geometry.{Geometry}
use Rattle.model.specs.declared.State.{State}
use Rattle.flash.specs.Ranges.{Within}
use Rattle.blocks.specs.Blocks.{Counted}
use Rattle.lines.specs.Input.{Line, says, ill_formed, line_of}
use Rattle.lines.specs.Names.{blocks_name, pages_name, logical_name, answer_name}
use Rattle.lines.specs.Text.{number_line}
use Rattle.outcome.specs.Text.{answer_text}

-- "the number of torn pages in scan order", by the zones of the world's state
unfoldable pub torn_pages : World → ℕ
torn_pages w = torn_of w.array w.state.geometry.pages w.state.zones

-- the answer of a command, and, where it is done, the state, the map and the torn pages
unfoldable pub outcome_text : Outcome → List ℕ
outcome_text o = answer_text o.answer o.world.state o.world.map (torn_pages o.world)

-- a hold in which nothing stands
unfoldable pub empty_hold : List ℕ
empty_hold = replicate 4096 0

-- an array with a map and a hold lent for it
abbrev pub lent : Geometry → List ℕ → List ℕ → World
lent g xs map = record { array = xs; map = map; hold = empty_hold; state = fresh_state g }

-- the array recovered with this geometry; "at most 65,536 bytes"
unfoldable pub array_report : Geometry → List ℕ → List ℕ
array_report g xs = cond (ltb 65536 (length xs)) (number_line answer_name 1) (outcome_text (exec (recover g) (lent g xs (blank_map g))))

-- what a line leads to; "ill-formed lines count as 1"
abbrev pub following : Line → (ℕ → List ℕ → List ℕ) → List ℕ
following (says v xs) f = f v xs
following ill_formed f = number_line answer_name 1

-- "three lines, `blocks=8`, `pages=8`, `logical=16`, then the array"
unfoldable pub report_of : List ℕ → List ℕ
report_of input =
    following (line_of blocks_name input) (λ (b : ℕ) (second : List ℕ).
    following (line_of pages_name second) (λ (p : ℕ) (third : List ℕ).
    following (line_of logical_name third) (λ (l : ℕ) (xs : List ℕ).
    array_report (record { blocks = b; pages = p; logical = l; planes = 1 }) xs)))

-- the report on what the code parsed: a geometry and an array, or nothing
abbrev pub report_on : Option (Geometry × Bor (List ℕ)) → List ℕ
report_on (Some p) = array_report p.0 p.1.now
report_on None = number_line answer_name 1

-- ---- what the count may rely on
-- the blocks in scan order lie in the array, and the counts of the lists fit
pub record ScanFits (xs : List ℕ) (s : State) : Type 0 where
  pub counts : Counted s.zones
  pub blocks : Within (length xs) s.geometry.pages (unavailable_of s.zones ++ available_of s.zones)
  pub short : s.geometry.pages ≤ 64
