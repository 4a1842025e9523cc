-- The text of the sessions, and what the functions that put it hand back.
use Rattle.std.specs.Prelude.{Option, Some, None, is_some, unwrap_or, ℕ, ◌+◌, ◌≤◌, ◌<◌, ◌≡◌, Bool, false, not, List, [], ◌∷◌, ◌++◌, length, take, get_or, eqb}
use Rattle.io.specs.Counts.{IsPrefixLen}
use Rattle.model.specs.Lists.{keep}
use Rattle.model.specs.Answers.{refused}
use Rattle.model.specs.World.{World}
use Rattle.model.specs.Frame.{no_place}
use Rattle.model.specs.Transactions.{place_of}
use Rattle.model.specs.Commands.{Call, format, recover, begin, write, drop_page, lone, commit, abort, read, checkpoint, reclaim, exec}
use Rattle.model.specs.Sessions.{command_of, fresh, call_cuts, cuts, accepted_in, short_sessions}
use Rattle.model.specs.declared.Place.{Place}
use Rattle.text.specs.Text.{listed, Put}
use Rattle.sessions.specs.declared.Rig.{Rig}

-- "each cut's 16 entries likewise, a blank before"
abbrev pub map_text : List ℕ → List ℕ
map_text m = 32 ∷ listed 0 m

unfoldable pub maps_text : List (List ℕ) → List ℕ
maps_text [] = []
maps_text (m ∷ ms) = map_text m ++ maps_text ms

-- "One line each: command numbers from 1 joined by commas, then each cut's 16 entries .., all decimal"
unfoldable pub line_of : List ℕ → List ℕ
line_of cs = listed 0 cs ++ maps_text (cuts cs fresh) ++ (10 ∷ [])

unfoldable pub lines_of : List (List ℕ) → List ℕ
lines_of [] = []
lines_of (cs ∷ css) = line_of cs ++ lines_of css

-- the lines of those of a list in which none is refused
unfoldable pub lines_in : List (List ℕ) → List ℕ
lines_in css = lines_of (accepted_in css)

-- the whole text
unfoldable pub text_of : List ℕ
text_of = lines_of short_sessions

-- ---- what the text comes to in a buffer: it stands at the front, or is longer than what is kept for it
abbrev pub Lists : List ℕ → Option ℕ → Type 0
Lists out (Some r) = (take r out ≡ text_of) × IsPrefixLen r out
Lists out None = 29696 < length text_of

-- the same of a part of it, behind the first `at` bytes
abbrev pub Adds : List ℕ → ℕ → List ℕ → List ℕ → Option ℕ → Type 0
Adds before at text after (Some r) = (take r after ≡ take at before ++ text) × (r ≤ length after)
Adds before at text after None = 29696 < at + length text

-- ---- what tells beforehand whether a call programs a page, if it is not refused
-- a page of this identifier is held
unfoldable pub holds_page : List Place → ℕ → Bool
holds_page ps id = not (eqb (get_or ps (place_of ps id) no_place).count 0)

-- "The next write first programs the held page", and so does a commit; of a call that is not among the ten nothing is told
unfoldable pub will_program : Call → List Place → Bool
will_program (format g) ps = false
will_program (recover g) ps = false
will_program (begin id) ps = false
will_program (write id lpn d) ps = holds_page ps id
will_program (drop_page id lpn) ps = false
will_program (lone lpn d) ps = false
will_program (commit id) ps = holds_page ps id
will_program (abort id) ps = false
will_program (read lpn) ps = false
will_program checkpoint ps = false
will_program reclaim ps = false

-- ---- the array, the map and the hold of a rig, with its state
abbrev pub world_of : Rig → World
world_of r = record { array = r.array; map = r.map; hold = r.hold; state = r.device.state }

-- ---- what one command of a session gives back: the world after it, and the end of its maps if it was not refused
pub record Turned (c : ℕ) (w v : World) (before : List ℕ) (at : ℕ) (after : List ℕ) (end : Option ℕ) : Type 0 where
  pub world : v ≡ (exec (command_of c) w).world
  pub answer : is_some end ≡ not (refused (exec (command_of c) w).answer)
  pub put : Put before at (keep (is_some end) (maps_text (call_cuts (command_of c) w))) 674 after (unwrap_or end at)
