-- Every short session, by point 13 of document 02 (docs/PAPERS.md): which there are, in which order, and the maps recovered after a cut "before and after
-- each program". What is claimed of their list stands at the end.
use Rattle.std.specs.Prelude.{ℕ, zero, suc, ◌+◌, ◌-◌, ◌*◌, ◌/◌, ◌%◌, ◌≤◌, ◌<◌, ◌≡◌, ◌⊎◌, Bool, true, not, ◌&&◌, List, [], ◌∷◌, ◌++◌, length, get_or, replicate}
use Rattle.model.specs.Lists.{keep, those}
use Rattle.model.specs.Answers.{refused}
use Rattle.model.specs.World.{World, programs}
use Rattle.model.specs.Frame.{fresh_state}
use Rattle.model.specs.Commands.{Call, format, recover, begin, write, commit, abort, read, plan, exec}
use Rattle.model.specs.declared.Geometry.{Geometry}

-- ---- the commands
-- the data of a write, which the point leaves open
unfoldable pub zeros : List ℕ
zeros = replicate 512 0

-- "there are ten commands: .. in that order (write 1/0 writes logical page 0 under identifier 1)"
unfoldable pub commands : List Call
commands =
    begin 1
    ∷ begin 2
    ∷ write 1 0 zeros
    ∷ write 1 1 zeros
    ∷ write 2 0 zeros
    ∷ write 2 1 zeros
    ∷ commit 1
    ∷ commit 2
    ∷ abort 1
    ∷ abort 2
    ∷ []

-- a command by its number, "from 1"
unfoldable pub command_of : ℕ → Call
command_of c = get_or commands (c - 1) (read 0)

-- ---- the device
-- "a .. one-plane device of 8 × 8 pages, 16 of them logical"
abbrev pub small : Geometry
small = record { blocks = 8; pages = 8; logical = 16; planes = 1 }

-- an array, with a map, a hold and a state that tell nothing of it
unfoldable pub lent_for : List ℕ → World
lent_for xs = record { array = xs; map = replicate 16 0; hold = replicate 4096 0; state = fresh_state small }

-- n strides of a format
unfoldable pub strides : Geometry → ℕ → World → World
strides g zero w = w
strides g (suc n) w = strides g n (exec (format g) w).world

-- "freshly formatted": eight erases, a map page and the zone page
unfoldable pub fresh : World
fresh = strides small 10 (lent_for (replicate 33792 0))

-- "the map recovered"
unfoldable pub recovered : List ℕ → List ℕ
recovered xs = (exec (recover small) (lent_for xs)).world.map

-- ---- a session, from a world
-- "in which none is refused"
unfoldable pub accepted : List ℕ → World → Bool
accepted [] w = true
accepted (c ∷ cs) w = not (refused (exec (command_of c) w).answer) && accepted cs (exec (command_of c) w).world

-- "after a cut before and after each program": where a call programs a page, of the array before the call and of the array after it
unfoldable pub call_cuts : Call → World → List (List ℕ)
call_cuts c w = keep (programs (plan c w).op) (recovered w.array ∷ recovered (exec c w).world.array ∷ [])

unfoldable pub cuts : List ℕ → World → List (List ℕ)
cuts [] w = []
cuts (c ∷ cs) w = call_cuts (command_of c) w ++ cuts cs (exec (command_of c) w).world

-- ---- the list of sessions
-- 10 to the n
unfoldable pub power : ℕ → ℕ
power zero = 1
power (suc n) = 10 * power n

-- session k of those of n commands: the n digits of k, each counted from 1
unfoldable pub session : ℕ → ℕ → List ℕ
session zero k = []
session (suc n) k = session n (k / 10) ++ ((1 + k % 10) ∷ [])

-- j of them, from session k on
unfoldable pub sessions_from : ℕ → ℕ → ℕ → List (List ℕ)
sessions_from n k zero = []
sessions_from n k (suc j) = session n k ∷ sessions_from n (suc k) j

-- those of n commands, then those of one more, and so on, of j lengths; "shorter first, then by command order"
unfoldable pub sessions_up : ℕ → ℕ → List (List ℕ)
sessions_up n zero = []
sessions_up n (suc j) = sessions_from n 0 (power n) ++ sessions_up (suc n) j

-- those of a list "in which none is refused"
unfoldable pub accepted_in : List (List ℕ) → List (List ℕ)
accepted_in css = those (λ (cs : List ℕ). accepted cs fresh) css

-- "the sessions of none to four commands in which none is refused": of five lengths
unfoldable pub short_sessions : List (List ℕ)
short_sessions = accepted_in (sessions_up 0 5)

-- ---- what is claimed of that list
-- commands 1 to 10
abbrev pub Commands : List ℕ → Type 0
Commands [] = Unit {0}
Commands (c ∷ cs) = ((1 ≤ c) × (c ≤ 10)) × Commands cs

-- a session "of none to four commands in which none is refused"
pub record ShortSession (cs : List ℕ) : Type 0 where
  pub known : Commands cs
  pub short : length cs ≤ 4
  pub accepts : accepted cs fresh ≡ true

-- it stands in a list
abbrev pub Among : List ℕ → List (List ℕ) → Type 0
Among cs [] = ⊥
Among cs (d ∷ ds) = (cs ≡ d) ⊎ Among cs ds

-- "command order", of two sessions of one length
abbrev pub Lower : List ℕ → List ℕ → Type 0
Lower [] ds = ⊥
Lower (c ∷ cs) [] = ⊥
Lower (c ∷ cs) (d ∷ ds) = (c < d) ⊎ ((c ≡ d) × Lower cs ds)

-- "shorter first, then by command order"
abbrev pub Before : List ℕ → List ℕ → Type 0
Before cs ds = (length cs < length ds) ⊎ ((length cs ≡ length ds) × Lower cs ds)

-- it comes before every one of a list
abbrev pub BeforeAll : List ℕ → List (List ℕ) → Type 0
BeforeAll cs [] = Unit {0}
BeforeAll cs (d ∷ ds) = Before cs d × BeforeAll cs ds

-- each comes before all that stand behind it, so none stands twice
abbrev pub InOrder : List (List ℕ) → Type 0
InOrder [] = Unit {0}
InOrder (c ∷ cs) = BeforeAll c cs × InOrder cs

-- "exactly the sessions of none to four commands in which none is refused, each once, shorter first, then by command order"
pub record EveryShortSession : Type 0 where
  pub none_missing : (cs : List ℕ) → ShortSession cs → Among cs short_sessions
  pub none_else : (cs : List ℕ) → Among cs short_sessions → ShortSession cs
  pub in_order : InOrder short_sessions
