-- The text that tells how a recovery ended.
use Rattle.std.specs.Prelude.{ℕ, not, cond, List, [], ◌++◌, eqb}
use Rattle.model.specs.Lists.{count}
use Rattle.model.specs.Geometry.{unmapped}
use Rattle.model.specs.Zones.{available_of, unavailable_of, free_of}
use Rattle.model.specs.declared.Zones.{Zones}
use Rattle.model.specs.declared.State.{State}
use Rattle.lines.specs.Names.{answer_name, checkpoint_name, version_name, available_name, unavailable_name, free_name, mapped_name, torn_name}
use Rattle.lines.specs.Text.{number_line, blocks_line}

-- the logical pages that are mapped
unfoldable pub mapped_in : List ℕ → ℕ
mapped_in map = count (λ (x : ℕ). not (eqb x unmapped)) map

-- "`available=2,3,4`, `unavailable=`, `free=5,6,7` (blocks)"
unfoldable pub zones_text : Zones → List ℕ
zones_text z = blocks_line available_name (available_of z) ++ blocks_line unavailable_name (unavailable_of z) ++ blocks_line free_name (free_of z)

-- "`mapped=0` (logical pages)", and "`torn=` last, the number of torn pages"
unfoldable pub counts_text : List ℕ → ℕ → List ℕ
counts_text map torn = number_line mapped_name (mapped_in map) ++ number_line torn_name torn

-- "`checkpoint=1` (number), `version=0` (last), ..", one a line
unfoldable pub state_text : State → List ℕ → ℕ → List ℕ
state_text s map torn = number_line checkpoint_name s.checkpoint ++ number_line version_name s.version ++ zones_text s.zones ++ counts_text map torn

-- "A refusal prints the answer line only"
unfoldable pub answer_text : ℕ → State → List ℕ → ℕ → List ℕ
answer_text n s map torn = number_line answer_name n ++ cond (eqb n 0) (state_text s map torn) []
