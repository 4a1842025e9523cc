-- Lists of blocks that lie in the array.
use Rattle.std.specs.Prelude.{ℕ, ◌+◌, ◌*◌, ◌≤◌, ◌<◌, List, length, get_or}

-- the blocks of the list, p pages a block, lie in an array of n bytes; a zone lists at most 126
pub record Within (n p : ℕ) (bs : List ℕ) : Type 0 where
  pub each : (i : ℕ) → i < length bs → get_or bs i 0 * p * 528 + p * 528 ≤ n
  pub few : length bs ≤ 126
