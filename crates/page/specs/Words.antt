-- The number of 8 bytes at a place, and the 8 bytes of a number.
use Rattle.std.specs.Prelude.{ℕ, ◌+◌, ◌*◌, ◌/◌, ◌%◌, List, ◌++◌}
use Rattle.model.specs.Bytes.{le32, bytes32}

abbrev pub le64 : List ℕ → ℕ → ℕ
le64 xs i = le32 xs i + 4294967296 * le32 xs (i + 4)

abbrev pub bytes64 : ℕ → List ℕ
bytes64 x = bytes32 (x % 4294967296) ++ bytes32 (x / 4294967296)
