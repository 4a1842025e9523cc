-- Lines of the table put one behind the other. Assumes nothing.
use mathlib.Core.Path.{◌≡◌, sym, ◌∙◌}
use mathlib.Core.List.{List, [], ◌++◌, append_assoc, append-nil}
use Prim.Native.Nat.{ℕ, suc, ◌+◌, ◌-◌, ◌≤◌, ◌<◌}
use native.Mathlib.Numerals.{add-one}
use native.Mathlib.Omega.{arith}
use lib.ListN.{take}
use lib.Count.{ones}
use Rattle.text.specs.Text.{Put}
use Rattle.lines.specs.Text.{number_line}
use Rattle.table.specs.Counts.{counts}
use Rattle.zerotable.specs.Text.{lines_of}

-- the lines from value x on are the line of x and those behind it
line_of_law : (x : ℕ) → x < 256 → lines_of (counts x (256 - x)) ≡ number_line [] (8 - ones x) ++ lines_of (counts (x + 1) (256 - (x + 1)))
unfolding lines_of counts
line_of_law x h = let e : 256 - x ≡ suc (256 - (x + 1)) = omega arith in rw (e, add-one)

-- those put with those that are left are all: a turn keeps it
pub lines_again : (all : List ℕ) {out out' : List ℕ} {x end end' m : ℕ} → x < 256
    → take end out ++ lines_of (counts x (256 - x)) ≡ all
    → Put out end (number_line [] (8 - ones x)) m out' end'
    → take end' out' ++ lines_of (counts (x + 1) (256 - (x + 1))) ≡ all
lines_again all {x = x} h e p = rw (p.is, append_assoc, ← line_of_law x h) e

-- none is left
pub lines_done : (all out : List ℕ) (x end : ℕ) → 256 ≤ x → take end out ++ lines_of (counts x (256 - x)) ≡ all → take end out ≡ all
unfolding lines_of counts
lines_done all out x end h e = let z : 256 - x ≡ 0 = omega arith in sym (append-nil (take end out)) ∙ (rw z at e)
