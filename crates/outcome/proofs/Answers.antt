-- The text of an answer, and of a state behind it. Assumes nothing.
use mathlib.Core.Path.{◌≡◌}
use mathlib.Core.List.{List, ◌++◌, append-nil}
use Prim.Native.Nat.{ℕ}
use borrow.Author.Tests.{eq-eqb, ne_eqb}
use Rattle.model.specs.declared.State.{State}
use Rattle.lines.specs.Names.{answer_name}
use Rattle.lines.specs.Text.{number_line}
use Rattle.outcome.specs.Text.{state_text, answer_text}

-- a refusal, or more
pub refused_text : (n : ℕ) (s : State) (map : List ℕ) (torn : ℕ) → (n ≡ 0 → ⊥) → number_line answer_name n ≡ answer_text n s map torn
unfolding answer_text
refused_text n s map torn h = rw (ne_eqb _ _ h, append-nil)

-- done
pub done_text : (n : ℕ) (s : State) (map : List ℕ) (torn : ℕ) → n ≡ 0 → number_line answer_name n ++ state_text s map torn ≡ answer_text n s map torn
unfolding answer_text
done_text n s map torn h = rw (eq-eqb _ _ h)
