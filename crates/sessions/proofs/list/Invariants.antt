-- `sessions::list` meets its contract. The loop's invariant: the lines put and those of the sessions that are longer are the text. Assumes nothing.
use mathlib.Core.Path.{◌≡◌}
use mathlib.Core.List.{◌++◌}
use Prim.Native.Nat.{◌-◌, ◌≤◌}
use lib.ListN.{length, take}
use Rattle.model.specs.Sessions.{power, sessions_up}
use Rattle.sessions.specs.Text.{lines_in, text_of}
use Rattle.sessions.proofs.list.Given as goal

abbrev pub invariant-loop-n : goal.invariant-loop-n
invariant-loop-n l = (l.end ≤ length l.out) × ((l.count ≡ power l.n) × (take l.end l.out ++ lines_in (sessions_up l.n (5 - l.n)) ≡ text_of))
