-- `sessions::put_lines` meets its contract. The loop's invariant: the lines put and those of the sessions that are left are all. Assumes nothing.
use mathlib.Core.Path.{◌≡◌}
use mathlib.Core.List.{◌++◌}
use Prim.Native.Nat.{◌-◌, ◌≤◌}
use lib.ListN.{length, take}
use Rattle.model.specs.Sessions.{sessions_from}
use Rattle.sessions.specs.Text.{lines_in}
use Rattle.sessions.proofs.put_lines.Given as goal

abbrev pub invariant-loop-k : goal.invariant-loop-k
invariant-loop-k l =
    (l.end ≤ length l.out) × (take l.end l.out ++ lines_in (sessions_from l.n l.k (l.count - l.k)) ≡ take l.at l.initial.out ++ lines_in (sessions_from l.n 0 l.count))
