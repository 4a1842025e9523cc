-- `sessions::session` meets its contract. The loop's invariant: the digits that are left and those put are the session. Assumes nothing.
use mathlib.Core.Path.{◌≡◌}
use mathlib.Core.List.{◌++◌}
use lib.ListN.{length, take, drop}
use Rattle.model.specs.Sessions.{session}
use Rattle.sessions.proofs.session.Given as goal

abbrev pub invariant-loop-i : goal.invariant-loop-i
invariant-loop-i l = (length l.list ≡ 4) × (session l.i l.rest ++ drop l.i (take l.n l.list) ≡ session l.n l.k)
