-- `Rig::turns` meets its contract. The loop's invariant: so many commands of the session were done. Assumes nothing.
use Rattle.sessions.specs.Text.{world_of}
use Rattle.sessions.proofs.Cuts.{Going}
use Rattle.sessions.proofs.Rig.turns.Given as goal

abbrev pub invariant-loop-c : goal.invariant-loop-c
invariant-loop-c l = Going l.cs (world_of l.initial.self) l.initial.out l.at l.c-index (world_of l.self) l.out l.end
