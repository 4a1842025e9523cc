-- `sessions::call` meets its contract: by the number of the command. Assumes nothing.
use native.Mathlib.Omega.{arith}
use Rattle.model.specs.Sessions.{zeros}
use Rattle.sessions.proofs.Numbers.{begin_number, write_number, commit_number, abort_number}
use Rattle.sessions.proofs.call.Goals as goal
use Rattle.sessions.proofs.call.Goals.{in_default-via-then-c-lt1, in_default-via-else-c-lt1+else-c-lt3+else-c-lt7+else-c-lt9}

pub returns-in-1-to-2 : goal.returns-in-1-to-2
returns-in-1-to-2 c = rw (begin_number c.args.c (omega arith) (omega arith)) c.begin.ensures

pub returns-in-3-to-6 : goal.returns-in-3-to-6
unfolding zeros
returns-in-3-to-6 c = rw (write_number c.args.c (omega arith) (omega arith)) c.write.ensures

pub returns-in-7-to-8 : goal.returns-in-7-to-8
returns-in-7-to-8 c = rw (commit_number c.args.c (omega arith) (omega arith)) c.commit.ensures

pub returns-in_default : goal.returns-in_default
returns-in_default c =
    elim c.in_default.branch [
      | in_default-via-then-c-lt1 w ↦ absurd (omega arith)
      | in_default-via-else-c-lt1+else-c-lt3+else-c-lt7+else-c-lt9 w ↦ rw (abort_number c.args.c (omega arith) (omega arith)) c.abort.ensures
    ]
