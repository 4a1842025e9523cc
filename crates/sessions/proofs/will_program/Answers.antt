-- `sessions::will_program` meets its contract: by the number of the command. Assumes nothing.
use mathlib.Core.Path.{refl}
use native.Mathlib.Omega.{arith}
use Rattle.sessions.specs.Text.{will_program}
use Rattle.sessions.proofs.Numbers.{begin_number, write_number, commit_number, abort_number}
use Rattle.sessions.proofs.will_program.Goals as goal

pub returns-in-3-to-6 : goal.returns-in-3-to-6
unfolding will_program
returns-in-3-to-6 c = rw (write_number c.args.c (omega arith) (omega arith)) c.holds_page.ensures

pub returns-in-7-to-8 : goal.returns-in-7-to-8
unfolding will_program
returns-in-7-to-8 c = rw (commit_number c.args.c (omega arith) (omega arith)) c.holds_page-in-7-to-8.ensures

pub returns-in_default : goal.returns-in_default
unfolding will_program
returns-in_default c = let h = c.in_default in rw (begin_number c.args.c (omega arith) (omega arith)) refl

pub returns-in_default-2 : goal.returns-in_default-2
unfolding will_program
returns-in_default-2 c = let h = c.in_default in rw (abort_number c.args.c (omega arith) (omega arith)) refl
