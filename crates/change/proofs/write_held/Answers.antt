-- `change::write_held` meets its contract: with nothing written, nothing is programmed; else from what `program_held` ensures. Assumes nothing.
use mathlib.Core.Path.{refl}
use native.Mathlib.Omega.{arith}
use Rattle.change.proofs.write_held.Goals as goal

pub returns-then-n-eq0 : goal.returns-then-n-eq0
returns-then-n-eq0 c = record { none = λ e. refl; held = λ h. absurd (omega arith) }

pub returns : goal.returns
returns c =
    let e = rw (c.data_spare-spare.ensures, c.number_of-number.ensures) at c.program_held.ensures in
    record { none = λ z. absurd (omega arith); held = λ h. e }
