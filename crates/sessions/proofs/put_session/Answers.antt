-- `sessions::put_session` meets its contract: the numbers and the maps of a session that starts on a fresh device, dropped again where a command is refused. Assumes nothing.
use mathlib.Core.Path.{refl, sym, ap, subst, ◌∙◌}
use native.Mathlib.Omega.{arith}
use lib.ListN.{length}
use Rattle.model.specs.Sessions.{Commands}
use Rattle.text.proofs.Lists.{put_listed}
use Rattle.sessions.specs.Listed.{session_long, session_commands}
use Rattle.sessions.proofs.Formats.{formatted}
use Rattle.sessions.proofs.Lines.{line_put, no_line}
use Rattle.sessions.proofs.put_session.Goals as goal

pub turns-requires : goal.turns-requires
turns-requires c =
    let p = c.put_list-a.ensures.put in
    let long = ap length c.session-list.ensures ∙ session_long c.args.n c.args.k in
    (subst Commands (sym c.session-list.ensures) (session_commands c.args.n c.args.k), omega (arith, p.far, p.same, c.requires.0, c.requires.1, long))

pub put-requires : goal.put-requires
put-requires c =
    let long = ap length c.session-list.ensures ∙ session_long c.args.n c.args.k in
    let x = c.put_list-a.ensures.put in
    let y = c.in-Some.ensures.1 in
    omega (arith, x.far, x.same, y.far, y.same, c.requires.0, c.requires.1, long)

pub returns-in-Some : goal.returns-in-Some
returns-in-Some c =
    let long = ap length c.session-list.ensures ∙ session_long c.args.n c.args.k in
    line_put _ _ _ _ c.session-list.ensures (formatted _ c.blank.ensures c.format.ensures) c.in-Some.ensures.0 refl (put_listed _ c.put_list-a.ensures)
    c.in-Some.ensures.1 c.put.ensures (omega (arith, c.requires.0, long))

pub returns-in-None : goal.returns-in-None
returns-in-None c =
    no_line _ _ _ _ c.session-list.ensures (formatted _ c.blank.ensures c.format.ensures) c.in-None.ensures.0 refl (omega (arith, c.requires.1)) (put_listed _ c.put_list-a.ensures) c.in-None.ensures.1
