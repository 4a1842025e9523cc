-- `frame::places_ok` meets its contract. The loop's invariant: the places before the `i`-th are in range, and none shares an identifier with a later one. Assumes nothing.
use mathlib.Core.Path.{refl, sym, ap, ◌∙◌}
use Prim.Native.Nat.{◌+◌}
use lib.ListN.{drop, get_or}
use native.Mathlib.Omega.{arith}
use Rattle.model.specs.Frame.{no_place, places_ok}
use Rattle.blocks.proofs.Loops.{tails_pass, tails_fail, tails_end}
use Rattle.frame.specs.Ids.{id_alone}
use Rattle.frame.proofs.Places.{place_among, alone_ids}
use Rattle.frame.proofs.places_ok.Goals as goal
use Rattle.frame.proofs.places_ok.Goals.{then-not-place_ok-via-then-not-place_ok, then-not-place_ok-via-else-not-place_ok+then-not-is_alone}

pub loop-i-init : goal.loop-i-init
loop-i-init c = refl

pub returns-then-not-place_ok : goal.returns-then-not-place_ok
unfolding places_ok
returns-then-not-place_ok c =
    let i = c.loop-i.i in
    let a = c.args in
    let fails = tails_fail (place_among a.g) a.ps.now i no_place (omega arith) c.loop-i.invariant in
    elim c.then-not-place_ok.branch [
      | then-not-place_ok-via-then-not-place_ok w ↦ sym (fails (simp (← c.place_ok.ensures, w.if-not-place_ok.true)))
      | then-not-place_ok-via-else-not-place_ok+then-not-is_alone w ↦
          let k = w.is_alone.ensures ∙ ap (λ l. id_alone (get_or l i 0) (drop (i + 1) l)) c.ids_of-ids.ensures ∙ alone_ids a.ps.now i (omega arith) in
          sym (fails (simp (← c.place_ok.ensures, w.if-not-place_ok.false, ← k, w.if-not-is_alone.true)))
    ]

pub loop-i-preserved : goal.loop-i-preserved
loop-i-preserved c =
    let i = c.loop-i.i in
    let a = c.args in
    let k = c.is_alone.ensures ∙ ap (λ l. id_alone (get_or l i 0) (drop (i + 1) l)) c.ids_of-ids.ensures ∙ alone_ids a.ps.now i (omega arith) in
    tails_pass (place_among a.g) a.ps.now i no_place (omega arith) c.loop-i.invariant (simp (← c.place_ok.ensures, c.if-not-place_ok.false, ← k, c.if-not-is_alone.false))

pub returns : goal.returns
unfolding places_ok
returns c = sym (tails_end (place_among c.args.g) c.args.ps.now c.loop-i.i (omega arith) c.loop-i.invariant)
