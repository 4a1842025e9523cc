-- `encoding::encodes` meets its contract: each return by the tests on its path. Assumes nothing.
use Rattle.std.proofs.Common.{sym, ap, ◌∙◌}
use Rattle.std.proofs.lemmas.Bool.{false≢true}
use borrow.Author.Tests.{ne_eqb}
use Rattle.encoding.specs.Encoding.{work_coded}
use Rattle.encoding.proofs.Coded.{not_long, no_work, no_plane, by_places}
use Rattle.encoding.proofs.encodes.Goals as goal
use Rattle.encoding.proofs.encodes.Goals.{then-from-eq-STATE, else-from-eq-STATE, then-work_coded, else-work_coded}

pub returns-then-from-le2 : goal.returns-then-from-le2
returns-then-from-le2 c =
    elim c.if-work_coded.branch [
      | then-work_coded w ↦ elim c.if-from-eq-STATE.branch [
        | then-from-eq-STATE v ↦
            let work = sym (v.work_coded.ensures ∙ ap (work_coded _) v.word16.ensures) ∙ sym v.value-is ∙ w.if-work_coded.true in
            c.places_coded.ensures ∙ sym (by_places _ v.if-from-eq-STATE.true work (sym w.value-is ∙ c.if-from-le2.true))
        | else-from-eq-STATE v ↦ absurd (false≢true (sym (v.value-is ∙ ne_eqb _ _ v.if-from-eq-STATE.false) ∙ w.if-work_coded.true))
      ]
      | else-work_coded w ↦ absurd (false≢true (sym w.if-work_coded.false ∙ sym w.value-is ∙ c.if-from-le2.true))
    ]

pub returns-else-from-le2 : goal.returns-else-from-le2
returns-else-from-le2 c =
    elim c.if-work_coded.branch [
      | then-work_coded w ↦ elim c.if-from-eq-STATE.branch [
        | then-from-eq-STATE v ↦
            let work = sym (v.work_coded.ensures ∙ ap (work_coded _) v.word16.ensures) ∙ sym v.value-is ∙ w.if-work_coded.true in
            c.if-from-le2.false ∙ sym (no_plane _ v.if-from-eq-STATE.true work (sym w.value-is ∙ c.if-from-le2.false))
        | else-from-eq-STATE v ↦ absurd (false≢true (sym (v.value-is ∙ ne_eqb _ _ v.if-from-eq-STATE.false) ∙ w.if-work_coded.true))
      ]
      | else-work_coded w ↦ elim c.if-from-eq-STATE.branch [
        | then-from-eq-STATE v ↦
            let work = sym (v.work_coded.ensures ∙ ap (work_coded _) v.word16.ensures) ∙ sym v.value-is ∙ w.if-work_coded.false in
            c.if-from-le2.false ∙ sym (no_work _ v.if-from-eq-STATE.true work)
        | else-from-eq-STATE v ↦ c.if-from-le2.false ∙ sym (not_long _ v.if-from-eq-STATE.false)
      ]
    ]
