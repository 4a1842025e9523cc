-- `recovery::run_version` meets its contract. The loop's invariant: the version of the pages before k. Assumes nothing.
use mathlib.Core.Path.{refl, sym, ap, ◌∙◌}
use native.Mathlib.Omega.{arith}
use lib.ListN.{length, get_or}
use lib.Seq.{take_all}
use mathlib.Core.List.{List}
use mathlib.Core.Bool.{Bool}
use Prim.Native.Nat.{ℕ}
use lib.Dec.{eqb}
use borrow.Author.Tests.{eq-eqb, ne_eqb}
use Rattle.model.specs.Lists.{those}
use Rattle.model.specs.Bytes.{le16, le32}
use Rattle.model.specs.Page.{page_at}
use Rattle.model.specs.Zones.{Entry}
use Rattle.model.specs.Recovery.{top}
use Rattle.scan.specs.Taken.{entry_in, entries_in}
use Rattle.recovery.specs.Redo.{run_version}
use Rattle.recovery.proofs.Fields.{field_cnt, field_ver}
use Rattle.recovery.proofs.Running.{version_more, version_same}
use Rattle.recovery.proofs.run_version.Goals.{then-from-run, else-from-run}
use Rattle.recovery.proofs.run_version.Goals as goal

pub loop-k-init : goal.loop-k-init
unfolding entries_in those top
loop-k-init c = refl

pub loop-k-preserved : goal.loop-k-preserved
loop-k-preserved c =
    let l = c.loop-k in
    let a = c.args in
    let k = get_or a.run.now l.k-index 0 in
    let p : Entry → Bool = λ x. eqb x.cnt (length a.run.now) in
    let is = c.page_of-page.ensures.0 ∙ ap (page_at a.array.now) c.from.ensures in
    let n = c.from-in-loop-k.ensures ∙ c.word16.ensures ∙ ap (λ q. le16 q 514) is ∙ field_cnt a.array.now k in
    elim c.if-from-run.branch [
      | then-from-run w ↦
          let v = w.word32.ensures ∙ ap (λ q. le32 q 520) is ∙ field_ver a.array.now k in
          w.v-is ∙ omega (arith, w.max-v.ensures, l.invariant, v, version_more p a.array.now a.run.now l.k-index (omega arith) (eq-eqb (entry_in a.array.now k).cnt (length a.run.now) (sym n ∙ w.if-from-run.true)))
      | else-from-run w ↦
          w.v-is ∙ l.invariant ∙ sym (version_same p a.array.now a.run.now l.k-index (omega arith) (ne_eqb (entry_in a.array.now k).cnt (length a.run.now) (λ q. w.if-from-run.false (n ∙ q))))
    ]

pub returns : goal.returns
unfolding run_version
returns c =
    let a = c.args in
    let l = c.loop-k in
    l.invariant ∙ ap (λ (ks : List ℕ). top (those (λ (x : Entry). eqb x.cnt (length a.run.now)) (entries_in a.array.now ks))) (take_all l.k-index a.run.now (omega arith))
