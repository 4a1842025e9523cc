-- `flash::still_due` meets its contract. The loop's invariant: the pages of the block from `n` on are erased, and with `left` they are those due. Assumes nothing.
use mathlib.Core.Path.{◌≡◌, refl, sym, ap, ◌∙◌}
use Prim.Native.Nat.{suc, ◌-◌, ◌*◌}
use native.Mathlib.Omega.{arith}
use Rattle.model.specs.Page.{used_from}
use Rattle.model.specs.Zones.{used_in}
use Rattle.arrays.specs.Used.{used_clean_end, used_end, used_le}
use Rattle.flash.proofs.still_due.Goals as goal

pub loop-n-init : goal.loop-n-init
unfolding used_in
loop-n-init c = (omega arith, (omega arith, refl))

pub returns-then-left-eq0 : goal.returns-then-left-eq0
returns-then-left-eq0 c =
    let a = c.args in
    omega (arith, used_le a.array.now (a.b * a.pages) c.loop-n.n)

pub returns-then-not-is_blank : goal.returns-then-not-is_blank
returns-then-not-is_blank c =
    let a = c.args in
    let l = c.loop-n in
    let e : l.n ≡ suc (l.n - 1) = omega arith in
    let u = l.invariant.1.1 ∙ ap (used_from a.array.now (a.b * a.pages)) e ∙ used_end a.array.now (a.b * a.pages) (l.n - 1) (sym c.is_blank.ensures ∙ c.if-not-is_blank.true) in
    omega arith

pub loop-n-preserved : goal.loop-n-preserved
loop-n-preserved c =
    let a = c.args in
    let l = c.loop-n in
    let e : l.n ≡ suc (l.n - 1) = omega arith in
    (omega arith, (omega arith, l.invariant.1.1 ∙ ap (used_from a.array.now (a.b * a.pages)) e ∙ used_clean_end a.array.now (a.b * a.pages) (l.n - 1) (sym c.is_blank.ensures ∙ c.if-not-is_blank.false)))

pub returns : goal.returns
returns c =
    let a = c.args in
    omega (arith, used_le a.array.now (a.b * a.pages) c.loop-n.n)
