-- `recovery::run_end` meets its contract: a run ends where another identifier stands (`run_position`), and page i is of it. Assumes nothing.
use mathlib.Core.Path.{◌≡◌, ap, ◌∙◌}
use mathlib.Core.Bool.{Bool, true, false, not, cond}
use mathlib.Core.List.{List}
use Prim.Native.Nat.{ℕ, ◌+◌, ◌-◌, ◌*◌, ◌≤◌, ◌<◌}
use native.Mathlib.Omega.{arith}
use lib.ListN.{length, take, drop, get_or, length-drop}
use lib.Seq.{take_all}
use lib.Dec.{eqb, ltb}
use borrow.Author.Tests.{tests, ltb-false}
use Rattle.arrays.specs.Tests.{decide}
use mathlib.Core.Logic.{◌⊎◌, inl, inr}
use Rattle.std.proofs.Common.{rules, Option, Some, None, unwrap_or}
use Rattle.std.specs.List.{position_or_len}
use Rattle.std.proofs.lemmas.Iterator.{YieldsList-from_slice}
use Rattle.std.proofs.lemmas.Iterator.Adapters.{serves_from_places}
use Rattle.std.proofs.lemmas.Iterator.Search.{position_from_yields_List}
use Rattle.ranks.specs.Dealt.{each_at, each_drop}
use Rattle.sorting.specs.Sort.{key_at, Pages}
use Rattle.recovery.specs.Redo.{run_of}
use Rattle.recovery.proofs.Running.{run_position, run_most, run_some}
use Rattle.recovery.proofs.run_end.Goals as goal

-- a page that stands behind the first i
fits : (n : ℕ) (ks : List ℕ) (i k x : ℕ) → Pages n ks → k < length (drop i ks) → x ≡ get_or (drop i ks) k x → x * 528 + 528 ≤ n
fits n ks i k x p l e =
    let P : ℕ → Type 0 = λ j. j * 528 + 528 ≤ n in
    rw e (each_at P (drop i ks) k x (each_drop P i ks p.fit) l)

-- what is lent from page i on
tail : (ks : List ℕ) (i : ℕ) → take (length ks - i) (drop i ks) ≡ drop i ks
tail ks i = take_all (length ks - i) (drop i ks) (omega (arith, length-drop i ks))

first_or : (o : Option ℕ) (n m : ℕ) → n ≤ m → o ≡ cond (ltb n m) (Some n) None → unwrap_or o m ≡ n
first_or o n m h e = rw e (go (decide (ltb n m)))
  where
    go : (ltb n m ≡ true) ⊎ (ltb n m ≡ false) → unwrap_or (cond (ltb n m) (Some n) None) m ≡ n
    go (inl t) = rw t
    go (inr t) = rw t (let l = ltb-false n m t in omega arith)

pub position-requires-clause-callable : goal.position-requires-clause-callable
position-requires-clause-callable c =
    serves_from_places (YieldsList-from_slice (drop c.args.i c.args.order.now) (c.iter.ensures.rest ∙ tail c.args.order.now c.args.i)) (λ x q k. search rules)
    (λ x k l e. let f = fits _ c.args.order.now c.args.i k x.now c.requires.0 l e in search rules)

pub returns : goal.returns
returns c =
    let a = c.args in
    let id = c.id_of-id.result in
    let ks = drop a.i a.order.now in
    let other : ℕ → Bool = λ k. not (eqb (key_at a.array.now 516 k) id) in
    let p = position_from_yields_List other _ _ _ c.position.ensures.ran (YieldsList-from_slice ks (c.iter.ensures.rest ∙ tail a.order.now a.i)) (λ x b q k. search (rules, tests)) in
    let e = c.id_of-id.ensures in
    let w = run_position a.array.now id ks in
    let m = run_most a.array.now id ks in
    let n = c.unwrap_or.ensures ∙ ap (λ (xs : List ℕ). unwrap_or c.position.result (length xs)) (tail a.order.now a.i)
    ∙ first_or c.position.result (position_or_len other ks) (length ks) (omega (arith, w, m)) p ∙ w in
    let r = n ∙ ap (λ (j : ℕ). run_of a.array.now j ks) e in
    (ap (λ (j : ℕ). a.i + j) r, (omega (arith, r, (run_some a.array.now a.order.now a.i c.requires.1)), omega (arith, n, m, length-drop a.i a.order.now)))
