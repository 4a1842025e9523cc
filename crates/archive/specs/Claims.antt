-- What firmware relies on beside demand 3: there are such sequences, a power-up with any bytes is a step of one, a format handed zeros starts at
-- its first stride, every read within a sequence answers as the book has it then, and bokuhira_class tells of every torn page a difference of at
-- least 1.
use Rattle.std.specs.Prelude.{ℕ, ◌≡◌, refl, Bool, true, false, cond, length, replicate, eqb, ℤ, pos, ◌≤ℤ◌}
use Rattle.std.proofs.Common.{ap, subst, arith}
use mathlib.Core.List.{List, [], ◌∷◌, ◌++◌}
use Rattle.model.specs.Lists.{all, part}
use Rattle.model.specs.Page.{class_of, page_at}
use Rattle.model.specs.Geometry.{geometry_ok}
use Rattle.model.specs.Frame.{fresh_state}
use Rattle.model.specs.Strides.{strides_done}
use Rattle.model.specs.Commands.{recover}
use Rattle.model.specs.Book.{Event, called, cut_between, blank}
use Rattle.model.specs.Sequence.{cut_runs, Phase, live, dark, array_of, Run}
use Rattle.model.specs.declared.Geometry.{Geometry}
use Rattle.model.specs.declared.Class.{Class}
use Rattle.model.specs.declared.Class.TheVariants.{Erased, Whole, Torn}
use Rattle.encoding.specs.Encoding.{work_from, state_from, work_coded, drops_coded, places_coded, encodes}
use Rattle.bokuhira.specs.Calls.{start_from, classed_of, class_called}
use Rattle.sequence.specs.Start.{some_formatted}
use Rattle.sequence.specs.Claims.{ReadsRight, reads_right, own_torn}
use Rattle.archive.specs.Lent.{Lent, after, early_leaves}
use Rattle.archive.specs.LentRuns.{LentPhase, on, off, lent_array, LentStep, LentRun, strides_said, LentFormatted}
use Rattle.archive.specs.Joined.{Agrees, run_is, formatted_is}
use Rattle.archive.specs.Theorem.{demand3_bytes}
use Rattle.archive.specs.EveryRun.{every_run}
use Rattle.archive.specs.Coded.{lent_of}

-- ---- a format starts at its first stride
-- with zeros for the state
pub zeros_start : (g : Geometry) → strides_said g (replicate 2881 0) ≡ 0
unfolding strides_said start_from strides_done encodes work_coded places_coded drops_coded all part state_from work_from
zeros_start g = refl

-- and with any bytes that encode none
pub none_starts : (g : Geometry) (bs : List ℕ) → encodes bs ≡ false → strides_said g bs ≡ 0
unfolding strides_said start_from strides_done fresh_state
none_starts g bs e = rw e

-- ---- there are sequences, for every geometry in range
pub some_lent : (g : Geometry) → geometry_ok g ≡ true → (l : Lent) × LentFormatted g l
some_lent g ok = let f = some_formatted g ok in (lent_of f.0, (every_run g f.0 [] (live f.0 []) f.1 (Run.stop (live f.0 []))).0)

-- ---- power-up
append_run : (g : Geometry) (p : LentPhase) (es : List Event) (q : LentPhase) (fs : List Event) (r : LentPhase) → LentRun g p es q → LentRun g q fs r
    → LentRun g p (es ++ fs) r
append_run g p es q fs r (LentRun.stop p') u = u
append_run g p es q fs r (LentRun.next {q = p'} {es = ds} s t) u = LentRun.next s (append_run g p' ds q fs r t u)

module _ (g : Geometry) (l : Lent) (es : List Event) (f : LentFormatted g l) (map hold bs : List ℕ) (wide : length map ≡ g.logical) (deep : length hold ≡ 4096)
    (long : length bs ≡ 2881) where
  -- wherever a cut lost the state, a recover with any 2,881 bytes goes on with the sequence
  pub power_up : (xs : List ℕ) → LentRun g (on l []) es (off xs)
      → LentRun g (on l []) (es ++ (called (recover g) 0 ∷ [])) (on (after (recover g) (record { array = xs; map = map; hold = hold; bytes = bs })) [])
  power_up xs r =
      let k = (demand3_bytes g l es (off xs) f r).recovers map hold bs wide deep long in
      append_run g (on l []) es (off xs) _ _ r
      (LentRun.next (LentStep.back (record { array = xs; map = map; hold = hold; bytes = bs }) k.succeeds) (LentRun.stop _))

-- so there is one, for every geometry in range and whatever the RAM holds
pub some_power_up : (g : Geometry) → geometry_ok g ≡ true → (map hold bs : List ℕ) → length map ≡ g.logical → length hold ≡ 4096 → length bs ≡ 2881
    → (l : Lent) × (LentFormatted g l × LentRun g (on l []) (cut_between ∷ called (recover g) 0 ∷ [])
    (on (after (recover g) (record { array = l.array; map = map; hold = hold; bytes = bs })) []))
some_power_up g ok map hold bs wide deep long =
    let s = some_lent g ok in
    let l = s.0 in
    let cut : LentStep g (on l []) cut_between (off l.array) = unfold early_leaves cut_runs in LentStep.between l [] (λ k. []) in
    (l, (s.1, power_up g l (cut_between ∷ []) s.1 map hold bs wide deep long l.array (LentRun.next cut (LentRun.stop _))))

-- ---- every read within a list of events answers as the book has it then
pub reads_right_bytes : (g : Geometry) (l : Lent) (es : List Event) (p : LentPhase) → LentFormatted g l → LentRun g (on l []) es p → ReadsRight g (blank g) es
reads_right_bytes g l es p f r =
    let w = formatted_is g l f in
    let j = run_is g (on l []) es p r (live w.0 []) (w.1.1, refl) in
    reads_right g w.0 es j.phase w.1.0 j.run

-- ---- a torn page of the array that such a list leaves, cut or not: what bokuhira_class tells of it
class_torn : (xs : List ℕ) (z : ℤ) → (class_called xs z).class ≡ 2 → class_of xs ≡ Torn (class_called xs z).difference
unfolding class_called
class_torn xs z = go (eqb (length xs) 528) (class_of xs)
  where
    go : (b : Bool) (c : Class) → (cond b (classed_of z c) (record { class = 3; difference = z })).class ≡ 2
        → c ≡ Torn (cond b (classed_of z c) (record { class = 3; difference = z })).difference
    go false c e = absurd (omega arith)
    go true Erased e = absurd (omega arith)
    go true Whole e = absurd (omega arith)
    go true (Torn d) e = refl

same_array : (p : LentPhase) (q : Phase) → Agrees p q → lent_array p ≡ array_of q
same_array (on l rs) (live w ts) s = ap (λ (m : Lent). m.array) s.0.is
same_array (on l rs) (dark xs) s = absurd s
same_array (off xs) (live w ts) s = absurd s
same_array (off xs) (dark ys) s = s

pub own_torn_bytes : (g : Geometry) (l : Lent) (es : List Event) (p : LentPhase) → LentFormatted g l → LentRun g (on l []) es p
    → (k : ℕ) (z : ℤ) → (class_called (page_at (lent_array p) k) z).class ≡ 2 → pos 1 ≤ℤ (class_called (page_at (lent_array p) k) z).difference
own_torn_bytes g l es p f r k z e =
    let w = formatted_is g l f in
    let j = run_is g (on l []) es p r (live w.0 []) (w.1.1, refl) in
    own_torn g w.0 es j.phase w.1.0 j.run k _
    (subst (λ (xs : List ℕ). class_of (page_at xs k) ≡ Torn (class_called (page_at (lent_array p) k) z).difference) (same_array p j.phase j.agrees)
    (class_torn (page_at (lent_array p) k) z e))
