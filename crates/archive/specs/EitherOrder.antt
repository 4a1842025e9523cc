-- Either order of commit, by point 14 of document 02 (docs/PAPERS.md), of what firmware links: what `EitherOrder` of `model` claims, with the functions of
-- include/bokuhira.h in place of its calls. The proof only carries the claim of a world over to its bytes. Assumes nothing.
use Rattle.std.specs.Prelude.{ℕ, ◌<◌, ◌≡◌, refl, true, List, [], length}
use Rattle.std.proofs.Common.{sym, ap, ◌∙◌, subst}
use Rattle.model.specs.Lists.{part}
use Rattle.model.specs.World.{World}
use Rattle.model.specs.Commands.{recover, commit, exec}
use Rattle.model.specs.Book.{Event, writes_of, blank, story}
use Rattle.model.specs.Sequence.{Running, runs_after, Phase, live, dark, Step, Run, Formatted}
use Rattle.model.specs.EitherOrder.{apart, after_commit, after_both, runs_after_both, BothDone, SameRead, CutNext, EntersNone, EntersSame, Hand, recovery, Outlives, EitherWay}
use Rattle.model.specs.declared.Geometry.{Geometry}
use Rattle.bokuhira.specs.Calls.{start_from}
use Rattle.sequence.specs.EitherOrder.{either_order}
use Rattle.archive.specs.Lent.{Lent, read_on, bokuhira, after, lent_runs}
use Rattle.archive.specs.LentRuns.{on, off, LentStep, LentRun, LentFormatted}
use Rattle.archive.specs.Coded.{lent_of, start_of, does_answer}
use Rattle.archive.specs.Reads.{read_answers, read_part_law}
use Rattle.archive.specs.Joined.{Says, Agrees, does_says, said_does, said_runs, step_is, run_is, formatted_is}
use Rattle.archive.specs.Theorem.{recover_succeeds, recover_said}

-- ---- the claim
-- what is lent after both commits, a first, and the pages that run then
abbrev pub lent_both : ℕ → ℕ → Lent → Lent
lent_both a b l = after (commit b) (after (commit a) l)

abbrev pub lent_runs_both : ℕ → ℕ → Lent → List Running → List Running
lent_runs_both a b l rs = lent_runs (commit b) (after (commit a) l) (lent_runs (commit a) l rs)

pub record LentBothDone (a b : ℕ) (l : Lent) : Type 0 where
  pub first : (bokuhira (commit a) l).answer ≡ 0
  pub second : (bokuhira (commit b) (after (commit a) l)).answer ≡ 0

-- bokuhira_read of a logical page answers the same, and where it is done the 512 bytes from the place that it gives are the same
pub record LentSameRead (l m : Lent) (lpn : ℕ) : Type 0 where
  pub answer : (at : ℕ) → (read_on lpn l at).answer ≡ (read_on lpn m at).answer
  pub bytes : (at : ℕ) → (read_on lpn l at).answer ≡ 0 → part (read_on lpn l at).at 512 l.array ≡ part (read_on lpn m at).at 512 m.array

abbrev pub LentSameReads : Geometry → Lent → Lent → Type 0
LentSameReads g l m = (lpn : ℕ) → lpn < g.logical → LentSameRead l m lpn

-- a cut next, and what bokuhira_recover is handed then beside the array: any map and hold of the right lengths, and any 2,881 bytes
pub record LentCutNext (g : Geometry) (l : Lent) (rs : List Running) : Type 0 where
  pub event : Event
  pub array : List ℕ
  pub falls : LentStep g (on l rs) event (off array)

pub record LentHand (g : Geometry) : Type 0 where
  pub map : List ℕ
  pub hold : List ℕ
  pub bytes : List ℕ
  pub wide : length map ≡ g.logical
  pub deep : length hold ≡ 4096
  pub long : length bytes ≡ 2881

abbrev pub lent_again : {g : Geometry} → List ℕ → LentHand g → Lent
lent_again xs h = record { array = xs; map = h.map; hold = h.hold; bytes = h.bytes }

pub record LentOutlives (g : Geometry) (l : Lent) (rs : List Running) : Type 0 where
  pub recovers : (c : LentCutNext g l rs) (h : LentHand g) → (bokuhira (recover g) (lent_again c.array h)).answer ≡ 0
  pub reads : (c : LentCutNext g l rs) → EntersNone c.event → (h : LentHand g) → LentSameReads g (after (recover g) (lent_again c.array h)) l

pub record LentEitherWay (g : Geometry) (l : Lent) (rs : List Running) (a b : ℕ) : Type 0 where
  pub done : LentBothDone b a l
  pub reads : LentSameReads g (lent_both a b l) (lent_both b a l)
  pub a_first : LentOutlives g (lent_both a b l) (lent_runs_both a b l rs)
  pub b_first : LentOutlives g (lent_both b a l) (lent_runs_both b a l rs)
  pub alike : (c : LentCutNext g (lent_both a b l) (lent_runs_both a b l rs)) (d : LentCutNext g (lent_both b a l) (lent_runs_both b a l rs))
      → EntersSame c.event d.event → (h k : LentHand g)
      → LentSameReads g (after (recover g) (lent_again c.array h)) (after (recover g) (lent_again d.array k))

abbrev pub EitherOrderBytes : Type 0
EitherOrderBytes =
    (g : Geometry) (l : Lent) (es : List Event) (m : Lent) (rs : List Running) → LentFormatted g l → LentRun g (on l []) es (on m rs) → (a b : ℕ)
    → apart (writes_of a (story (blank g) es).changes) (writes_of b (story (blank g) es).changes) ≡ true → LentBothDone a b m → LentEitherWay g m rs a b

-- ---- a read of what says a world
lent_same : (v w : World) (l m : Lent) (lpn : ℕ) → Says l v → Says m w → SameRead v w lpn → LentSameRead l m lpn
lent_same v w l m lpn s t r =
    subst (λ (k : Lent). LentSameRead k m lpn) (sym s.is) (subst (λ (k : Lent). LentSameRead (lent_of v) k lpn) (sym t.is) (record {
      answer = same_answer;
      bytes = λ at e.
          read_part_law v s.shaped lpn at e ∙ r.bytes ∙ sym (read_part_law w t.shaped lpn at (sym (same_answer at) ∙ e));
    }))
  where
    same_answer : (at : ℕ) → (read_on lpn (lent_of v) at).answer ≡ (read_on lpn (lent_of w) at).answer
    same_answer at = read_answers v s.shaped lpn at ∙ r.answer ∙ sym (read_answers w t.shaped lpn at)

-- ---- both commits of what says a world
module _ (l : Lent) (w : World) (s : Says l w) (a b : ℕ) where
  says_one : Says (after (commit a) l) (after_commit a w)
  says_one = does_says (commit a) l w (said_does l w s (commit a))

  says_both : Says (lent_both a b l) (after_both a b w)
  says_both = does_says (commit b) (after (commit a) l) (after_commit a w) (said_does (after (commit a) l) (after_commit a w) says_one (commit b))

  first_same : (bokuhira (commit a) l).answer ≡ (exec (commit a) w).answer
  first_same = does_answer (commit a) l w (said_does l w s (commit a))

  second_same : (bokuhira (commit b) (after (commit a) l)).answer ≡ (exec (commit b) (after_commit a w)).answer
  second_same = does_answer (commit b) (after (commit a) l) (after_commit a w) (said_does (after (commit a) l) (after_commit a w) says_one (commit b))

  runs_same : (rs : List Running) → lent_runs_both a b l rs ≡ runs_after_both a b w rs
  runs_same rs =
      said_runs (after (commit a) l) (after_commit a w) says_one (commit b) (lent_runs (commit a) l rs)
      ∙ ap (runs_after (commit b) (after_commit a w)) (said_runs l w s (commit a) rs)

  done_of : LentBothDone a b l → BothDone a b w
  done_of d = record { first = sym first_same ∙ d.first; second = sym second_same ∙ d.second }

  lent_done : BothDone a b w → LentBothDone a b l
  lent_done d = record { first = first_same ∙ d.first; second = second_same ∙ d.second }

-- ---- a cut next in what says a world, and the recovery
module _ (g : Geometry) (l : Lent) (w : World) (s : Says l w) (rs ts : List Running) (e : rs ≡ ts) where
  cut_of : (c : LentCutNext g l rs) → Step g (live w ts) c.event (dark c.array)
  cut_of c = let k = step_is g (on l rs) c.event (off c.array) c.falls (live w ts) (s, e) in go k.phase k.step k.agrees
    where
      go : (p : Phase) → Step g (live w ts) c.event p → Agrees (off c.array) p → Step g (live w ts) c.event (dark c.array)
      go (live v us) t x = absurd x
      go (dark ys) t x = subst (λ (zs : List ℕ). Step g (live w ts) c.event (dark zs)) (sym x) t

  abbrev cut_is : LentCutNext g l rs → CutNext g w ts
  cut_is c = record { event = c.event; array = c.array; falls = cut_of c }

abbrev hand_is : (g : Geometry) → LentHand g → Hand g
hand_is g h = record { map = h.map; hold = h.hold; state = start_from g h.bytes; wide = h.wide; long = h.deep }

says_again : (g : Geometry) (xs : List ℕ) (h : LentHand g) → (recovery g xs (hand_is g h)).answer ≡ 0
    → Says (after (recover g) (lent_again xs h)) (recovery g xs (hand_is g h)).world
says_again g xs h e = does_says (recover g) (lent_again xs h) (start_of g (lent_again xs h)) (recover_said g (lent_again xs h) h.long e)

lent_outlives : (g : Geometry) (l : Lent) (w : World) (rs ts : List Running) → Says l w → rs ≡ ts → Outlives g w ts → LentOutlives g l rs
lent_outlives g l w rs ts s e o = record {
  recovers = λ c h. recover_succeeds g (lent_again c.array h) h.long (o.recovers (cut_is g l w s rs ts e c) (hand_is g h));
  reads = λ c n h lpn i.
      lent_same _ w _ l lpn (says_again g c.array h (o.recovers (cut_is g l w s rs ts e c) (hand_is g h))) s
      (o.reads (cut_is g l w s rs ts e c) n (hand_is g h) lpn i);
}

-- ---- the theorem
module _ (g : Geometry) (l : Lent) (w : World) (rs : List Running) (s : Says l w) (a b : ℕ) (k : EitherWay g w rs a b) where
  ab : Says (lent_both a b l) (after_both a b w)
  ab = says_both l w s a b

  ba : Says (lent_both b a l) (after_both b a w)
  ba = says_both l w s b a

  lent_either : LentEitherWay g l rs a b
  lent_either = record {
    done = lent_done l w s b a k.done;
    reads = λ lpn i. lent_same _ _ _ _ lpn ab ba (k.reads lpn i);
    a_first = lent_outlives g _ _ _ _ ab (runs_same l w s a b rs) k.a_first;
    b_first = lent_outlives g _ _ _ _ ba (runs_same l w s b a rs) k.b_first;
    alike = λ c d n h j lpn i.
        let c' = cut_is g _ _ ab _ _ (runs_same l w s a b rs) c in
        let d' = cut_is g _ _ ba _ _ (runs_same l w s b a rs) d in
        lent_same _ _ _ _ lpn (says_again g c.array h (k.a_first.recovers c' (hand_is g h)))
        (says_again g d.array j (k.b_first.recovers d' (hand_is g j))) (k.alike c' d' n (hand_is g h) (hand_is g j) lpn i);
  }

pub either_order_bytes : EitherOrderBytes
either_order_bytes g l es m rs f r a b no_common d =
    let w = formatted_is g l f in
    let j = run_is g (on l []) es (on m rs) r (live w.0 []) (w.1.1, refl) in
    go w.0 w.1.0 j.phase j.run j.agrees
  where
    go : (w : World) → Formatted g w → (p : Phase) → Run g (live w []) es p → Agrees (on m rs) p → LentEitherWay g m rs a b
    go w t (live v ts) u s =
        let u' : Run g (live w []) es (live v rs) = subst (λ (us : List Running). Run g (live w []) es (live v us)) (sym s.1) u in
        lent_either g m v rs s.0 a b (either_order g w es v rs t u' a b no_common (done_of m v s.0 a b d))
    go w t (dark xs) u s = absurd s
