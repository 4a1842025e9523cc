-- Demand 3 of what firmware links: the run of the C interface is a run of `model`, where demand 3 is proved, and what it says of a world holds of
-- the world's bytes. Assumes nothing.
use Rattle.std.specs.Prelude.{ℕ, ◌≡◌, refl, List, [], length}
use Rattle.std.proofs.Common.{sym, ap, ◌∙◌, subst, eq-eqb}
use Rattle.model.specs.Answers.{refused}
use Rattle.model.specs.World.{World}
use Rattle.model.specs.Commands.{recover, exec}
use Rattle.model.specs.Book.{Event, Book, never, blank, story}
use Rattle.model.specs.Sequence.{Phase, live, dark, array_of, Formatted}
use Rattle.model.specs.Demand3.{Reads, Recovers, LiveReads, Kept}
use Rattle.model.specs.declared.Geometry.{Geometry}
use Rattle.encoding.specs.StateBack.{Shaped, coded_back}
use Rattle.bokuhira.specs.Calls.{Result, result_of, start_from, sized}
use Rattle.sequence.specs.Theorem.{demand3, format_reads}
use Rattle.sequence.specs.Former.{FormerRun, former_kept}
use Rattle.archive.specs.Lent.{Lent, bokuhira, lent_in, after}
use Rattle.archive.specs.LentRuns.{LentPhase, on, off, lent_array}
use Rattle.archive.specs.Statement.{LentReadsAs, LentRight, LentRecovers, LentLive, LentKept, Demand3Bytes, FormatReadsBytes}
use Rattle.archive.specs.Coded.{lent_of, result_for, call_does, start_of, Does, started_sized, recover_does}
use Rattle.archive.specs.Reads.{reads_as}
use Rattle.archive.specs.Joined.{Says, Agrees, does_says, run_is, formatting_is, formatted_is}

-- ---- what is right of a world is right of its bytes
world_right : (w : World) → Shaped w.state → (g : Geometry) (b : Book) → Reads g b w → LentRight g b (lent_of w)
world_right w h g b r = record { coded = coded_back w.state h; reads = λ lpn l. reads_as w h lpn _ (r lpn l) }

said_right : (l : Lent) (w : World) (g : Geometry) (b : Book) → Says l w → Reads g b w → LentRight g b l
said_right l w g b s r = subst (LentRight g b) (sym s.is) (world_right w s.shaped g b r)

-- ---- a recovery with any 2,881 bytes
module _ (g : Geometry) (l : Lent) (long : length l.bytes ≡ 2881) (done : (exec (recover g) (start_of g l)).answer ≡ 0) where
  pub recover_succeeds : (bokuhira (recover g) l).answer ≡ 0
  unfolding bokuhira sized result_of
  recover_succeeds = rw (started_sized recover g l (eq-eqb (length l.bytes) 2881 long)) done

  pub recover_said : Does (recover g) l (start_of g l)
  recover_said = recover_does g l (unfold refused in rw recover_succeeds)

module _ (g : Geometry) (b : Book) (l : Lent) (long : length l.bytes ≡ 2881) (k : Recovers g b (start_of g l)) where
  -- the world that it leads to
  abbrev found : World
  found = (exec (recover g) (start_of g l)).world

  does : Does (recover g) l (start_of g l)
  does = recover_said g l long k.succeeds

  lent_recovers : LentRecovers g b l
  lent_recovers = record {
    succeeds = recover_succeeds g l long k.succeeds;
    right = said_right (after (recover g) l) found g b (does_says (recover g) l (start_of g l) does) k.reads;
    again = ap (λ (r : Result). bokuhira (recover g) (lent_in r)) does.is ∙ (call_does found does.shaped (recover g)).is ∙ ap result_for
        (k.again ∙ sym done) ∙ sym does.is;
  }
    where
      done : exec (recover g) (start_of g l) ≡ record { answer = 0; world = found }
      done = rw k.succeeds

-- ---- where phases agree
same_array : (p : LentPhase) (p' : Phase) → Agrees p p' → array_of p' ≡ lent_array p
same_array (on l rs) (live w ts) s = sym (ap (λ (m : Lent). m.array) s.0.is)
same_array (off xs) (dark ys) s = sym s
same_array (on l rs) (dark xs) s = absurd s
same_array (off xs) (live w ts) s = absurd s

lent_live : (g : Geometry) (b : Book) (p : LentPhase) (p' : Phase) → Agrees p p' → LiveReads g b p' → LentLive g b p
lent_live g b (on l rs) (live w ts) s r = said_right l w g b s.0 r
lent_live g b (off xs) (dark ys) s r = tt
lent_live g b (on l rs) (dark xs) s r = absurd s
lent_live g b (off xs) (live w ts) s r = absurd s

lent_kept : (g : Geometry) (es : List Event) (p : LentPhase) (p' : Phase) → Agrees p p' → Kept g es p' → LentKept g es p
lent_kept g es p p' s k = record {
  recovers = λ map hold bs wide deep long.
      lent_recovers g (story (blank g) es) _ long
      (subst (λ (xs : List ℕ). Recovers g (story (blank g) es) (record { array = xs; map = map; hold = hold; state = start_from g bs })) (same_array p p' s)
      (k.recovers map hold (start_from g bs) wide deep));
  live = lent_live g (story (blank g) es) p p' s k.reads;
}

-- ---- the theorem
pub demand3_bytes : Demand3Bytes
demand3_bytes g l es p f r =
    let w = formatted_is g l f in
    let j = run_is g (on l []) es p r (live w.0 []) (w.1.1, refl) in
    lent_kept g es p j.phase j.agrees (demand3 g w.0 es j.phase w.1.0 j.run)

-- and of every array that a sequence with changes of up to 64 pages left, on one plane: the next bokuhira_recover, whatever it is handed
pub former_bytes : (g : Geometry) (w : World) (es : List Event) (p : Phase) → g.planes ≡ 1 → Formatted g w → FormerRun g (live w []) es p
    → (map hold bs : List ℕ) → length map ≡ g.logical → length hold ≡ 4096 → length bs ≡ 2881
    → LentRecovers g (story (blank g) es) (record { array = array_of p; map = map; hold = hold; bytes = bs })
former_bytes g w es p one f r map hold bs wide deep long =
    lent_recovers g (story (blank g) es) _ long ((former_kept g w es p one f r).recovers map hold (start_from g bs) wide deep)

-- between two strides of the format every page is never written
pub format_reads_bytes : FormatReadsBytes
format_reads_bytes g l f lpn i =
    let w = formatting_is g l f in
    subst (λ (m : Lent). LentReadsAs m lpn never) (sym w.1.1.is) (reads_as w.0 w.1.1.shaped lpn _ (format_reads g w.0 w.1.0 lpn i))
