-- Either order of commit, what `EitherOrder` of `model` claims: the other order is done too, the books of both orders are the same, and demand 3 says the
-- rest of each.
use Rattle.std.specs.Prelude.{◌≡◌, ◌≢◌, true, not, ℕ, zero, suc, List, [], ◌∷◌, ◌++◌, set, get_or, eqb}
use Rattle.std.proofs.Math.Path.{refl}
use Rattle.std.proofs.Common.{sym, ap, ◌∙◌, lt-ltb}
use Rattle.std.proofs.lemmas.Bool.{eqb-false, not-true}
use Rattle.model.specs.Lists.{all}
use Rattle.model.specs.World.{World}
use Rattle.model.specs.Commands.{commit, exec}
use Rattle.model.specs.Book.{Event, called, Write, Content, never, Change, Book, writes_of, close, enter_write, enter_all, entering, changing, blank, tell, story}
use Rattle.model.specs.Book.{content_answer, content_part}
use Rattle.model.specs.Sequence.{fits, Running, runs_after, Phase, live, dark, array_of, Step, call, Run, stop, next, Formatted}
use Rattle.model.specs.Demand3.{Reads, Recovers, Kept}
use Rattle.model.specs.EitherOrder.{apart, after_commit, after_both, runs_after_both, BothDone, SameReads, CutNext, Hand, recovery, Outlives, EitherWay, EitherOrder}
use Rattle.model.specs.declared.Geometry.{Geometry}
use Rattle.arrays.specs.Tests.{all_head, all_tail}
use Rattle.ranks.specs.Dealt.{those_swap}
use Rattle.sequence.specs.OpenBook.{close_other}
use Rattle.sequence.specs.Live.{Live}
use Rattle.sequence.specs.Theorem.{run_holds, start_holds, demand3}
use Rattle.sequence.specs.Claims.{run_append}
use Rattle.sequence.specs.OtherOrder.{differ, both_small, other_order}

-- ---- the book: writes of no page in common may be entered in either order
set_swap : {A : Type 0} (l : List A) (i j : ℕ) (x y : A) → i ≢ j → set (set l i x) j y ≡ set (set l j y) i x
set_swap [] i j x y n = refl
set_swap (z ∷ l) zero zero x y n = absurd (n refl)
set_swap (z ∷ l) zero (suc j) x y n = refl
set_swap (z ∷ l) (suc i) zero x y n = refl
set_swap (z ∷ l) (suc i) (suc j) x y n = ap (λ (t : List _). z ∷ t) (set_swap l i j x y (λ e. n (ap suc e)))

enter_past : (ps : List Content) (x : Write) (ys : List Write) → all (λ (y : Write). not (eqb x.lpn y.lpn)) ys ≡ true
    → enter_all (enter_write ps x) ys ≡ enter_write (enter_all ps ys) x
unfolding enter_all
enter_past ps x [] h = refl
enter_past ps x (y ∷ ys) h =
    let n : x.lpn ≢ y.lpn = eqb-false x.lpn y.lpn (not-true _ (all_head _ y ys h)) in
    ap (λ (qs : List Content). enter_all qs ys) (set_swap ps x.lpn y.lpn _ _ n) ∙ enter_past (enter_write ps y) x ys (all_tail _ y ys h)

pub enter_swap : (ps : List Content) (xs ys : List Write) → apart xs ys ≡ true → enter_all (enter_all ps xs) ys ≡ enter_all (enter_all ps ys) xs
unfolding apart enter_all
enter_swap ps [] ys h = refl
enter_swap ps (x ∷ xs) ys h =
    enter_swap (enter_write ps x) xs ys (all_tail _ x xs h) ∙ ap (λ (qs : List Content). enter_all qs xs) (enter_past ps x ys (all_head _ x xs h))

-- both commits, a first, as events
abbrev pub both : ℕ → ℕ → List Event
both a b = called (commit a) 0 ∷ called (commit b) 0 ∷ []

close_swap : (a b : ℕ) (cs : List Change) → close b (close a cs) ≡ close a (close b cs)
unfolding close
close_swap a b cs = those_swap _ _ cs

-- the book that they make is the same in either order, its open changes too
pub same_book : (bk : Book) (a b : ℕ) → b ≢ a → apart (writes_of a bk.changes) (writes_of b bk.changes) ≡ true → story bk (both a b) ≡ story bk (both b a)
unfolding story tell entering changing
same_book bk a b n d =
    let xs = writes_of a bk.changes in
    let ys = writes_of b bk.changes in
    let e : enter_all (enter_all bk.pages xs) (writes_of b (close a bk.changes)) ≡ enter_all (enter_all bk.pages ys) (writes_of a (close b bk.changes))
    = rw (close_other a b bk.changes n, close_other b a bk.changes (λ q. n (sym q))) (enter_swap bk.pages xs ys d) in
    rw (e, close_swap a b bk.changes) refl

story_append : (bk : Book) (es fs : List Event) → story bk (es ++ fs) ≡ story (story bk es) fs
unfolding story
story_append bk [] fs = refl
story_append bk (e ∷ es) fs = story_append (tell bk e) es fs

-- worlds that read as books with the same pages read the same
reads_same : (g : Geometry) (v w : World) (b c : Book) → b.pages ≡ c.pages → Reads g b v → Reads g c w → SameReads g v w
reads_same g v w b c e r s lpn l = record {
  answer = (r lpn l).answer ∙ ap (λ (ps : List Content). content_answer (get_or ps lpn never)) e ∙ sym (s lpn l).answer;
  bytes = (r lpn l).bytes ∙ ap (λ (ps : List Content). content_part (get_or ps lpn never)) e ∙ sym (s lpn l).bytes;
}

-- ---- at a point of a sequence
module _ (g : Geometry) (w : World) (es : List Event) (v : World) (rs : List Running) (f : Formatted g w) (r : Run g (live w []) es (live v rs)) where
  -- the book of what happened, with which the world is live
  abbrev bk : Book
  bk = story (blank g) es

  here : Live v bk
  here = (run_holds g (blank g) (live w []) es (live v rs) r (start_holds g w f)).here.world

  -- the book of one order, and of what follows
  abbrev book_of : ℕ → ℕ → List Event → Book
  book_of a b fs = story (blank g) (es ++ (both a b ++ fs))

  -- after one event more
  next_pages : (a b : ℕ) (e : Event) → (book_of a b (e ∷ [])).pages ≡ (tell (book_of a b []) e).pages
  unfolding story
  next_pages a b e = rw (story_append (blank g) es (both a b ++ (e ∷ [])), story_append (blank g) es (both a b)) refl

  -- ---- one order
  module _ (a b : ℕ) (d : BothDone a b v) where
    -- its commits are calls of the sequence
    both_run : Run g (live v rs) (both a b) (live (after_both a b v) (runs_after_both a b v rs))
    unfolding fits
    both_run =
        let small = both_small v bk here a b d in
        let s : Step g (live v rs) (called (commit a) (exec (commit a) v).answer) (live (after_commit a v) (runs_after (commit a) v rs))
        = call (commit a) v rs (lt-ltb a 4294967296 small.0) tt in
        let t : Step g (live (after_commit a v) (runs_after (commit a) v rs)) (called (commit b) (exec (commit b) (after_commit a v)).answer)
        (live (after_both a b v) (runs_after_both a b v rs))
        = call (commit b) (after_commit a v) (runs_after (commit a) v rs) (lt-ltb b 4294967296 small.1) tt in
        next (rw d.first at s) (next (rw d.second at t) (stop _))

    -- what demand 3 says of them and of what follows
    both_kept : (fs : List Event) (p : Phase) → Run g (live (after_both a b v) (runs_after_both a b v rs)) fs p → Kept g (es ++ (both a b ++ fs)) p
    both_kept fs p s = demand3 g w (es ++ (both a b ++ fs)) p f (run_append r (run_append both_run s))

    both_reads : Reads g (book_of a b []) (after_both a b v)
    both_reads = (both_kept [] (live (after_both a b v) (runs_after_both a b v rs)) (stop _)).reads

    -- of a cut next
    cut_right : (c : CutNext g (after_both a b v) (runs_after_both a b v rs)) (h : Hand g)
        → Recovers g (book_of a b (c.event ∷ [])) (record { array = c.array; map = h.map; hold = h.hold; state = h.state })
    cut_right c h = (both_kept (c.event ∷ []) (dark c.array) (next c.falls (stop _))).recovers h.map h.hold h.state h.wide h.long

    outlives : Outlives g (after_both a b v) (runs_after_both a b v rs)
    outlives = record {
      recovers = λ c h. (cut_right c h).succeeds;
      reads = λ c n h.
          reads_same g _ _ (book_of a b (c.event ∷ [])) (book_of a b []) (next_pages a b c.event ∙ n (book_of a b []))
          (cut_right c h).reads both_reads;
    }

  -- ---- both
  module _ (a b : ℕ) (no_common : apart (writes_of a bk.changes) (writes_of b bk.changes) ≡ true) (d : BothDone a b v) where
    back : BothDone b a v
    back = other_order v bk here a b d

    book_same : (fs : List Event) → book_of a b fs ≡ book_of b a fs
    book_same fs =
        story_append (blank g) es (both a b ++ fs) ∙ story_append bk (both a b) fs
        ∙ ap (λ (k : Book). story k fs) (same_book bk a b (differ v bk here a b d) no_common)
        ∙ sym (story_append bk (both b a) fs) ∙ sym (story_append (blank g) es (both b a ++ fs))

    pages_same : (fs : List Event) → (book_of a b fs).pages ≡ (book_of b a fs).pages
    pages_same fs = ap (λ (k : Book). k.pages) (book_same fs)

    either_way : EitherWay g v rs a b
    either_way = record {
      done = back;
      reads = reads_same g _ _ (book_of a b []) (book_of b a []) (pages_same []) (both_reads a b d) (both_reads b a back);
      a_first = outlives a b d;
      b_first = outlives b a back;
      alike = λ c e s h k.
          reads_same g _ _ (book_of a b (c.event ∷ [])) (book_of b a (e.event ∷ []))
          (next_pages a b c.event ∙ ap (λ (l : Book). (tell l c.event).pages) (book_same []) ∙ s (book_of b a []) ∙ sym (next_pages b a e.event))
          (cut_right a b d c h).reads (cut_right b a back e k).reads;
    }

    -- and so on: after whatever is the same in either order, further commits and cuts in them among it, the next recovery reads the same
    pub same_later : (fs : List Event) (p q : Phase) → Run g (live (after_both a b v) (runs_after_both a b v rs)) fs p
        → Run g (live (after_both b a v) (runs_after_both b a v rs)) fs q → (h k : Hand g)
        → SameReads g (recovery g (array_of p) h).world (recovery g (array_of q) k).world
    same_later fs p q s t h k =
        reads_same g _ _ (book_of a b fs) (book_of b a fs) (pages_same fs)
        ((both_kept a b d fs p s).recovers h.map h.hold h.state h.wide h.long).reads
        ((both_kept b a back fs q t).recovers k.map k.hold k.state k.wide k.long).reads

-- ---- the theorem
pub either_order : EitherOrder
either_order = either_way
