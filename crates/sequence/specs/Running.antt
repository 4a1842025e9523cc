-- Pages that run, on the lent array: each stands there in full, and a cut leaves it as it is or not whole, apart from the others.
use Rattle.std.specs.Prelude.{◌≡◌, ◌≢◌, Bool, true, false, ◌&&◌, ℕ, length, eqb}
use Rattle.std.proofs.Math.Path.{refl, ap}
use Rattle.std.proofs.Common.{sym, ◌∙◌, inl, inr, arith}
use mathlib.Core.List.{List, [], ◌∷◌, ◌++◌}
use Rattle.model.specs.Lists.{same, those, keep}
use Rattle.model.specs.Bytes.{all_ff, ands, minus}
use Rattle.model.specs.Page.{page_at, blank_at, whole_at}
use Rattle.model.specs.World.{program, due_bits, turned_bits, every_turned, cut_op}
use Rattle.model.specs.Sequence.{Running, run_op, unrun, run_due, run_turned, cut_run, cut_runs, runs_due, runs_turned}
use Rattle.arrays.specs.Tests.{Is, eqb_cases, not_so}
use Rattle.arrays.specs.Bytelist.{Bytes, all_ff_is, bytes_replicate, length_ands}
use Rattle.arrays.specs.Pages.{PageFits, Other, length_page, length_put, bytes_put, put_same, put_other, bytes_page, whole_same}
use Rattle.arrays.specs.Ops.{length_cut, bytes_cut, cut_program_at, cut_program_other}
use Rattle.arrays.specs.Arrays.{ProgramOk, Leans, programmed, cut_done, cut_torn, cut_program_lean}
use Rattle.arrays.specs.Whole.{Lean, whole_class}

-- ---- one page
-- it was erased before, and stands there whole
pub record RunOk (xs : List ℕ) (r : Running) : Type 0 where
  pub fits : PageFits xs r.page
  pub was : all_ff r.before ≡ true
  pub long : length r.before ≡ 528
  pub whole : whole_at xs r.page ≡ true

-- that hangs on its page
pub run_keep : (xs ys : List ℕ) (r : Running) → page_at ys r.page ≡ page_at xs r.page → length ys ≡ length xs → RunOk xs r → RunOk ys r
run_keep xs ys r e l ok = record {
  fits = rw l ok.fits;
  was = ok.was;
  long = ok.long;
  whole = whole_same xs ys r.page r.page e ∙ ok.whole;
}

-- every due bit of it is turned
abbrev pub ended : ℕ → Running → List ℕ → List ℕ → Bool
ended p r lets xs = every_turned (run_due p r xs) (run_turned p r lets xs)

module _ (p : ℕ) (xs : List ℕ) (r : Running) (ok : RunOk xs r) (lets : List ℕ) (y : Bytes xs) where
  -- its number, its bytes, the array as it was before, and what the cut leaves
  abbrev k : ℕ
  k = r.page

  abbrev full : List ℕ
  full = page_at xs k

  abbrev old : List ℕ
  old = unrun r xs

  abbrev ys : List ℕ
  ys = cut_run p r lets xs

  before_bytes : Bytes r.before
  before_bytes = rw (all_ff_is r.before ok.was) (bytes_replicate (length r.before) 255 (omega arith))

  old_long : length old ≡ length xs
  old_long = length_put xs k r.before (ok.long ∙ sym (length_page xs k ok.fits))

  old_bytes : Bytes old
  old_bytes = bytes_put xs k r.before y before_bytes

  old_at : page_at old k ≡ r.before
  old_at = put_same xs k r.before ok.fits ok.long

  old_other : Other k xs old
  old_other = put_other xs k r.before ok.fits ok.long

  program_ok : ProgramOk old k full
  unfolding blank_at
  program_ok = record {
    fits = rw old_long ok.fits;
    blank = rw old_at ok.was;
    long = length_page xs k ok.fits;
    small = bytes_page xs k y;
    whole = whole_class xs k ok.whole;
  }

  pub run_other : Other k xs ys
  unfolding cut_run
  run_other j n = cut_program_other p old k full program_ok.fits lets j n ∙ old_other j n

  pub run_long : length ys ≡ length xs
  unfolding cut_run
  run_long = length_cut p (program k full) lets old ∙ old_long

  pub run_bytes : Bytes ys
  unfolding cut_run
  run_bytes = bytes_cut p (program k full) lets old old_bytes

  pub run_lean : Leans xs → Leans ys
  unfolding cut_run
  run_lean l j = go (eqb_cases j k)
    where
      go : Is j k → Lean (page_at (cut_op p (program k full) lets old) j)
      go (inl q) = rw q.0 (cut_program_lean p old k full program_ok lets old_bytes)
      go (inr q) = rw (run_other j q.0) (l j)

  -- it has ended: the page is as it stood
  pub run_done : ended p r lets xs ≡ true → page_at ys k ≡ page_at xs k
  unfolding cut_run run_due run_turned
  run_done t = ap (λ (l : List ℕ). page_at l k) (cut_done p old k full program_ok lets old_bytes t) ∙ programmed p old k full program_ok

  -- or it is not whole
  pub run_torn : ended p r lets xs ≡ false → whole_at ys k ≡ false
  unfolding cut_run run_due run_turned
  run_torn t = not_so (whole_at ys k) (λ w. cut_torn p old k full program_ok lets old_bytes t (whole_class ys k w))

  -- its bytes
  run_at : page_at ys k ≡ minus r.before (ands (minus r.before full) lets)
  unfolding cut_run turned_bits due_bits
  run_at = cut_program_at p old k full program_ok.fits lets ∙ ap (λ (o : List ℕ). minus o (ands (minus o full) lets)) old_at

-- ---- which of its bits are turned
same_append : (a b c d : List ℕ) → length a ≡ length b → same (a ++ c) (b ++ d) ≡ (same a b && same c d)
unfolding same
same_append [] [] c d e = refl
same_append [] (y ∷ b) c d e = absurd (omega arith)
same_append (x ∷ a) [] c d e = absurd (omega arith)
same_append (x ∷ a) (y ∷ b) c d e = go (eqb x y) (same_append a b c d (omega arith))
  where
    go : (t : Bool) → same (a ++ c) (b ++ d) ≡ (same a b && same c d) → (t && same (a ++ c) (b ++ d)) ≡ ((t && same a b) && same c d)
    go true ih = ih
    go false ih = refl

pub turned_append : (a b c d : List ℕ) → length a ≡ length b → every_turned (a ++ c) (b ++ d) ≡ (every_turned a b && every_turned c d)
unfolding every_turned
turned_append a b c d e = same_append a b c d e

turned_long : (p : ℕ) (r : Running) (lets xs : List ℕ) → length (run_due p r xs) ≡ length (run_turned p r lets xs)
unfolding run_due run_turned turned_bits
turned_long p r lets xs = sym (length_ands (due_bits p (run_op r xs) (unrun r xs)) lets)

-- that hangs on its page
due_is : (p : ℕ) (xs : List ℕ) (r : Running) → RunOk xs r → run_due p r xs ≡ minus r.before (page_at xs r.page)
unfolding run_due due_bits
due_is p xs r ok = ap (λ (l : List ℕ). minus l (page_at xs r.page)) (put_same xs r.page r.before ok.fits ok.long)

turned_is : (p : ℕ) (xs : List ℕ) (r : Running) (lets : List ℕ) → run_turned p r lets xs ≡ ands (run_due p r xs) lets
unfolding run_due run_turned turned_bits
turned_is p xs r lets = refl

pub ended_same : (p : ℕ) (xs ys : List ℕ) (r : Running) (lets : List ℕ) → RunOk xs r → RunOk ys r → page_at ys r.page ≡ page_at xs r.page
    → ended p r lets ys ≡ ended p r lets xs
ended_same p xs ys r lets ok ok' e =
    let d : run_due p r ys ≡ run_due p r xs = due_is p ys r ok' ∙ ap (minus r.before) e ∙ sym (due_is p xs r ok) in
    rw (turned_is p ys r lets, turned_is p xs r lets, d)

-- ---- several
-- every due bit of each is turned
abbrev pub all_ended : ℕ → List Running → (ℕ → List ℕ) → List ℕ → Bool
all_ended p rs parts xs = every_turned (runs_due p rs xs) (runs_turned p rs parts xs)

module _ (p : ℕ) (parts : ℕ → List ℕ) (xs : List ℕ) where
  pub none_ended : all_ended p [] parts xs ≡ true
  unfolding runs_due runs_turned every_turned same
  none_ended = refl

  pub ended_split : (r : Running) (rs : List Running) → all_ended p (r ∷ rs) parts xs ≡ (ended p r (parts r.page) xs && all_ended p rs parts xs)
  unfolding runs_due runs_turned
  ended_split r rs = turned_append (run_due p r xs) (run_turned p r (parts r.page) xs) _ _ (turned_long p r (parts r.page) xs)

-- none of them is page k
abbrev pub Fresh : ℕ → List Running → Type 0
Fresh k [] = Unit {0}
Fresh k (r ∷ rs) = (r.page ≢ k) × Fresh k rs

-- a fact of each, and no two are the same page
abbrev pub Runs : (Running → Type 0) → List Running → Type 0
Runs P [] = Unit {0}
Runs P (r ∷ rs) = P r × (Fresh r.page rs × Runs P rs)

pub runs_map : (P Q : Running → Type 0) → ((r : Running) → P r → Q r) → (rs : List Running) → Runs P rs → Runs Q rs
runs_map P Q f [] h = tt
runs_map P Q f (r ∷ rs) h = (f r h.0, (h.1.0, runs_map P Q f rs h.1.1))

fresh_those : (t : Running → Bool) (k : ℕ) (rs : List Running) → Fresh k rs → Fresh k (those t rs)
unfolding those
fresh_those t k [] h = tt
fresh_those t k (r ∷ rs) h = go (t r) (fresh_those t k rs h.1)
  where
    go : (b : Bool) → Fresh k (those t rs) → Fresh k (keep b (r ∷ []) ++ those t rs)
    go true n = (h.0, n)
    go false n = n

pub runs_those : (P : Running → Type 0) (t : Running → Bool) (rs : List Running) → Runs P rs → Runs P (those t rs)
unfolding those
runs_those P t [] h = tt
runs_those P t (r ∷ rs) h = go (t r) (runs_those P t rs h.1.1)
  where
    go : (b : Bool) → Runs P (those t rs) → Runs P (keep b (r ∷ []) ++ those t rs)
    go true n = (h.0, (fresh_those t r.page rs h.1.0, n))
    go false n = n

-- a page that by what is so of each is none of them
pub fresh_by : (k : ℕ) (P : Running → Type 0) → ((r : Running) → P r → r.page ≢ k) → (rs : List Running) → Runs P rs → Fresh k rs
fresh_by k P f [] h = tt
fresh_by k P f (r ∷ rs) h = (f r h.0, fresh_by k P f rs h.1.1)

-- what a cut of all of them leaves: the other pages as they were
record Others (rs : List Running) (xs ys : List ℕ) : Type 0 where
  same : (j : ℕ) → Fresh j rs → page_at ys j ≡ page_at xs j
  long : length ys ≡ length xs
  bytes : Bytes ys

-- two arrays agree but on page k
pub record Agree (k : ℕ) (us vs : List ℕ) : Type 0 where
  pub other : Other k us vs
  pub long : length vs ≡ length us
  pub bytes : Bytes vs
  pub lean : Leans vs

module _ (p : ℕ) (parts : ℕ → List ℕ) where
  others_kept : (rs : List Running) (xs : List ℕ) → Bytes xs → Runs (RunOk xs) rs → Others rs xs (cut_runs p rs parts xs)
  unfolding cut_runs
  others_kept [] xs y h = record { same = λ j n. refl; long = refl; bytes = y }
  others_kept (r ∷ rs) xs y h = step (cut_runs p rs parts xs) (others_kept rs xs y h.1.1)
    where
      step : (zs : List ℕ) → Others rs xs zs → Others (r ∷ rs) xs (cut_run p r (parts r.page) zs)
      step zs s =
          let ok : RunOk zs r = run_keep xs zs r (s.same r.page h.1.0) s.long h.0 in
          record {
            same = λ j n. run_other p zs r ok (parts r.page) s.bytes j (λ q. n.0 (sym q)) ∙ s.same j n.1;
            long = run_long p zs r ok (parts r.page) s.bytes ∙ s.long;
            bytes = run_bytes p zs r ok (parts r.page) s.bytes;
          }

  -- cut alike they agree still, and page k is as it was
  pub agree_cut : (k : ℕ) (rs : List Running) (us vs : List ℕ) → Bytes us → Runs (RunOk us) rs → Fresh k rs → Agree k us vs
      → Agree k (cut_runs p rs parts us) (cut_runs p rs parts vs) × (page_at (cut_runs p rs parts vs) k ≡ page_at vs k)
  unfolding cut_runs
  agree_cut k [] us vs y ok f a = (a, refl)
  agree_cut k (r ∷ rs) us vs y ok f a =
      step (cut_runs p rs parts us) (cut_runs p rs parts vs) (agree_cut k rs us vs y ok.1.1 f.1 a) (others_kept rs us y ok.1.1)
      (others_kept rs vs a.bytes (keep_ok rs ok.1.1 f.1))
    where
      keep_ok : (qs : List Running) → Runs (RunOk us) qs → Fresh k qs → Runs (RunOk vs) qs
      keep_ok [] h n = tt
      keep_ok (q ∷ qs) h n = (run_keep us vs q (a.other q.page n.0) a.long h.0, (h.1.0, keep_ok qs h.1.1 n.1))

      lets : List ℕ
      lets = parts r.page

      step : (us' vs' : List ℕ) → Agree k us' vs' × (page_at vs' k ≡ page_at vs k) → Others rs us us' → Others rs vs vs'
          → Agree k (cut_run p r lets us') (cut_run p r lets vs') × (page_at (cut_run p r lets vs') k ≡ page_at vs k)
      step us' vs' b s t = (
        record {
          other = λ j n. at j n (eqb_cases j r.page);
          long = run_long p vs' r ok_vs lets t.bytes ∙ b.0.long ∙ sym (run_long p us' r ok_us lets s.bytes);
          bytes = run_bytes p vs' r ok_vs lets t.bytes;
          lean = run_lean p vs' r ok_vs lets t.bytes b.0.lean;
        },
        run_other p vs' r ok_vs lets t.bytes k (λ z. f.0 (sym z)) ∙ b.1,
      )
        where
          ok_us : RunOk us' r
          ok_us = run_keep us us' r (s.same r.page ok.1.0) s.long ok.0

          ok_vs : RunOk vs' r
          ok_vs = run_keep vs vs' r (t.same r.page ok.1.0) t.long (run_keep us vs r (a.other r.page f.0) a.long ok.0)

          at : (j : ℕ) → (j ≡ k → ⊥) → Is j r.page → page_at (cut_run p r lets vs') j ≡ page_at (cut_run p r lets us') j
          at j n (inl q) =
              rw q.0 (run_at p vs' r ok_vs lets t.bytes ∙ ap (λ (x : List ℕ). minus r.before (ands (minus r.before x) lets))
              (b.0.other r.page f.0)
              ∙ sym (run_at p us' r ok_us lets s.bytes))
          at j n (inr q) =
              run_other p vs' r ok_vs lets t.bytes j q.0 ∙ b.0.other j n ∙ sym (run_other p us' r ok_us lets s.bytes j q.0)
