-- The report of a recovery, and of an input line by line. Assumes nothing.
use mathlib.Core.Path.{◌≡◌, refl, sym, ap, ◌∙◌, subst}
use mathlib.Core.Bool.{Bool, true, false}
use mathlib.Core.List.{List, ◌∷◌}
use Prim.Native.Nat.{ℕ, zero, suc, ◌≤◌, ◌<◌}
use native.Mathlib.Omega.{arith}
use lib.ListN.{length, take, replicate}
use borrow.Author.Tests.{lt-ltb, le-ltb}
use Rattle.model.specs.Zones.{torn_of}
use Rattle.model.specs.World.{World}
use Rattle.model.specs.Order.{first_number}
use Rattle.model.specs.Geometry.{geometry_ok, blank_map}
use Rattle.model.specs.Frame.{fresh_state, lent_ok}
use Rattle.model.specs.Recover.{plan_recover}
use Rattle.model.specs.Commands.{Outcome, plan, carried, exec, recover}
use Rattle.model.specs.declared.Geometry.{Geometry}
use Rattle.model.specs.declared.State.{State}
use Rattle.arrays.specs.Tests.{and_left}
use Rattle.arrays.specs.Ranges.{geometry_in}
use Rattle.lines.specs.Input.{says, ill_formed, line_of}
use Rattle.lines.specs.Names.{blocks_name, pages_name, logical_name, answer_name}
use Rattle.text.specs.Text.{Put}
use Rattle.lines.specs.Text.{number_line}
use Rattle.reporting.specs.Report.{torn_pages, outcome_text, empty_hold, lent, array_report, report_of, ScanFits}
use Rattle.text.proofs.Putting.{put_within, put_is}
use Rattle.outcome.specs.Text.{answer_text}
use Rattle.outcome.proofs.Answers.{refused_text}
use Rattle.reporting.proofs.Done.{done_fits}

-- ---- a recovery: the answer k, and what it leaves
module _ (g : Geometry) (xs map map2 hold hold2 : List ℕ) (s t : State) (n k : ℕ)
    (e : ◌≡◌ {A = Outcome} (record { answer = n; world = record { array = xs; map = map2; hold = hold2; state = t } }) (exec (recover g) (record { array = xs; map = map; hold = hold; state = s })))
    (lies : hold ≡ empty_hold) (starts : s ≡ fresh_state g) (told : k ≡ n) where
  out_is : ◌≡◌ {A = Outcome} (record { answer = n; world = record { array = xs; map = map2; hold = hold2; state = t } }) (exec (recover g) (lent g xs map))
  out_is = e ∙ rw (lies, starts)

  text_is : answer_text k t map2 (torn_of xs t.geometry.pages t.zones) ≡ outcome_text (exec (recover g) (lent g xs map))
  unfolding outcome_text torn_pages
  text_is = ap (λ (i : ℕ). answer_text i t map2 (torn_of xs t.geometry.pages t.zones)) told ∙ ap outcome_text out_is

  -- refused
  pub refusal_told : (k ≡ 0 → ⊥) → {a b : List ℕ} {m r : ℕ} → Put a 0 (number_line answer_name k) m b r → m ≤ 8192
      → Put a 0 (outcome_text (exec (recover g) (lent g xs map))) 8192 b r
  refusal_told h p le = put_is (refused_text k t map2 (torn_of xs t.geometry.pages t.zones) h ∙ text_is) (put_within p le)

  -- done: the blocks of the state's zones lie in the array, and what is counted on them is told
  module _ (done : k ≡ 0) where
    pub told_fits : ScanFits xs t
    told_fits = subst (ScanFits xs) (ap (λ (o : Outcome). o.world.state) (sym e)) (done_fits g _ (ap (λ (o : Outcome). o.answer) (sym e) ∙ sym told ∙ done))

    pub recovery_told : (torn : ℕ) → torn ≡ torn_of xs t.geometry.pages t.zones
        → {a b : List ℕ} {m r : ℕ} → Put a 0 (answer_text 0 t map2 torn) m b r → Put a 0 (outcome_text (exec (recover g) (lent g xs map))) m b r
    recovery_told torn c p = put_is (ap (λ (i : ℕ). answer_text i t map2 torn) (sym done) ∙ ap (answer_text k t map2) c ∙ text_is) p

-- ---- an array
-- more than 65,536 bytes
pub array_long : {a b : List ℕ} {m r : ℕ} (g : Geometry) (xs : List ℕ) → 65536 < length xs → Put a 0 (number_line answer_name 1) m b r → m ≤ 8192 → Put a 0 (array_report g xs) 8192 b r
unfolding array_report
array_long g xs h p le = rw (lt-ltb _ _ h) (put_within p le)

-- a geometry for which no map is lent: it is out of range
lent_geometry : (g : Geometry) (w : World) → lent_ok g w ≡ true → geometry_ok g ≡ true
unfolding lent_ok
lent_geometry g w e = and_left (geometry_ok g) _ e

wide_refused : (g : Geometry) (xs : List ℕ) → 1024 < g.logical → (exec (recover g) (lent g xs (blank_map g))).answer ≡ 1
unfolding exec carried plan plan_recover first_number
wide_refused g xs h = go (lent_ok g (lent g xs (blank_map g))) refl
  where
    go : (b : Bool) → lent_ok g (lent g xs (blank_map g)) ≡ b → (exec (recover g) (lent g xs (blank_map g))).answer ≡ 1
    go true e = absurd (let i = geometry_in g (lent_geometry g _ e) in omega (arith, i.logical_most))
    go false e = rw e

pub array_wide : {a b : List ℕ} {m r : ℕ} (g : Geometry) (xs : List ℕ) → length xs ≤ 65536 → 1024 < g.logical → Put a 0 (number_line answer_name 1) m b r → m ≤ 8192 → Put a 0 (array_report g xs) 8192 b r
unfolding array_report outcome_text
array_wide g xs h k p le =
    let w = wide_refused g xs k in
    rw (le-ltb _ _ h) (put_is (ap (number_line answer_name) (sym w) ∙ refused_text _ _ _ _ (λ z. omega (arith, w, z))) (put_within p le))

-- the map lent
blank : (n m : ℕ) → n ≤ m → take {A = ℕ} n (replicate m 65535) ≡ replicate n 65535
blank zero m h = refl
blank (suc n) zero h = absurd (omega arith)
blank (suc n) (suc m) h = ap (λ (l : List ℕ). 65535 ∷ l) (blank n m (omega arith))

pub array_recovered : {a b : List ℕ} {r : ℕ} (g : Geometry) (xs entries : List ℕ) → length xs ≤ 65536 → g.logical ≤ 1024 → entries ≡ replicate 1024 65535
    → Put a 0 (outcome_text (exec (recover g) (lent g xs (take g.logical entries)))) 8192 b r → Put a 0 (array_report g xs) 8192 b r
unfolding array_report blank_map
array_recovered g xs entries h k e p =
    rw (le-ltb _ _ h) (put_is (ap (λ (map : List ℕ). outcome_text (exec (recover g) (lent g xs map))) (ap (take g.logical) e ∙ blank g.logical 1024 k)) p)

-- ---- an input
module _ (input : List ℕ) where
  pub first_lost : ill_formed ≡ line_of blocks_name input → number_line answer_name 1 ≡ report_of input
  unfolding report_of
  first_lost e = rw (← e)

  module _ (b : ℕ) (second : List ℕ) (e : says b second ≡ line_of blocks_name input) where
    pub second_lost : ill_formed ≡ line_of pages_name second → number_line answer_name 1 ≡ report_of input
    unfolding report_of
    second_lost f = rw (← e, ← f)

    module _ (p : ℕ) (third : List ℕ) (f : says p third ≡ line_of pages_name second) where
      pub third_lost : ill_formed ≡ line_of logical_name third → number_line answer_name 1 ≡ report_of input
      unfolding report_of
      third_lost h = rw (← e, ← f, ← h)

      pub all_found : (l : ℕ) (xs : List ℕ) → says l xs ≡ line_of logical_name third → array_report (record { blocks = b; pages = p; logical = l; planes = 1 }) xs ≡ report_of input
      unfolding report_of
      all_found l xs h = rw (← e, ← f, ← h)
