-- Lines put one behind the other, session by session and length by length. Assumes nothing.
use mathlib.Core.Path.{◌≡◌, refl, sym, ap, ◌∙◌}
use mathlib.Core.Bool.{Bool, true, false}
use mathlib.Core.List.{List, [], ◌∷◌, ◌++◌, append_assoc, append-nil}
use Prim.Native.Nat.{ℕ, zero, suc, ◌+◌, ◌-◌, ◌*◌, ◌≤◌, ◌<◌}
use native.Mathlib.Numerals.{add-one}
use native.Mathlib.Omega.{arith}
use lib.ListN.{length, take, length-append}
use lib.Seq.{length-take-le}
use Rattle.model.specs.Lists.{keep, those}
use Rattle.model.specs.World.{World}
use Rattle.model.specs.Sessions.{fresh, accepted, cuts, power, session, sessions_from, sessions_up, accepted_in, short_sessions}
use Rattle.text.specs.Text.{listed, Put}
use Rattle.text.proofs.Putting.{puts, put_within, put_dropped}
use Rattle.sessions.specs.Text.{maps_text, line_of, lines_of, lines_in, text_of, Adds}
use Rattle.std.specs.Prelude.{Some, None}

-- ---- a line
module _ (cs ds : List ℕ) (w : World) (ok : Bool) (d : ds ≡ cs) (e : w ≡ fresh) (f : ok ≡ accepted ds w) where
  decided : ok ≡ accepted cs fresh
  decided = f ∙ rw (d, e) refl

  -- its numbers, its maps and its end
  pub line_put : {out out1 out2 out3 : List ℕ} {at a b end m k : ℕ} → ok ≡ true → Put out at (listed 0 ds) m out1 a
      → Put out1 a (keep ok (maps_text (cuts ds w))) k out2 b → Put out2 b (10 ∷ []) 1 out3 end → m + k + 1 ≤ 3072
      → Put out at (keep (accepted cs fresh) (line_of cs)) 3072 out3 end
  unfolding line_of
  line_put t p q r l = rw (← decided, t) (put_within (puts (puts (rw d at p) (rw (t, d, e) at q)) r) l)

  -- nothing, where a command is refused
  pub no_line : {out out1 out2 : List ℕ} {at a b m k : ℕ} {t : List ℕ} → ok ≡ false → at ≤ length out → Put out at (listed 0 ds) m out1 a → Put out1 a t k out2 b
      → Put out at (keep (accepted cs fresh) (line_of cs)) 3072 out2 at
  no_line t l p q = rw (← decided, t) (put_dropped 3072 l (puts p q))

-- ---- the lines of a list
lines_cons : (cs : List ℕ) (css : List (List ℕ)) → lines_in (cs ∷ css) ≡ keep (accepted cs fresh) (line_of cs) ++ lines_in css
unfolding lines_in accepted_in those lines_of
lines_cons cs css = go (accepted cs fresh)
  where
    go : (b : Bool) → lines_of (keep b (cs ∷ []) ++ those (λ (ds : List ℕ). accepted ds fresh) css) ≡ keep b (line_of cs) ++ lines_of (those (λ (ds : List ℕ). accepted ds fresh) css)
    go true = refl
    go false = refl

lines_append : (xs ys : List (List ℕ)) → lines_in (xs ++ ys) ≡ lines_in xs ++ lines_in ys
lines_append [] ys = unfold lines_in accepted_in those lines_of in refl
lines_append (x ∷ xs) ys =
    lines_cons x (xs ++ ys) ∙ ap (λ (t : List ℕ). keep (accepted x fresh) (line_of x) ++ t) (lines_append xs ys)
    ∙ sym (append_assoc (keep (accepted x fresh) (line_of x)) (lines_in xs) (lines_in ys)) ∙ ap (λ (t : List ℕ). t ++ lines_in ys) (sym (lines_cons x xs))

-- ---- session by session
line_of_law : (n k count : ℕ) → k < count
    → lines_in (sessions_from n k (count - k)) ≡ keep (accepted (session n k) fresh) (line_of (session n k)) ++ lines_in (sessions_from n (k + 1) (count - (k + 1)))
unfolding sessions_from
line_of_law n k count h =
    let e : count - k ≡ suc (count - (k + 1)) = omega arith in
    rw (e, add-one) (lines_cons (session n k) (sessions_from n (suc k) (count - suc k)))

-- none is put
pub lines_start : (n count : ℕ) (t : List ℕ) → t ++ lines_in (sessions_from n 0 (count - 0)) ≡ t ++ lines_in (sessions_from n 0 count)
lines_start n count t = let z : count - 0 ≡ count = omega arith in rw z refl

-- the lines put and those that are left are all: a turn keeps it
pub lines_again : (n k count : ℕ) (all : List ℕ) {out out' : List ℕ} {end end' m : ℕ} → k < count → take end out ++ lines_in (sessions_from n k (count - k)) ≡ all
    → Put out end (keep (accepted (session n k) fresh) (line_of (session n k))) m out' end'
    → take end' out' ++ lines_in (sessions_from n (k + 1) (count - (k + 1))) ≡ all
lines_again n k count all h e p = rw (p.is, append_assoc, ← line_of_law n k count h) e

-- none is left
pub lines_done : (n k count : ℕ) (all out : List ℕ) (end : ℕ) → count ≤ k → take end out ++ lines_in (sessions_from n k (count - k)) ≡ all → take end out ≡ all
unfolding lines_in accepted_in those lines_of sessions_from
lines_done n k count all out end h e = let z : count - k ≡ 0 = omega arith in sym (append-nil (take end out)) ∙ (rw z at e)

-- what stands there and what is left is as long as all
as_long : (out rest out₀ all : List ℕ) (end at : ℕ) → end ≤ length out → at ≤ length out₀ → take end out ++ rest ≡ take at out₀ ++ all → end + length rest ≡ at + length all
as_long out rest out₀ all end at h k e =
    let l = ap length e in
    let a = length-append (take end out) rest in
    let b = length-append (take at out₀) all in
    omega (arith, l, a, b, length-take-le end out h, length-take-le at out₀ k)

-- so all is no shorter than what stands there
pub all_longer : (out rest out₀ all : List ℕ) (end at n : ℕ) → end ≤ length out → at ≤ length out₀ → take end out ++ rest ≡ take at out₀ ++ all → n < end → n < at + length all
all_longer out rest out₀ all end at n h k e l = omega (arith, as_long out rest out₀ all end at h k e)

-- ---- length by length
size_of : (n : ℕ) → n < 5 → lines_in (sessions_up n (5 - n)) ≡ lines_in (sessions_from n 0 (power n)) ++ lines_in (sessions_up (n + 1) (5 - (n + 1)))
unfolding sessions_up
size_of n h =
    let e : 5 - n ≡ suc (5 - (n + 1)) = omega arith in
    rw (e, add-one) (lines_append (sessions_from n 0 (power n)) (sessions_up (suc n) (5 - suc n)))

pub sizes_start : (out : List ℕ) → take 0 out ++ lines_in (sessions_up 0 (5 - 0)) ≡ text_of
unfolding lines_in text_of short_sessions
sizes_start out = refl

-- the lines of one length put, with what is left
pub sizes_again : (n count : ℕ) (out out' : List ℕ) (end r : ℕ) → Adds out end (lines_in (sessions_from n 0 count)) out' (Some r) → n < 5
    → count ≡ power n → take end out ++ lines_in (sessions_up n (5 - n)) ≡ text_of → (r ≤ length out') × (take r out' ++ lines_in (sessions_up (n + 1) (5 - (n + 1))) ≡ text_of)
sizes_again n count out out' end r a h c e = (a.1, rw (a.0, c, append_assoc, ← size_of n h) e)

pub sizes_done : (n : ℕ) (out : List ℕ) (end : ℕ) → 5 ≤ n → take end out ++ lines_in (sessions_up n (5 - n)) ≡ text_of → take end out ≡ text_of
unfolding lines_in accepted_in those lines_of sessions_up
sizes_done n out end h e = let z : 5 - n ≡ 0 = omega arith in sym (append-nil (take end out)) ∙ (rw z at e)

-- they have no room: so the text is longer
pub text_longer : (n count : ℕ) (out out' : List ℕ) (end : ℕ) → Adds out end (lines_in (sessions_from n 0 count)) out' None → n < 5
    → count ≡ power n → end ≤ length out → take end out ++ lines_in (sessions_up n (5 - n)) ≡ text_of → 29696 < length text_of
text_longer n count out out' end a h c k e =
    let s = lines_in (sessions_from n 0 (power n)) in
    let up = lines_in (sessions_up n (5 - n)) in
    let more = lines_in (sessions_up (n + 1) (5 - (n + 1))) in
    let whole : length text_of ≡ end + length up = ap length (sym e) ∙ length-append (take end out) up ∙ ap (λ (i : ℕ). i + length up) (length-take-le end out k) in
    let part : length up ≡ length s + length more = ap length (size_of n h) ∙ length-append s more in
    let full : 29696 < end + length s = rw c at a in
    omega (arith, whole, part, full)

-- how many sessions there are of each length
pub power_start : 1 ≡ power 0
unfolding power
power_start = refl

pub power_next : (n count : ℕ) → count ≡ power n → count * 10 ≡ power (n + 1)
unfolding power
power_next n count e = rw (add-one, e) (omega arith)

pub power_most : (n : ℕ) → n ≤ 5 → power n ≤ 100000
unfolding power
power_most zero h = omega arith
power_most (suc zero) h = omega arith
power_most (suc (suc zero)) h = omega arith
power_most (suc (suc (suc zero))) h = omega arith
power_most (suc (suc (suc (suc zero)))) h = omega arith
power_most (suc (suc (suc (suc (suc zero))))) h = omega arith
power_most (suc (suc (suc (suc (suc (suc n)))))) h = absurd (omega arith)
