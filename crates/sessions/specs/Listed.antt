-- The list of sessions has exactly the short sessions in which none is refused, each once, shorter first, then by command order: a session of n commands is
-- a number of n digits, and command order is the order of these numbers.
use Rattle.std.specs.Prelude.{◌≡◌, ◌⊎◌, Bool, ℕ, zero, suc, ◌+◌, ◌-◌, ◌*◌, ◌/◌, ◌%◌, ◌≤◌, ◌<◌, length, eqb}
use Rattle.std.proofs.Math.Path.{refl, ap}
use Rattle.std.proofs.Common.{sym, ap₂, ◌∙◌, subst, inl, inr, arith, length-append, eqb-true}
use Rattle.std.proofs.Math.Bool.{true, false}
use mathlib.Core.List.{List, [], ◌∷◌, ◌++◌}
use Rattle.std.proofs.lemmas.Bool.{eqb-false}
use Rattle.model.specs.Lists.{keep, those}
use Rattle.model.specs.Sessions.{fresh, accepted, power, session, sessions_from, sessions_up, accepted_in, short_sessions}
use Rattle.model.specs.Sessions.{Commands, Among, Lower, Before, BeforeAll, InOrder, EveryShortSession}

-- ---- a session and its number
-- the number that the commands cs make of one whose digits came before: a command is a digit, counted from 1
unfoldable pub number_from : ℕ → List ℕ → ℕ
number_from k [] = k
number_from k (c ∷ cs) = number_from (10 * k + (c - 1)) cs

abbrev pub number_of : List ℕ → ℕ
number_of cs = number_from 0 cs

number_last : (k : ℕ) (cs : List ℕ) (c : ℕ) → number_from k (cs ++ (c ∷ [])) ≡ 10 * number_from k cs + (c - 1)
unfolding number_from
number_last k [] c = refl
number_last k (d ∷ cs) c = number_last (10 * k + (d - 1)) cs c

commands_append : (cs ds : List ℕ) → Commands cs → Commands ds → Commands (cs ++ ds)
commands_append [] ds h k = k
commands_append (c ∷ cs) ds h k = (h.0, commands_append cs ds h.1 k)

-- session k has n commands of the ten
pub session_long : (n k : ℕ) → length (session n k) ≡ n
unfolding session
session_long zero k = refl
session_long (suc n) k = length-append (session n (k / 10)) _ ∙ omega (arith, session_long n (k / 10))

pub session_commands : (n k : ℕ) → Commands (session n k)
unfolding session
session_commands zero k = tt
session_commands (suc n) k = commands_append (session n (k / 10)) _ (session_commands n (k / 10)) ((omega arith, omega arith), tt)

-- its number is k
pub session_number : (n k : ℕ) → k < power n → number_of (session n k) ≡ k
unfolding session power number_from
session_number zero k l = omega arith
session_number (suc n) k l =
    let h : k / 10 < power n = omega arith in
    let e = session_number n (k / 10) h in
    number_last 0 (session n (k / 10)) _ ∙ omega (arith, e)

-- a list from its end
data Snoc : List ℕ → Type 0 where
  none : Snoc []
  last : (cs : List ℕ) (c : ℕ) → Snoc (cs ++ (c ∷ []))

snoc : (cs : List ℕ) → Snoc cs
snoc [] = none
snoc (c ∷ cs) = go (snoc cs)
  where
    go : {ds : List ℕ} → Snoc ds → Snoc (c ∷ ds)
    go none = last [] c
    go (last es e) = last (c ∷ es) e

commands_left : (cs ds : List ℕ) → Commands (cs ++ ds) → Commands cs
commands_left [] ds h = tt
commands_left (c ∷ cs) ds h = (h.0, commands_left cs ds h.1)

commands_right : (cs ds : List ℕ) → Commands (cs ++ ds) → Commands ds
commands_right [] ds h = h
commands_right (c ∷ cs) ds h = commands_right cs ds h.1

-- every session is the one of its number, which is below 10 to the n
pub is_listed : (n : ℕ) (cs : List ℕ) → Commands cs → length cs ≡ n → (number_of cs < power n) × (session n (number_of cs) ≡ cs)
unfolding session power number_from
is_listed zero [] h e = (omega arith, refl)
is_listed zero (c ∷ cs) h e = absurd (omega (arith, e))
is_listed (suc n) cs h e = go (is_listed n) (snoc cs) h e
  where
    go : ((es : List ℕ) → Commands es → length es ≡ n → (number_of es < power n) × (session n (number_of es) ≡ es)) → {ds : List ℕ} → Snoc ds → Commands ds → length ds ≡ suc n
        → (number_of ds < power (suc n)) × (session (suc n) (number_of ds) ≡ ds)
    go ih none h e = absurd (omega (arith, e))
    go ih (last es c) h e =
        let k : (1 ≤ c) × (c ≤ 10) = (commands_right es (c ∷ []) h).0 in
        let r = ih es (commands_left es (c ∷ []) h) (omega (arith, e, length-append es (c ∷ []))) in
        let m : number_of (es ++ (c ∷ [])) ≡ 10 * number_of es + (c - 1) = number_last 0 es c in
        let q : number_of (es ++ (c ∷ [])) / 10 ≡ number_of es = omega (arith, m, k.0, k.1) in
        let d : 1 + number_of (es ++ (c ∷ [])) % 10 ≡ c = omega (arith, m, k.0, k.1) in
        (omega (arith, m, r.0, k.0, k.1), ap₂ {C = List ℕ} (λ (xs : List ℕ) (x : ℕ). xs ++ (x ∷ [])) (ap (session n) q ∙ r.1) d)

-- ---- a lower number is before in command order
lower_append : (cs ds : List ℕ) (c d : ℕ) → length cs ≡ length ds → Lower cs ds → Lower (cs ++ (c ∷ [])) (ds ++ (d ∷ []))
lower_append [] ds c d e l = absurd l
lower_append (x ∷ cs) [] c d e l = absurd l
lower_append (x ∷ cs) (y ∷ ds) c d e (inl h) = inl h
lower_append (x ∷ cs) (y ∷ ds) c d e (inr h) = inr (h.0, lower_append cs ds c d (omega (arith, e)) h.1)

lower_last : (cs : List ℕ) (c d : ℕ) → c < d → Lower (cs ++ (c ∷ [])) (cs ++ (d ∷ []))
lower_last [] c d l = inl l
lower_last (x ∷ cs) c d l = inr (refl, lower_last cs c d l)

up_to : (a b : ℕ) → a ≤ b → (a < b) ⊎ (a ≡ b)
up_to a b h = go (eqb a b) refl
  where
    go : (t : Bool) → eqb a b ≡ t → (a < b) ⊎ (a ≡ b)
    go true e = inr (eqb-true a b e)
    go false e = let g = eqb-false a b e in inl (omega (arith, g))

pub numbers_order : (n j k : ℕ) → j < k → k < power n → Lower (session n j) (session n k)
unfolding session power
numbers_order zero j k l m = absurd (omega arith)
numbers_order (suc n) j k l m = go (λ h. numbers_order n (j / 10) (k / 10) h (omega arith)) (up_to (j / 10) (k / 10) (omega arith))
  where
    go : (j / 10 < k / 10 → Lower (session n (j / 10)) (session n (k / 10))) → (j / 10 < k / 10) ⊎ (j / 10 ≡ k / 10)
        → Lower (session n (j / 10) ++ ((1 + j % 10) ∷ [])) (session n (k / 10) ++ ((1 + k % 10) ∷ []))
    go ih (inl h) = lower_append (session n (j / 10)) (session n (k / 10)) _ _ (session_long n (j / 10) ∙ sym (session_long n (k / 10))) (ih h)
    go ih (inr h) = subst (λ (i : ℕ). Lower (session n (j / 10) ++ ((1 + j % 10) ∷ [])) (session n i ++ ((1 + k % 10) ∷ []))) h
        (lower_last (session n (j / 10)) _ _ (omega arith))

-- ---- what stands in two lists, one behind the other, and in those that are accepted
among_left : (cs : List ℕ) (xs ys : List (List ℕ)) → Among cs xs → Among cs (xs ++ ys)
among_left cs [] ys a = absurd a
among_left cs (x ∷ xs) ys (inl e) = inl e
among_left cs (x ∷ xs) ys (inr a) = inr (among_left cs xs ys a)

among_right : (cs : List ℕ) (xs ys : List (List ℕ)) → Among cs ys → Among cs (xs ++ ys)
among_right cs [] ys a = a
among_right cs (x ∷ xs) ys a = inr (among_right cs xs ys a)

among_either : (cs : List ℕ) (xs ys : List (List ℕ)) → Among cs (xs ++ ys) → Among cs xs ⊎ Among cs ys
among_either cs [] ys a = inr a
among_either cs (x ∷ xs) ys (inl e) = inl (inl e)
among_either cs (x ∷ xs) ys (inr a) = go (among_either cs xs ys a)
  where
    go : Among cs xs ⊎ Among cs ys → ((cs ≡ x) ⊎ Among cs xs) ⊎ Among cs ys
    go (inl h) = inl (inr h)
    go (inr h) = inr h

before_append : (c : List ℕ) (xs ys : List (List ℕ)) → BeforeAll c xs → BeforeAll c ys → BeforeAll c (xs ++ ys)
before_append c [] ys h k = k
before_append c (x ∷ xs) ys h k = (h.0, before_append c xs ys h.1 k)

module _ (p : List ℕ → Bool) where
  among_those : (cs : List ℕ) (xs : List (List ℕ)) → Among cs xs → p cs ≡ true → Among cs (those p xs)
  unfolding those
  among_those cs [] a h = elim a [ ]
  among_those cs (x ∷ xs) (inl e) h = among_left cs (keep (p x) (x ∷ [])) (those p xs) (subst (λ (x : List ℕ). Among cs (keep (p x) (x ∷ []))) e (rw h (inl refl)))
  among_those cs (x ∷ xs) (inr a) h = among_right cs (keep (p x) (x ∷ [])) (those p xs) (among_those cs xs a h)

  those_among : (cs : List ℕ) (xs : List (List ℕ)) → Among cs (those p xs) → Among cs xs × (p cs ≡ true)
  unfolding those
  those_among cs [] a = elim a [ ]
  those_among cs (x ∷ xs) a = go (those_among cs xs) (p x) refl (among_either cs (keep (p x) (x ∷ [])) (those p xs) a)
    where
      go : (Among cs (those p xs) → Among cs xs × (p cs ≡ true)) → (b : Bool) → p x ≡ b → Among cs (keep b (x ∷ [])) ⊎ Among cs (those p xs)
          → ((cs ≡ x) ⊎ Among cs xs) × (p cs ≡ true)
      go ih true e (inl (inl h)) = (inl h, ap p h ∙ e)
      go ih false e (inl h) = elim h [ ]
      go ih true e (inl (inr h)) = elim h [ ]
      go ih b e (inr h) = (inr (ih h).0, (ih h).1)

  -- and those that are left stay in order
  before_those : (c : List ℕ) (xs : List (List ℕ)) → BeforeAll c xs → BeforeAll c (those p xs)
  unfolding those
  before_those c [] h = tt
  before_those c (x ∷ xs) h = before_append c (keep (p x) (x ∷ [])) (those p xs) (go (p x)) (before_those c xs h.1)
    where
      go : (b : Bool) → BeforeAll c (keep b (x ∷ []))
      go true = (h.0, tt)
      go false = tt

  order_those : (xs : List (List ℕ)) → InOrder xs → InOrder (those p xs)
  unfolding those
  order_those [] h = tt
  order_those (x ∷ xs) h = go (order_those xs h.1) (p x)
    where
      go : InOrder (those p xs) → (b : Bool) → InOrder (keep b (x ∷ []) ++ those p xs)
      go ih true = (before_those x xs h.0, ih)
      go ih false = ih

-- ---- the sessions of n commands from session k on
from_has : (n k j i : ℕ) → k ≤ i → i < k + j → Among (session n i) (sessions_from n k j)
unfolding sessions_from
from_has n k zero i l m = absurd (omega arith)
from_has n k (suc j) i l m = go (λ h. from_has n (suc k) j i h (omega arith)) (up_to k i l)
  where
    go : (k < i → Among (session n i) (sessions_from n (suc k) j)) → (k < i) ⊎ (k ≡ i) → Among (session n i) (session n k ∷ sessions_from n (suc k) j)
    go ih (inl h) = inr (ih h)
    go ih (inr h) = inl (ap (session n) (sym h))

-- one of them, by its number
pub record Numbered (n k j : ℕ) (cs : List ℕ) : Type 0 where
  pub number : ℕ
  pub least : k ≤ number
  pub most : number < k + j
  pub is : cs ≡ session n number

from_only : (n k j : ℕ) (cs : List ℕ) → Among cs (sessions_from n k j) → Numbered n k j cs
unfolding sessions_from
from_only n k zero cs a = elim a [ ]
from_only n k (suc j) cs (inl e) = record { number = k; least = omega arith; most = omega arith; is = e }
from_only n k (suc j) cs (inr a) =
    let r = from_only n (suc k) j cs a in record { number = r.number; least = omega (arith, r.least); most = omega (arith, r.most); is = r.is }

before_from : (n i k j : ℕ) → i < k → k + j ≤ power n → BeforeAll (session n i) (sessions_from n k j)
unfolding sessions_from
before_from n i k zero l m = tt
before_from n i k (suc j) l m =
    (inr (session_long n i ∙ sym (session_long n k), numbers_order n i k l (omega arith)), before_from n i (suc k) j (omega arith) (omega arith))

-- ---- those of n commands and more
up_has : (n j m i : ℕ) → n ≤ m → m < n + j → i < power m → Among (session m i) (sessions_up n j)
unfolding sessions_up
up_has n zero m i l h b = absurd (omega arith)
up_has n (suc j) m i l h b = go (λ g. up_has (suc n) j m i g (omega arith) b) (up_to n m l)
  where
    go : (n < m → Among (session m i) (sessions_up (suc n) j)) → (n < m) ⊎ (n ≡ m) → Among (session m i) (sessions_from n 0 (power n) ++ sessions_up (suc n) j)
    go ih (inl g) = among_right _ (sessions_from n 0 (power n)) (sessions_up (suc n) j) (ih g)
    go ih (inr e) = among_left _ (sessions_from n 0 (power n)) (sessions_up (suc n) j)
        (subst (λ (l : ℕ). Among (session m i) (sessions_from l 0 (power l))) (sym e) (from_has m 0 (power m) i (omega arith) (omega arith)))

-- one of them, by its length and number
pub record Sized (n j : ℕ) (cs : List ℕ) : Type 0 where
  pub size : ℕ
  pub least : n ≤ size
  pub most : size < n + j
  pub numbered : Numbered size 0 (power size) cs

up_only : (n j : ℕ) (cs : List ℕ) → Among cs (sessions_up n j) → Sized n j cs
unfolding sessions_up
up_only n zero cs a = elim a [ ]
up_only n (suc j) cs a = go (up_only (suc n) j cs) (among_either cs (sessions_from n 0 (power n)) (sessions_up (suc n) j) a)
  where
    go : (Among cs (sessions_up (suc n) j) → Sized (suc n) j cs) → Among cs (sessions_from n 0 (power n)) ⊎ Among cs (sessions_up (suc n) j) → Sized n (suc j) cs
    go ih (inl h) = record { size = n; least = omega arith; most = omega arith; numbered = from_only n 0 (power n) cs h }
    go ih (inr h) =
        let r = ih h in record { size = r.size; least = omega (arith, r.least); most = omega (arith, r.most); numbered = r.numbered }

-- a shorter one is before them
shorter_from : (c : List ℕ) (n k j : ℕ) → length c < n → BeforeAll c (sessions_from n k j)
unfolding sessions_from
shorter_from c n k zero l = tt
shorter_from c n k (suc j) l = (inl (rw (session_long n k) l), shorter_from c n (suc k) j l)

shorter_up : (c : List ℕ) (n j : ℕ) → length c < n → BeforeAll c (sessions_up n j)
unfolding sessions_up
shorter_up c n zero l = tt
shorter_up c n (suc j) l = before_append c (sessions_from n 0 (power n)) (sessions_up (suc n) j) (shorter_from c n 0 (power n) l) (shorter_up c (suc n) j (omega arith))

-- those of n commands, then longer ones
order_then : (n k j : ℕ) (ys : List (List ℕ)) → k + j ≤ power n → ((i : ℕ) → BeforeAll (session n i) ys) → InOrder ys → InOrder (sessions_from n k j ++ ys)
unfolding sessions_from
order_then n k zero ys m f o = o
order_then n k (suc j) ys m f o =
    (before_append (session n k) (sessions_from n (suc k) j) ys (before_from n k (suc k) j (omega arith) (omega arith)) (f k), order_then n (suc k) j ys (omega arith) f o)

order_up : (n j : ℕ) → InOrder (sessions_up n j)
unfolding sessions_up
order_up n zero = tt
order_up n (suc j) = order_then n 0 (power n) (sessions_up (suc n) j) (omega arith) (λ i. shorter_up (session n i) (suc n) j (rw (session_long n i) (omega arith))) (order_up (suc n) j)

-- ---- the claim
pub every_short_session : EveryShortSession
unfolding short_sessions accepted_in
every_short_session = record {
  none_missing = λ cs h.
      let r = is_listed (length cs) cs h.known refl in
      among_those (λ (ds : List ℕ). accepted ds fresh) cs (sessions_up 0 5)
      (subst (λ (ds : List ℕ). Among ds (sessions_up 0 5)) r.1 (up_has 0 5 (length cs) (number_of cs) (omega arith) (omega (arith, h.short)) r.0)) h.accepts;
  none_else = λ cs a.
      let r = those_among (λ (ds : List ℕ). accepted ds fresh) cs (sessions_up 0 5) a in
      let u = up_only 0 5 cs r.0 in
      let e = u.numbered.is in
      record {
        known = rw e (session_commands u.size u.numbered.number);
        short = omega (arith, ap length e ∙ session_long u.size u.numbered.number, u.most);
        accepts = r.1;
      };
  in_order = order_those (λ (ds : List ℕ). accepted ds fresh) (sessions_up 0 5) (order_up 0 5);
}

-- so none stands twice: no session is before itself
lower_itself : (cs : List ℕ) → Lower cs cs → ⊥
lower_itself [] l = l
lower_itself (c ∷ cs) (inl h) = absurd (omega arith)
lower_itself (c ∷ cs) (inr h) = lower_itself cs h.1

pub before_itself : (cs : List ℕ) → Before cs cs → ⊥
before_itself cs (inl h) = absurd (omega arith)
before_itself cs (inr h) = lower_itself cs h.1
