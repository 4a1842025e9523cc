-- A session command by command: the maps of its cuts put one behind the other. Assumes nothing.
use mathlib.Core.Path.{◌≡◌, refl, sym, ap, ◌∙◌}
use mathlib.Core.Bool.{Bool, true, false, not}
use mathlib.Core.List.{List, [], ◌∷◌, ◌++◌, append_assoc, append-nil}
use Prim.Native.Nat.{ℕ, zero, suc, ◌+◌, ◌*◌, ◌≤◌, ◌<◌}
use native.Mathlib.Numerals.{add-one}
use native.Mathlib.Omega.{arith}
use lib.ListN.{length, drop, get_or, replicate, drop_of_length-le}
use lib.Seq.{drop-cons}
use Rattle.std.specs.Prelude.{Option, Some, None, is_some}
use Rattle.model.specs.Lists.{keep}
use Rattle.model.specs.Answers.{refused}
use Rattle.model.specs.World.{World, programs}
use Rattle.model.specs.Frame.{fresh_state}
use Rattle.model.specs.Commands.{Outcome, recover, plan, exec}
use Rattle.model.specs.Sessions.{Commands, command_of, small, lent_for, recovered, accepted, call_cuts, cuts}
use Rattle.model.specs.declared.Geometry.{Geometry}
use Rattle.model.specs.declared.State.{State}
use Rattle.text.specs.Text.{Put}
use Rattle.text.proofs.Putting.{puts, put_is, put_within, put_nothing, put_dropped}
use Rattle.sessions.specs.Text.{map_text, maps_text, will_program, Turned}
use Rattle.sessions.proofs.Programs.{program_told}

-- ---- maps as text
maps_append : (xs ys : List (List ℕ)) → maps_text (xs ++ ys) ≡ maps_text xs ++ maps_text ys
unfolding maps_text
maps_append [] ys = refl
maps_append (x ∷ xs) ys = ap (λ (t : List ℕ). map_text x ++ t) (maps_append xs ys) ∙ sym (append_assoc (map_text x) (maps_text xs) (maps_text ys))

two_maps : (b : Bool) (x y : List ℕ) → keep b (map_text x) ++ keep b (map_text y) ≡ maps_text (keep b (x ∷ y ∷ []))
unfolding maps_text
two_maps true x y = ap (λ (t : List ℕ). map_text x ++ t) (sym (append-nil (map_text y)))
two_maps false x y = refl

-- the map that a recovery leaves, with what is lent for it
pub map_recovered : (g : Geometry) (xs map map2 hold hold2 : List ℕ) (s t : State) (n : ℕ) (ys : List ℕ)
    → ◌≡◌ {A = Outcome} (record { answer = n; world = record { array = ys; map = map2; hold = hold2; state = t } }) (exec (recover g) (record { array = xs; map = map; hold = hold; state = s }))
    → g ≡ small → s ≡ fresh_state small → map ≡ replicate 16 0 → hold ≡ replicate 4096 0 → map2 ≡ recovered xs
unfolding recovered lent_for
map_recovered g xs map map2 hold hold2 s t n ys e a b c d = ap (λ (o : Outcome). o.world.map) e ∙ rw (a, b, c, d) refl

-- ---- one command
module _ (c n k : ℕ) (b cut : Bool) (w v : World) (r : (1 ≤ c) × (c ≤ 10)) (e : ◌≡◌ {A = Outcome} (record { answer = n; world = v }) (exec (command_of c) w)) (told : k ≡ n)
    (said : b ≡ refused k) (before : cut ≡ will_program (command_of c) w.state.places) where
  answered : b ≡ refused (exec (command_of c) w).answer
  answered = said ∙ ap refused (told ∙ ap (λ (o : Outcome). o.answer) e)

  -- it is refused: what was put is dropped
  pub turn_refused : b ≡ true → {out s out2 : List ℕ} {at m end : ℕ} → at ≤ length out → Put out at s m out2 end → Turned c w v out at out2 None
  turn_refused h l p = record {
    world = ap (λ (o : Outcome). o.world) e;
    answer = ap not (sym h ∙ answered);
    put = put_dropped 674 l p;
  }

  -- it is not: the maps of the array before it and after it
  pub turn_accepted : b ≡ false → {out out1 out2 : List ℕ} {at mid end : ℕ}
      → Put out at (keep cut (map_text (recovered w.array))) 337 out1 mid → Put out1 mid (keep cut (map_text (recovered v.array))) 337 out2 end
      → Turned c w v out at out2 (Some end)
  unfolding call_cuts
  turn_accepted h p q =
      let world : v ≡ (exec (command_of c) w).world = ap (λ (o : Outcome). o.world) e in
      let page : cut ≡ programs (plan (command_of c) w).op = before ∙ program_told c r w (sym answered ∙ h) in
      let text : keep cut (map_text (recovered w.array)) ++ keep cut (map_text (recovered v.array)) ≡ maps_text (call_cuts (command_of c) w)
      = two_maps cut (recovered w.array) (recovered v.array) ∙ rw (page, world) in
      record { world = world; answer = ap not (sym h ∙ answered); put = put_is text (puts p q) }

-- ---- the commands one after the other
-- command i of the ten
pub command_at : (cs : List ℕ) (i : ℕ) → Commands cs → i < length cs → (1 ≤ get_or cs i 0) × (get_or cs i 0 ≤ 10)
command_at [] i h l = absurd (omega arith)
command_at (c ∷ cs) zero h l = h.0
command_at (c ∷ cs) (suc i) h l = command_at cs i h.1 (omega arith)

-- a session of which i commands were done: the maps put, those that are left, and that the rest decides
pub record Going (cs : List ℕ) (w₀ : World) (out₀ : List ℕ) (at : ℕ) (i : ℕ) (w : World) (out : List ℕ) (end : ℕ) : Type 0 where
  pub index : i ≤ length cs
  pub text : List ℕ
  pub put : Put out₀ at text (674 * i) out end
  pub whole : text ++ maps_text (cuts (drop i cs) w) ≡ maps_text (cuts cs w₀)
  pub decides : accepted (drop i cs) w ≡ accepted cs w₀

pub going_start : (cs : List ℕ) (w : World) (out : List ℕ) (at : ℕ) → Going cs w out at 0 w out at
going_start cs w out at = record { index = omega arith; text = []; put = put_nothing out at 0; whole = refl; decides = refl }

module _ (cs : List ℕ) (w₀ : World) (out₀ : List ℕ) (at i : ℕ) (w : World) (out : List ℕ) (end : ℕ) (g : Going cs w₀ out₀ at i w out end) where
  module _ (v : World) (out2 : List ℕ) (r : Option ℕ) (l : i < length cs) (u : Turned (get_or cs i 0) w v out end out2 r) where
    split : drop i cs ≡ get_or cs i 0 ∷ drop (i + 1) cs
    split = rw add-one (drop-cons cs i 0 l)

    left : maps_text (cuts (drop i cs) w) ≡ maps_text (call_cuts (command_of (get_or cs i 0)) w) ++ maps_text (cuts (drop (i + 1) cs) v)
    unfolding cuts
    left = rw (split, ← u.world) (maps_append (call_cuts (command_of (get_or cs i 0)) w) (cuts (drop (i + 1) cs) v))

    rest : is_some r ≡ true → accepted (drop i cs) w ≡ accepted (drop (i + 1) cs) v
    unfolding accepted
    rest f = rw (split, ← u.answer, f, u.world) refl

    none_rest : is_some r ≡ false → accepted (drop i cs) w ≡ false
    unfolding accepted
    none_rest f = rw (split, ← u.answer, f) refl

  -- one more that is not refused
  pub going_again : (v : World) (out2 : List ℕ) (e : ℕ) → i < length cs → Turned (get_or cs i 0) w v out end out2 (Some e) → Going cs w₀ out₀ at (i + 1) v out2 e
  going_again v out2 e l u = record {
    index = omega arith;
    text = g.text ++ maps_text (call_cuts (command_of (get_or cs i 0)) w);
    put = put_within (puts g.put u.put) (omega arith);
    whole = append_assoc g.text _ _ ∙ ap (λ (s : List ℕ). g.text ++ s) (sym (left v out2 (Some e) l u)) ∙ g.whole;
    decides = sym (rest v out2 (Some e) l u refl) ∙ g.decides;
  }

  -- one that is refused: so is the session, and nothing is put
  pub going_refused : (v : World) (out2 : List ℕ) → i < length cs → Turned (get_or cs i 0) w v out end out2 None → at ≤ length out₀
      → (false ≡ accepted cs w₀) × Put out₀ at [] (674 * length cs) out2 at
  going_refused v out2 l u h = (sym (none_rest v out2 None l u refl) ∙ g.decides, put_dropped (674 * length cs) h (puts g.put u.put))

  -- none is left
  pub going_done : length cs ≤ i → (true ≡ accepted cs w₀) × Put out₀ at (maps_text (cuts cs w₀)) (674 * length cs) out end
  unfolding accepted cuts maps_text
  going_done l =
      let e = drop_of_length-le cs l in
      (rw e at g.decides, put_within (put_is (sym (append-nil g.text) ∙ (rw e at g.whole)) g.put) (omega (arith, g.index)))
