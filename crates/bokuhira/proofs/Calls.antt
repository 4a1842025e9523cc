-- The results of a call: of bytes that encode no state, and of what the device replies. Assumes nothing.
use mathlib.Core.Path.{◌≡◌, refl, sym, ap, ◌∙◌}
use mathlib.Core.Bool.{Bool, true, false, cond}
use mathlib.Core.List.{List}
use Prim.Native.Nat.{ℕ, ◌*◌, ◌<◌}
use lib.ListN.{length, get_or}
use lib.Dec.{eqb}
use borrow.Author.Tests.{eqb-true, eq-eqb, ne_eqb}
use Rattle.model.specs.Answers.{refused}
use Rattle.model.specs.Geometry.{unmapped}
use Rattle.model.specs.Frame.{fresh_state}
use Rattle.model.specs.World.{World}
use Rattle.model.specs.Transactions.{read_answer}
use Rattle.model.specs.Commands.{Call, recover, read, Outcome, plan, carried, exec}
use Rattle.model.specs.declared.Geometry.{Geometry}
use Rattle.model.specs.declared.State.{State}
use Rattle.arrays.specs.Tests.{and_left}
use Rattle.reading.proofs.Reading.{get_d_same, part_in_map}
use Rattle.encoding.specs.Encoding.{encodes, state_from, bytes_of}
use Rattle.bokuhira.specs.Calls.{Result, world_of, world_from, result_of, bad_frame, called, start_from, sized, started, Found, found_of, read_called}
use Rattle.bokuhira.specs.PowerUp.{blind}

-- ---- whether bytes encode a state, as the test on them tells
pub uncoded : (bs : List ℕ) (t : Bool) → t ≡ encodes bs → t ≡ false → encodes bs ≡ false
uncoded bs t e h = sym e ∙ h

pub coded : (bs : List ℕ) (t : Bool) → t ≡ encodes bs → t ≡ true → encodes bs ≡ true
coded bs t e h = sym e ∙ h

-- if so, they are as many as a state has
pub coded_long : (bs : List ℕ) → encodes bs ≡ true → length bs ≡ 2881
unfolding encodes
coded_long bs e = eqb-true (length bs) 2881 (and_left (eqb (length bs) 2881) _ e)

-- ---- the bytes after a reply
-- it refuses
pub kept : (n m : ℕ) (bs cs : List ℕ) (t : Bool) → n ≡ m → t ≡ refused n → t ≡ true → (n ≡ m) × (bs ≡ cond (refused m) bs cs)
kept n m bs cs t e f h = (e, rw (← e, ← f, h))

-- it does not
pub stored : (n m : ℕ) (bs cs now : List ℕ) (t : Bool) → n ≡ m → t ≡ refused n → t ≡ false → now ≡ cs → (n ≡ m) × (now ≡ cond (refused m) bs cs)
stored n m bs cs now t e f h k = (e, rw (← e, ← f, h) k)

-- ---- a call
-- of bytes that encode no state
pub unmet : (c : Call) (xs map hold bs : List ℕ) → encodes bs ≡ false → bad_frame xs map hold bs ≡ called c xs map hold bs
unfolding called
unmet c xs map hold bs e = rw e

-- what the device replied, of a state that is u, and what `finish` made of it
replied : (c : Call) (xs map hold bs : List ℕ) (u s t : State) (n r : ℕ) (ys map2 hold2 cs : List ℕ) → s ≡ u
    → ◌≡◌ {A = Outcome} (record { answer = n; world = world_of ys map2 hold2 t }) (exec c (world_of xs map hold s))
    → (r ≡ n) × (cs ≡ cond (refused n) bs (bytes_of t))
    → ◌≡◌ {A = Result} (record { answer = r; array = ys; map = map2; hold = hold2; bytes = cs }) (result_of bs (exec c (world_of xs map hold u)))
unfolding result_of
replied c xs map hold bs u s t n r ys map2 hold2 cs e o f = rw (f.0, f.1) (ap (result_of bs) (o ∙ ap (λ (v : State). exec c (world_of xs map hold v)) e))

-- of a state that the device replies to
pub met : (c : Call) (xs map hold bs : List ℕ) (s t : State) (n r : ℕ) (ys map2 hold2 cs : List ℕ) → encodes bs ≡ true → s ≡ state_from bs
    → ◌≡◌ {A = Outcome} (record { answer = n; world = world_of ys map2 hold2 t }) (exec c (world_of xs map hold s))
    → (r ≡ n) × (cs ≡ cond (refused n) bs (bytes_of t))
    → ◌≡◌ {A = Result} (record { answer = r; array = ys; map = map2; hold = hold2; bytes = cs }) (called c xs map hold bs)
unfolding called
met c xs map hold bs s t n r ys map2 hold2 cs l e o f = rw l (replied c xs map hold bs (state_from bs) s t n r ys map2 hold2 cs e o f)

-- ---- a format or a recover
-- the state that it starts from
pub start_coded : (g : Geometry) (bs : List ℕ) (t : Bool) (s : State) → t ≡ encodes bs → t ≡ true → s ≡ state_from bs → s ≡ start_from g bs
unfolding start_from
start_coded g bs t s e h f = rw (← e, h) f

pub start_fresh : (g : Geometry) (bs : List ℕ) (t : Bool) (s : State) → t ≡ encodes bs → t ≡ false → s ≡ fresh_state g → s ≡ start_from g bs
unfolding start_from
start_fresh g bs t s e h f = rw (← e, h) f

-- of another number of bytes, as the test on them tells
pub unstarted : (c : Geometry → Call) (g : Geometry) (xs map hold bs : List ℕ) (t : Bool) → t ≡ sized bs → t ≡ false → bad_frame xs map hold bs ≡ started c g xs map hold bs
unfolding started
unstarted c g xs map hold bs t e h = rw (← e, h)

-- of as many as a state has
pub long : (bs : List ℕ) (t : Bool) → t ≡ sized bs → t ≡ true → length bs ≡ 2881
unfolding sized
long bs t e h = eqb-true (length bs) 2881 (sym e ∙ h)

pub start_met : (c : Geometry → Call) (g : Geometry) (xs map hold bs : List ℕ) (s t : State) (n r : ℕ) (ys map2 hold2 cs : List ℕ) → length bs ≡ 2881 → s ≡ start_from g bs
    → ◌≡◌ {A = Outcome} (record { answer = n; world = world_of ys map2 hold2 t }) (exec (c g) (world_of xs map hold s))
    → (r ≡ n) × (cs ≡ cond (refused n) bs (bytes_of t))
    → ◌≡◌ {A = Result} (record { answer = r; array = ys; map = map2; hold = hold2; bytes = cs }) (started c g xs map hold bs)
unfolding started sized
start_met c g xs map hold bs s t n r ys map2 hold2 cs l e o f = rw (eq-eqb _ _ l) (replied (c g) xs map hold bs (start_from g bs) s t n r ys map2 hold2 cs e o f)

-- of a recover, with a fresh state for whatever the bytes say
pub recover_met : (g : Geometry) (xs map hold bs : List ℕ) (s t : State) (n r : ℕ) (ys map2 hold2 cs : List ℕ) → length bs ≡ 2881 → s ≡ fresh_state g
    → ◌≡◌ {A = Outcome} (record { answer = n; world = world_of ys map2 hold2 t }) (exec (recover g) (world_of xs map hold s))
    → (r ≡ n) × (cs ≡ cond (refused n) bs (bytes_of t))
    → ◌≡◌ {A = Result} (record { answer = r; array = ys; map = map2; hold = hold2; bytes = cs }) (started recover g xs map hold bs)
unfolding started sized
recover_met g xs map hold bs s t n r ys map2 hold2 cs l e o f =
    rw (eq-eqb _ _ l) (replied (recover g) xs map hold bs (fresh_state g) s t n r ys map2 hold2 cs e o f ∙ blind g xs map hold bs (fresh_state g) (start_from g bs))

-- ---- a read
-- of bytes that encode no state
pub read_unmet : (lpn : ℕ) (xs map hold bs : List ℕ) (at : ℕ) → encodes bs ≡ false → ◌≡◌ {A = Found} (record { answer = 1; at = at }) (read_called lpn xs map hold bs at)
unfolding read_called found_of
read_unmet lpn xs map hold bs at e = rw e

answered : (lpn : ℕ) (xs map hold bs : List ℕ) (s : State) (n : ℕ) (w : World) → s ≡ state_from bs
    → ◌≡◌ {A = Outcome} (record { answer = n; world = w }) (exec (read lpn) (record { array = xs; map = map; hold = hold; state = s }))
    → n ≡ (exec (read lpn) (world_from xs map hold bs)).answer
answered lpn xs map hold bs s n w e o = ap (λ (u : Outcome). u.answer) (o ∙ ap (λ (u : State). exec (read lpn) (record { array = xs; map = map; hold = hold; state = u })) e)

-- of a state: refused
pub read_refused : (lpn : ℕ) (xs map hold bs : List ℕ) (at : ℕ) (s : State) (n r : ℕ) (w : World) → encodes bs ≡ true → s ≡ state_from bs
    → ◌≡◌ {A = Outcome} (record { answer = n; world = w }) (exec (read lpn) (record { array = xs; map = map; hold = hold; state = s }))
    → r ≡ n → (r ≡ 0 → ⊥) → ◌≡◌ {A = Found} (record { answer = r; at = at }) (read_called lpn xs map hold bs at)
unfolding read_called found_of
read_refused lpn xs map hold bs at s n r w l e o f h = rw (l, ← answered lpn xs map hold bs s n w e o, ← f, ne_eqb _ _ h)

-- where it is done the map has the page's entry
read_within : (lpn : ℕ) (w : World) → read_answer lpn w ≡ 0 → lpn < length w.map
read_within lpn w e = part_in_map w lpn 0 (sym e) refl

pub mapped : (lpn n r : ℕ) (w v : World) → ◌≡◌ {A = Outcome} (record { answer = n; world = v }) (exec (read lpn) w) → r ≡ n → r ≡ 0 → lpn < length w.map
unfolding exec carried plan
mapped lpn n r w v o f h = read_within lpn w (sym (ap (λ (u : Outcome). u.answer) o) ∙ sym f ∙ h)

-- done
pub read_done : (lpn : ℕ) (xs map hold bs : List ℕ) (at : ℕ) (s : State) (n r k : ℕ) (w : World) → encodes bs ≡ true → s ≡ state_from bs
    → ◌≡◌ {A = Outcome} (record { answer = n; world = w }) (exec (read lpn) (record { array = xs; map = map; hold = hold; state = s }))
    → r ≡ n → r ≡ 0 → k ≡ get_or map lpn 0 * 528 → ◌≡◌ {A = Found} (record { answer = r; at = k }) (read_called lpn xs map hold bs at)
unfolding read_called found_of
read_done lpn xs map hold bs at s n r k w l e o f h i =
    let j : get_or map lpn 0 ≡ get_or map lpn unmapped = get_d_same map lpn 0 unmapped (mapped lpn n r (record { array = xs; map = map; hold = hold; state = s }) w o f h) in
    rw (l, ← answered lpn xs map hold bs s n w e o, ← f, eq-eqb _ _ h, i, j)
