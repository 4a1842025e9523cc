-- The bytes always encode the state. What a call leaves of bytes that encode a state are the bytes of the state after it, and those encode one
-- again; format and recover make such bytes of any. Assumes nothing.
use Prim.Native.Nat.{ℕ, zero, suc, ◌+◌, ◌*◌, ◌≤◌}
use Rattle.std.proofs.Math.Path.{◌≡◌, refl}
use Rattle.std.proofs.Common.{ap, ◌∙◌, inl, inr, arith, eqb-true}
use Rattle.std.specs.Prelude.{Bool, ◌⊎◌, List, [], ◌∷◌, ◌++◌, length, eqb}
use Rattle.std.proofs.Math.Bool.{true, false, cond}
use Rattle.std.proofs.Math.ListN.{length-append, length-map}
use Rattle.model.specs.Lists.{part}
use Rattle.model.specs.Bytes.{words}
use Rattle.model.specs.Answers.{refused}
use Rattle.model.specs.World.{World}
use Rattle.model.specs.Frame.{fresh_state}
use Rattle.model.specs.Commands.{Call, format, recover, begin, write, drop_page, lone, commit, abort, read, checkpoint, reclaim, Outcome, exec}
use Rattle.model.specs.declared.Geometry.{Geometry}
use Rattle.model.specs.declared.Place.{Place}
use Rattle.arrays.specs.Tests.{and_left, decide, clash}
use Rattle.arrays.specs.Bytelist.{Bytes}
use Rattle.arrays.specs.Splice.{length_part}
use Rattle.encoding.specs.Encoding.{zones_from, drops_from, place_from, places_in, state_from, encodes, bytes_of}
use Rattle.encoding.specs.StateBack.{PlaceShaped, PlacesShaped, Shaped, state_back, coded_back, fresh_shaped}
use Rattle.encoding.specs.BytesBack.{bytes_back}
use Rattle.bokuhira.specs.Calls.{Result, world_of, world_from, result_of, called, start_from, sized, started, found_of, read_called}
use Rattle.sequence.specs.Refused.{refused_same, read_same}
use Rattle.archive.specs.Lent.{Lent, bokuhira, takes, world_in}
use Rattle.archive.specs.Shaped.{shaped_after}

-- ---- the state that 2,881 bytes say is shaped
length_words : (n : ℕ) (xs : List ℕ) → length xs ≡ 2 * n → length (words xs) ≡ n
unfolding words
length_words zero [] h = refl
length_words (suc n) [] h = absurd (omega arith)
length_words n (x ∷ []) h = absurd (omega arith)
length_words zero (x ∷ y ∷ xs) h = absurd (omega arith)
length_words (suc n) (x ∷ y ∷ xs) h = ap suc (length_words n xs (omega arith))

append_shaped : (ps : List Place) (p : Place) → PlacesShaped ps → PlaceShaped p → PlacesShaped (ps ++ (p ∷ []))
append_shaped [] p h k = (k, tt)
append_shaped (q ∷ ps) p h k = (h.0, append_shaped ps p h.1 k)

module _ (bs : List ℕ) (long : length bs ≡ 2881) where
  place_shaped : (i : ℕ) → i + 1 ≤ 8 → PlaceShaped (place_from bs i)
  unfolding place_from drops_from
  place_shaped i h = record {
    lpns = length_words 64 _ (length_part (281 + 325 * i + 5) 128 bs (omega arith));
    ppns = length_words 64 _ (length_part (281 + 325 * i + 133) 128 bs (omega arith));
    drops = length-map (part (281 + 325 * i + 261) 64 bs) _ ∙ length_part (281 + 325 * i + 261) 64 bs (omega arith);
  }

  places_shaped : (n : ℕ) → n ≤ 8 → (length (places_in bs n) ≡ n) × PlacesShaped (places_in bs n)
  unfolding places_in
  places_shaped zero h = (refl, tt)
  places_shaped (suc n) h =
      let k = places_shaped n (omega arith) in (
        length-append (places_in bs n) (place_from bs n ∷ []) ∙ (omega arith),
        append_shaped (places_in bs n) (place_from bs n) k.1 (place_shaped n (omega arith)),
      )

  from_shaped : Shaped (state_from bs)
  unfolding state_from zones_from
  from_shaped =
      let k = places_shaped 8 (omega arith) in
      record {
        available = length_part 8 3 bs (omega arith);
        unavailable = length_part 12 126 bs (omega arith);
        free = length_part 139 126 bs (omega arith);
        places = k.0;
        each = k.1;
      }

-- bytes that encode a state are 2,881
pub coded_sized : (bs : List ℕ) → encodes bs ≡ true → sized bs ≡ true
unfolding encodes sized
coded_sized bs e = and_left (eqb (length bs) 2881) _ e

sized_long : (bs : List ℕ) → sized bs ≡ true → length bs ≡ 2881
unfolding sized
sized_long bs e = eqb-true (length bs) 2881 e

pub coded_shaped : (bs : List ℕ) → encodes bs ≡ true → Shaped (state_from bs)
coded_shaped bs e = from_shaped bs (sized_long bs (coded_sized bs e))

-- the state that format and recover start from: what the bytes say
start_coded : (g : Geometry) (bs : List ℕ) → encodes bs ≡ true → start_from g bs ≡ state_from bs
unfolding start_from
start_coded g bs e = rw e

-- and shaped whatever they are
pub start_shaped : (g : Geometry) (bs : List ℕ) → sized bs ≡ true → Shaped (start_from g bs)
unfolding start_from
start_shaped g bs e = go (encodes bs)
  where
    go : (t : Bool) → Shaped (cond t (state_from bs) (fresh_state g))
    go true = from_shaped bs (sized_long bs e)
    go false = fresh_shaped g

-- ---- a world as a caller lends it, its state as bytes
abbrev pub lent_of : World → Lent
lent_of w = record { array = w.array; map = w.map; hold = w.hold; bytes = bytes_of w.state }

-- an outcome so
abbrev pub result_for : Outcome → Result
result_for o = record { answer = o.answer; array = o.world.array; map = o.world.map; hold = o.world.hold; bytes = bytes_of o.world.state }

-- an outcome that is no refusal is stored
pub stored : (bs : List ℕ) (o : Outcome) → refused o.answer ≡ false → result_of bs o ≡ result_for o
unfolding result_of
stored bs o e = rw e

-- a call answers and leaves what the model's does on world w, and the bytes then are those of the state after it
pub record Does (c : Call) (l : Lent) (w : World) : Type 0 where
  pub is : bokuhira c l ≡ result_for (exec c w)
  pub shaped : Shaped (exec c w).world.state

pub does_answer : (c : Call) (l : Lent) (w : World) → Does c l w → (bokuhira c l).answer ≡ (exec c w).answer
does_answer c l w d = ap (λ (r : Result). r.answer) d.is

-- ---- format and recover on any bytes
-- the world that they start from
abbrev pub start_of : Geometry → Lent → World
start_of g l = world_of l.array l.map l.hold (start_from g l.bytes)

module _ (c : Geometry → Call) (g : Geometry) (l : Lent) where
  abbrev pub started_on : Result
  started_on = started c g l.array l.map l.hold l.bytes

  pub started_sized : sized l.bytes ≡ true → started_on ≡ result_of l.bytes (exec (c g) (start_of g l))
  unfolding started
  started_sized e = rw e

  pub started_other : sized l.bytes ≡ false → started_on.answer ≡ 1
  unfolding started
  started_other e = rw e

-- ---- a call on a world's bytes
module _ (w : World) (h : Shaped w.state) where
  -- a refusal changes nothing, so the bytes are those of the state after it too
  kept : (c : Call) → result_of (bytes_of w.state) (exec c w) ≡ result_for (exec c w)
  unfolding result_of
  kept c = go (refused (exec c w).answer) refl
    where
      go : (t : Bool) → refused (exec c w).answer ≡ t
          → ◌≡◌ {A = Result} (record {
            answer = (exec c w).answer;
            array = (exec c w).world.array;
            map = (exec c w).world.map;
            hold = (exec c w).world.hold;
            bytes = cond t (bytes_of w.state) (bytes_of (exec c w).world.state);
          }) (result_for (exec c w))
      go true e = rw (refused_same w c e)
      go false e = refl

  called_is : (c : Call) → called c w.array w.map w.hold (bytes_of w.state) ≡ result_of (bytes_of w.state) (exec c w)
  unfolding called
  called_is c = rw (coded_back w.state h, state_back w.state h)

  started_is : (c : Geometry → Call) (g : Geometry) → started_on c g (lent_of w) ≡ result_of (bytes_of w.state) (exec (c g) w)
  started_is c g =
      let e = coded_back w.state h in
      started_sized c g (lent_of w) (coded_sized (bytes_of w.state) e) ∙ rw (start_coded g (bytes_of w.state) e, state_back w.state h)

  call_is : (c : Call) → bokuhira c (lent_of w) ≡ result_for (exec c w)
  unfolding bokuhira
  call_is (format g) = started_is format g ∙ kept (format g)
  call_is (recover g) = started_is recover g ∙ kept (recover g)
  call_is (begin id) = called_is (begin id) ∙ kept (begin id)
  call_is (write id lpn d) = called_is (write id lpn d) ∙ kept (write id lpn d)
  call_is (drop_page id lpn) = called_is (drop_page id lpn) ∙ kept (drop_page id lpn)
  call_is (lone lpn d) = called_is (lone lpn d) ∙ kept (lone lpn d)
  call_is (commit id) = called_is (commit id) ∙ kept (commit id)
  call_is (abort id) = called_is (abort id) ∙ kept (abort id)
  call_is (read lpn) = rw read_same (unfold read_called found_of in rw (coded_back w.state h, state_back w.state h))
  call_is checkpoint = called_is checkpoint ∙ kept checkpoint
  call_is reclaim = called_is reclaim ∙ kept reclaim

  pub call_does : (c : Call) → Does c (lent_of w) w
  call_does c = record { is = call_is c; shaped = shaped_after w h c }

-- ---- the world that a call works on
takes_coded : (c : Call) (bs : List ℕ) → encodes bs ≡ true → takes c bs ≡ true
unfolding takes
takes_coded (format g) bs e = coded_sized bs e
takes_coded (recover g) bs e = coded_sized bs e
takes_coded (begin id) bs e = e
takes_coded (write id lpn d) bs e = e
takes_coded (drop_page id lpn) bs e = e
takes_coded (lone lpn d) bs e = e
takes_coded (commit id) bs e = e
takes_coded (abort id) bs e = e
takes_coded (read lpn) bs e = e
takes_coded checkpoint bs e = e
takes_coded reclaim bs e = e

-- it is the one that the slices say
world_coded : (c : Call) (l : Lent) → encodes l.bytes ≡ true → world_in c l ≡ world_from l.array l.map l.hold l.bytes
unfolding world_in
world_coded (format g) l e = rw (start_coded g l.bytes e)
world_coded (recover g) l e = rw (start_coded g l.bytes e)
world_coded (begin id) l e = refl
world_coded (write id lpn d) l e = refl
world_coded (drop_page id lpn) l e = refl
world_coded (lone lpn d) l e = refl
world_coded (commit id) l e = refl
world_coded (abort id) l e = refl
world_coded (read lpn) l e = refl
world_coded checkpoint l e = refl
world_coded reclaim l e = refl

module _ (w : World) (h : Shaped w.state) where
  pub takes_it : (c : Call) → takes c (bytes_of w.state) ≡ true
  takes_it c = takes_coded c (bytes_of w.state) (coded_back w.state h)

  pub world_back : (c : Call) → world_in c (lent_of w) ≡ w
  world_back c = world_coded c (lent_of w) (coded_back w.state h) ∙ rw (state_back w.state h)

-- ---- a format or a recover that is not refused, whatever the bytes
module _ (c : Geometry → Call) (g : Geometry) (l : Lent) where
  starts : bokuhira (c g) l ≡ started_on c g l → refused (started_on c g l).answer ≡ false → Does (c g) l (start_of g l)
  starts b r = go (decide (sized l.bytes))
    where
      go : (sized l.bytes ≡ true) ⊎ (sized l.bytes ≡ false) → Does (c g) l (start_of g l)
      go (inl e) = record {
        is = b ∙ started_sized c g l e ∙ stored l.bytes (exec (c g) (start_of g l)) (unfold result_of in (rw (started_sized c g l e) at r));
        shaped = shaped_after (start_of g l) (start_shaped g l.bytes e) (c g);
      }
      go (inr e) = clash {t = refused (started_on c g l).answer} (unfold refused in rw (started_other c g l e)) r

module _ (g : Geometry) (l : Lent) where
  pub format_does : refused (bokuhira (format g) l).answer ≡ false → Does (format g) l (start_of g l)
  unfolding bokuhira
  format_does r = starts format g l refl r

  pub recover_does : refused (bokuhira (recover g) l).answer ≡ false → Does (recover g) l (start_of g l)
  unfolding bokuhira
  recover_does r = starts recover g l refl r

-- ---- the laws, of any caller
-- bytes that encode a state go on encoding one
result_coded : (bs : List ℕ) (o : Outcome) → encodes bs ≡ true → Shaped o.world.state → encodes (result_of bs o).bytes ≡ true
unfolding result_of
result_coded bs o e h = go (refused o.answer)
  where
    go : (t : Bool) → encodes (cond t bs (bytes_of o.world.state)) ≡ true
    go true = e
    go false = coded_back o.world.state h

module _ (l : Lent) (e : encodes l.bytes ≡ true) where
  abbrev here : World
  here = world_from l.array l.map l.hold l.bytes

  called_coded : (c : Call) → encodes (called c l.array l.map l.hold l.bytes).bytes ≡ true
  unfolding called
  called_coded c = rw e (result_coded l.bytes (exec c here) e (shaped_after here (coded_shaped l.bytes e) c))

  started_coded : (c : Geometry → Call) (g : Geometry) → encodes (started_on c g l).bytes ≡ true
  started_coded c g =
      rw (started_sized c g l (coded_sized l.bytes e))
      (result_coded l.bytes (exec (c g) (start_of g l)) e (shaped_after (start_of g l) (start_shaped g l.bytes (coded_sized l.bytes e)) (c g)))

  pub coded_after : (c : Call) → encodes (bokuhira c l).bytes ≡ true
  unfolding bokuhira
  coded_after (format g) = started_coded format g
  coded_after (recover g) = started_coded recover g
  coded_after (begin id) = called_coded (begin id)
  coded_after (write id lpn d) = called_coded (write id lpn d)
  coded_after (drop_page id lpn) = called_coded (drop_page id lpn)
  coded_after (lone lpn d) = called_coded (lone lpn d)
  coded_after (commit id) = called_coded (commit id)
  coded_after (abort id) = called_coded (abort id)
  coded_after (read lpn) = e
  coded_after checkpoint = called_coded checkpoint
  coded_after reclaim = called_coded reclaim

  -- what is lent is then a world with its state as bytes, and a call answers and leaves what the model's call does, refused or not
  pub call_on : Bytes l.bytes → (c : Call) → bokuhira c l ≡ result_for (exec c here)
  call_on b c =
      let k : l ≡ lent_of here = rw (bytes_back l.bytes e b) in
      ap (bokuhira c) k ∙ call_is here (coded_shaped l.bytes e) c
