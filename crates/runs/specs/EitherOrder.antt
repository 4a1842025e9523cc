-- Two changes with no logical page in common on an 8 × 8 × 16 device, one of a write and a drop, one of a write: committed in either order, each call
-- computed. What `EitherOrder` of `model` asks is given at a point of a sequence, so that it is not empty, and what it claims is found.
use Rattle.std.specs.Prelude.{ℕ, ◌≡◌, refl, true, false, List, [], ◌∷◌, take, get_or, replicate}
use Rattle.std.proofs.Common.{sym, ap, ◌∙◌}
use Rattle.model.specs.Bytes.{bytes}
use Rattle.model.specs.Geometry.{unmapped}
use Rattle.model.specs.Zones.{Entry}
use Rattle.model.specs.World.{World, Plan, refuse}
use Rattle.model.specs.Checkpoint.{zone_data}
use Rattle.model.specs.Frame.{free_place}
use Rattle.model.specs.Transactions.{data_bytes, change_bytes, gone, read_answer, read_part}
use Rattle.model.specs.Commands.{Outcome, recover, begin, write, drop_page, lone, commit, read, plan, exec}
use Rattle.model.specs.Book.{Event, called, writes_of, blank as noBook, story}
use Rattle.model.specs.Sequence.{live, Run, stop, fits}
use Rattle.model.specs.EitherOrder.{apart, after_commit, after_both, BothDone, SameRead, EitherWay, EitherOrder}
use Rattle.model.specs.declared.Place.{Place}
use Rattle.examples.specs.Unfolded.{go, told}
use Rattle.examples.specs.Rules.{small}
use Rattle.examples.specs.Orders.{read_14, read_0}
use Rattle.runs.specs.Paged.{Sized, sized_take}
use Rattle.runs.specs.Devices.{Device, world, framed, begins, lone_writes, first_write, next_drop, commits, recovers, reads_part, answered}
use Rattle.runs.specs.Runs.{pages, paged, sized_pages, zeros, ones, hold, zones1, map1, zone1, fronts, sized_fronts, idle, free8, change, w0, formatted, handed}

-- ---- the pages: a lone write of logical page 3, then the first page of change 1, which writes logical page 5 and drops 3
unfoldable pub p16 : List ℕ
p16 = data_bytes zeros 3 1 0 1

unfoldable pub p17 : List ℕ
p17 = data_bytes ones 5 0 1 0

-- the marks of change 1 and of change 2, which writes logical page 4: with versions 2 and 3, or 3 and 2
unfoldable pub drop18 : List ℕ
drop18 = change_bytes gone true 3 2 1 2 0

unfoldable pub write19 : List ℕ
write19 = data_bytes zeros 4 1 2 3

unfoldable pub write18 : List ℕ
write18 = data_bytes zeros 4 1 2 2

unfoldable pub drop19 : List ℕ
drop19 = change_bytes gone true 3 2 1 3 0

-- block 2 in either order
abbrev pub block12 : List (List ℕ)
block12 = p16 ∷ p17 ∷ drop18 ∷ write19 ∷ []

abbrev pub block21 : List (List ℕ)
block21 = p16 ∷ p17 ∷ write18 ∷ drop19 ∷ []

pub sized_12 : Sized block12
unfolding go p16 p17 drop18 write19
sized_12 = (refl, (refl, (refl, (refl, tt))))

pub sized_21 : Sized block21
unfolding go p16 p17 write18 drop19
sized_21 = (refl, (refl, (refl, (refl, tt))))

-- ---- the devices: the first i of these pages in block 2, the entries of logical pages 3 to 5, hold, last version, places
abbrev pub stage : ℕ → (qs : List (List ℕ)) → Sized qs → List ℕ → List ℕ → ℕ → List Place → Device
stage i qs sized m h v ps =
    record {
      pages = pages (take 2 fronts) (take i qs) [];
      sized = sized_pages (take 2 fronts) (take i qs) [] (sized_take 2 fronts sized_fronts) (sized_take i qs sized) tt;
      map = m;
      hold = h;
      state = idle zones1 v 1 ps;
    }

abbrev pub mapped : ℕ → ℕ → ℕ → List ℕ
mapped x y z = 65535 ∷ 65535 ∷ 65535 ∷ x ∷ y ∷ z ∷ replicate 10 65535

-- the places with nothing but these changes
abbrev pub places : Place → Place → List Place
places p q = p ∷ q ∷ replicate 6 free_place

-- change 1 with its first page held and with both its pages, and change 2 with its page
abbrev pub first1 : Place
first1 = change 1 (5 ∷ []) [] []

abbrev pub both1 : Place
both1 = change 1 (5 ∷ 3 ∷ []) (17 ∷ []) (false ∷ true ∷ [])

abbrev pub only2 : Place
only2 = change 2 (4 ∷ []) [] []

-- before the changes, as they are opened and written, and with all of them written
abbrev pub x1 : Device
x1 = stage 1 block12 sized_12 (mapped 16 65535 65535) (hold zeros) 1 free8

abbrev pub x2 : Device
x2 = stage 1 block12 sized_12 (mapped 16 65535 65535) (hold zeros) 1 (places (change 1 [] [] []) free_place)

abbrev pub x3 : Device
x3 = stage 1 block12 sized_12 (mapped 16 65535 65535) (hold ones) 1 (places first1 free_place)

abbrev pub x4 : Device
x4 = stage 1 block12 sized_12 (mapped 16 65535 65535) (hold ones) 1 (places first1 (change 2 [] [] []))

abbrev pub x5 : Device
x5 = stage 1 block12 sized_12 (mapped 16 65535 65535) (hold ones) 1 (places first1 only2)

abbrev pub x6 : Device
x6 = stage 2 block12 sized_12 (mapped 16 65535 65535) (hold gone) 1 (places both1 only2)

-- change 1 committed, then change 2
abbrev pub y1 : Device
y1 = stage 3 block12 sized_12 (mapped 65535 65535 17) (hold gone) 2 (places free_place only2)

abbrev pub y12 : Device
y12 = stage 4 block12 sized_12 (mapped 65535 19 17) (hold gone) 3 free8

-- change 2 committed, then change 1
abbrev pub y2 : Device
y2 = stage 3 block21 sized_21 (mapped 16 18 65535) (hold gone) 2 (places both1 free_place)

abbrev pub y21 : Device
y21 = stage 4 block21 sized_21 (mapped 65535 18 17) (hold gone) 3 free8

-- ---- the calls before
lone_3 : exec (lone 3 zeros) (world w0) ≡ record { answer = 0; world = world x1 }
unfolding paged p16
lone_3 = lone_writes w0 refl refl refl 3 zeros refl refl 16 p16 refl refl refl refl

begin_1 : exec (begin 1) (world x1) ≡ record { answer = 0; world = world x2 }
unfolding paged p16
begin_1 = begins x1 refl refl refl 1 refl refl refl

write_1_5 : exec (write 1 5 ones) (world x2) ≡ record { answer = 0; world = world x3 }
unfolding paged p16
write_1_5 = first_write x2 refl refl refl 1 refl 5 ones refl refl 17 refl refl

begin_2 : exec (begin 2) (world x3) ≡ record { answer = 0; world = world x4 }
unfolding paged p16
begin_2 = begins x3 refl refl refl 2 refl refl refl

write_2_4 : exec (write 2 4 zeros) (world x4) ≡ record { answer = 0; world = world x5 }
unfolding paged p16
write_2_4 = first_write x4 refl refl refl 2 refl 4 zeros refl refl 17 refl refl

drop_1_3 : exec (drop_page 1 3) (world x5) ≡ record { answer = 0; world = world x6 }
unfolding paged p16 p17
drop_1_3 = next_drop x5 refl refl refl 1 refl 3 refl 17 refl p17 refl refl refl refl

abbrev pub events : List Event
events =
    called (lone 3 zeros) 0
    ∷ called (begin 1) 0
    ∷ called (write 1 5 ones) 0
    ∷ called (begin 2) 0
    ∷ called (write 2 4 zeros) 0
    ∷ called (drop_page 1 3) 0
    ∷ []

pub run : Run small (live (world w0) []) events (live (world x6) [])
unfolding go fits bytes
run =
    answered (lone 3 zeros) 0 lone_3 refl tt refl
    (answered (begin 1) 0 begin_1 refl tt refl
    (answered (write 1 5 ones) 0 write_1_5 refl tt refl
    (answered (begin 2) 0 begin_2 refl tt refl
    (answered (write 2 4 zeros) 0 write_2_4 refl tt refl
    (answered (drop_page 1 3) 0 drop_1_3 refl tt refl
    (stop _))))))

-- ---- the commits
commit_1 : exec (commit 1) (world x6) ≡ record { answer = 0; world = world y1 }
unfolding paged p16 p17 drop18
commit_1 = commits x6 refl refl refl 1 refl 18 refl refl refl refl drop18 refl

then_2 : exec (commit 2) (world y1) ≡ record { answer = 0; world = world y12 }
unfolding paged p16 p17 drop18 write19
then_2 = commits y1 refl refl refl 2 refl 19 refl refl refl refl write19 refl

commit_2 : exec (commit 2) (world x6) ≡ record { answer = 0; world = world y2 }
unfolding paged p16 p17 write18
commit_2 = commits x6 refl refl refl 2 refl 18 refl refl refl refl write18 refl

then_1 : exec (commit 1) (world y2) ≡ record { answer = 0; world = world y21 }
unfolding paged p16 p17 write18 drop19
then_1 = commits y2 refl refl refl 1 refl 19 refl refl refl refl drop19 refl

-- two commits, each with what it leaves
module _ (a b : ℕ) (w : World) {v x : World} (e : exec (commit a) w ≡ record { answer = 0; world = v })
    (f : exec (commit b) v ≡ record { answer = 0; world = x }) where
  both_done : BothDone a b w
  both_done = record {
    first = ap (λ (o : Outcome). o.answer) e;
    second = ap (λ (o : Outcome). (exec (commit b) o.world).answer) e ∙ ap (λ (o : Outcome). o.answer) f;
  }

  both_lead : after_both a b w ≡ x
  both_lead = ap (λ (o : Outcome). after_commit b o.world) e ∙ ap (λ (o : Outcome). o.world) f

-- ---- what is asked, beside `formatted` and `run`: no page in common, both commits done
pub no_common : apart (writes_of 1 (story (noBook small) events).changes) (writes_of 2 (story (noBook small) events).changes) ≡ true
unfolding told story apart
no_common = refl

pub done_12 : BothDone 1 2 (world x6)
done_12 = both_done 1 2 (world x6) commit_1 then_2

-- so the claim says something here
pub applies : EitherOrder → EitherWay small (world x6) [] 1 2
applies claim = claim small (world w0) events (world x6) [] formatted run 1 2 no_common done_12

-- ---- what is claimed, computed: the other order is done too
pub done_21 : BothDone 2 1 (world x6)
done_21 = both_done 2 1 (world x6) commit_2 then_1

-- ---- where each order leads, and what a recover makes of it after a cut: the same map and state again
pub leads_12 : after_both 1 2 (world x6) ≡ world y12
leads_12 = both_lead 1 2 (world x6) commit_1 then_2

pub leads_21 : after_both 2 1 (world x6) ≡ world y21
leads_21 = both_lead 2 1 (world x6) commit_2 then_1

abbrev entry : ℕ → ℕ → ℕ → ℕ → ℕ → ℕ → Entry
entry k lpn cnt id ver kind = record { ppn = k; lpn = lpn; cnt = cnt; id = id; ver = ver; kind = kind; reserved = 0 }

pub recover_12 : exec (recover small) (world (handed y12)) ≡ record { answer = 0; world = world y12 }
unfolding paged map1 zone1 p16 p17 drop18 write19
recover_12 = recovers (handed y12) small 0 (replicate 256 65535) (zone_data 0 zones1)
    (entry 16 3 1 0 1 0 ∷ entry 17 5 0 1 0 0 ∷ entry 18 3 2 1 2 3 ∷ entry 19 4 1 2 3 0 ∷ []) 1 refl refl refl refl refl refl refl refl

pub recover_21 : exec (recover small) (world (handed y21)) ≡ record { answer = 0; world = world y21 }
unfolding paged map1 zone1 p16 p17 write18 drop19
recover_21 = recovers (handed y21) small 0 (replicate 256 65535) (zone_data 0 zones1)
    (entry 16 3 1 0 1 0 ∷ entry 17 5 0 1 0 0 ∷ entry 18 4 1 2 2 0 ∷ entry 19 3 2 1 3 3 ∷ []) 1 refl refl refl refl refl refl refl refl

-- ---- and the pages read the same: logical page 3 is dropped, 4 is that of change 2, 5 that of change 1
read_answers : (x : Device) (lpn n : ℕ) → plan (read lpn) (world x) ≡ refuse (world x) n → read_answer lpn (world x) ≡ n
unfolding plan
read_answers x lpn n e = ap (λ (p : Plan). p.answer) e

no_part : (x : Device) (lpn : ℕ) → read_answer lpn (world x) ≡ 14 → read_part lpn (world x) ≡ []
unfolding read_part
no_part x lpn e = rw e refl

-- both refuse with 14
same_never : (x y : Device) (lpn : ℕ) → plan (read lpn) (world x) ≡ refuse (world x) 14 → plan (read lpn) (world y) ≡ refuse (world y) 14
    → SameRead (world x) (world y) lpn
same_never x y lpn e f =
    let a = read_answers x lpn 14 e in
    let b = read_answers y lpn 14 f in
    record { answer = a ∙ sym b; bytes = no_part x lpn a ∙ sym (no_part y lpn b) }

-- both are done, on pages j and k, and hand back d
same_data : (x y : Device) (lpn j k : ℕ) (d : List ℕ) → plan (read lpn) (world x) ≡ refuse (world x) 0 → plan (read lpn) (world y) ≡ refuse (world y) 0
    → get_or x.map lpn unmapped ≡ j → get_or y.map lpn unmapped ≡ k → take 512 (get_or x.pages j []) ≡ d → take 512 (get_or y.pages k []) ≡ d
    → SameRead (world x) (world y) lpn
same_data x y lpn j k d e f m n p q = record {
  answer = read_answers x lpn 0 e ∙ sym (read_answers y lpn 0 f);
  bytes = reads_part x lpn j d e m p ∙ sym (reads_part y lpn k d f n q);
}

pub same_3 : SameRead (world y12) (world y21) 3
unfolding paged
same_3 =
    same_never y12 y21 3 (read_14 (world y12) (framed y12 refl refl) 3 refl refl)
    (read_14 (world y21) (framed y21 refl refl) 3 refl refl)

pub same_4 : SameRead (world y12) (world y21) 4
unfolding paged write18 write19
same_4 =
    same_data y12 y21 4 19 18 zeros (read_0 (world y12) (framed y12 refl refl) 4 refl refl)
    (read_0 (world y21) (framed y21 refl refl) 4 refl refl) refl refl refl refl

pub same_5 : SameRead (world y12) (world y21) 5
unfolding paged p17
same_5 =
    same_data y12 y21 5 17 17 ones (read_0 (world y12) (framed y12 refl refl) 5 refl refl)
    (read_0 (world y21) (framed y21 refl refl) 5 refl refl) refl refl refl refl
