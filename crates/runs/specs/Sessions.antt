-- One short session of point 13 of document 02 (docs/PAPERS.md) computed, begin 1, write 1/0 and commit 1 on the freshly formatted device: it is accepted,
-- and the maps recovered before and after the mark is programmed are those of an empty device and of one with logical page 0 on page 16. Another is refused.
use Rattle.std.specs.Prelude.{ℕ, suc, ◌≡◌, refl, true, false, ◌&&◌, List, [], ◌∷◌, ◌++◌, take, replicate}
use Rattle.std.proofs.Common.{arith, ◌∙◌}
use Rattle.std.proofs.Math.Path.{ap, ap₂}
use Rattle.std.proofs.Math.Bool.{not}
use Rattle.model.specs.Lists.{keep}
use Rattle.model.specs.Answers.{refused}
use Rattle.model.specs.Checkpoint.{zone_data}
use Rattle.model.specs.World.{World, Op, none, program, programs}
use Rattle.model.specs.Frame.{fresh_state}
use Rattle.model.specs.Transactions.{data_bytes}
use Rattle.model.specs.Commands.{Outcome, format, begin, write, commit, plan, exec}
use Rattle.model.specs.Sessions.{zeros as zeroData, commands, command_of, lent_for, strides, fresh, recovered, accepted, call_cuts, cuts, ShortSession}
use Rattle.examples.specs.Unfolded.{go}
use Rattle.examples.specs.Rules.{small}
use Rattle.examples.specs.Orders.{write_8}
use Rattle.runs.specs.Paged.{flat, Sized, sized_take}
use Rattle.runs.specs.Devices.{Device, world, passes, refused_stays, begins, begin_op, first_write, first_op, commit_op, commits, recovers}
use Rattle.runs.specs.Runs.{pages, paged, sized_pages, zeros, hold, zones1, map0, map1, zone1, fronts, sized_fronts, idle, free8, opened, stage, w0, wiped, whatever, first_erase, with_map, every_stride, last_stride}

-- ---- the freshly formatted device
blank_array : replicate 33792 0 ≡ flat (wiped 0 0)
unfolding flat wiped
blank_array = refl

-- a stride done, and n to come
stride : (n : ℕ) {a : ℕ} (w : World) {v : World} → exec (format small) w ≡ record { answer = a; world = v } → strides small (suc n) w ≡ strides small n v
unfolding strides
stride n w e = ap (λ (o : Outcome). strides small n o.world) e

pub fresh_is : fresh ≡ world w0
unfolding fresh lent_for strides
fresh_is =
    ap (λ (xs : List ℕ). strides small 10 (lent_for xs)) blank_array
    ∙ (every_stride 0 (λ n w. strides small 10 (world (whatever 0 small)) ≡ strides small n w) (λ n w v e p. p ∙ stride n w e) (stride 9 (world (whatever 0 small)) (first_erase 0 small))
    ∙ stride 0 (world with_map) last_stride)

-- ---- the devices: change 1 opened, with logical page 0 held, and committed
unfoldable pub p16 : List ℕ
p16 = data_bytes zeros 0 1 1 1

pub sized_16 : Sized (p16 ∷ [])
unfolding go p16
sized_16 = (refl, tt)

abbrev pub s1 : Device
s1 = stage 2 0 0 map0 (hold zeros) (idle zones1 0 1 (opened 1 [] []))

abbrev pub s2 : Device
s2 = stage 2 0 0 map0 (hold zeros) (idle zones1 0 1 (opened 1 (0 ∷ []) []))

abbrev pub s3 : Device
s3 =
    record {
      pages = pages (take 2 fronts) (p16 ∷ []) [];
      sized = sized_pages (take 2 fronts) (p16 ∷ []) [] (sized_take 2 fronts sized_fronts) sized_16 tt;
      map = 16 ∷ replicate 15 65535;
      hold = hold zeros;
      state = idle zones1 1 1 free8;
    }

-- ---- the calls
begin_1 : exec (begin 1) (world w0) ≡ record { answer = 0; world = world s1 }
unfolding paged
begin_1 = begins w0 refl refl refl 1 refl refl refl

begin_1_op : (plan (begin 1) (world w0)).op ≡ none
unfolding paged
begin_1_op = begin_op w0 refl refl refl 1 refl refl refl

write_1_0 : exec (write 1 0 zeros) (world s1) ≡ record { answer = 0; world = world s2 }
unfolding paged
write_1_0 = first_write s1 refl refl refl 1 refl 0 zeros refl refl 16 refl refl

write_1_0_op : (plan (write 1 0 zeros) (world s1)).op ≡ none
unfolding paged
write_1_0_op = first_op s1 refl refl refl 1 refl 0 zeros refl refl 16 refl refl

commit_1 : exec (commit 1) (world s2) ≡ record { answer = 0; world = world s3 }
unfolding paged p16
commit_1 = commits s2 refl refl refl 1 refl 16 refl refl refl refl p16 refl

commit_1_op : (plan (commit 1) (world s2)).op ≡ program 16 p16
unfolding paged p16
commit_1_op = commit_op s2 refl refl refl 1 refl 16 refl refl refl refl

-- change 1 was not begun
write_early : exec (write 1 0 zeros) (world w0) ≡ record { answer = 8; world = world w0 }
unfolding paged
write_early = refused_stays (write 1 0 zeros) (world w0) 8 (write_8 (world w0) (passes w0 false refl refl refl) 1 0 zeros refl refl refl)

-- ---- the recoveries
abbrev lent : Device → Device
lent x = record { pages = x.pages; sized = x.sized; map = replicate 16 0; hold = hold zeros; state = fresh_state small }

recover_before : recovered (flat s2.pages) ≡ map0
unfolding paged recovered lent_for map1 zone1
recover_before = ap (λ (o : Outcome). o.world.map) (recovers (lent s2) small 0 (replicate 256 65535) (zone_data 0 zones1) [] 1 refl refl refl refl refl refl refl refl)

recover_after : recovered (flat s3.pages) ≡ 16 ∷ replicate 15 65535
unfolding paged recovered lent_for map1 zone1 p16
recover_after =
    ap (λ (o : Outcome). o.world.map)
    (recovers (lent s3) small 0 (replicate 256 65535) (zone_data 0 zones1) (record { ppn = 16; lpn = 0; cnt = 1; id = 1; ver = 1; kind = 0; reserved = 0 } ∷ []) 1 refl refl refl refl refl refl refl refl)

-- ---- one command of a session
module _ (c : ℕ) (cs : List ℕ) (w : World) {v : World} {n : ℕ} (e : exec (command_of c) w ≡ record { answer = n; world = v }) where
  goes_on : accepted (c ∷ cs) w ≡ (not (refused n) && accepted cs v)
  unfolding accepted
  goes_on = ap (λ (o : Outcome). not (refused o.answer) && accepted cs o.world) e

  -- with the maps of its program, if it programs
  cuts_on : (o : Op) → (plan (command_of c) w).op ≡ o → cuts (c ∷ cs) w ≡ keep (programs o) (recovered w.array ∷ recovered v.array ∷ []) ++ cuts cs v
  unfolding cuts call_cuts
  cuts_on o f = ap₂ (λ (y : Op) (x : Outcome). keep (programs y) (recovered w.array ∷ recovered x.world.array ∷ []) ++ cuts cs x.world) f e

-- ---- the sessions
pub accepts : accepted (1 ∷ 3 ∷ 7 ∷ []) fresh ≡ true
unfolding command_of commands zeroData refused accepted
accepts =
    ap (accepted (1 ∷ 3 ∷ 7 ∷ [])) fresh_is
    ∙ (goes_on 1 (3 ∷ 7 ∷ []) (world w0) begin_1
    ∙ (goes_on 3 (7 ∷ []) (world s1) write_1_0
    ∙ goes_on 7 [] (world s2) commit_1))

pub maps : cuts (1 ∷ 3 ∷ 7 ∷ []) fresh ≡ replicate 16 65535 ∷ (16 ∷ replicate 15 65535) ∷ []
unfolding command_of commands zeroData cuts
maps =
    ap (cuts (1 ∷ 3 ∷ 7 ∷ [])) fresh_is
    ∙ (cuts_on 1 (3 ∷ 7 ∷ []) (world w0) begin_1 none begin_1_op
    ∙ (cuts_on 3 (7 ∷ []) (world s1) write_1_0 none write_1_0_op
    ∙ (cuts_on 7 [] (world s2) commit_1 (program 16 p16) commit_1_op
    ∙ ap₂ (λ (m n : List ℕ). m ∷ n ∷ []) recover_before recover_after)))

pub short : ShortSession (1 ∷ 3 ∷ 7 ∷ [])
short = record { known = ((omega arith, omega arith), ((omega arith, omega arith), ((omega arith, omega arith), tt))); short = omega arith; accepts = accepts }

-- a write of a change that was not begun is refused
pub refuses : accepted (3 ∷ []) fresh ≡ false
unfolding command_of commands zeroData refused
refuses = ap (accepted (3 ∷ [])) fresh_is ∙ goes_on 3 [] (world w0) write_early
