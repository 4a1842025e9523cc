-- What the calls of a command leave is its plan carried out. Assumes nothing.
use mathlib.Core.Path.{◌≡◌, refl, ap, ◌∙◌}
use mathlib.Core.Bool.{Bool, true, false, cond}
use mathlib.Core.List.{List}
use Prim.Native.Nat.{ℕ, zero, suc, ◌+◌, ◌-◌, ◌/◌, ◌<◌}
use native.Mathlib.Omega.{arith}
use lib.ListN.{set}
use lib.Dec.{eqb}
use borrow.Author.Tests.{ne_eqb}
use Rattle.model.specs.Page.{page_bytes, blank_at}
use Rattle.model.specs.World.{World, program, apply_op}
use Rattle.model.specs.Frame.{free_place}
use Rattle.model.specs.Transactions.{with_place, with_version, with_last, number_of, data_bytes, change_bytes, held_at, hold_with, held_page, held_drop, written, held_op, held_state, entered, write_plan, lone_plan, mark_plan}
use Rattle.model.specs.Commands.{Outcome, carried}
use Rattle.model.specs.declared.Place.{Place}
use Rattle.model.specs.declared.State.{State}
use Rattle.flash.specs.Programs.{Programmed}
use Rattle.change.specs.Changes.{next_of, data_spare, done, HeldDone, LonePut}

-- on one plane the last data block page leaves no trace in the state
pub last_one : (s : State) (b : ℕ) → (s.geometry.planes ≡ 2 → ⊥) → with_last s b ≡ s
unfolding with_last
last_one s b h = rw (ne_eqb s.geometry.planes 2 h)

-- a world of its parts
abbrev pub world_of : List ℕ → List ℕ → List ℕ → State → World
world_of xs map hold s = record { array = xs; map = map; hold = hold; state = s }

-- the state when page k was the last data block page
abbrev pub last_on : State → ℕ → State
last_on s k = with_last s (k / s.geometry.pages)

-- a page programmed where there was an erased one
program_done : (s : State) (xs : List ℕ) (k : ℕ) (d : List ℕ) (drop : Bool) (lpn cnt id ver number : ℕ) (ys : List ℕ)
    → k ≡ next_of s xs → blank_at xs (next_of s xs) ≡ true → Programmed xs k (page_bytes d (data_spare drop lpn cnt id ver number)) ys
    → (m : ℕ) → ys ≡ apply_op m (program (next_of s xs) (change_bytes d drop lpn cnt id ver number)) xs
unfolding change_bytes
program_done s xs k d drop lpn cnt id ver number ys e h q m = rw e at (q.applied m (rw e h))

-- the held page programmed, where there is one
held_done : (s : State) (xs map hold : List ℕ) (i k : ℕ) (p : Place) (ys : List ℕ) → k ≡ next_of s xs → (0 < p.count → blank_at xs (next_of s xs) ≡ true)
    → HeldDone s.geometry xs k (held_at i hold) p 0 0 ys → (m : ℕ) → ys ≡ apply_op m (held_op (world_of xs map hold s) i p) xs
unfolding held_op
held_done s xs map hold i k p ys e h q m = go p.count refl
  where
    go : (n : ℕ) → p.count ≡ n → ys ≡ apply_op m (held_op (world_of xs map hold s) i p) xs
    go zero z = rw z (unfold apply_op in q.none z)
    go (suc n) z =
        rw (ne_eqb p.count 0 (omega arith))
        (program_done s xs k (held_at i hold) (held_drop p) (held_page p) 0 p.id 0 (number_of s.geometry p.count) ys e (h (omega arith))
        (q.held (omega arith)) m)

-- a write: the page held before programmed, the new one held, the place with one page more
pub write_done : (s t : State) (xs map hold ys kept : List ℕ) (i lpn : ℕ) (drop : Bool) (d : List ℕ) (k : ℕ) (p q : Place)
    → k ≡ next_of s xs → (0 < p.count → blank_at xs (next_of s xs) ≡ true) → HeldDone s.geometry xs k (held_at i hold) p 0 0 ys
    → kept ≡ hold_with hold i d → q ≡ written p k lpn drop → t ≡ with_place (cond (eqb p.count 0) s (last_on s k)) i q
    → ◌≡◌ {A = Outcome} (record { answer = 0; world = world_of ys map kept t }) (done (write_plan i p lpn drop d) (world_of xs map hold s))
unfolding carried write_plan held_state
write_done s t xs map hold ys kept i lpn drop d k p q e h a b f u =
    let held : ℕ → State = λ (n : ℕ). cond (eqb p.count 0) s (last_on s n) in
    let v : t ≡ with_place (held (next_of s xs)) i (written p (next_of s xs) lpn drop) = u ∙ rw (f, e) in
    let y = held_done s xs map hold i k p ys e h a (with_place (held (next_of s xs)) i (written p (next_of s xs) lpn drop)).geometry.pages in
    λ j. record { answer = 0; world = record { array = y j; map = map; hold = b j; state = v j } }

-- a lone page: programmed and entered, the next version
pub lone_done : (s t : State) (xs map hold ys entries : List ℕ) (lpn : ℕ) (d : List ℕ) (k : ℕ)
    → k ≡ next_of s xs → blank_at xs (next_of s xs) ≡ true → LonePut xs map k lpn (s.version + 1) d ys entries → t ≡ with_version (last_on s k) (s.version + 1)
    → ◌≡◌ {A = Outcome} (record { answer = 0; world = world_of ys entries hold t }) (done (lone_plan lpn d) (world_of xs map hold s))
unfolding carried lone_plan data_bytes change_bytes
lone_done s t xs map hold ys entries lpn d k e h a u =
    let v : t ≡ with_version (last_on s (next_of s xs)) (s.version + 1) = u ∙ rw e in
    let pages = (with_version (last_on s (next_of s xs)) (s.version + 1)).geometry.pages in
    let y = program_done s xs k d false lpn 1 0 (s.version + 1) 0 ys e h a.programmed pages in
    let m = a.entered ∙ ap (set map lpn) e in
    λ j. record { answer = 0; world = record { array = y j; map = m j; hold = hold; state = v j } }

-- a commit: the held page programmed as the mark, every page entered, the next version, the place free
pub mark_done : (s t : State) (xs map hold ys entries : List ℕ) (i k : ℕ) (p : Place)
    → k ≡ next_of s xs → blank_at xs (next_of s xs) ≡ true → 0 < p.count → HeldDone s.geometry xs k (held_at i hold) p p.count (s.version + 1) ys
    → entries ≡ entered map p.lpns (set p.ppns (p.count - 1) k) p.drops p.count
    → t ≡ with_place (with_version (last_on s k) (s.version + 1)) i free_place
    → ◌≡◌ {A = Outcome} (record { answer = 0; world = world_of ys entries hold t }) (done (mark_plan i p) (world_of xs map hold s))
unfolding carried mark_plan
mark_done s t xs map hold ys entries i k p e h l a b u =
    let v : t ≡ with_place (with_version (last_on s (next_of s xs)) (s.version + 1)) i free_place = u ∙ rw e in
    let pages = (with_place (with_version (last_on s (next_of s xs)) (s.version + 1)) i free_place).geometry.pages in
    let number = number_of s.geometry p.count in
    let y = program_done s xs k (held_at i hold) (held_drop p) (held_page p) p.count p.id (s.version + 1) number ys e h (a.held l) pages in
    let m = b ∙ ap (λ (n : ℕ). entered map p.lpns (set p.ppns (p.count - 1) n) p.drops p.count) e in
    λ j. record { answer = 0; world = record { array = y j; map = m j; hold = hold; state = v j } }
