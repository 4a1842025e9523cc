-- Reads through the C interface are the reads of the world whose state the bytes encode, and the place of one that is done is inside the array.
-- Assumes nothing.
use Rattle.std.specs.Prelude.{ℕ, ◌+◌, ◌*◌, ◌≤◌, ◌≡◌, refl, Bool, true, false, not, cond, ◌||◌, List, [], length, get_or, eqb}
use Rattle.std.proofs.Common.{◌∙◌, arith, leb-false}
use Rattle.std.proofs.lemmas.Bool.{not-false}
use Rattle.model.specs.Lists.{elem, part, all}
use Rattle.model.specs.Geometry.{unmapped, data_page, entry_ok, map_ok}
use Rattle.model.specs.World.{World}
use Rattle.model.specs.Frame.{frame_ok}
use Rattle.model.specs.Transactions.{read_answer, read_part, read_checks}
use Rattle.model.specs.Commands.{read, plan, carried, exec}
use Rattle.model.specs.Book.{Content}
use Rattle.model.specs.Demand3.{ReadsAs}
use Rattle.model.specs.declared.Geometry.{Geometry}
use Rattle.arrays.specs.Tests.{all_at, heads_all}
use Rattle.arrays.specs.Ranges.{data_page_fits}
use Rattle.arrays.specs.Frame.{frame_in}
use Rattle.arrays.specs.Order.{numbered, Unless, none_applies}
use Rattle.encoding.specs.Encoding.{bytes_of}
use Rattle.encoding.specs.StateBack.{Shaped, state_back, coded_back}
use Rattle.bokuhira.specs.Calls.{found_of, read_called}
use Rattle.bokuhira.specs.Laws.{found_part}
use Rattle.archive.specs.Lent.{Lent, read_on, bokuhira}
use Rattle.archive.specs.Statement.{LentReadsAs}
use Rattle.archive.specs.Coded.{lent_of}

-- its answer is the call's, whatever stood at the place
pub read_is : (lpn : ℕ) (l : Lent) (at : ℕ) → (read_on lpn l at).answer ≡ (bokuhira (read lpn) l).answer
unfolding bokuhira read_called found_of
read_is lpn l at = refl

-- ---- a read that is done
-- its entry of the map is a data page, and that is inside the array
entry_data : (g : Geometry) (seen : List ℕ) (x : ℕ) → entry_ok g seen x ≡ true → (eqb x unmapped || data_page g x) ≡ true
unfolding entry_ok
entry_data g seen x e = go (eqb x unmapped) (data_page g x) e
  where
    go : (a b : Bool) → cond a true (cond b (not (elem x seen)) false) ≡ true → (a || b) ≡ true
    go true b e = refl
    go false true e = refl
    go false false e = e

read_inside : (w : World) (lpn : ℕ) → read_answer lpn w ≡ 0 → get_or w.map lpn unmapped * 528 + 512 ≤ length w.array
unfolding map_ok read_answer numbered all Unless
read_inside w lpn e = none_applies (read_checks lpn w) refl e (λ frame page mapped.
    let f = frame_in w (not-false (frame_ok w) frame) in
    let g = w.state.geometry in
    let a = all_at (λ (x : ℕ). eqb x unmapped || data_page g x) w.map lpn unmapped
    (heads_all (entry_ok g) (λ (x : ℕ). eqb x unmapped || data_page g x) (entry_data g) [] w.map f.map)
    (omega (arith, f.lengths.map, leb-false g.logical lpn page)) in
    omega (arith, data_page_fits g w.array f.lengths.array (get_or w.map lpn unmapped) (rw mapped at a)))

-- ---- the fact
module _ (w : World) (h : Shaped w.state) where
  pub read_answers : (lpn at : ℕ) → (read_on lpn (lent_of w) at).answer ≡ read_answer lpn w
  unfolding read_called found_of exec plan carried
  read_answers lpn at = rw (coded_back w.state h, state_back w.state h)

  read_at : (lpn at : ℕ) → (read_on lpn (lent_of w) at).answer ≡ 0 → (read_on lpn (lent_of w) at).at ≡ get_or w.map lpn unmapped * 528
  unfolding read_called found_of
  read_at lpn at e = rw e

  pub read_part_law : (lpn at : ℕ) → (read_on lpn (lent_of w) at).answer ≡ 0 → part (read_on lpn (lent_of w) at).at 512 w.array ≡ read_part lpn w
  read_part_law lpn at e = found_part lpn w.array w.map w.hold (bytes_of w.state) at e ∙ rw (state_back w.state h)

  pub reads_as : (lpn : ℕ) (x : Content) → ReadsAs w lpn x → LentReadsAs (lent_of w) lpn x
  reads_as lpn x r = record {
    answer = λ at. read_answers lpn at ∙ r.answer;
    inside = λ at e. rw (read_at lpn at e) (read_inside w lpn (rw (read_answers lpn at) at e));
    bytes = λ at e. read_part_law lpn at e ∙ r.bytes;
  }
