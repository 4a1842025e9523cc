-- Small scans on which the hypotheses of the laws hold, so that none of them is empty, and small lists dealt out by digits.
use Rattle.std.specs.Prelude.{◌≡◌, refl, Bool, true, false, cond, ℕ, ◌+◌, ◌*◌, ◌≤◌, List, [], ◌∷◌}
use Rattle.std.proofs.Common.{inl, inr, arith}
use Rattle.model.specs.Lists.{all, all_heads, those}
use Rattle.model.specs.Zones.{Entry}
use Rattle.model.specs.Recovery.{is_mark, number_good, mark_new, entry_good, pages_good, of_id, pages_of, committed, by_number, in_turn, txns_in, span, top, applied, enter, redone}
use Rattle.arrays.specs.Tests.{Is, eqb_cases}
use Rattle.ranks.specs.Dealt.{dealt, Sorted, dealt_four, four_sorted, climbing, Distinct}
use Rattle.ranks.specs.Parts.{is_change, number_key, good_versions, good_ids, good_numbers}
use Rattle.ranks.specs.Pass.{enter_best, best_of}
use Rattle.ranks.specs.Best.{ver_of, rank_of, best_pass, best_redone}

-- ---- scans of two logical pages; the floor is 2
abbrev page : ℕ → ℕ → ℕ → ℕ → ℕ → Entry
page ppn lpn cnt id ver = record { ppn = ppn; lpn = lpn; cnt = cnt; id = id; ver = ver; kind = 0; reserved = 0 }

abbrev unwritten : List ℕ
unwritten = 65535 ∷ 65535 ∷ []

-- transaction 5 of two pages, marked with version 3; a lone page of version 4; a page of transaction 6, not marked
abbrev rising : List Entry
rising = page 20 0 0 5 0 ∷ page 21 1 2 5 3 ∷ page 22 0 1 0 4 ∷ page 23 1 0 6 0 ∷ []

rising_good : pages_good 1 2 rising ≡ true
unfolding pages_good all_heads entry_good number_good mark_new all
rising_good = refl

rising_redone : redone 1 2 rising unwritten ≡ 22 ∷ 21 ∷ []
unfolding redone applied span txns_in in_turn top committed pages_of of_id those enter
rising_redone = refl

rising_pass : best_pass 2 rising rising unwritten ≡ 22 ∷ 21 ∷ []
unfolding best_pass best_of enter_best rank_of ver_of top committed pages_of of_id those
rising_pass = refl

-- no version and no identifier twice among the marks
rising_versions : Distinct (λ (e : Entry). e.ver) (those is_mark rising)
rising_versions = good_versions 1 2 rising rising_good

rising_ids : Distinct (λ (e : Entry). e.id) (those is_mark (those is_change rising))
rising_ids = good_ids 1 2 rising rising_good

-- the later version stands earlier: the lone page of version 4 holds, though transaction 5 of version 3 comes behind it
abbrev falling : List Entry
falling = page 20 0 1 0 4 ∷ page 21 0 0 5 0 ∷ page 22 1 2 5 3 ∷ []

falling_good : pages_good 1 2 falling ≡ true
unfolding pages_good all_heads entry_good number_good mark_new all
falling_good = refl

falling_redone : redone 1 2 falling unwritten ≡ 20 ∷ 22 ∷ []
unfolding redone applied span txns_in in_turn top committed pages_of of_id those enter
falling_redone = refl

falling_pass : best_pass 2 falling falling unwritten ≡ 20 ∷ 22 ∷ []
unfolding best_pass best_of enter_best rank_of ver_of top committed pages_of of_id those
falling_pass = refl

-- at floor 3 transaction 5 is not entered
falling_floor : best_pass 3 falling falling unwritten ≡ 20 ∷ 65535 ∷ []
unfolding best_pass best_of enter_best rank_of ver_of top committed pages_of of_id those
falling_floor = refl

-- another order that keeps the pages of each identifier in scan order
abbrev runs : List Entry
runs = page 21 0 0 5 0 ∷ page 22 1 2 5 3 ∷ page 20 0 1 0 4 ∷ []

runs_grouped : (i : ℕ) → of_id i runs ≡ in_turn 1 (of_id i falling)
unfolding in_turn of_id those
runs_grouped i = go (eqb_cases 5 i) (eqb_cases 0 i)
  where
    go : Is 5 i → Is 0 i → of_id i runs ≡ in_turn 1 (of_id i falling)
    go (inl p) (inl q) = absurd (omega (arith, p.0, q.0))
    go (inl p) (inr q) = rw (p.1, q.1)
    go (inr p) (inl q) = rw (p.1, q.1)
    go (inr p) (inr q) = rw (p.1, q.1)

runs_redone : redone 1 2 falling unwritten ≡ best_pass 2 falling runs unwritten
runs_redone = best_redone 1 2 2 falling runs unwritten falling_good runs_grouped

-- a second mark of transaction 5, and version 3 twice: refused
twice_marked : pages_good 1 2 (page 20 0 1 5 3 ∷ page 21 1 1 5 4 ∷ []) ≡ false
unfolding pages_good all_heads entry_good number_good mark_new all
twice_marked = refl

version_twice : pages_good 1 2 (page 20 0 1 0 3 ∷ page 21 1 1 5 3 ∷ []) ≡ false
unfolding pages_good all_heads entry_good number_good mark_new all
version_twice = refl

-- ---- two planes: transaction 5 writes logical page 0 twice, and the page with number 1 is scanned behind its mark, which has number 2
abbrev numbered : ℕ → ℕ → ℕ → ℕ → Entry
numbered ppn cnt ver n = record { ppn = ppn; lpn = 0; cnt = cnt; id = 5; ver = ver; kind = 0; reserved = n }

abbrev crossed : List Entry
crossed = numbered 20 2 3 2 ∷ numbered 24 0 0 1 ∷ []

crossed_good : pages_good 2 2 crossed ≡ true
unfolding pages_good all_heads entry_good number_good mark_new all
crossed_good = refl

-- "the higher one holds"; on one plane the later one would
crossed_redone : redone 2 2 crossed unwritten ≡ 20 ∷ 65535 ∷ []
unfolding redone applied span txns_in in_turn by_number top committed pages_of of_id those enter
crossed_redone = refl

crossed_pass : best_pass 2 crossed (numbered 24 0 0 1 ∷ numbered 20 2 3 2 ∷ []) unwritten ≡ 20 ∷ 65535 ∷ []
unfolding best_pass best_of enter_best rank_of ver_of top committed pages_of of_id those
crossed_pass = refl

crossed_numbers : Distinct number_key (those is_change crossed)
crossed_numbers = good_numbers 2 2 crossed crossed_good refl

-- a number twice, none, and one above 41: refused
number_twice : pages_good 2 2 (numbered 20 2 3 1 ∷ numbered 24 0 0 1 ∷ []) ≡ false
unfolding pages_good all_heads entry_good number_good mark_new all
number_twice = refl

number_none : pages_good 2 2 (numbered 20 1 3 0 ∷ []) ≡ false
unfolding pages_good all_heads entry_good number_good mark_new all
number_none = refl

number_high : pages_good 2 2 (numbered 20 1 3 42 ∷ []) ≡ false
unfolding pages_good all_heads entry_good number_good mark_new all
number_high = refl

-- a number on a lone page, and on one plane: refused
number_lone : pages_good 2 2 (record { ppn = 20; lpn = 0; cnt = 1; id = 0; ver = 3; kind = 0; reserved = 1 } ∷ []) ≡ false
unfolding pages_good all_heads entry_good number_good mark_new all
number_lone = refl

number_one_plane : pages_good 1 2 (numbered 20 1 3 1 ∷ []) ≡ false
unfolding pages_good all_heads entry_good number_good mark_new all
number_one_plane = refl

-- ---- dealing
-- by logical page: those of one keep their order
by_page : dealt (λ (e : Entry). e.lpn) 1 rising ≡ page 20 0 0 5 0 ∷ page 22 0 1 0 4 ∷ page 21 1 2 5 3 ∷ page 23 1 0 6 0 ∷ []
unfolding dealt those
by_page = refl

climbs : climbing (λ (x : ℕ). x) (2 ∷ 3 ∷ 5 ∷ []) ≡ true
unfolding climbing
climbs = refl

stays : climbing (λ (x : ℕ). x) (2 ∷ 3 ∷ 3 ∷ []) ≡ false
unfolding climbing
stays = refl

-- by four bytes: of the keys 258 and 3 the lower has the higher lowest byte
abbrev digit : ℕ → ℕ → Bool → ℕ
digit a c b = cond b a c

digit_byte : (a c : ℕ) → a ≤ 255 → c ≤ 255 → (b : Bool) → digit a c b ≤ 255
digit_byte a c h k true = h
digit_byte a c h k false = k

digit_split : (b : Bool) → digit 0 0 b * 16777216 + (digit 0 0 b * 65536 + (digit 1 0 b * 256 + (digit 2 3 b * 1 + 0))) ≡ digit 258 3 b
digit_split true = refl
digit_split false = refl

low₀ : (b : Bool) → digit 2 3 b ≤ 255
low₀ = digit_byte 2 3 (omega arith) (omega arith)

low₁ : (b : Bool) → digit 1 0 b ≤ 255
low₁ = digit_byte 1 0 (omega arith) (omega arith)

low₂ : (b : Bool) → digit 0 0 b ≤ 255
low₂ = digit_byte 0 0 (omega arith) (omega arith)

abbrev by_bytes : List Bool → List Bool
by_bytes = dealt_four (digit 258 3) (digit 2 3) (digit 1 0) (digit 0 0) (digit 0 0) low₀ low₁ low₂ low₂ digit_split

by_bytes_law : by_bytes (true ∷ false ∷ true ∷ []) ≡ false ∷ true ∷ true ∷ []
unfolding dealt those
by_bytes_law = refl

by_bytes_sorted : (bs : List Bool) → Sorted (digit 258 3) (by_bytes bs)
by_bytes_sorted = four_sorted (digit 258 3) (digit 2 3) (digit 1 0) (digit 0 0) (digit 0 0) low₀ low₁ low₂ low₂ digit_split
