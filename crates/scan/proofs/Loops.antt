-- A turn of each loop over lists of pages: pages listed, pages picked by their notes, keys and write numbers that rise. Assumes nothing.
use mathlib.Core.Path.{◌≡◌, refl, sym, ap, ◌∙◌, subst}
use mathlib.Core.Logic.{◌≢◌}
use mathlib.Core.Bool.{Bool, true, false, cond, ◌&&◌}
use mathlib.Core.List.{List, [], ◌∷◌, ◌++◌, append-nil, append_assoc}
use Prim.Native.Nat.{ℕ, zero, suc, ◌+◌, ◌*◌, ◌≤◌, ◌<◌}
use native.Mathlib.Omega.{arith}
use native.Mathlib.Numerals.{add-one}
use native.Mathlib.Nat.{mul-le-mul}
use lib.ListN.{length, take, drop, set, get_or, length-set, length-append}
use lib.Seq.{take-suc, take-suc-set, take-set-le, drop-set-lt, drop-drop, drop-cons, get_or-drop, length-take-le, take_at}
use lib.Dec.{ltb}
use borrow.Author.Tests.{eq-eqb, ne_eqb, lt-ltb, le-ltb}
use Rattle.model.specs.Lists.{keep, up_from}
use Rattle.model.specs.Bytes.{le16, le32}
use Rattle.model.specs.Page.{page_at}
use Rattle.arrays.specs.Tests.{length_up, up_more}
use Rattle.arrays.specs.Pages.{block_page_fits}
use Rattle.ranks.specs.Dealt.{Each, each_append}
use Rattle.sorting.specs.Sort.{key_at, Pages}
use Rattle.sorting.proofs.Keys.{page_byte}
use Rattle.scan.specs.Taken.{Blocks, listed}
use Rattle.table.specs.Looking.{look_of}
use Rattle.scan.specs.declared.Note.{Note}
use Rattle.scan.specs.declared.Wanted.{Wanted}
use Rattle.scan.specs.Notes.{note_of, note_at, notes_of, wants, picked}
use Rattle.scan.specs.Judged.{mark_at, rises_from, number_at, numbers_from}
use Rattle.scan.proofs.Visiting.{notes_more}

-- ---- pages listed
pub up_put : (to : List ℕ) (f q : ℕ) → q < length to → take q to ≡ up_from f q → take (q + 1) (set to q (f + q)) ≡ up_from f (q + 1)
up_put to f q h e = ap (λ (n : ℕ). take n (set to q (f + q))) (add-one q) ∙ take-suc-set to q (f + q) h ∙ ap (λ (l : List ℕ). l ++ ((f + q) ∷ [])) e ∙ sym (up_more f q)

listed_append : (p : ℕ) (cs bs : List ℕ) → listed p (cs ++ bs) ≡ listed p cs ++ listed p bs
unfolding listed
listed_append p [] bs = refl
listed_append p (c ∷ cs) bs = ap (λ (l : List ℕ). up_from (c * p) p ++ l) (listed_append p cs bs) ∙ sym (append_assoc (up_from (c * p) p) (listed p cs) (listed p bs))

listed_one : (p b : ℕ) → listed p (b ∷ []) ≡ up_from (b * p) p
unfolding listed
listed_one p b = append-nil (up_from (b * p) p)

pub listed_length : (p : ℕ) (bs : List ℕ) → length (listed p bs) ≡ length bs * p
unfolding listed
listed_length p [] = let z : 0 * p ≡ 0 = omega arith in sym z
listed_length p (b ∷ bs) = omega (arith, length-append (up_from (b * p) p) (listed p bs), length_up (b * p) p, listed_length p bs)

-- they lie in the array, and are at most 8064
each_up : (P : ℕ → Type 0) (k n : ℕ) → ((i : ℕ) → i < n → P (k + i)) → Each P (up_from k n)
unfolding up_from
each_up P k zero h = tt
each_up P k (suc n) h =
    let z : k + 0 ≡ k = omega arith in
    (subst P z (h 0 (omega arith)), each_up P (suc k) n (λ i l. let s : k + suc i ≡ suc k + i = omega arith in subst P s (h (suc i) (omega arith))))

each_listed : (P : ℕ → Type 0) (p : ℕ) (bs : List ℕ) → ((i q : ℕ) → i < length bs → q < p → P (get_or bs i 0 * p + q)) → Each P (listed p bs)
unfolding listed
each_listed P p [] h = tt
each_listed P p (b ∷ bs) h =
    each_append P (up_from (b * p) p) (listed p bs) (each_up P (b * p) p (λ q l. h 0 q (omega arith) l)) (each_listed P p bs (λ i q l m. h (suc i) q (omega arith) m))

pub listed_pages : (xs : List ℕ) (p : ℕ) (bs : List ℕ) → Blocks xs p bs → Pages (length xs) (listed p bs)
listed_pages xs p bs b =
    let m : length bs * p ≤ 126 * 64 = mul-le-mul b.within.few b.most in
    record {
      few = omega (arith, listed_length p bs);
      fit = each_listed (λ (k : ℕ). k * 528 + 528 ≤ length xs) p bs (λ i q l h. block_page_fits xs p (get_or bs i 0) q (b.within.each i l) h);
    }

-- the pages of block i after those of the blocks before it
pub list_more : (p : ℕ) (bs order : List ℕ) (i : ℕ) → i < length bs → length order ≡ length bs * p → take (i * p) order ≡ listed p (take i bs)
    → (f n : ℕ) (ups : List ℕ) → ups ≡ up_from (f * p) n → f ≡ get_or bs i 0 → n ≡ p → take ((i + 1) * p) (take (i * p) order ++ (ups ++ drop (i * p + p) order)) ≡ listed p (take (i + 1) bs)
list_more p bs order i h z e f n ups u ef en =
    let s : listed p (take (i + 1) bs) ≡ take (i * p) order ++ ups =
    ap (listed p) (ap (λ (j : ℕ). take j bs) (add-one i) ∙ take-suc bs i 0 h) ∙ listed_append p (take i bs) (get_or bs i 0 ∷ []) ∙ rw (← e, listed_one p (get_or bs i 0), u, ef, en) in
    let m : i * p ≤ length bs * p = mul-le-mul (let k : i ≤ length bs = omega arith in k) (let k : p ≤ p = omega arith in k) in
    let t : length (take (i * p) order ++ ups) ≡ (i + 1) * p =
    length-append (take (i * p) order) ups ∙ omega (arith, length-take-le (i * p) order (omega arith), ap length u, length_up (f * p) n) in
    ap (take ((i + 1) * p)) (sym (append_assoc (take (i * p) order) ups (drop (i * p + p) order))) ∙ take_at (take (i * p) order ++ ups) (drop (i * p + p) order) ((i + 1) * p) t ∙ sym s

-- ---- pages picked
module _ (w : Wanted) where
  picked_append : (ks : List ℕ) (ts : List Note) (js : List ℕ) (us : List Note) → length ks ≡ length ts → picked w (ks ++ js) (ts ++ us) ≡ picked w ks ts ++ picked w js us
  unfolding picked
  picked_append [] [] js us e = refl
  picked_append [] (t ∷ ts) js us e = absurd (omega arith)
  picked_append (k ∷ ks) [] js us e = absurd (omega arith)
  picked_append (k ∷ ks) (t ∷ ts) js us e =
      ap (λ (l : List ℕ). keep (wants w t) (k ∷ []) ++ l) (picked_append ks ts js us (omega arith)) ∙ sym (append_assoc (keep (wants w t) (k ∷ [])) (picked w ks ts) (picked w js us))

  picked_one : (k : ℕ) (t : Note) → picked w (k ∷ []) (t ∷ []) ≡ keep (wants w t) (k ∷ [])
  unfolding picked
  picked_one k t = append-nil (keep (wants w t) (k ∷ []))

  -- the list is picked up to page s, of which n pages are kept; the rest stands as it was
  pub record Picking (ks : List ℕ) (ts : List Note) (s n : ℕ) (order : List ℕ) : Type 0 where
    pub size : length order ≡ length ks
    pub most : s ≤ length ks
    pub kept : n ≤ s
    pub front : take n order ≡ picked w (take s ks) (take s ts)
    pub rest : drop s order ≡ drop s ks

  module _ (ks : List ℕ) (ts : List Note) (d : Note) (s n : ℕ) (order : List ℕ) (p : Picking ks ts s n order) (h : s < length ks) (e : length ts ≡ length ks) where
    same_page : get_or order s 0 ≡ get_or ks s 0
    same_page =
        let z : s + 0 ≡ s = omega arith in
        let a : get_or (drop s order) 0 0 ≡ get_or order s 0 = get_or-drop s order 0 0 ∙ ap (λ (i : ℕ). get_or order i 0) z in
        let b : get_or (drop s ks) 0 0 ≡ get_or ks s 0 = get_or-drop s ks 0 0 ∙ ap (λ (i : ℕ). get_or ks i 0) z in
        sym a ∙ ap (λ (l : List ℕ). get_or l 0 0) p.rest ∙ b

    next : picked w (take (s + 1) ks) (take (s + 1) ts) ≡ take n order ++ keep (wants w (get_or ts s d)) (get_or order s 0 ∷ [])
    next =
        ap (λ (i : ℕ). picked w (take i ks) (take i ts)) (add-one s)
        ∙ rw (take-suc ks s 0 h, take-suc ts s d (omega arith))
        (picked_append (take s ks) (take s ts) (get_or ks s 0 ∷ []) (get_or ts s d ∷ []) (length-take-le s ks p.most ∙ sym (length-take-le s ts (omega (arith, p.most))))
        ∙ rw (← p.front, picked_one (get_or ks s 0) (get_or ts s d), ← same_page))

    pub pick_more : (m : ℕ) → m ≡ cond (wants w (get_or ts s d)) 1 0 → Picking ks ts (s + 1) (n + m) (set order n (get_or order s 0))
    pick_more m q =
        record {
          size = length-set order n (get_or order s 0) ∙ p.size;
          most = omega arith;
          kept = small (wants w (get_or ts s d)) q;
          front = go (wants w (get_or ts s d)) q next;
          rest =
              let i = p.kept in
              drop-set-lt (s + 1) order n (get_or order s 0) (omega arith) ∙ sym (drop-drop 1 s order) ∙ ap (drop 1) p.rest ∙ drop-drop 1 s ks;
        }
      where
        small : (t : Bool) → m ≡ cond t 1 0 → n + m ≤ s + 1
        small true q = omega (arith, p.kept)
        small false q = omega (arith, p.kept)

        go : (t : Bool) → m ≡ cond t 1 0 → picked w (take (s + 1) ks) (take (s + 1) ts) ≡ take n order ++ keep t (get_or order s 0 ∷ [])
            → take (n + m) (set order n (get_or order s 0)) ≡ picked w (take (s + 1) ks) (take (s + 1) ts)
        go true q w =
            let z : n + m ≡ suc n = omega arith in
            rw (z, w) (take-suc-set order n (get_or order s 0) (omega (arith, p.kept, p.size)))
        go false q w =
            let z : n + m ≡ n = omega arith in
            rw (z, w, append-nil (take n order)) (take-set-le n order n (get_or order s 0) (omega arith))

  pub pick_none : (ks : List ℕ) (ts : List Note) → Picking ks ts 0 0 ks
  pick_none ks ts = record { size = refl; most = omega arith; kept = omega arith; front = unfold picked in refl; rest = refl }

-- ---- notes
pub noted_more : (xs ks : List ℕ) (notes : List Note) (s : ℕ) → s < length ks → length notes ≡ length ks → (t : Note) → t ≡ note_of (look_of (page_at xs (get_or ks s 0))) → take s notes ≡ notes_of xs (take s ks)
    → take (s + 1) (set notes s t) ≡ notes_of xs (take (s + 1) ks)
noted_more xs ks notes s h n t e i =
    ap (λ (j : ℕ). take j (set notes s t)) (add-one s) ∙ take-suc-set notes s t (omega arith) ∙ rw (i, e) (sym (notes_more xs ks s h ∙ unfold note_at in refl))

-- ---- keys that rise
module _ (xs : List ℕ) (at last : ℕ) (ks : List ℕ) (i : ℕ) (h : i < length ks) where
  first : rises_from xs at last (drop i ks) ≡ rises_from xs at last (get_or ks i 0 ∷ drop (i + 1) ks)
  first = ap (rises_from xs at last) (drop-cons ks i 0 h) ∙ ap (λ (j : ℕ). rises_from xs at last (get_or ks i 0 ∷ drop j ks)) (sym (add-one i))

  module _ (cnt : ℕ) (ec : cnt ≡ le16 (page_at xs (get_or ks i 0)) 514) where
    pub rise_page : cnt ≡ 0 → rises_from xs at last (drop i ks) ≡ rises_from xs at last (drop (i + 1) ks)
    rise_page z = first ∙ unfold rises_from mark_at in rw (eq-eqb (le16 (page_at xs (get_or ks i 0)) 514) 0 (sym ec ∙ z))

    module _ (n : cnt ≢ 0) (key : ℕ) (ek : key ≡ le32 (page_at xs (get_or ks i 0)) at) where
      mark_next : rises_from xs at last (drop i ks) ≡ (ltb last key && rises_from xs at key (drop (i + 1) ks))
      mark_next = first ∙ unfold rises_from mark_at key_at in rw (ne_eqb (le16 (page_at xs (get_or ks i 0)) 514) 0 (λ q. n (ec ∙ q)), ← ek)

      pub rise_mark : last < key → rises_from xs at last (drop i ks) ≡ rises_from xs at key (drop (i + 1) ks)
      rise_mark l = mark_next ∙ rw (lt-ltb last key l)

      pub rise_not : key ≤ last → rises_from xs at last (drop i ks) ≡ false
      rise_not l = mark_next ∙ rw (le-ltb last key l)

none_left : (ks : List ℕ) (i : ℕ) → length ks ≤ i → drop i ks ≡ []
none_left [] zero l = refl
none_left [] (suc i) l = refl
none_left (k ∷ ks) zero l = absurd (omega arith)
none_left (k ∷ ks) (suc i) l = none_left ks i (omega arith)

pub rise_end : (xs : List ℕ) (at last : ℕ) (ks : List ℕ) (i : ℕ) → length ks ≤ i → rises_from xs at last (drop i ks) ≡ true
rise_end xs at last ks i h = ap (rises_from xs at last) (none_left ks i h) ∙ unfold rises_from in refl

-- ---- write numbers that rise
-- the number that a page gives
pub number_is : (xs : List ℕ) (k : ℕ) (page : List ℕ) → page ≡ page_at xs k → (id : ℕ) → id ≡ le32 page 516 → id * 256 + get_or page 525 0 ≡ number_at xs k
unfolding number_at key_at
number_is xs k page e id q = rw (q, e) (ap (λ (n : ℕ). le32 (page_at xs k) 516 * 256 + n) (page_byte xs k 525 (omega arith)))

module _ (xs : List ℕ) (last : ℕ) (ks : List ℕ) (i : ℕ) (h : i < length ks) (key : ℕ) (e : key ≡ number_at xs (get_or ks i 0)) where
  number_next : numbers_from xs last (drop i ks) ≡ (ltb last key && numbers_from xs key (drop (i + 1) ks))
  number_next =
      ap (numbers_from xs last) (drop-cons ks i 0 h) ∙ ap (λ (j : ℕ). numbers_from xs last (get_or ks i 0 ∷ drop j ks)) (sym (add-one i))
      ∙ unfold numbers_from in rw e

  pub number_more : last < key → numbers_from xs last (drop i ks) ≡ numbers_from xs key (drop (i + 1) ks)
  number_more l = number_next ∙ rw (lt-ltb last key l)

  pub number_not : key ≤ last → numbers_from xs last (drop i ks) ≡ false
  number_not l = number_next ∙ rw (le-ltb last key l)

pub number_end : (xs : List ℕ) (last : ℕ) (ks : List ℕ) (i : ℕ) → length ks ≤ i → numbers_from xs last (drop i ks) ≡ true
number_end xs last ks i h = ap (numbers_from xs last) (none_left ks i h) ∙ unfold numbers_from in refl
