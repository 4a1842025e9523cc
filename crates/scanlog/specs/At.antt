-- One page of a listed block changes: what it gives in the scan changes where it stands, and nothing else does; one clean page is gone if it was the next
-- of its block and is no longer erased.
use Rattle.std.specs.Prelude.{◌≡◌, refl, ◌≢◌, false, ℕ, suc, ◌+◌, ◌-◌, ◌*◌, ◌≤◌, ◌<◌, List, [], ◌∷◌, ◌++◌}
use Rattle.std.proofs.Common.{sym, ap, ◌∙◌, subst, inl, inr, arith, append_assoc}
use Rattle.model.specs.Page.{blank_at}
use Rattle.model.specs.Zones.{Entry, entry_at, whole_from, used_in, clean_in, scan_in}
use Rattle.arrays.specs.Tests.{Is, eqb_cases}
use Rattle.arrays.specs.Pages.{Other, SamePages, other_block}
use Rattle.arrays.specs.Scan.{each_map, SameBlocks, run_suc, run_add, run_same, scan_cons, scan_same, clean_next}
use Rattle.arrays.specs.Insert.{Insert, insert_middle}
use Rattle.scanlog.specs.Occ.{occ, occ_nil, occ_cons, occ_yes, occ_no, occ_append, Distinct}
use Rattle.scanlog.specs.Order.{away}

-- what is scanned before and after page k
pub record At (xs ys : List ℕ) (p : ℕ) (bs : List ℕ) (k : ℕ) : Type 0 where
  pub before : List Entry
  pub behind : List Entry
  pub was : scan_in xs p bs ≡ before ++ (entry_at xs k ++ behind)
  pub is : scan_in ys p bs ≡ before ++ (entry_at ys k ++ behind)

-- a list split at a number that stands in it
pub record Split (b : ℕ) (bs : List ℕ) : Type 0 where
  pub before : List ℕ
  pub behind : List ℕ
  pub split : bs ≡ before ++ (b ∷ behind)

pub split_at : (b : ℕ) (bs : List ℕ) → 0 < occ b bs → Split b bs
split_at b [] h = absurd (omega (arith, occ_nil b))
split_at b (c ∷ bs) h = go (eqb_cases b c) (split_at b bs)
  where
    go : Is b c → (0 < occ b bs → Split b bs) → Split b (c ∷ bs)
    go (inl q) ih = record { before = []; behind = bs; split = ap (λ (x : ℕ). x ∷ bs) (sym q.0) }
    go (inr q) ih =
        let s = ih (omega (arith, occ_cons b c bs, occ_no b c q.0)) in
        record { before = c ∷ s.before; behind = s.behind; split = ap (λ (l : List ℕ). c ∷ l) s.split }

module _ (xs ys : List ℕ) (p b i : ℕ) (l : i < p) (o : Other (b * p + i) xs ys) where
  -- blocks that are not b are as they were
  pub other_blocks : (bs : List ℕ) → occ b bs ≡ 0 → SameBlocks xs ys p bs
  other_blocks bs n = each_map (λ (c : ℕ). c ≢ b) (λ (c : ℕ). SamePages xs ys (c * p) p) (other_block p b i xs ys l o) bs (away b bs n)

  -- the pages of block b before and after page i
  abbrev low : List ℕ → List Entry
  low zs = whole_from zs (b * p) i

  abbrev high : List ℕ → List Entry
  high zs = whole_from zs (suc (b * p + i)) (p - suc i)

  block_at : (zs : List ℕ) → whole_from zs (b * p) p ≡ low zs ++ (entry_at zs (b * p + i) ++ high zs)
  block_at zs =
      let e : p ≡ i + suc (p - suc i) = omega arith in
      ap (whole_from zs (b * p)) e ∙ run_add zs (b * p) i (suc (p - suc i)) ∙ rw (run_suc zs (b * p + i) (p - suc i))

  low_same : low ys ≡ low xs
  low_same = run_same xs ys (b * p) i (λ j h. o (b * p + j) (λ q. omega arith))

  high_same : high ys ≡ high xs
  high_same = run_same xs ys (suc (b * p + i)) (p - suc i) (λ j h. o (suc (b * p + i) + j) (λ q. omega arith))

  -- another block before it
  behind : (c : ℕ) (bs : List ℕ) (us vs : List Entry) → scan_in xs p bs ≡ us ++ (entry_at xs (b * p + i) ++ vs)
      → scan_in ys p bs ≡ us ++ (entry_at ys (b * p + i) ++ vs) → whole_from ys (c * p) p ≡ whole_from xs (c * p) p → At xs ys p (c ∷ bs) (b * p + i)
  behind c bs us vs was is same = record {
    before = whole_from xs (c * p) p ++ us;
    behind = vs;
    was = scan_cons xs p c bs ∙ rw was (sym (append_assoc (whole_from xs (c * p) p) us (entry_at xs (b * p + i) ++ vs)));
    is = scan_cons ys p c bs ∙ rw (is, same) (sym (append_assoc (whole_from xs (c * p) p) us (entry_at ys (b * p + i) ++ vs)));
  }

  pub scan_at : (bs : List ℕ) → 0 < occ b bs → Distinct bs → At xs ys p bs (b * p + i)
  scan_at [] h d = absurd (omega (arith, occ_nil b))
  scan_at (c ∷ bs) h d = go (eqb_cases b c) (scan_at bs)
    where
      k : ℕ
      k = b * p + i

      join : (zs : List ℕ) → whole_from zs (b * p) p ++ scan_in xs p bs ≡ low zs ++ (entry_at zs k ++ (high zs ++ scan_in xs p bs))
      join zs = ap (λ (t : List Entry). t ++ scan_in xs p bs) (block_at zs) ∙ append_assoc (low zs) (entry_at zs k ++ high zs) (scan_in xs p bs)
          ∙ ap (λ (t : List Entry). low zs ++ t) (append_assoc (entry_at zs k) (high zs) (scan_in xs p bs))

      go : Is b c → (0 < occ b bs → Distinct bs → At xs ys p bs k) → At xs ys p (c ∷ bs) k
      go (inl q) ih =
          let n : occ b bs ≡ 0 = omega (arith, d b, occ_cons b c bs, occ_yes b c q.0) in
          let s : scan_in ys p bs ≡ scan_in xs p bs = scan_same xs ys p bs (other_blocks bs n) in
          let y : whole_from ys (b * p) p ++ scan_in xs p bs ≡ low xs ++ (entry_at ys k ++ (high xs ++ scan_in xs p bs)) = rw (low_same, high_same) at (join ys) in
          record {
            before = low xs;
            behind = high xs ++ scan_in xs p bs;
            was = rw (← q.0) (scan_cons xs p b bs ∙ join xs);
            is = rw (← q.0) (scan_cons ys p b bs ∙ rw s y);
          }
      go (inr q) ih =
          let e : occ b (c ∷ []) ≡ 0 = occ_no b c q.0 in
          let r = ih (omega (arith, occ_cons b c bs)) (λ x. omega (arith, d x, occ_cons x c bs)) in
          let same : whole_from ys (c * p) p ≡ whole_from xs (c * p) p = run_same xs ys (c * p) p (other_block p b i xs ys l o c (λ z. q.0 (sym z))) in
          behind c bs r.before r.behind r.was r.is same

-- ---- what becomes of the scan
module _ (xs ys : List ℕ) (p : ℕ) (bs : List ℕ) (k : ℕ) (a : At xs ys p bs k) where
  -- the page gave nothing, and gives e
  pub at_put : (e : Entry) → entry_at xs k ≡ [] → entry_at ys k ≡ e ∷ [] → Insert e (scan_in xs p bs) (scan_in ys p bs)
  at_put e x y = rw (a.was, a.is, x, y) (insert_middle e a.before a.behind)

  -- it gave e, and gives nothing
  pub at_lost : (e : Entry) → entry_at xs k ≡ e ∷ [] → entry_at ys k ≡ [] → Insert e (scan_in ys p bs) (scan_in xs p bs)
  at_lost e x y = rw (a.was, a.is, x, y) (insert_middle e a.before a.behind)

  -- it gives what it gave
  pub at_same : entry_at ys k ≡ entry_at xs k → scan_in ys p bs ≡ scan_in xs p bs
  at_same e = a.is ∙ rw e (sym a.was)

-- one clean page less in a block that has some
pub clean_at : (xs ys : List ℕ) (p : ℕ) (bs : List ℕ) (b : ℕ) → used_in xs p b < p → Other (b * p + used_in xs p b) xs ys → 0 < occ b bs → Distinct bs
    → blank_at ys (b * p + used_in xs p b) ≡ false → clean_in xs p bs ≡ suc (clean_in ys p bs)
clean_at xs ys p bs b room o h d e =
    let s = split_at b bs h in
    let once : (c : ℕ) → occ c s.before + (occ c (b ∷ []) + occ c s.behind) ≤ 1
    = λ c. omega (arith, d c, ap (occ c) s.split, occ_append c s.before (b ∷ s.behind), occ_cons c b s.behind) in
    subst (λ (l : List ℕ). clean_in xs p l ≡ suc (clean_in ys p l)) (sym s.split)
    (clean_next xs ys p s.before b s.behind room o (away b s.before (omega (arith, once b, occ_yes b b refl)))
    (away b s.behind (omega (arith, once b, occ_yes b b refl))) e)
