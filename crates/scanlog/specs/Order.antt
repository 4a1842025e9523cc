-- The order of the available list on one plane: every block behind the first with clean pages is erased. Whatever becomes of the next page, the order holds,
-- and what the page gives comes last in the scan.
use Rattle.std.specs.Prelude.{◌≡◌, refl, ◌≢◌, ℕ, ◌+◌, ◌*◌, ◌≤◌, ◌<◌, List, [], ◌∷◌, ◌++◌}
use Rattle.std.proofs.Common.{sym, ap, ◌∙◌, subst, inl, inr, arith}
use Rattle.model.specs.Zones.{entry_at, used_in, clean_in, next_in, scan_in}
use Rattle.arrays.specs.Tests.{Is, eqb_cases}
use Rattle.arrays.specs.Pages.{Other, SamePages, other_block}
use Rattle.arrays.specs.Used.{used_in_same}
use Rattle.arrays.specs.Scan.{Each, each_map, each_append, SameBlocks, Blank, scan_next, blank_stays, Next, next_is}
use Rattle.scanlog.specs.Sublist.{Sublist, nil, skip, both}
use Rattle.scanlog.specs.Occ.{occ, occ_nil, occ_cons, occ_yes, occ_no, occ_append, Distinct}

-- the blocks behind the first with clean pages are erased
abbrev pub Order : List ℕ → ℕ → List ℕ → Type 0
Order xs p [] = Unit {0}
Order xs p (b ∷ bs) = (used_in xs p b < p → Blank xs p bs) × Order xs p bs

-- ---- facts of each block of a list
pub each_sub : (P : ℕ → Type 0) {cs bs : List ℕ} → Sublist cs bs → Each P bs → Each P cs
each_sub P nil h = h
each_sub P (skip b s) h = each_sub P s h.1
each_sub P (both b s) h = (h.0, each_sub P s h.1)

pub each_is : (P : ℕ → Type 0) (bs : List ℕ) → Each P bs → (b : ℕ) → 0 < occ b bs → P b
each_is P [] h b k = absurd (omega (arith, occ_nil b))
each_is P (c ∷ bs) h b k = go (eqb_cases b c) (each_is P bs h.1 b)
  where
    go : Is b c → (0 < occ b bs → P b) → P b
    go (inl q) ih = subst P (sym q.0) h.0
    go (inr q) ih = ih (omega (arith, occ_cons b c bs, occ_no b c q.0))

pub is_each : (P : ℕ → Type 0) (bs : List ℕ) → ((b : ℕ) → 0 < occ b bs → P b) → Each P bs
is_each P [] h = tt
is_each P (c ∷ bs) h = (h c (omega (arith, occ_cons c c bs, occ_yes c c refl)), is_each P bs (λ b k. h b (omega (arith, occ_cons b c bs))))

-- blocks that are not among them are other blocks
pub away : (b : ℕ) (bs : List ℕ) → occ b bs ≡ 0 → Each (λ (c : ℕ). c ≢ b) bs
away b bs n = is_each (λ (c : ℕ). c ≢ b) bs (λ c k q. absurd (omega (arith, ap (λ (x : ℕ). occ x bs) q)))

-- ---- the order of lists
pub blank_order : (xs : List ℕ) (p : ℕ) (bs : List ℕ) → Blank xs p bs → Order xs p bs
blank_order xs p [] h = tt
blank_order xs p (b ∷ bs) h = ((λ l. h.1), blank_order xs p bs h.1)

pub order_stays : (xs ys : List ℕ) (p : ℕ) (bs : List ℕ) → SameBlocks xs ys p bs → Order xs p bs → Order ys p bs
order_stays xs ys p [] s h = tt
order_stays xs ys p (b ∷ bs) s h = ((λ l. blank_stays xs ys p bs s.1 (h.0 (rw (used_in_same xs ys p b s.0) at l))), order_stays xs ys p bs s.1 h.1)

pub order_sub : (xs : List ℕ) (p : ℕ) {cs bs : List ℕ} → Sublist cs bs → Order xs p bs → Order xs p cs
order_sub xs p nil h = h
order_sub xs p (skip b s) h = order_sub xs p s h.1
order_sub xs p (both b s) h = ((λ l. each_sub (λ (c : ℕ). used_in xs p c ≡ 0) s (h.0 l)), order_sub xs p s h.1)

-- erased blocks may follow
pub order_append : (xs : List ℕ) (p : ℕ) (bs cs : List ℕ) → Order xs p bs → Blank xs p cs → Order xs p (bs ++ cs)
order_append xs p [] cs h k = blank_order xs p cs k
order_append xs p (b ∷ bs) cs h k = ((λ l. each_append (λ (c : ℕ). used_in xs p c ≡ 0) bs cs (h.0 l) k), order_append xs p bs cs h.1 k)

order_behind : (xs : List ℕ) (p : ℕ) (cs : List ℕ) (b : ℕ) (bs : List ℕ) → Order xs p (cs ++ (b ∷ bs)) → used_in xs p b < p → Blank xs p bs
order_behind xs p [] b bs h l = h.0 l
order_behind xs p (a ∷ cs) b bs h l = order_behind xs p cs b bs h.1 l

-- full blocks before, erased blocks behind
order_split : (xs : List ℕ) (p : ℕ) (cs : List ℕ) (b : ℕ) (bs : List ℕ) → Each (λ (c : ℕ). used_in xs p c ≡ p) cs → Blank xs p bs → Order xs p (cs ++ (b ∷ bs))
order_split xs p [] b bs f h = ((λ l. h), blank_order xs p bs h)
order_split xs p (a ∷ cs) b bs f h = ((λ l. absurd (omega (arith, f.0))), order_split xs p cs b bs f.1 h)

-- ---- the next page
-- ys agrees with xs but on the next page of some blocks
module _ (xs ys : List ℕ) (p : ℕ) (bs : List ℕ) (d : Distinct bs) (clean : 0 < clean_in xs p bs) (o : Other (next_in xs p bs) xs ys) where
  n : Next xs p bs
  n = next_is xs p bs clean

  here : Other (n.block * p + used_in xs p n.block) xs ys
  here = subst (λ (k : ℕ). Other k xs ys) n.page o

  -- the block that it is in stands once
  once : (c : ℕ) → occ c n.before + (occ c (n.block ∷ []) + occ c n.behind) ≤ 1
  once c = omega (arith, d c, ap (occ c) n.split, occ_append c n.before (n.block ∷ n.behind), occ_cons c n.block n.behind)

  away_before : Each (λ (c : ℕ). c ≢ n.block) n.before
  away_before = away n.block n.before (omega (arith, once n.block, occ_yes n.block n.block refl))

  away_behind : Each (λ (c : ℕ). c ≢ n.block) n.behind
  away_behind = away n.block n.behind (omega (arith, once n.block, occ_yes n.block n.block refl))

  same_others : (cs : List ℕ) → Each (λ (c : ℕ). c ≢ n.block) cs → SameBlocks xs ys p cs
  same_others cs h =
      each_map (λ (c : ℕ). c ≢ n.block) (λ (c : ℕ). SamePages xs ys (c * p) p) (other_block p n.block (used_in xs p n.block) xs ys n.room here) cs h

  -- blocks that are none of these are as they were
  pub next_others : (cs : List ℕ) → ((c : ℕ) → 0 < occ c cs → occ c bs ≡ 0) → SameBlocks xs ys p cs
  next_others cs h = same_others cs (is_each (λ (c : ℕ). c ≢ n.block) cs (λ c k q. absurd (omega (arith, h c k, among, ap (λ (x : ℕ). occ x bs) q))))
    where
      among : 0 < occ n.block bs
      among =
          omega (
            arith,
            ap (occ n.block) n.split,
            occ_append n.block n.before (n.block ∷ n.behind),
            occ_cons n.block n.block n.behind,
            occ_yes n.block n.block refl,
          )

  module _ (r : Order xs p bs) where
    behind_blank : Blank xs p n.behind
    behind_blank = order_behind xs p n.before n.block n.behind (subst (Order xs p) n.split r) n.room

    -- what the page gives comes last
    pub order_scan : scan_in ys p bs ≡ scan_in xs p bs ++ entry_at ys (next_in xs p bs)
    order_scan =
        let k = next_in xs p bs in
        subst (λ (l : List ℕ). scan_in ys p l ≡ scan_in xs p l ++ entry_at ys k) (sym n.split)
        (scan_next xs ys p n.before n.block n.behind n.room here away_before away_behind behind_blank
        ∙ ap (λ (i : ℕ). scan_in xs p (n.before ++ (n.block ∷ n.behind)) ++ entry_at ys i) (sym n.page))

    -- the order holds, erased, whole or torn as the page may be
    pub order_next : Order ys p bs
    order_next =
        let full : Each (λ (c : ℕ). used_in ys p c ≡ p) n.before
        = is_each (λ (c : ℕ). used_in ys p c ≡ p) n.before
        (λ c k. used_in_same xs ys p c (each_is (λ (c : ℕ). SamePages xs ys (c * p) p) n.before (same_others n.before away_before) c k)
        ∙ each_is (λ (c : ℕ). used_in xs p c ≡ p) n.before n.full c k) in
        subst (Order ys p) (sym n.split)
        (order_split ys p n.before n.block n.behind full (blank_stays xs ys p n.behind (same_others n.behind away_behind) behind_blank))
