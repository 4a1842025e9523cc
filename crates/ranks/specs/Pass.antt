-- Pages entered by rank: one pass that enters a page over what stands for its logical page where its rank is not below what was entered there last.
-- It comes to the same as entering the pages by rising rank, and hangs on no order but that of pages of one rank.
use Rattle.std.specs.Prelude.{◌≡◌, ◌⊎◌, Bool, ◌&&◌, ◌||◌, ℕ, ◌≤◌, ◌<◌, max, set, replicate, eqb}
use Rattle.std.proofs.Math.Path.{refl}
use Rattle.std.proofs.Common.{sym, ap, ◌∙◌, inl, inr, get_or-set_same, get_or-set_other, ext_get_or}
use Rattle.std.proofs.Math.Bool.{true, false, cond}
use native.Mathlib.Omega.{arith}
use mathlib.Core.List.{List, [], ◌∷◌, ◌++◌}
use Rattle.std.proofs.Math.ListN.{length, get_or, length-set}
use Rattle.std.proofs.lemmas.List.{length-replicate, get_or-replicate}
use Rattle.std.proofs.Math.Dec.{leb}
use borrow.Author.Tests.{leb-true, leb-false, le-leb, ne_eqb}
use Rattle.model.specs.Lists.{any, keep, those}
use Rattle.model.specs.Geometry.{enter_page}
use Rattle.model.specs.Zones.{Entry}
use Rattle.model.specs.Recovery.{leads_to, enter}
use Rattle.arrays.specs.Tests.{Is, eqb_cases, decide, clash}
use Rattle.ranks.specs.Entries.{Entries}

-- ---- the pass
-- a map, and for each logical page the rank that the next page entered there must reach
pub record Best : Type 0 where
  pub map : List ℕ
  pub ranks : List ℕ

-- page e entered over what stands there
abbrev entered : (Entry → ℕ) → Entry → Best → Best
entered rank e r = record { map = enter_page r.map e.lpn (leads_to e); ranks = set r.ranks e.lpn (rank e) }

-- one page: entered if its rank is not below what was entered there last
unfoldable pub enter_best : (Entry → ℕ) → Entry → Best → Best
enter_best rank e r = cond (leb (get_or r.ranks e.lpn 0) (rank e)) (entered rank e r) r

-- one page after the other
unfoldable pub best_of : (Entry → ℕ) → List Entry → Best → Best
best_of rank [] r = r
best_of rank (e ∷ es) r = best_of rank es (enter_best rank e r)

-- at first every page of rank `least` or more is entered
abbrev pub start_best : ℕ → List ℕ → Best
start_best least m = record { map = m; ranks = replicate (length m) least }

-- ---- at one logical page
-- the pages of rank v
abbrev pub level : (Entry → ℕ) → ℕ → List Entry → List Entry
level rank v es = those (λ (e : Entry). eqb (rank e) v) es

-- the last page of logical page l, or x
unfoldable last_at : ℕ → List Entry → ℕ → ℕ
last_at l [] x = x
last_at l (e ∷ es) x = last_at l es (cond (eqb e.lpn l) (leads_to e) x)

last_here : (l : ℕ) (e : Entry) (es : List Entry) (x : ℕ) → eqb e.lpn l ≡ true → last_at l (e ∷ es) x ≡ last_at l es (leads_to e)
unfolding last_at
last_here l e es x h = rw h

last_other : (l : ℕ) (e : Entry) (es : List Entry) (x : ℕ) → eqb e.lpn l ≡ false → last_at l (e ∷ es) x ≡ last_at l es x
unfolding last_at
last_other l e es x h = rw h

-- some page is of logical page l
abbrev some : ℕ → List Entry → Bool
some l es = any (λ (e : Entry). eqb e.lpn l) es

last_some : (l : ℕ) (es : List Entry) (x y : ℕ) → some l es ≡ true → last_at l es x ≡ last_at l es y
unfolding last_at any
last_some l [] x y h = clash h refl
last_some l (e ∷ es) x y h = go (eqb e.lpn l) h (last_some l es x y)
  where
    go : (t : Bool) → (t || some l es) ≡ true → (some l es ≡ true → last_at l es x ≡ last_at l es y)
        → last_at l es (cond t (leads_to e) x) ≡ last_at l es (cond t (leads_to e) y)
    go true h ih = refl
    go false h ih = ih h

module _ (rank : Entry → ℕ) (l : ℕ) where
  -- what the pass leaves there, from rank b and page x
  unfoldable win : List Entry → ℕ → ℕ → ℕ
  win [] b x = x
  win (e ∷ es) b x = cond (eqb e.lpn l && leb b (rank e)) (win es (rank e) (leads_to e)) (win es b x)

  -- the highest rank there
  unfoldable peak : List Entry → ℕ → ℕ
  peak [] b = b
  peak (e ∷ es) b = peak es (cond (eqb e.lpn l) (max b (rank e)) b)

  peak_least : (es : List Entry) (b : ℕ) → b ≤ peak es b
  unfolding peak
  peak_least [] b = omega arith
  peak_least (e ∷ es) b = go (eqb e.lpn l) (peak_least es)
    where
      go : (t : Bool) → ((c : ℕ) → c ≤ peak es c) → b ≤ peak es (cond t (max b (rank e)) b)
      go true ih = omega (arith, ih (max b (rank e)))
      go false ih = ih b

  -- where it is above b, some page reaches it
  peak_in : (es : List Entry) (b p : ℕ) → p ≡ peak es b → b < p → some l (level rank p es) ≡ true
  unfolding peak those any
  peak_in [] b p q h = absurd (omega arith)
  peak_in (e ∷ es) b p q h = go (eqb_cases e.lpn l) (eqb_cases (rank e) p) (λ c. peak_in es c p)
    where
      go : Is e.lpn l → Is (rank e) p → ((c : ℕ) → p ≡ peak es c → c < p → some l (level rank p es) ≡ true)
          → some l (keep (eqb (rank e) p) (e ∷ []) ++ level rank p es) ≡ true
      go (inl s) (inl t) ih = rw (t.1, s.1)
      go (inl s) (inr t) ih =
          let k : p ≡ peak es (max b (rank e)) = rw s.1 at q in
          rw t.1 (ih (max b (rank e)) k (omega (arith, peak_least es (max b (rank e)), t.0)))
      go (inr s) (inl t) ih = let k : p ≡ peak es b = rw s.1 at q in rw (t.1, s.1) (ih b k h)
      go (inr s) (inr t) ih = let k : p ≡ peak es b = rw s.1 at q in rw t.1 (ih b k h)

  -- no page is above it
  in_peak : (es : List Entry) (b v : ℕ) → some l (level rank v es) ≡ true → v ≤ peak es b
  unfolding peak those any
  in_peak [] b v h = clash h refl
  in_peak (e ∷ es) b v h = go (eqb_cases e.lpn l) (eqb_cases (rank e) v) (λ c. in_peak es c v)
    where
      go : Is e.lpn l → Is (rank e) v → ((c : ℕ) → some l (level rank v es) ≡ true → v ≤ peak es c) → v ≤ peak es (cond (eqb e.lpn l) (max b (rank e)) b)
      go (inl s) (inl t) ih = rw s.1 (omega (arith, peak_least es (max b (rank e)), t.0))
      go (inl s) (inr t) ih = let k : some l (level rank v es) ≡ true = rw t.1 at h in rw s.1 (ih (max b (rank e)) k)
      go (inr s) (inl t) ih = let k : some l (level rank v es) ≡ true = rw (t.1, s.1) at h in rw s.1 (ih b k)
      go (inr s) (inr t) ih = let k : some l (level rank v es) ≡ true = rw t.1 at h in rw s.1 (ih b k)

  -- the last page of the highest rank stays
  win_is : (es : List Entry) (b x p : ℕ) → p ≡ peak es b → win es b x ≡ last_at l (level rank p es) x
  unfolding win peak those last_at
  win_is [] b x p q = refl
  win_is (e ∷ es) b x p q = go (eqb_cases e.lpn l) (decide (leb b (rank e))) (eqb_cases (rank e) p) (λ c y. win_is es c y p)
    where
      Rest : Type 0
      Rest = (c y : ℕ) → p ≡ peak es c → win es c y ≡ last_at l (level rank p es) y

      go : Is e.lpn l → (leb b (rank e) ≡ true) ⊎ (leb b (rank e) ≡ false) → Is (rank e) p → Rest
          → cond (eqb e.lpn l && leb b (rank e)) (win es (rank e) (leads_to e)) (win es b x) ≡ last_at l (keep (eqb (rank e) p) (e ∷ []) ++ level rank p es) x
      go (inl s) (inl t) r ih =
          let h = leb-true b (rank e) t in
          let m : max b (rank e) ≡ rank e = omega arith in
          let k : p ≡ peak es (rank e) = rw (s.1, m) at q in
          rw (s.1, t) (ih (rank e) (leads_to e) k ∙ over k r)
        where
          over : p ≡ peak es (rank e) → Is (rank e) p → last_at l (level rank p es) (leads_to e) ≡ last_at l (keep (eqb (rank e) p) (e ∷ []) ++ level rank p es) x
          over k (inl r) = rw r.1 (sym (last_here l e (level rank p es) x s.1))
          over k (inr r) = rw r.1 (last_some l (level rank p es) (leads_to e) x (peak_in es (rank e) p k (omega (arith, peak_least es (rank e), r.0))))
      go (inl s) (inr t) r ih =
          let h = leb-false b (rank e) t in
          let m : max b (rank e) ≡ b = omega arith in
          let k : p ≡ peak es b = rw (s.1, m) at q in
          rw (s.1, t, ne_eqb (rank e) p (λ z. absurd (omega (arith, peak_least es b)))) (ih b x k)
      go (inr s) t (inl r) ih = let k : p ≡ peak es b = rw s.1 at q in rw (s.1, r.1) (ih b x k ∙ sym (last_other l e (level rank p es) x s.1))
      go (inr s) t (inr r) ih = let k : p ≡ peak es b = rw s.1 at q in rw (s.1, r.1) (ih b x k)

  -- ---- two lists that have the same pages of each rank, in the same order
  peak_most : (least : ℕ) (xs ys : List Entry) → ((v : ℕ) → least ≤ v → level rank v xs ≡ level rank v ys) → peak xs least ≤ peak ys least
  peak_most least xs ys same = go (decide (leb (peak xs least) least))
    where
      go : (leb (peak xs least) least ≡ true) ⊎ (leb (peak xs least) least ≡ false) → peak xs least ≤ peak ys least
      go (inl t) = omega (arith, leb-true (peak xs least) least t, peak_least ys least)
      go (inr t) =
          let h = leb-false (peak xs least) least t in
          let k : some l (level rank (peak xs least) xs) ≡ true = peak_in xs least (peak xs least) refl h in
          in_peak ys least (peak xs least) (rw (same (peak xs least) (omega arith)) at k)

  win_same : (least : ℕ) (xs ys : List Entry) (x : ℕ) → ((v : ℕ) → least ≤ v → level rank v xs ≡ level rank v ys) → win xs least x ≡ win ys least x
  win_same least xs ys x same =
      let p : peak xs least ≡ peak ys least = omega (arith, peak_most least xs ys same, peak_most least ys xs (λ v h. sym (same v h))) in
      win_is xs least x (peak xs least) refl
      ∙ ap (λ (zs : List Entry). last_at l zs x) (same (peak xs least) (peak_least xs least))
      ∙ sym (win_is ys least x (peak xs least) p)

-- ---- rising ranks
-- the ranks rise from lo to hi, or stay
abbrev pub Climbs : (Entry → ℕ) → ℕ → ℕ → List Entry → Type 0
Climbs rank lo hi [] = lo ≤ hi
Climbs rank lo hi (e ∷ es) = (lo ≤ rank e) × Climbs rank (rank e) hi es

module _ (rank : Entry → ℕ) where
  -- one part after the other
  pub climbs_append : (lo mid hi : ℕ) (xs ys : List Entry) → Climbs rank lo mid xs → Climbs rank mid hi ys → Climbs rank lo hi (xs ++ ys)
  climbs_append lo mid hi [] ys h k = climbs_from lo mid ys h k
    where
      climbs_from : (lo mid : ℕ) (ys : List Entry) → lo ≤ mid → Climbs rank mid hi ys → Climbs rank lo hi ys
      climbs_from lo mid [] h k = omega (arith, k)
      climbs_from lo mid (y ∷ ys) h k = (omega (arith, k.0), k.1)
  climbs_append lo mid hi (x ∷ xs) ys h k = (h.0, climbs_append (rank x) mid hi xs ys h.1 k)

  -- pages of one rank
  pub climbs_flat : (lo hi v : ℕ) (es : List Entry) → lo ≤ v → v ≤ hi → Entries (λ (e : Entry). rank e ≡ v) es → Climbs rank lo hi es
  climbs_flat lo hi v [] h k f = omega arith
  climbs_flat lo hi v (e ∷ es) h k f = (omega (arith, f.0), climbs_flat (rank e) hi v es (omega (arith, f.0)) k f.1)

  -- the last page stays
  climbs_win : (l lo hi b x : ℕ) (es : List Entry) → b ≤ lo → Climbs rank lo hi es → win rank l es b x ≡ last_at l es x
  unfolding win last_at
  climbs_win l lo hi b x [] h c = refl
  climbs_win l lo hi b x (e ∷ es) h c = go (eqb_cases e.lpn l) (λ d y k. climbs_win l (rank e) hi d y es k c.1)
    where
      go : Is e.lpn l → ((d y : ℕ) → d ≤ rank e → win rank l es d y ≡ last_at l es y)
          → cond (eqb e.lpn l && leb b (rank e)) (win rank l es (rank e) (leads_to e)) (win rank l es b x) ≡ last_at l es (cond (eqb e.lpn l) (leads_to e) x)
      go (inl s) ih = rw (s.1, le-leb b (rank e) (omega (arith, c.0))) (ih (rank e) (leads_to e) (omega arith))
      go (inr s) ih = rw s.1 (ih b x (omega (arith, c.0)))

-- ---- every logical page
enter_length : (m : List ℕ) (es : List Entry) → length (enter m es) ≡ length m
unfolding enter
enter_length m [] = refl
enter_length m (e ∷ es) = enter_length (enter_page m e.lpn (leads_to e)) es ∙ length-set m e.lpn (leads_to e)

enter_at : (l : ℕ) (m : List ℕ) (es : List Entry) → l < length m → get_or (enter m es) l 0 ≡ last_at l es (get_or m l 0)
unfolding enter last_at
enter_at l m [] h = refl
enter_at l m (e ∷ es) h =
    enter_at l (enter_page m e.lpn (leads_to e)) es (omega (arith, length-set m e.lpn (leads_to e))) ∙ ap (last_at l es) (at (eqb_cases e.lpn l))
  where
    at : Is e.lpn l → get_or (set m e.lpn (leads_to e)) l 0 ≡ cond (eqb e.lpn l) (leads_to e) (get_or m l 0)
    at (inl s) = rw (s.1, s.0) (get_or-set_same m l (leads_to e) 0 h)
    at (inr s) = rw s.1 (get_or-set_other m e.lpn l (leads_to e) 0 (λ k. s.0 (sym k)))

module _ (rank : Entry → ℕ) where
  -- the pass keeps the map's length
  pub best_length : (es : List Entry) (r : Best) → length (best_of rank es r).map ≡ length r.map
  unfolding best_of enter_best
  best_length [] r = refl
  best_length (e ∷ es) r = best_length es (enter_best rank e r) ∙ go (leb (get_or r.ranks e.lpn 0) (rank e))
    where
      go : (t : Bool) → length (cond t (entered rank e r) r).map ≡ length r.map
      go true = length-set r.map e.lpn (leads_to e)
      go false = refl

  best_at : (l : ℕ) (es : List Entry) (r : Best) → l < length r.map → length r.ranks ≡ length r.map
      → get_or (best_of rank es r).map l 0 ≡ win rank l es (get_or r.ranks l 0) (get_or r.map l 0)
  unfolding best_of enter_best win
  best_at l [] r h k = refl
  best_at l (e ∷ es) r h k = go (eqb_cases e.lpn l) (decide (leb (get_or r.ranks e.lpn 0) (rank e))) (λ s. best_at l es s)
    where
      Rest : Type 0
      Rest = (s : Best) → l < length s.map → length s.ranks ≡ length s.map
          → get_or (best_of rank es s).map l 0 ≡ win rank l es (get_or s.ranks l 0) (get_or s.map l 0)

      over : Best
      over = entered rank e r

      after : Rest → get_or (best_of rank es over).map l 0 ≡ win rank l es (get_or over.ranks l 0) (get_or over.map l 0)
      after ih =
          ih over (omega (arith, length-set r.map e.lpn (leads_to e)))
          (omega (arith, length-set r.map e.lpn (leads_to e), length-set r.ranks e.lpn (rank e)))

      go : Is e.lpn l → (leb (get_or r.ranks e.lpn 0) (rank e) ≡ true) ⊎ (leb (get_or r.ranks e.lpn 0) (rank e) ≡ false) → Rest
          → get_or (best_of rank es (cond (leb (get_or r.ranks e.lpn 0) (rank e)) over r)).map l 0
          ≡ cond (eqb e.lpn l && leb (get_or r.ranks l 0) (rank e)) (win rank l es (rank e) (leads_to e))
          (win rank l es (get_or r.ranks l 0) (get_or r.map l 0))
      go (inl s) (inl t) ih =
          let u : leb (get_or r.ranks l 0) (rank e) ≡ true = ap (λ (i : ℕ). leb (get_or r.ranks i 0) (rank e)) (sym s.0) ∙ t in
          let a : get_or over.ranks l 0 ≡ rank e
          = ap (λ (i : ℕ). get_or (set r.ranks i (rank e)) l 0) s.0 ∙ get_or-set_same r.ranks l (rank e) 0 (omega arith) in
          let b : get_or over.map l 0 ≡ leads_to e = ap (λ (i : ℕ). get_or (set r.map i (leads_to e)) l 0) s.0 ∙ get_or-set_same r.map l (leads_to e) 0 h in
          rw (t, s.1, u) (rw (a, b) at (after ih))
      go (inl s) (inr t) ih =
          let u : leb (get_or r.ranks l 0) (rank e) ≡ false = ap (λ (i : ℕ). leb (get_or r.ranks i 0) (rank e)) (sym s.0) ∙ t in
          rw (t, s.1, u) (ih r h k)
      go (inr s) (inl t) ih =
          let a : get_or over.ranks l 0 ≡ get_or r.ranks l 0 = get_or-set_other r.ranks e.lpn l (rank e) 0 (λ z. s.0 (sym z)) in
          let b : get_or over.map l 0 ≡ get_or r.map l 0 = get_or-set_other r.map e.lpn l (leads_to e) 0 (λ z. s.0 (sym z)) in
          rw (t, s.1) (rw (a, b) at (after ih))
      go (inr s) (inr t) ih = rw (t, s.1) (ih r h k)

  -- the pages in xs by rising rank, the same ones in ys in any order of ranks: one pass over ys enters what entering xs does
  pub enter_best_law : (least hi : ℕ) (xs ys : List Entry) (m : List ℕ) → Climbs rank least hi xs → ((v : ℕ) → least ≤ v → level rank v xs ≡ level rank v ys)
      → enter m xs ≡ (best_of rank ys (start_best least m)).map
  enter_best_law least hi xs ys m c same =
      ext_get_or 0 (enter m xs) (best_of rank ys (start_best least m)).map (enter_length m xs ∙ sym (best_length ys (start_best least m)))
      (λ l h. at l (omega (arith, enter_length m xs)))
    where
      at : (l : ℕ) → l < length m → get_or (enter m xs) l 0 ≡ get_or (best_of rank ys (start_best least m)).map l 0
      at l h =
          let k : get_or (replicate (length m) least) l 0 ≡ least = get_or-replicate (length m) l least 0 h in
          let w : get_or (best_of rank ys (start_best least m)).map l 0 ≡ win rank l ys least (get_or m l 0)
          = rw k at (best_at l ys (start_best least m) h (length-replicate (length m) least)) in
          enter_at l m xs h ∙ sym (climbs_win rank l least hi least (get_or m l 0) xs (omega arith) c) ∙ win_same rank l least xs ys (get_or m l 0) same ∙ sym w

  -- ---- for a program
  -- one part after the other
  pub best_append : (xs ys : List Entry) (r : Best) → best_of rank (xs ++ ys) r ≡ best_of rank ys (best_of rank xs r)
  unfolding best_of
  best_append [] ys r = refl
  best_append (x ∷ xs) ys r = best_append xs ys (enter_best rank x r)
