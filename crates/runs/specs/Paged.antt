-- An array as the list of its pages, so that what a call reads of it is computed page by page: each page is met where it stands in the list, and not
-- by a walk over all bytes before it.
use Prim.Native.Nat.{ℕ, zero, suc, ◌+◌, ◌-◌, ◌*◌}
use Rattle.std.proofs.Common.{arith, sym, ◌∙◌, length-append}
use Rattle.std.specs.Prelude.{◌≡◌, Bool, true, ◌&&◌, length, take, drop, get_or, replicate}
use Rattle.std.proofs.Math.Path.{refl, ap, ap₂, fun_ext}
use Rattle.std.proofs.Math.Bool.{not, cond}
use mathlib.Core.List.{List, [], ◌∷◌, ◌++◌, append_assoc, append-nil}
use Rattle.std.proofs.Math.Seq.{take-nil, drop-nil, take_at, take-append-add, drop-append-add}
use Rattle.std.proofs.Math.Dec.{ltb, eqb}
use Rattle.model.specs.Lists.{any, keep, those, part, splice}
use Rattle.model.specs.Bytes.{all_ff}
use Rattle.model.specs.Page.{class_of, is_whole, spare_of, page_at, put_page, blank_at, whole_at, used_from}
use Rattle.model.specs.Zones.{Entry, entry_of, entry_at, used_in, clean_in, next_in, other_plane, taken_from, whole_from, scan_in, is_full, wanted, staying, leaving, holds_wanted, judged, available_of, unavailable_of, free_of, refill, zones_taken, slide}
use Rattle.model.specs.Checkpoint.{Found, nothing, at, map_spare, zone_spare, same_spare, page_is, maps_at, number_at, complete_at, newer, newest_from, newest}
use Rattle.model.specs.declared.Geometry.{Geometry}
use Rattle.model.specs.declared.Place.{Place}
use Rattle.model.specs.declared.Plane.{Plane}
use Rattle.model.specs.declared.Spare.{Spare}
use Rattle.model.specs.declared.Zones.{Zones}

-- ---- the bytes of pages of 528 bytes
unfoldable pub flat : List (List ℕ) → List ℕ
flat [] = []
flat (q ∷ qs) = q ++ flat qs

abbrev pub Sized : List (List ℕ) → Type 0
Sized [] = Unit {0}
Sized (q ∷ qs) = (length q ≡ 528) × Sized qs

pub length_flat : (qs : List (List ℕ)) → Sized qs → length (flat qs) ≡ length qs * 528
unfolding flat
length_flat [] h = refl
length_flat (q ∷ qs) h = let e = length-append q (flat qs) in let i = length_flat qs h.1 in let j = h.0 in omega (arith, e, i, j)

append_flat : (ps qs : List (List ℕ)) → flat (ps ++ qs) ≡ flat ps ++ flat qs
unfolding flat
append_flat [] qs = refl
append_flat (p ∷ ps) qs = ap (λ (r : List ℕ). p ++ r) (append_flat ps qs) ∙ sym (append_assoc p (flat ps) (flat qs))

one_more : (k n : ℕ) → n ≡ 528 → suc k * 528 ≡ n + k * 528
one_more k n h = omega (arith, h)

take_flat : (k : ℕ) (qs : List (List ℕ)) → Sized qs → take (k * 528) (flat qs) ≡ flat (take k qs)
unfolding flat
take_flat zero qs h = refl
take_flat (suc k) [] h = take-nil (suc k * 528)
take_flat (suc k) (q ∷ qs) h =
    ap (λ (n : ℕ). take n (q ++ flat qs)) (one_more k (length q) h.0) ∙ take-append-add q (flat qs) (k * 528) ∙ ap (λ (r : List ℕ). q ++ r) (take_flat k qs h.1)

drop_flat : (k : ℕ) (qs : List (List ℕ)) → Sized qs → drop (k * 528) (flat qs) ≡ flat (drop k qs)
unfolding flat
drop_flat zero qs h = refl
drop_flat (suc k) [] h = drop-nil (suc k * 528)
drop_flat (suc k) (q ∷ qs) h =
    ap (λ (n : ℕ). drop n (q ++ flat qs)) (one_more k (length q) h.0) ∙ drop-append-add q (flat qs) (k * 528) ∙ drop_flat k qs h.1

sized_drop : (k : ℕ) (qs : List (List ℕ)) → Sized qs → Sized (drop k qs)
sized_drop zero qs h = h
sized_drop (suc k) [] h = tt
sized_drop (suc k) (q ∷ qs) h = sized_drop k qs h.1

pub sized_take : (k : ℕ) (qs : List (List ℕ)) → Sized qs → Sized (take k qs)
sized_take zero qs h = tt
sized_take (suc k) [] h = tt
sized_take (suc k) (q ∷ qs) h = (h.0, sized_take k qs h.1)

pub sized_append : (ps qs : List (List ℕ)) → Sized ps → Sized qs → Sized (ps ++ qs)
sized_append [] qs h k = k
sized_append (p ∷ ps) qs h k = (h.0, sized_append ps qs h.1 k)

pub sized_replicate : (n : ℕ) (q : List ℕ) → length q ≡ 528 → Sized (replicate n q)
sized_replicate zero q h = tt
sized_replicate (suc n) q h = (h, sized_replicate n q h)

pub sized_splice : (qs rs : List (List ℕ)) (k n : ℕ) → Sized qs → Sized rs → Sized (splice qs k n rs)
unfolding splice
sized_splice qs rs k n h i = sized_append (take k qs) (rs ++ drop (k + n) qs) (sized_take k qs h) (sized_append rs (drop (k + n) qs) i (sized_drop (k + n) qs h))

-- page k is the element k
pub page_flat : (qs : List (List ℕ)) → Sized qs → (k : ℕ) → page_at (flat qs) k ≡ get_or qs k []
unfolding page_at part
page_flat qs h k = ap (λ (r : List ℕ). take 528 r) (drop_flat k qs h) ∙ first k qs h
  where
    first : (k : ℕ) (qs : List (List ℕ)) → Sized qs → take 528 (flat (drop k qs)) ≡ get_or qs k []
    first zero [] h = unfold flat in refl
    first zero (q ∷ qs) h = unfold flat in take_at q (flat qs) 528 h.0
    first (suc k) [] h = unfold flat in refl
    first (suc k) (q ∷ qs) h = first k qs h.1

-- n pages from page k on, as they stand, and replaced
pub part_flat : (qs : List (List ℕ)) → Sized qs → (k n : ℕ) → part (k * 528) (n * 528) (flat qs) ≡ flat (part k n qs)
unfolding part
part_flat qs h k n = ap (λ (r : List ℕ). take (n * 528) r) (drop_flat k qs h) ∙ take_flat n (drop k qs) (sized_drop k qs h)

pub splice_flat : (qs : List (List ℕ)) → Sized qs → (k n : ℕ) (rs : List (List ℕ)) → splice (flat qs) (k * 528) (n * 528) (flat rs) ≡ flat (splice qs k n rs)
unfolding splice
splice_flat qs h k n rs =
    ap₂ (λ (a b : List ℕ). a ++ (flat rs ++ b)) (take_flat k qs h) (ap (λ (m : ℕ). drop m (flat qs)) (sums k n) ∙ drop_flat (k + n) qs h)
    ∙ ap (λ (r : List ℕ). flat (take k qs) ++ r) (sym (append_flat rs (drop (k + n) qs)))
    ∙ sym (append_flat (take k qs) (rs ++ drop (k + n) qs))
  where
    sums : (k n : ℕ) → k * 528 + n * 528 ≡ (k + n) * 528
    sums k n = omega arith

one_flat : (q : List ℕ) → flat (q ∷ []) ≡ q
unfolding flat
one_flat q = append-nil q

pub put_flat : (qs : List (List ℕ)) → Sized qs → (k : ℕ) (q : List ℕ) → put_page (flat qs) k q ≡ flat (splice qs k 1 (q ∷ []))
unfolding put_page
put_flat qs h k q = ap (λ (r : List ℕ). splice (flat qs) (k * 528) 528 r) (sym (one_flat q)) ∙ splice_flat qs h k 1 (q ∷ [])

-- ---- what calls read of an array, on its pages
unfoldable pub used_on : List (List ℕ) → ℕ → ℕ → ℕ
used_on qs k zero = 0
used_on qs k (suc n) = cond (all_ff (get_or qs (k + n) [])) (used_on qs k n) (suc n)

unfoldable pub clean_on : List (List ℕ) → ℕ → List ℕ → ℕ
clean_on qs p [] = 0
clean_on qs p (b ∷ bs) = (p - used_on qs (b * p) p) + clean_on qs p bs

unfoldable pub next_on : List (List ℕ) → ℕ → List ℕ → ℕ
next_on qs p [] = 0
next_on qs p (b ∷ bs) = cond (ltb (used_on qs (b * p) p) p) (b * p + used_on qs (b * p) p) (next_on qs p bs)

unfoldable pub taken_on : Geometry → Plane → List (List ℕ) → List ℕ → List ℕ
taken_on g last qs bs = cond (eqb g.planes 2 && ltb 0 (clean_on qs g.pages (those (other_plane last) bs))) (those (other_plane last) bs) bs

unfoldable pub entry_on : List ℕ → ℕ → List Entry
entry_on q k = keep (is_whole (class_of q)) (entry_of k (spare_of q) ∷ [])

unfoldable pub whole_on : List (List ℕ) → ℕ → ℕ → List Entry
whole_on qs k zero = []
whole_on qs k (suc n) = entry_on (get_or qs k []) k ++ whole_on qs (suc k) n

unfoldable pub scan_on : List (List ℕ) → ℕ → List ℕ → List Entry
scan_on qs p [] = []
scan_on qs p (b ∷ bs) = whole_on qs (b * p) p ++ scan_on qs p bs

unfoldable pub is_on : List ℕ → Spare → Bool
is_on q s = is_whole (class_of q) && same_spare (spare_of q) s

unfoldable pub maps_on : List (List ℕ) → ℕ → ℕ → ℕ → ℕ → Bool
maps_on qs k i c zero = true
maps_on qs k i c (suc n) = is_on (get_or qs k []) (map_spare i c) && maps_on qs (suc k) (suc i) c n

abbrev pub number_on : List (List ℕ) → ℕ → ℕ
number_on qs k = (spare_of (get_or qs k [])).ver

unfoldable pub complete_on : List (List ℕ) → ℕ → ℕ → Bool
complete_on qs m k = maps_on qs k 0 (number_on qs k) m && is_on (get_or qs (k + m) []) (zone_spare m (number_on qs k))

unfoldable pub newer_on : List (List ℕ) → ℕ → Found → Bool
newer_on qs k nothing = true
newer_on qs k (at j) = ltb (number_on qs j) (number_on qs k)

unfoldable pub newest_on : List (List ℕ) → ℕ → ℕ → ℕ → Found → Found
newest_on qs m k zero best = best
newest_on qs m k (suc n) best = newest_on qs m (suc k) n (cond (complete_on qs m k && newer_on qs k best) (at k) best)

unfoldable pub full_on : List (List ℕ) → ℕ → ℕ → Bool
full_on qs p b = eqb (used_on qs (b * p) p) p

unfoldable pub slide_on : Geometry → List (List ℕ) → List Place → Zones → Zones
slide_on g qs ps z =
    let p = g.pages in
    let stay = those (λ (b : ℕ). not (full_on qs p b)) (available_of z) in
    let near = scan_on qs p stay in
    zones_taken (those (λ (b : ℕ). any (wanted ps near) (whole_on qs (b * p) p)) (unavailable_of z ++ those (full_on qs p) (available_of z)))
    (refill g 3 (record { available = stay; free = free_of z; pointer = z.pointer }))

-- the two agree
module _ (xs : List ℕ) (qs : List (List ℕ)) (h : (k : ℕ) → page_at xs k ≡ get_or qs k []) where
  pub used_on_law : (k n : ℕ) → used_from xs k n ≡ used_on qs k n
  unfolding used_from used_on blank_at
  used_on_law k zero = refl
  used_on_law k (suc n) = ap₂ (λ (q : List ℕ) (u : ℕ). cond (all_ff q) u (suc n)) (h (k + n)) (used_on_law k n)

  pub clean_on_law : (p : ℕ) (bs : List ℕ) → clean_in xs p bs ≡ clean_on qs p bs
  unfolding clean_in clean_on used_in
  clean_on_law p [] = refl
  clean_on_law p (b ∷ bs) = ap₂ (λ (u c : ℕ). (p - u) + c) (used_on_law (b * p) p) (clean_on_law p bs)

  pub taken_on_law : (g : Geometry) (last : Plane) (bs : List ℕ) → taken_from g last xs bs ≡ taken_on g last qs bs
  unfolding taken_from taken_on
  taken_on_law g last bs =
      ap (λ (n : ℕ). cond (eqb g.planes 2 && ltb 0 n) (those (other_plane last) bs) bs) (clean_on_law g.pages (those (other_plane last) bs))

  pub next_on_law : (p : ℕ) (bs : List ℕ) → next_in xs p bs ≡ next_on qs p bs
  unfolding next_in next_on used_in
  next_on_law p [] = refl
  next_on_law p (b ∷ bs) = ap₂ (λ (u c : ℕ). cond (ltb u p) (b * p + u) c) (used_on_law (b * p) p) (next_on_law p bs)

  pub whole_on_law : (k n : ℕ) → whole_from xs k n ≡ whole_on qs k n
  unfolding whole_from whole_on entry_at entry_on whole_at
  whole_on_law k zero = refl
  whole_on_law k (suc n) = ap₂ (λ (q : List ℕ) (es : List Entry). keep (is_whole (class_of q)) (entry_of k (spare_of q) ∷ []) ++ es) (h k) (whole_on_law (suc k) n)

  pub scan_on_law : (p : ℕ) (bs : List ℕ) → scan_in xs p bs ≡ scan_on qs p bs
  unfolding scan_in scan_on
  scan_on_law p [] = refl
  scan_on_law p (b ∷ bs) = ap₂ (λ (a c : List Entry). a ++ c) (whole_on_law (b * p) p) (scan_on_law p bs)

  is_on_law : (k : ℕ) (s : Spare) → page_is xs k s ≡ is_on (get_or qs k []) s
  unfolding page_is is_on whole_at
  is_on_law k s = ap (λ (q : List ℕ). is_whole (class_of q) && same_spare (spare_of q) s) (h k)

  maps_on_law : (k i c n : ℕ) → maps_at xs k i c n ≡ maps_on qs k i c n
  unfolding maps_at maps_on
  maps_on_law k i c zero = refl
  maps_on_law k i c (suc n) = ap₂ (λ (a b : Bool). a && b) (is_on_law k (map_spare i c)) (maps_on_law (suc k) (suc i) c n)

  pub number_on_law : (k : ℕ) → number_at xs k ≡ number_on qs k
  unfolding number_at
  number_on_law k = ap (λ (q : List ℕ). (spare_of q).ver) (h k)

  complete_on_law : (m k : ℕ) → complete_at xs m k ≡ complete_on qs m k
  unfolding complete_at complete_on
  complete_on_law m k = ap (λ (n : ℕ). maps_at xs k 0 n m && page_is xs (k + m) (zone_spare m n)) (number_on_law k) ∙ ap₂ (λ (a b : Bool). a && b) (maps_on_law k 0 (number_on qs k) m) (is_on_law (k + m) (zone_spare m (number_on qs k)))

  newer_on_law : (k : ℕ) (f : Found) → newer xs k f ≡ newer_on qs k f
  unfolding newer newer_on
  newer_on_law k nothing = refl
  newer_on_law k (at j) = ap₂ (λ (a b : ℕ). ltb a b) (number_on_law j) (number_on_law k)

  newest_on_law : (m k n : ℕ) (f : Found) → newest_from xs m k n f ≡ newest_on qs m k n f
  unfolding newest_from newest_on
  newest_on_law m k zero f = refl
  newest_on_law m k (suc n) f =
      ap (λ (g : Found). newest_from xs m (suc k) n g) (ap₂ (λ (a b : Bool). cond (a && b) (at k) f) (complete_on_law m k) (newer_on_law k f))
      ∙ newest_on_law m (suc k) n (cond (complete_on qs m k && newer_on qs k f) (at k) f)

  pub newest_page : (m p : ℕ) → newest xs m p ≡ newest_on qs m p (p - m) (newest_on qs m 0 (p - m) nothing)
  unfolding newest
  newest_page m p = newest_on_law m p (p - m) (newest_from xs m 0 (p - m) nothing) ∙ ap (newest_on qs m p (p - m)) (newest_on_law m 0 (p - m) nothing)

  full_on_law : (p b : ℕ) → is_full xs p b ≡ full_on qs p b
  unfolding is_full full_on used_in
  full_on_law p b = ap (λ (u : ℕ). eqb u p) (used_on_law (b * p) p)

  staying_on : (p : ℕ) (bs : List ℕ) → staying xs p bs ≡ those (λ (b : ℕ). not (full_on qs p b)) bs
  unfolding staying
  staying_on p bs = ap (λ (f : ℕ → Bool). those (λ (b : ℕ). not (f b)) bs) (fun_ext (full_on_law p))

  leaving_on : (p : ℕ) (bs : List ℕ) → leaving xs p bs ≡ those (full_on qs p) bs
  unfolding leaving
  leaving_on p bs = ap (λ (f : ℕ → Bool). those f bs) (fun_ext (full_on_law p))

  judged_on : (p : ℕ) (ps : List Place) (near : List Entry) (bs : List ℕ) → judged xs p ps near bs ≡ those (λ (b : ℕ). any (wanted ps near) (whole_on qs (b * p) p)) bs
  unfolding judged holds_wanted
  judged_on p ps near bs = ap (λ (f : ℕ → List Entry). those (λ (b : ℕ). any (wanted ps near) (f b)) bs) (fun_ext (λ b. whole_on_law (b * p) p))

  pub slide_on_law : (g : Geometry) (ps : List Place) (z : Zones) → slide g xs ps z ≡ slide_on g qs ps z
  unfolding slide slide_on
  slide_on_law g ps z =
      let p = g.pages in
      rw (staying_on p (available_of z), leaving_on p (available_of z), scan_on_law p (those (λ (b : ℕ). not (full_on qs p b)) (available_of z)), judged_on p ps (scan_on qs p (those (λ (b : ℕ). not (full_on qs p b)) (available_of z))) (unavailable_of z ++ those (full_on qs p) (available_of z))) refl
