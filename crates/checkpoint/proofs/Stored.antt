-- The data of a zone page as they are stored: eight bytes over zeros, and the lists behind them. Assumes nothing.
use mathlib.Core.Path.{◌≡◌, ap, sym, ◌∙◌}
use mathlib.Core.List.{List, [], ◌∷◌, ◌++◌, append_assoc}
use Prim.Native.Nat.{ℕ, ◌-◌, ◌≤◌}
use native.Mathlib.Omega.{arith}
use lib.Seq.{sets}
use borrow.Rule.Slice.PartMut.{put_mid}
use Rattle.std.proofs.lemmas.List.{drop-replicate}
use lib.ListN.{length, take, drop, set, replicate, length-append, length-take}
use Rattle.model.specs.Lists.{pad_to}
use Rattle.model.specs.Bytes.{bytes32}
use Rattle.model.specs.Zones.{available_of, unavailable_of, free_of, listed_in}
use Rattle.model.specs.declared.Zones.{Zones}
use Rattle.blocks.specs.Blocks.{Counted}

-- the bytes h, and behind them the list l over zeros, n of all
list_stored : (h l : List ℕ) (n : ℕ) → h ++ (l ++ drop (length l) (replicate (n - length h) 0)) ≡ pad_to n (h ++ l)
unfolding pad_to
list_stored h l n =
    let s : n - length h - length l ≡ n - length (h ++ l) = omega (arith, length-append h l) in
    rw (drop-replicate {X = ℕ} (length l) (n - length h) 0, s) (sym (append_assoc h l (replicate (n - length (h ++ l)) 0)))

-- the eight bytes before the lists, where the first four of d were stored over zeros
module _ (v p a u f : ℕ) (d : List ℕ) (e : d ≡ sets (replicate {A = ℕ} 512 0) 0 (bytes32 v)) where
  pub head_stored : set (set (set (set d 4 p) 5 a) 6 u) 7 f ≡ (bytes32 v ++ (p ∷ a ∷ u ∷ f ∷ [])) ++ replicate {A = ℕ} 504 0
  head_stored = ap (λ (t : List ℕ). set (set (set (set t 4 p) 5 a) 6 u) 7 f) e

  -- and the n numbers of l written behind them, as ys
  pub zone_stored : (l ys : List ℕ) (n : ℕ) → ys ≡ l → n ≡ length l → put_mid 8 n (set (set (set (set d 4 p) 5 a) 6 u) 7 f) ys ≡ pad_to 512 ((bytes32 v ++ (p ∷ a ∷ u ∷ f ∷ [])) ++ l)
  zone_stored l ys n g e =
      rw (g, e) (ap (λ (t : List ℕ). take 8 t ++ (l ++ drop (length l) (drop 8 t))) head_stored ∙ list_stored (bytes32 v ++ (p ∷ a ∷ u ∷ f ∷ [])) l 512)

-- the zone lists, counted in range, are no more than the data blocks
pub listed_few : (z : Zones) → Counted z → length z.available ≡ 3 → length z.unavailable ≡ 126 → length z.free ≡ 126 → length (listed_in z) ≤ 126
listed_few z h la lu lf =
    let e = h.available in
    let f = h.all in
    omega
    (arith, length-append (available_of z) (unavailable_of z ++ free_of z), length-append (unavailable_of z) (free_of z), length-take z.na z.available, length-take z.nu z.unavailable, length-take z.nf z.free)
