-- Numbers listed one after the other. Assumes nothing.
use mathlib.Core.Path.{◌≡◌, sym, ap, ◌∙◌, subst}
use mathlib.Core.List.{List, [], ◌∷◌, ◌++◌, append_assoc, append-nil}
use Prim.Native.Nat.{ℕ, suc, ◌+◌, ◌*◌, ◌<◌}
use native.Mathlib.Numerals.{add-one}
use native.Mathlib.Omega.{arith}
use lib.ListN.{length, take, drop, get_or, length-append}
use lib.Seq.{take-length, length-take-le, drop-cons}
use Rattle.std.specs.List.{AllZip, each_same}
use Rattle.std.proofs.lemmas.List.{take_more}
use Rattle.std.proofs.lemmas.Slice.Zip.{AllZip-long}
use Rattle.text.specs.Text.{comma, decimal, listed, Put, PutList}
use Rattle.text.proofs.Putting.{puts, put_is, put_within, put_nothing}

-- a number more
listed_more : (i j : ℕ) (ns : List ℕ) (n : ℕ) → j ≡ i + length ns → listed i (ns ++ (n ∷ [])) ≡ listed i ns ++ (comma j ++ decimal n)
unfolding listed
listed_more i j [] n e = let h : j ≡ i = omega arith in rw h (simp append-nil)
listed_more i j (m ∷ ns) n e =
    ap (λ (t : List ℕ). comma i ++ decimal m ++ t) (listed_more (suc i) j ns n (omega arith)) ∙ simp append_assoc

zip_more : {X : Type 0} (R : X → ℕ → Type 0) (xs : List X) (ns : List ℕ) (x : X) (n : ℕ) → AllZip R xs ns → R x n → AllZip R (xs ++ (x ∷ [])) (ns ++ (n ∷ []))
zip_more R [] [] x n z r = (r, tt)
zip_more R [] (m ∷ ns) x n z r = absurd z
zip_more R (y ∷ xs) [] x n z r = absurd z
zip_more R (y ∷ xs) (m ∷ ns) x n z r = (z.0, zip_more R xs ns x n z.1 r)

-- the first i items of a list are put
module _ {X : Type 0} (R : X → ℕ → Type 0) (xs : List X) where
  pub items_start : (out : List ℕ) (at : ℕ) → PutList R out at (take 0 xs) out at
  unfolding listed
  items_start out at = record { numbers = []; are = tt; put = put_nothing out at 0 }

  -- and one more
  pub items_again : {before out out' : List ℕ} {at i end end' : ℕ} (x : X) (n : ℕ) → i < length xs → x ≡ get_or xs i x → R x n
      → PutList R before at (take i xs) out end → Put out end (comma i ++ decimal n) 21 out' end' → PutList R before at (take (i + 1) xs) out' end'
  items_again {before} {out} {out'} {at} {i} {end} {end'} x n h is r l p =
      let more : take (i + 1) xs ≡ take i xs ++ (x ∷ []) = take_more xs i x h ∙ ap (λ (y : X). take i xs ++ (y ∷ [])) (sym is) in
      let long : length (take i xs) ≡ i = length-take-le i xs (omega arith) in
      let same : length l.numbers ≡ length (take i xs) = AllZip-long R (take i xs) l.numbers l.are in
      record {
        numbers = l.numbers ++ (n ∷ []);
        are = rw more (zip_more R (take i xs) l.numbers x n l.are r);
        put = put_is (sym (listed_more 0 i l.numbers n (omega arith))) (put_within (puts l.put p) (simp (more, length-append) (omega arith)));
      }

  -- none is left
  pub items_done : {before out : List ℕ} {at i end : ℕ} → i ≡ length xs → PutList R before at (take i xs) out end → PutList R before at xs out end
  items_done {before} {out} {at} {i} {end} e l = subst (λ (ys : List X). PutList R before at ys out end) (ap (λ (k : ℕ). take k xs) e ∙ take-length xs) l

-- numbers put are their list
pub put_listed : {a b : List ℕ} {at end : ℕ} (ns : List ℕ) → PutList (λ (x y : ℕ). y ≡ x) a at ns b end → Put a at (listed 0 ns) (21 * length ns) b end
put_listed ns p = put_is (ap (listed 0) (each_same ns p.numbers p.are)) p.put

-- number i of a list is put
item_put : (ns : List ℕ) (i : ℕ) → i < length ns → listed i (drop i ns) ≡ comma i ++ decimal (get_or ns i 0) ++ listed (i + 1) (drop (i + 1) ns)
unfolding listed
item_put ns i h = rw (drop-cons ns i 0 h, add-one)

-- those put with those that are left are all: a turn keeps it
pub listed_again : (ns all : List ℕ) {out out' : List ℕ} {i end end' m : ℕ} → i < length ns → take end out ++ listed i (drop i ns) ≡ all
    → Put out end (comma i ++ decimal (get_or ns i 0)) m out' end' → take end' out' ++ listed (i + 1) (drop (i + 1) ns) ≡ all
listed_again ns all {i = i} h e p = rw (p.is, append_assoc, ← item_put ns i h) e
