-- The test of a place's drops by a fold, that of all places with one more looked at, and that of the bytes by its parts. Assumes nothing.
use Rattle.std.proofs.Common.{◌≡◌, sym, ◌∙◌, ℕ, ◌+◌, ◌*◌, add-one, Bool, true, false, ◌&&◌, List, [], ◌∷◌, length, get_or, ltb}
use borrow.Author.Tests.{eq-eqb, ne_eqb}
use lib.Dec.{leb}
use mathlib.Core.Bool.{and-true, and_assoc}
use Rattle.std.specs.List.{fold}
use Rattle.model.specs.Lists.{all, part}
use Rattle.model.specs.Bytes.{le16}
use Rattle.encoding.specs.Encoding.{drop_coded, drops_coded, work_coded, places_coded, encodes}

-- a test of each, from the first on
fold_test : (p : ℕ → Bool) (t : Bool) (xs : List ℕ) → fold (λ (a : Bool) (x : ℕ). a && p x) t xs ≡ (t && all p xs)
unfolding all
fold_test p t [] = sym (and-true t)
fold_test p t (x ∷ xs) = fold_test p (t && p x) xs ∙ and_assoc t (p x) (all p xs)

pub fold_all : (xs : List ℕ) → fold (λ (a : Bool) (x : ℕ). a && ltb x 2) true xs ≡ drops_coded xs
unfolding drops_coded
fold_all xs = fold_test drop_coded true xs

-- one more place
pub places_more : (xs : List ℕ) (i : ℕ) (t d : Bool) → t ≡ places_coded xs i → d ≡ drops_coded (part (281 + 325 * i + 261) 64 xs) → (t && d) ≡ places_coded xs (i + 1)
unfolding places_coded
places_more xs i t d e f = rw (add-one, e, f)

-- ---- whether bytes encode a state, by the first test that fails
pub not_long : (xs : List ℕ) → (length xs ≡ 2881 → ⊥) → encodes xs ≡ false
unfolding encodes
not_long xs h = rw (ne_eqb _ _ h)

pub no_work : (xs : List ℕ) → length xs ≡ 2881 → work_coded (get_or xs 277 0) (le16 xs 278) ≡ false → encodes xs ≡ false
unfolding encodes
no_work xs h w = rw (eq-eqb _ _ h, w)

pub no_plane : (xs : List ℕ) → length xs ≡ 2881 → work_coded (get_or xs 277 0) (le16 xs 278) ≡ true → leb (get_or xs 280 0) 2 ≡ false → encodes xs ≡ false
unfolding encodes
no_plane xs h w p = rw (eq-eqb _ _ h, w, p)

pub by_places : (xs : List ℕ) → length xs ≡ 2881 → work_coded (get_or xs 277 0) (le16 xs 278) ≡ true → leb (get_or xs 280 0) 2 ≡ true → encodes xs ≡ places_coded xs 8
unfolding encodes
by_places xs h w p = rw (eq-eqb _ _ h, w, p)
