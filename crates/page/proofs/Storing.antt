-- What the stores of `put_spare` leave, and those of `program`, one after the other: the data, the spare area, Zeros. Assumes nothing.
use mathlib.Core.Path.{◌≡◌, refl, sym, ap, ◌∙◌}
use mathlib.Core.List.{List, [], ◌∷◌, ◌++◌, append_assoc, append-nil}
use Prim.Native.Nat.{ℕ, ◌+◌, ◌*◌, ◌/◌, ◌%◌, ◌≤◌, ◌<◌}
use native.Mathlib.Omega.{arith}
use lib.ListN.{length, take, drop, length-drop, length-append, drop_of_length-le}
use lib.Seq.{take_at, drop-drop, drop-append-add, sets, sets-eq}
use borrow.Rule.Slice.PartMut.{put_mid}
use Rattle.std.specs.Int.{w32, w64, to_le_bytes}
use Rattle.model.specs.Bytes.{zero_bits, bytes16, bytes32}
use Rattle.model.specs.Page.{spare_bytes, sealed}
use Rattle.model.specs.declared.Spare.{Spare}
use Rattle.page.specs.Words.{bytes64}

-- ---- numbers, low byte first
-- what is written over the part of a list from place i on is stored there
pub stored : (vs l : List ℕ) (i k : ℕ) → length vs ≡ k → i + k ≤ length l → put_mid i k l vs ≡ sets l i vs
stored vs l i k e h =
    let f : i + length vs ≤ length l = omega arith in
    rw (drop-drop, ← e, ← append_assoc) (sym (sets-eq vs l i f))

pub bytes_4 : (x : ℕ) → x < 4294967296 → to_le_bytes w32 x ≡ bytes32 x
bytes_4 x h = let e : x / 16777216 % 256 ≡ x / 16777216 = omega arith in rw e

pub bytes_8 : (x : ℕ) → x < 18446744073709551616 → to_le_bytes w64 x ≡ bytes64 x
bytes_8 x h =
    let low = x % 4294967296 in
    let high = x / 4294967296 in
    let e : (low % 256 ≡ x % 256) × (low / 256 % 256 ≡ x / 256 % 256) × (low / 65536 % 256 ≡ x / 65536 % 256) × (low / 16777216 ≡ x / 16777216 % 256) =
    (omega arith, omega arith, omega arith, omega arith) in
    let f : (high / 256 % 256 ≡ x / 1099511627776 % 256) × (high / 65536 % 256 ≡ x / 281474976710656 % 256) × (high / 16777216 ≡ x / 72057594037927936 % 256) =
    (omega arith, omega arith, omega arith) in
    rw (e.0, e.1, e.2, e.3, f.0, f.1, f.2)

-- ---- the spare area before Zeros in words: LPN, TxCnt and TxID; TxVer; Kind and Reserved
halves : (l c : ℕ) → l < 65536 → bytes32 (l + 65536 * c) ≡ bytes16 l ++ bytes16 c
halves l c h =
    let x = l + 65536 * c in
    let e : (x % 256 ≡ l % 256) × (x / 256 % 256 ≡ l / 256) × (x / 65536 % 256 ≡ c % 256) × (x / 16777216 ≡ c / 256) =
    (omega arith, omega arith, omega arith, omega arith) in
    rw (e.0, e.1, e.2, e.3)

first_word : (l c i : ℕ) → l < 65536 → c < 65536 → bytes64 (l + 65536 * c + 4294967296 * i) ≡ bytes16 l ++ (bytes16 c ++ bytes32 i)
first_word l c i hl hc =
    let x = l + 65536 * c + 4294967296 * i in
    let e : (x % 4294967296 ≡ l + 65536 * c) × (x / 4294967296 ≡ i) = (omega arith, omega arith) in
    rw (e.0, e.1) (ap (λ t. t ++ bytes32 i) (halves l c hl))

last_word : (k r : ℕ) → k < 256 → bytes16 (k + 256 * r) ≡ k ∷ r ∷ []
last_word k r hk =
    let low : (k + 256 * r) % 256 ≡ k = omega arith in
    let high : (k + 256 * r) / 256 ≡ r = omega arith in
    rw (low, high)

-- p₁, p₂ and p₃ after each of them
pub three_words : (s : Spare) (p p₁ p₂ p₃ : List ℕ) → s.lpn < 65536 → s.cnt < 65536 → s.kind < 256
    → p₁ ≡ sets p 512 (bytes64 (s.lpn + 65536 * s.cnt + 4294967296 * s.id)) → p₂ ≡ sets p₁ 520 (bytes32 s.ver)
    → p₃ ≡ sets p₂ 524 (bytes16 (s.kind + 256 * s.reserved)) → p₃ ≡ sets p 512 (spare_bytes s)
three_words s p p₁ p₂ p₃ hl hc hk e₁ e₂ e₃ =
    let f₁ : p₁ ≡ sets p 512 (bytes16 s.lpn ++ (bytes16 s.cnt ++ bytes32 s.id)) = e₁ ∙ ap (sets p 512) (first_word s.lpn s.cnt s.id hl hc) in
    let f₂ : p₂ ≡ sets p 512 (bytes16 s.lpn ++ (bytes16 s.cnt ++ (bytes32 s.id ++ bytes32 s.ver))) = e₂ ∙ ap (λ q. sets q 520 (bytes32 s.ver)) f₁ in
    e₃ ∙ ap (sets p₂ 524) (last_word s.kind s.reserved hk) ∙ ap (λ q. sets q 524 (s.kind ∷ s.reserved ∷ [])) f₂

-- ---- the page
-- a run of stores at the seam of two lists
sets_at : (a b vs : List ℕ) (n : ℕ) → length a ≡ n → length vs ≤ length b → sets (a ++ b) n vs ≡ a ++ (vs ++ drop (length vs) b)
sets_at a b vs n e h =
    let fits : n + length vs ≤ length (a ++ b) = simp length-append (omega arith) in
    sets-eq vs (a ++ b) n fits ∙ rw (take_at a b n e, ← e, drop-append-add, append_assoc)

-- the page p before, data d, and as spare area any 14 bytes v: written out, it would hide the appends
module _ (d p v : List ℕ) (hd : length d ≡ 512) (hp : length p ≡ 528) (hv : length v ≡ 14) where
  spared : sets (d ++ drop 512 p) 512 v ≡ (d ++ v) ++ drop (length v) (drop 512 p)
  spared =
      rw (sets_at d (drop 512 p) v 512 hd (simp length-drop (omega arith)), append_assoc)

  length_body : length (d ++ v) ≡ 526
  length_body = simp length-append (omega arith)

  counted : take 526 (sets (d ++ drop 512 p) 512 v) ≡ d ++ v
  counted = rw spared (take_at (d ++ v) (drop (length v) (drop 512 p)) 526 length_body)

  closed : (w : List ℕ) → length w ≡ 2 → sets (sets (d ++ drop 512 p) 512 v) 526 w ≡ (d ++ v) ++ w
  closed w hw =
      let e : length (drop (length v) (drop 512 p)) ≡ 2 = simp length-drop (omega arith) in
      let l : length (drop (length v) (drop 512 p)) ≤ length w = omega arith in
      rw (spared, sets_at (d ++ v) (drop (length v) (drop 512 p)) w 526 length_body (omega arith), drop_of_length-le (drop (length v) (drop 512 p)) l, append-nil)

  -- p₁ after the data, p₂ after the spare area, z the count, p₃ at the end
  pub steps : (p₁ p₂ p₃ : List ℕ) (z : ℕ) → p₁ ≡ d ++ drop 512 p → p₂ ≡ sets p₁ 512 v → z ≡ zero_bits (take 526 p₂) → p₃ ≡ sets p₂ 526 (bytes16 z) → p₃ ≡ sealed (d ++ v)
  unfolding sealed
  steps p₁ p₂ p₃ z e₁ e₂ ez e₃ =
      let f₂ : p₂ ≡ sets (d ++ drop 512 p) 512 v = e₂ ∙ ap (λ l. sets l 512 v) e₁ in
      let fz : z ≡ zero_bits (d ++ v) = ez ∙ ap (λ l. zero_bits (take 526 l)) f₂ ∙ ap zero_bits counted in
      e₃ ∙ ap (λ l. sets l 526 (bytes16 z)) f₂ ∙ closed (bytes16 z) refl ∙ ap (λ k. (d ++ v) ++ bytes16 k) fz
