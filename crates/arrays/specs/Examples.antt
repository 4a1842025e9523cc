-- The hypotheses can be met: a block of two pages, a page programmed on it, programs and erases cut; and an instance of each record.
use Rattle.std.proofs.Math.Path.{◌≡◌, ap}
use Rattle.std.specs.Prelude.{refl, true, false, List, [], ◌∷◌, ℕ, zero, suc, ◌<◌, replicate, pos, ◌<ℤ◌}
use Rattle.std.proofs.Common.{sym, ◌∙◌, inl, arith}
use Rattle.std.proofs.lemmas.List.{length-replicate}
use Rattle.std.specs.Int.Count.{ones, ones_in}
use Rattle.model.specs.Lists.{part, splice, same}
use Rattle.model.specs.Bytes.{all_ff, ands, ors, minus, zeros_of, zero_bits}
use Rattle.model.specs.Page.{class_of, torn_by, page_at, block_at, put_page, put_block, page_bytes, sealed, blank_at, whole_at, used_from}
use Rattle.model.specs.World.{program, erase, apply_op, due_bits, turned_bits, turn, cut_op, every_turned}
use Rattle.model.specs.Geometry.{geometry_ok}
use Rattle.model.specs.Zones.{used_in, clean_in}
use Rattle.model.specs.declared.Geometry.{Geometry}
use Rattle.model.specs.declared.Spare.{Spare}
use Rattle.model.specs.declared.Class.TheVariants.{Erased, Whole, Torn}
use Rattle.arrays.specs.Bytelist.{Bytes, bytes_replicate, ands_under}
use Rattle.arrays.specs.Pages.{Where, inside, away}
use Rattle.arrays.specs.Ranges.{InGeometry, geometry_in, InLengths}
use Rattle.arrays.specs.Image.{SpareFits}
use Rattle.arrays.specs.Arrays.{ProgramOk, Leans, image_ok, blank_leans, leans_apply, cut_struck, cut_same}
use Rattle.arrays.specs.Torn.{later_less}
use Rattle.arrays.specs.Scan.{Next, next_is}

-- ---- a device as small as document 01 (docs/PAPERS.md) admits
small : Geometry
small = record { blocks = 8; pages = 8; logical = 16; planes = 1 }

small_in : InGeometry small
unfolding small geometry_ok
small_in = geometry_in small refl

small_lengths : InLengths small (replicate 33792 255) (replicate 16 65535) (replicate 4096 0)
unfolding small
small_lengths = record { array = length-replicate {A = ℕ} 33792 255; map = length-replicate {A = ℕ} 16 65535; hold = length-replicate {A = ℕ} 4096 0 }

-- ---- a block of two pages
abbrev fresh : List ℕ
fresh = replicate 1056 255

spare : Spare
spare = record { lpn = 0; cnt = 1; id = 0; ver = 1; kind = 0; reserved = 0 }

spare_fits : SpareFits spare
unfolding spare
spare_fits = record { lpn = omega arith; cnt = omega arith; id = omega arith; ver = omega arith; kind = omega arith; reserved = omega arith }

-- every byte of data 10101010
image : List ℕ
unfolding spare
image = page_bytes (replicate 512 170) spare

ok : ProgramOk fresh 0 image
unfolding image spare all_ff blank_at page_at part
ok = image_ok fresh 0 (replicate 512 170) spare (omega arith) refl (length-replicate {A = ℕ} 512 170) (bytes_replicate 512 170 (omega arith)) spare_fits

fresh_bytes : Bytes fresh
fresh_bytes = bytes_replicate 1056 255 (omega arith)

fresh_leans : Leans fresh
unfolding blank_at all_ff page_at part
fresh_leans = blank_leans 2 fresh (length-replicate {A = ℕ} 1056 255) two
  where
    two : (j : ℕ) → j < 2 → blank_at fresh j ≡ true
    two zero h = refl
    two (suc zero) h = refl
    two (suc (suc n)) h = absurd (omega arith)

-- the page that is taken, and where it is
fresh_next : Next fresh 2 (0 ∷ [])
unfolding clean_in used_in used_from blank_at all_ff page_at part
fresh_next = next_is fresh 2 (0 ∷ []) (omega arith)

page_inside : Where 2 1 3
page_inside = inside 1 (omega arith) refl

page_away : Where 2 1 1
page_away = away (inl (omega arith))

-- ---- done
abbrev done : List ℕ
done = apply_op 2 (program 0 image) fresh

done_class : class_of (page_at done 0) ≡ Whole
unfolding image spare apply_op put_page splice ands class_of all_ff zero_bits ones ones_in page_bytes sealed page_at part
done_class = refl

done_used : used_in done 2 0 ≡ 1
unfolding image spare apply_op put_page splice ands all_ff used_in used_from zero_bits ones ones_in page_bytes sealed page_at part blank_at
done_used = refl

done_leans : Leans done
done_leans = leans_apply 2 (program 0 image) fresh ok fresh_leans

-- ---- cut: the last due bit of the first byte is not let
one_left : class_of (page_at (cut_op 2 (program 0 image) (84 ∷ []) fresh) 0) ≡ Torn (pos 1)
unfolding image spare cut_op turn turned_bits due_bits put_page splice minus ands class_of torn_by all_ff zero_bits ones ones_in page_bytes sealed page_at part
one_left = refl

-- with that bit turned too it is whole, and torn by less
none_left : class_of (page_at (cut_op 2 (program 0 image) [] fresh) 0) ≡ Whole
unfolding image spare cut_op turn turned_bits due_bits put_page splice minus ands class_of all_ff zero_bits ones ones_in page_bytes sealed page_at part
none_left = refl

every_bit_law : turned_bits 2 (program 0 image) [] fresh ≡ due_bits 2 (program 0 image) fresh
unfolding image spare turned_bits due_bits minus ands zero_bits ones ones_in page_bytes sealed page_at part
every_bit_law = refl

one_left_more : torn_by (page_at (cut_op 2 (program 0 image) [] fresh) 0) <ℤ torn_by (page_at (cut_op 2 (program 0 image) (84 ∷ []) fresh) 0)
one_left_more =
    later_less 2 fresh 0 image ok.fits fresh_bytes (84 ∷ []) []
    (rw every_bit_law (unfold turned_bits in ands_under (due_bits 2 (program 0 image) fresh) (84 ∷ [])))
    (λ e. differ (sym one_left ∙ ap class_of e ∙ none_left))
  where
    differ : Torn (pos 1) ≡ Whole → ⊥
    differ e = let z : ◌≡◌ {A = ℕ} 0 1 = cc in absurd (omega arith)

one_left_told : every_turned (due_bits 2 (program 0 image) fresh) (turned_bits 2 (program 0 image) (84 ∷ []) fresh) ≡ false
unfolding image spare every_turned same turned_bits due_bits minus ands zero_bits ones ones_in page_bytes sealed page_at part
one_left_told = refl

one_left_same : (j : ℕ) → whole_at (cut_op 2 (program 0 image) (84 ∷ []) fresh) j ≡ true → page_at (cut_op 2 (program 0 image) (84 ∷ []) fresh) j ≡ page_at fresh j
one_left_same = cut_same 2 (program 0 image) (84 ∷ []) fresh fresh_bytes ok fresh_leans one_left_told

-- a bit that is not due is not let: every due bit is turned
all_let_told : every_turned (due_bits 2 (program 0 image) fresh) (turned_bits 2 (program 0 image) (85 ∷ []) fresh) ≡ true
unfolding image spare every_turned same turned_bits due_bits minus ands zero_bits ones ones_in page_bytes sealed page_at part
all_let_told = refl

all_let_done : cut_op 2 (program 0 image) (85 ∷ []) fresh ≡ done
all_let_done = cut_struck 2 (program 0 image) (85 ∷ []) fresh fresh_bytes ok all_let_told

-- ---- an erase cut: no bit of the page let, it is as it was; all but those of one byte, it is torn
none_let : class_of (page_at (cut_op 2 (erase 0) (replicate 528 0) done) 0) ≡ Whole
unfolding image spare apply_op cut_op turn turned_bits due_bits put_page put_block block_at splice zeros_of ors ands class_of all_ff zero_bits ones ones_in page_bytes sealed page_at part
none_let = refl

byte_left : class_of (page_at (cut_op 2 (erase 0) (0 ∷ []) done) 0) ≡ Torn (pos 65531)
unfolding image spare apply_op cut_op turn turned_bits due_bits put_page put_block block_at splice zeros_of ors ands class_of torn_by all_ff zero_bits ones ones_in page_bytes sealed page_at part
byte_left = refl

all_erased : class_of (page_at (cut_op 2 (erase 0) [] done) 0) ≡ Erased
unfolding image spare apply_op cut_op turn turned_bits due_bits put_page put_block block_at splice zeros_of ors ands class_of all_ff zero_bits ones ones_in page_bytes sealed page_at part
all_erased = refl
