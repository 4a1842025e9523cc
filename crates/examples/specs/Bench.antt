-- The starred bench cases of document 01 (docs/PAPERS.md) as one table: a row is a case, its input and what document 01 says of it; one theorem
-- says that every row holds.
use Rattle.std.specs.Prelude.{ℕ, ◌-◌, ◌*◌, ◌≡◌, refl, cond, false, List, [], ◌∷◌, ◌++◌, drop, set, replicate}
use Rattle.std.proofs.Common.{ap, ◌∙◌}
use Rattle.model.specs.Lists.{count, pad_to}
use Rattle.model.specs.Bytes.{le16}
use Rattle.model.specs.Page.{class_of, class_number, page_bytes}
use Rattle.model.specs.Geometry.{geometry_ok}
use Rattle.model.specs.Zones.{Entry, zones_of}
use Rattle.model.specs.Recovery.{committed, applied}
use Rattle.model.specs.World.{World}
use Rattle.model.specs.Frame.{free_place}
use Rattle.model.specs.Commands.{Call, format, write, plan}
use Rattle.model.specs.declared.Geometry.{Geometry}
use Rattle.model.specs.declared.Spare.{Spare}
use Rattle.model.specs.declared.Plane.TheVariants.{Neither}
use Rattle.model.specs.declared.Work.TheVariants.{Idle}
use Rattle.examples.specs.Unfolded.{go}
use Rattle.examples.specs.Orders.{lent, format_answers}

-- ---- inputs, and what the rules give for each
-- a page's data and spare area, of which the spare bytes or Zeros are asked; a page, of which the class is asked (0 erased, 1 whole, 2 torn); the whole pages of a scan, of
-- which the number of marks that commit is asked; a checkpoint's last version with a scan, of which the versions applied are asked;
-- a call on a world, of which the answer is asked
pub data Input : Type 0 where
  spare_bytes_of : List ℕ → Spare → Input
  zeros_of : List ℕ → Spare → Input
  classed : List ℕ → Input
  scanned : List Entry → Input
  redone : ℕ → List Entry → Input
  asked : Call → World → Input

abbrev pub versions : List Entry → List ℕ
versions [] = []
versions (e ∷ es) = e.ver ∷ versions es

unfoldable pub gives : Input → List ℕ
unfolding go
gives (spare_bytes_of d s) = drop 512 (page_bytes d s)
gives (zeros_of d s) = le16 (page_bytes d s) 526 ∷ []
gives (classed p) = class_number (class_of p) ∷ []
gives (scanned es) = count (committed es) es ∷ []
gives (redone floor es) = versions (applied 1 floor es)
gives (asked c w) = (plan c w).answer ∷ []

-- ---- the inputs of the table
-- "LPN 0, TxCnt 1, TxID 0, TxVer 1"
abbrev pub spare1 : Spare
spare1 = record { lpn = 0; cnt = 1; id = 0; ver = 1; kind = 0; reserved = 0 }

unfoldable pub page1 : List ℕ
unfolding go
page1 = page_bytes (replicate 512 0xFF) spare1

-- a page of transaction 5 with this TxCnt and TxVer, and a lone write of this TxVer
abbrev pub of5 : ℕ → ℕ → Entry
of5 c v = record { ppn = 16; lpn = 0; cnt = c; id = 5; ver = v; kind = 0; reserved = 0 }

abbrev pub lone : ℕ → Entry
lone v = record { ppn = 16; lpn = 0; cnt = 1; id = 0; ver = v; kind = 0; reserved = 0 }

-- 8 blocks of 8 pages on one plane, a held page in place 0, the first n of the 24 available pages written
unfoldable pub filled : ℕ → World
unfolding go
filled n =
    record {
      array = replicate (16 * 528) 255 ++ (replicate (n * 528) 0 ++ replicate ((48 - n) * 528) 255);
      map = replicate 16 0xFFFF;
      hold = replicate 4096 0;
      state = record {
        geometry = record { blocks = 8; pages = 8; logical = 16; planes = 1 };
        zones = zones_of (2 ∷ 3 ∷ 4 ∷ []) [] (5 ∷ 6 ∷ 7 ∷ []) 5;
        version = 0;
        checkpoint = 1;
        front = 0;
        first = 0;
        work = Idle;
        last = Neither;
        places = record { id = 5; count = 1; lpns = pad_to 64 (3 ∷ []); ppns = replicate 64 0; drops = replicate 64 false } ∷ replicate 7 free_place;
      };
    }

-- b blocks of 8 pages on one plane
abbrev pub blocks_of : ℕ → Geometry
blocks_of b = record { blocks = b; pages = 8; logical = 8; planes = 1 }

-- ---- the table
pub data Case : Type 0 where
  a : Case
  b : Case
  c : Case
  d : Case
  e : Case
  f : Case
  g : Case
  h : Case
  i : Case
  j : Case
  k : Case

pub record Row : Type 0 where
  pub case : Case
  pub input : Input
  pub says : List ℕ

abbrev pub Holds : Row → Type 0
Holds r = gives r.input ≡ r.says

abbrev pub Every : List Row → Type 0
Every [] = Unit {0}
Every (r ∷ rs) = Holds r × Every rs

abbrev pub page_rows : List Row
page_rows =
    record {
      case = a;
      input = spare_bytes_of (replicate 512 0xFF) spare1;
      says = 0x00 ∷ 0x00 ∷ 0x01 ∷ 0x00 ∷ 0x00 ∷ 0x00 ∷ 0x00 ∷ 0x00 ∷ 0x01 ∷ 0x00 ∷ 0x00 ∷ 0x00 ∷ 0x00 ∷ 0x00 ∷ 0x6E ∷ 0x00 ∷ [];
    }
    ∷ record { case = a; input = zeros_of (replicate 512 0xFF) spare1; says = 110 ∷ [] }
    ∷ record { case = a; input = classed page1; says = 1 ∷ [] }
    ∷ record { case = b; input = classed (set page1 520 0xFF); says = 2 ∷ [] }
    ∷ record { case = c; input = zeros_of (replicate 512 0) spare1; says = 4206 ∷ [] }
    ∷ record { case = d; input = classed (replicate 528 0xFF); says = 0 ∷ [] }
    ∷ []

abbrev pub scan_rows : List Row
scan_rows =
    record { case = e; input = scanned (of5 0 0 ∷ of5 0 0 ∷ of5 3 7 ∷ []); says = 1 ∷ [] }
    ∷ record { case = f; input = scanned (of5 0 0 ∷ of5 0 0 ∷ []); says = 0 ∷ [] }
    ∷ record { case = g; input = scanned (of5 0 0 ∷ of5 3 7 ∷ []); says = 0 ∷ [] }
    ∷ record { case = h; input = scanned (of5 0 0 ∷ of5 0 0 ∷ of5 3 7 ∷ of5 0 0 ∷ of5 0 0 ∷ []); says = 0 ∷ [] }
    ∷ record { case = i; input = redone 9 (lone 9 ∷ lone 10 ∷ []); says = 10 ∷ [] }
    ∷ []

abbrev pub call_rows : List Row
call_rows =
    record { case = j; input = asked (write 5 4 (replicate 512 1)) (filled 15); says = 0 ∷ [] }
    ∷ record { case = j; input = asked (write 5 4 (replicate 512 1)) (filled 16); says = 12 ∷ [] }
    ∷ []

abbrev pub format_rows : List Row
format_rows =
    record { case = k; input = asked (format (blocks_of 7)) (lent (blocks_of 7)); says = 1 ∷ [] }
    ∷ record { case = k; input = asked (format (blocks_of 8)) (lent (blocks_of 8)); says = 255 ∷ [] }
    ∷ record { case = k; input = asked (format (blocks_of 128)) (lent (blocks_of 128)); says = 255 ∷ [] }
    ∷ record { case = k; input = asked (format (blocks_of 129)) (lent (blocks_of 129)); says = 1 ∷ [] }
    ∷ []

-- ---- every row holds
page_rows_law : Every page_rows
unfolding gives page1
page_rows_law = (refl, (refl, (refl, (refl, (refl, (refl, tt))))))

scan_rows_law : Every scan_rows
unfolding gives
scan_rows_law = (refl, (refl, (refl, (refl, (refl, tt)))))

call_rows_law : Every call_rows
unfolding gives filled
call_rows_law = (refl, (refl, tt))

-- the answer of a call is what its row gives
asked_answer : (x : Call) (w : World) (n : ℕ) → (plan x w).answer ≡ n → gives (asked x w) ≡ n ∷ []
unfolding gives
asked_answer x w n s = ap (λ (m : ℕ). m ∷ []) s

format_row : (n m : ℕ) → cond (geometry_ok (blocks_of n)) 255 1 ≡ m → gives (asked (format (blocks_of n)) (lent (blocks_of n))) ≡ m ∷ []
format_row n m s = asked_answer (format (blocks_of n)) (lent (blocks_of n)) m (format_answers (blocks_of n) ∙ s)

format_rows_law : Every format_rows
unfolding geometry_ok
format_rows_law = (format_row 7 1 refl, (format_row 8 255 refl, (format_row 128 255 refl, (format_row 129 1 refl, tt))))

every_append : (rs ss : List Row) → Every rs → Every ss → Every (rs ++ ss)
every_append [] ss x y = y
every_append (r ∷ rs) ss x y = (x.0, every_append rs ss x.1 y)

abbrev pub table : List Row
table = page_rows ++ (scan_rows ++ (call_rows ++ format_rows))

pub starred : Every table
starred =
    every_append page_rows (scan_rows ++ (call_rows ++ format_rows)) page_rows_law
    (every_append scan_rows (call_rows ++ format_rows) scan_rows_law (every_append call_rows format_rows call_rows_law format_rows_law))
