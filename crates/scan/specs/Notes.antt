-- What a visit notes of each page, and what it has met of all.
use Rattle.std.specs.Prelude.{ℕ, ◌+◌, Bool, true, false, not, cond, ◌&&◌, ◌||◌, List, [], ◌∷◌, ◌++◌, eqb, ltb, leb}
use Rattle.model.specs.Lists.{keep, those}
use Rattle.model.specs.Page.{is_whole, page_at}
use Rattle.model.specs.Recovery.{kind_good}
use Rattle.model.specs.declared.Spare.{Spare}
use Rattle.table.specs.declared.Looked.{Looked}
use Rattle.table.specs.Looking.{look_of}
use Rattle.scan.specs.declared.Note.{Note}
use Rattle.scan.specs.declared.Note.TheVariants.{NotWhole, OfChange, Mark, Lone}
use Rattle.scan.specs.declared.Wanted.{Wanted}
use Rattle.scan.specs.declared.Wanted.TheVariants.{Changes, Marks, Versions, Singles}
use Rattle.scan.specs.declared.Seen.{Seen}

-- the note of a page
unfoldable pub note_of : Looked → Note
note_of l = cond (is_whole l.class) (cond (eqb l.spare.id 0) Lone (cond (eqb l.spare.cnt 0) OfChange Mark)) NotWhole

-- of page k
unfoldable pub note_at : List ℕ → ℕ → Note
note_at xs k = note_of (look_of (page_at xs k))

-- of some pages
unfoldable pub notes_of : List ℕ → List ℕ → List Note
notes_of xs [] = []
notes_of xs (k ∷ ks) = note_at xs k ∷ notes_of xs ks

-- whether pages of a note are wanted
unfoldable pub wants : Wanted → Note → Bool
wants Changes NotWhole = false
wants Changes OfChange = true
wants Changes Mark = true
wants Changes Lone = false
wants Marks NotWhole = false
wants Marks OfChange = false
wants Marks Mark = true
wants Marks Lone = false
wants Versions NotWhole = false
wants Versions OfChange = false
wants Versions Mark = true
wants Versions Lone = true
wants Singles NotWhole = false
wants Singles OfChange = false
wants Singles Mark = false
wants Singles Lone = true

-- the pages of the list whose notes, in the other one, are wanted
unfoldable pub picked : Wanted → List ℕ → List Note → List ℕ
picked w [] ts = []
picked w (k ∷ ks) [] = []
picked w (k ∷ ks) (t ∷ ts) = keep (wants w t) (k ∷ []) ++ picked w ks ts

-- the wanted pages of the list
unfoldable pub noted : List ℕ → Wanted → List ℕ → List ℕ
noted xs w ks = those (λ (k : ℕ). wants w (note_at xs k)) ks

-- refusal 4 of a spare area by itself: what it says of a page without those before it.
-- "only one of TxCnt, TxVer zero"; "TxID 0 with TxCnt not 1"
unfoldable pub numbers_good : Spare → Bool
numbers_good e = (not (eqb e.id 0) || eqb e.cnt 1) && cond (eqb e.cnt 0) (eqb e.ver 0) (not (eqb e.ver 0))

-- Reserved: the write number of a page of a change on two planes, not "a zero" and not "a value above 41", else 0
unfoldable pub number_fine : ℕ → Spare → Bool
number_fine planes e = cond (eqb planes 2 && not (eqb e.id 0)) (leb 1 e.reserved && leb e.reserved 41) (eqb e.reserved 0)

-- "Kind or Reserved not 0; LPN ≥ L; .. TxID or TxVer 0xFFFFFFFF"
unfoldable pub spare_good : ℕ → ℕ → Spare → Bool
spare_good planes logical e =
    kind_good e.kind
    && (number_fine planes e
    && (ltb e.lpn logical
    && (not (eqb e.id 4294967295)
    && (not (eqb e.ver 4294967295)
    && numbers_good e))))

-- what was met, with one more version of a mark: the highest so far, and whether they rise
unfoldable pub risen : Seen → ℕ → Seen
risen m v =
    cond (ltb m.top v)
    (record { good = m.good; top = v; rising = m.rising; changes = m.changes })
    (record { good = m.good; top = m.top; rising = false; changes = m.changes })

-- with one more page of a change
unfoldable pub counted : Seen → ℕ → Seen
counted m id = cond (eqb id 0) m (record { good = m.good; top = m.top; rising = m.rising; changes = m.changes + 1 })

-- with one more page
unfoldable pub met : ℕ → ℕ → Seen → Looked → Seen
met planes logical m l =
    cond (is_whole l.class)
    (cond (spare_good planes logical l.spare)
    (cond (eqb l.spare.cnt 0) (counted m l.spare.id) (risen (counted m l.spare.id) l.spare.ver))
    (record { good = false; top = m.top; rising = m.rising; changes = m.changes }))
    m

-- with these pages, one after the other
unfoldable pub met_all : ℕ → ℕ → List ℕ → List ℕ → Seen → Seen
met_all planes logical xs [] m = m
met_all planes logical xs (k ∷ ks) m = met_all planes logical xs ks (met planes logical m (look_of (page_at xs k)))

-- before any page
abbrev pub start : Seen
start = record { good = true; top = 0; rising = true; changes = 0 }
