-- Refusal 4, the commit rule, and what is applied by rising version.
use Rattle.std.specs.Prelude.{ℕ, zero, suc, ◌+◌, ◌-◌, max, Bool, not, cond, ◌&&◌, ◌||◌, List, [], ◌∷◌, ◌++◌, length, ltb, leb, eqb}
use Rattle.model.specs.Lists.{all, all_heads, keep, those}
use Rattle.model.specs.Geometry.{enter_page, leads}
use Rattle.model.specs.Zones.{Entry}

-- ---- refusal 4: "a scanned whole page"
-- "a page with nonzero TxCnt is its mark"
abbrev pub is_mark : Entry → Bool
is_mark e = not (eqb e.cnt 0)

-- of a mark: neither "second mark of one nonzero TxID" nor "TxVer above 0 repeated"
unfoldable pub mark_new : List Entry → Entry → Bool
mark_new seen e =
    all (λ (x : Entry). not (eqb x.ver e.ver)) seen
    && (eqb e.id 0 || all (λ (x : Entry). not (is_mark x && eqb x.id e.id)) seen)

-- Kind 0, a write, and, as it "now lets Kind 3 pass", a drop
abbrev pub kind_good : ℕ → Bool
kind_good kind = eqb kind 0 || eqb kind 3

-- Reserved: 0, but on two planes the write number of a page of a nonzero TxID, for which refusal 4 "covers a zero, a value above 41 or a repeat"
unfoldable pub number_good : ℕ → List Entry → Entry → Bool
number_good planes seen e =
    let new = all (λ (x : Entry). not (eqb x.id e.id && eqb x.reserved e.reserved)) seen in
    cond (eqb planes 2 && not (eqb e.id 0)) (leb 1 e.reserved && (leb e.reserved 41 && new)) (eqb e.reserved 0)

-- none of: "Kind or Reserved not 0; LPN ≥ L; only one of TxCnt, TxVer zero; TxID or TxVer 0xFFFFFFFF; TxID 0 with TxCnt not 1"
unfoldable pub entry_good : ℕ → ℕ → List Entry → Entry → Bool
entry_good planes logical seen e =
    kind_good e.kind
    && (number_good planes seen e
    && (ltb e.lpn logical
    && (not (eqb e.id 4294967295)
    && (not (eqb e.ver 4294967295)
    && ((not (eqb e.id 0) || eqb e.cnt 1)
    && cond (is_mark e) (not (eqb e.ver 0) && mark_new seen e) (eqb e.ver 0))))))

-- every scanned page passes with those before it
unfoldable pub pages_good : ℕ → ℕ → List Entry → Bool
pages_good planes logical es = all_heads (entry_good planes logical) [] es

-- ---- the commit rule
-- the entries of an identifier, in scan order
unfoldable pub of_id : ℕ → List Entry → List Entry
of_id i es = those (λ (e : Entry). eqb e.id i) es

-- the whole pages of the transaction that page e is of: "Each TxID 0 page is a transaction by itself"
unfoldable pub pages_of : List Entry → Entry → List Entry
pages_of es e = cond (eqb e.id 0) (e ∷ []) (of_id e.id es)

-- "committed if a whole page of it in scan order has TxCnt equal to the number of its whole pages there": e is that page
unfoldable pub committed : List Entry → Entry → Bool
committed es e = is_mark e && eqb e.cnt (length (pages_of es e))

-- ---- what is applied: "by rising TxVer, the pages of one in scan order"; on two planes by their write number
-- the entries numbered 0 to n, in turn
unfoldable pub by_number : ℕ → List Entry → List Entry
by_number zero es = those (λ (e : Entry). eqb e.reserved 0) es
by_number (suc n) es = by_number n es ++ those (λ (e : Entry). eqb e.reserved (suc n)) es

-- the pages of a transaction in the order in which they are applied: "the higher one holds"
unfoldable pub in_turn : ℕ → List Entry → List Entry
in_turn planes es = cond (eqb planes 2) (by_number 41 es) es

-- the pages of the committed transactions of version v whose marks stand in ys
unfoldable pub txns_in : ℕ → List Entry → ℕ → List Entry → List Entry
txns_in planes es v [] = []
txns_in planes es v (y ∷ ys) = keep (eqb y.ver v && committed es y) (in_turn planes (pages_of es y)) ++ txns_in planes es v ys

-- the versions floor + 1 .. floor + k, in turn
unfoldable pub span : ℕ → List Entry → ℕ → ℕ → List Entry
span planes es floor zero = []
span planes es floor (suc k) = span planes es floor k ++ txns_in planes es (floor + suc k) es

-- the highest version
unfoldable pub top : List Entry → ℕ
top [] = 0
top (e ∷ es) = max e.ver (top es)

-- "Committed ones with TxVer above the checkpoint's last version", up to the highest
unfoldable pub applied : ℕ → ℕ → List Entry → List Entry
applied planes floor es = span planes es floor (top es - floor)

-- whether a page drops its logical page, and what it leaves in the map
abbrev pub is_drop : Entry → Bool
is_drop e = eqb e.kind 3

abbrev pub leads_to : Entry → ℕ
leads_to e = leads (is_drop e) e.ppn

-- the map with these pages entered in turn
unfoldable pub enter : List ℕ → List Entry → List ℕ
enter m [] = m
enter m (e ∷ es) = enter (enter_page m e.lpn (leads_to e)) es

-- the checkpoint's map with the applied pages entered
unfoldable pub redone : ℕ → ℕ → List Entry → List ℕ → List ℕ
redone planes floor es m = enter m (applied planes floor es)
