-- A change of the array that spares the listed blocks and the mapped pages, in a front block or a checkpointed one: zones, scan, contents and
-- open changes are as they were.
use Rattle.std.specs.Prelude.{◌≡◌, ◌⊎◌, ◌≢◌, Bool, true, false, ℕ, zero, suc, ◌+◌, ◌-◌, ◌*◌, ◌≤◌, ◌<◌, List, [], ◌∷◌, ◌++◌, length, get_or}
use Rattle.std.proofs.Common.{sym, ap, ◌∙◌, subst, inl, inr, arith, mul-le-mul_right}
use Rattle.std.proofs.Math.Dec.{eqb}
use Rattle.model.specs.Page.{page_at, whole_at}
use Rattle.model.specs.Geometry.{unmapped, data_block}
use Rattle.model.specs.Zones.{Entry, entry_of, entry_at, whole_from, scan_in, scan_of, available_of, unavailable_of, free_of, zones_ok}
use Rattle.model.specs.Recovery.{of_id}
use Rattle.model.specs.Book.{Book, Write, Content}
use Rattle.model.specs.declared.Geometry.{Geometry}
use Rattle.model.specs.declared.Place.{Place}
use Rattle.model.specs.declared.Zones.{Zones}
use Rattle.arrays.specs.Tests.{Is, eqb_cases, decide}
use Rattle.arrays.specs.Bytelist.{Bytes}
use Rattle.arrays.specs.Pages.{SamePages, OtherBlock, Outside, whole_same, data_same}
use Rattle.arrays.specs.Ranges.{block_least, page_least}
use Rattle.arrays.specs.Arrays.{Leans}
use Rattle.arrays.specs.Scan.{SameBlocks, each_map, each_append, entry_whole, entry_none, blank_stays}
use Rattle.front.specs.Blocks.{SameData}
use Rattle.front.specs.Written.{Saved}
use Rattle.front.specs.Front.{Front}
use Rattle.ranks.specs.Dealt as dealt
use Rattle.ranks.specs.Entries.{Entries, entries_parts}
use Rattle.ranks.specs.InTurn.{entries_turn}
use Rattle.scanlog.specs.Occ.{occ}
use Rattle.scanlog.specs.Shape.{Unlisted, listed_block}
use Rattle.scanlog.specs.Order.{each_sub, is_each, away, order_stays}
use Rattle.scanlog.specs.Open.{Open, Opens, open_entry, laid}
use Rattle.scanlog.specs.Tidy.{Tidy, scan_of_same}
use Rattle.scanlog.specs.Free.{Grown}
use Rattle.sequence.specs.Maps.{MapGood}
use Rattle.sequence.specs.Contents.{Contents, content_of, contents_keep}
use Rattle.sequence.specs.Places.{place_at}
use Rattle.sequence.specs.Writes.{Writes}
use Rattle.sequence.specs.Sound.{Sound}
use Rattle.sequence.specs.Live.{Changing}

-- ---- definitions
pub record Spared (g : Geometry) (xs ys : List ℕ) (z : Zones) (map : List ℕ) : Type 0 where
  pub available : SameBlocks xs ys g.pages (available_of z)
  pub unavailable : SameBlocks xs ys g.pages (unavailable_of z)
  pub free : SameBlocks xs ys g.pages (free_of z)
  pub mapped : (k : ℕ) → k ≢ unmapped → 0 < occ k map → page_at ys k ≡ page_at xs k

-- ---- entries
-- the pages of a change, by their number
laid_entry : (P : Entry → Type 0) (g : Geometry) (id : ℕ) (lpns ppns : List ℕ) (drops : List Bool) (n : ℕ) → Entries P (laid g id lpns ppns drops n) → (j : ℕ)
    → j < n → P (open_entry g id (get_or ppns j 0) (get_or lpns j 0) (get_or drops j false) (suc j))
unfolding laid
laid_entry P g id lpns ppns drops zero h j l = absurd (omega arith)
laid_entry P g id lpns ppns drops (suc n) h j l = go (eqb_cases j n) (laid_entry P g id lpns ppns drops n parts.0 j)
  where
    parts : Entries P (laid g id lpns ppns drops n) × Entries P (open_entry g id (get_or ppns n 0) (get_or lpns n 0) (get_or drops n false) (suc n) ∷ [])
    parts = entries_parts P (laid g id lpns ppns drops n) _ h

    go : Is j n → (j < n → P (open_entry g id (get_or ppns j 0) (get_or lpns j 0) (get_or drops j false) (suc j)))
        → P (open_entry g id (get_or ppns j 0) (get_or lpns j 0) (get_or drops j false) (suc j))
    go (inl q) ih = rw q.0 parts.1.0
    go (inr q) ih = ih (omega (arith, q.0))

-- ---- the scanned pages are as they were
abbrev Kept : List ℕ → List ℕ → Entry → Type 0
Kept xs ys e = page_at ys e.ppn ≡ page_at xs e.ppn

entry_kept : (xs ys : List ℕ) (k : ℕ) → page_at ys k ≡ page_at xs k → Entries (Kept xs ys) (entry_at xs k)
entry_kept xs ys k e = go (decide (whole_at xs k))
  where
    go : (whole_at xs k ≡ true) ⊎ (whole_at xs k ≡ false) → Entries (Kept xs ys) (entry_at xs k)
    go (inl w) = rw (entry_whole xs k w) (unfold entry_of in (e, tt))
    go (inr w) = rw (entry_none xs k w) tt

run_kept : (xs ys : List ℕ) (f n : ℕ) → SamePages xs ys f n → Entries (Kept xs ys) (whole_from xs f n)
unfolding whole_from
run_kept xs ys f zero h = tt
run_kept xs ys f (suc n) h =
    let z : f + 0 ≡ f = omega arith in
    dealt.each_append (Kept xs ys) (entry_at xs f) (whole_from xs (suc f) n) (entry_kept xs ys f (rw z at (h 0 (omega arith))))
    (run_kept xs ys (suc f) n (λ i l. let s : f + suc i ≡ suc f + i = omega arith in rw s at (h (suc i) (omega arith))))

scan_kept : (xs ys : List ℕ) (p : ℕ) (bs : List ℕ) → SameBlocks xs ys p bs → Entries (Kept xs ys) (scan_in xs p bs)
unfolding scan_in
scan_kept xs ys p [] h = tt
scan_kept xs ys p (b ∷ bs) h =
    dealt.each_append (Kept xs ys) (whole_from xs (b * p) p) (scan_in xs p bs) (run_kept xs ys (b * p) p h.0) (scan_kept xs ys p bs h.1)

-- ---- what is spared
module _ (g : Geometry) (xs ys : List ℕ) (z : Zones) (map : List ℕ) (s : Spared g xs ys z map) where
  pub spared_tidy : Tidy g xs z → Tidy g ys z
  spared_tidy t = record {
    ok = t.ok;
    order = λ one. order_stays xs ys g.pages (available_of z) s.available (t.order one);
    blank = blank_stays xs ys g.pages (free_of z) s.free t.blank;
  }

  pub spared_scan : scan_of ys g.pages z ≡ scan_of xs g.pages z
  spared_scan = scan_of_same xs ys g.pages z s.unavailable s.available

  pub spared_contents : (ps : List Content) → Contents xs map ps → Contents ys map ps
  spared_contents ps c = contents_keep xs ys map ps (λ k n o w. s.mapped k n o) c

  -- the zones of the checkpoint are spared with the live ones
  spared_saved : (z₀ : Zones) → Grown z₀ z → Spared g xs ys z₀ map
  spared_saved z₀ h = record {
    available = rw h.available s.available;
    unavailable = rw h.unavailable s.unavailable;
    free = each_sub (λ (c : ℕ). SamePages xs ys (c * g.pages) g.pages) h.free s.free;
    mapped = s.mapped;
  }

  -- the pages of an open change
  spared_page : (p : Place) → Open g p (scan_of xs g.pages z) → (j : ℕ) → suc j < p.count → page_at ys (get_or p.ppns j 0) ≡ page_at xs (get_or p.ppns j 0)
  unfolding scan_of of_id
  spared_page p o j l =
      let k : Entries (Kept xs ys) (scan_in xs g.pages (unavailable_of z ++ available_of z))
      = scan_kept xs ys g.pages (unavailable_of z ++ available_of z)
      (each_append (λ (c : ℕ). SamePages xs ys (c * g.pages) g.pages) (unavailable_of z) (available_of z) s.unavailable s.available) in
      laid_entry (Kept xs ys) g p.id p.lpns p.ppns p.drops (p.count - 1)
      (subst (Entries (Kept xs ys)) o.turns
      (entries_turn (Kept xs ys) g.planes _ (dealt.each_those (Kept xs ys) (λ (e : Entry). eqb e.id p.id) _ k))) j (omega arith)

  spared_writes : (hold : List ℕ) (i : ℕ) (p : Place) (ws : List Write) → Open g p (scan_of xs g.pages z) → Writes xs map hold i p ws
      → Writes ys map hold i p ws
  spared_writes hold i p ws o w = record {
    count = w.count;
    small = w.small;
    lpns = w.lpns;
    ppns = w.ppns;
    drops = w.drops;
    names = w.names;
    laid = λ j l.
        let e = spared_page p o j l in
        let a = w.laid j l in
        record { real = a.real; whole = whole_same xs ys _ _ e ∙ a.whole; owner = rw e a.owner; free = a.free };
    stored = λ j l. w.stored j l ∙ ap (content_of (get_or p.drops j false)) (sym (data_same xs ys _ _ (spared_page p o j l)));
    apart = w.apart;
    held = w.held;
    bytes = w.bytes;
  }

  pub spared_changing : (hold : List ℕ) (ps : List Place) (b : Book) → Opens g ps (scan_of xs g.pages z) → Changing xs map hold ps b
      → Changing ys map hold ps b
  spared_changing hold ps b o c = record {
    eight = c.eight;
    writes = λ i l n. spared_writes hold i (place_at ps i) _ (o i (omega (arith, c.eight)) n) (c.writes i l n);
    opened = c.opened;
    closed = c.closed;
  }

-- the array is sound as it was, if the front is
pub spared_sound : (g : Geometry) (xs ys : List ℕ) (z : Zones) (map : List ℕ) → Spared g xs ys z map → (c : Saved) (version : ℕ) (ps : List Content)
    → Grown c.zones z → length ys ≡ length xs → Bytes ys → Leans ys → Front g ys c → Sound g xs c map version ps → Sound g ys c map version ps
spared_sound g xs ys z map s c version ps grown e y l f h =
    let s₀ = spared_saved g xs ys z map s c.zones grown in
    record {
      geometry = h.geometry;
      long = e ∙ h.long;
      bytes = y;
      lean = l;
      front = f;
      sane = h.sane;
      tidy = spared_tidy g xs ys c.zones map s₀ h.tidy;
      logged = rw (spared_scan g xs ys c.zones map s₀) h.logged;
      good = h.good;
      wide = h.wide;
      contents = spared_contents g xs ys z map s ps h.contents;
      last = h.last;
      numbered = h.numbered;
    }

-- ---- a front block changes
pub front_spares : (g : Geometry) (xs ys : List ℕ) (z : Zones) (map : List ℕ) → zones_ok g z ≡ true → MapGood g map → SameData xs ys g.pages
    → Spared g xs ys z map
front_spares g xs ys z map ok good same = record {
  available = is_each _ (available_of z) (λ c k. block c (listed_block g z ok c (omega arith)));
  unavailable = is_each _ (unavailable_of z) (λ c k. block c (listed_block g z ok c (omega arith)));
  free = is_each _ (free_of z) (λ c k. block c (listed_block g z ok c (omega arith)));
  mapped = λ k n o. same k (page_least g k (good k n o).page);
}
  where
    block : (c : ℕ) → data_block g c ≡ true → SamePages xs ys (c * g.pages) g.pages
    block c d i l =
        let m : 2 * g.pages ≤ c * g.pages = mul-le-mul_right g.pages (block_least g c d) in
        same (c * g.pages + i) (omega arith)

-- ---- a block of no list changes, on which nothing is mapped
pub block_spares : (g : Geometry) (xs ys : List ℕ) (z : Zones) (map : List ℕ) (b : ℕ) → Unlisted z b
    → ((j : ℕ) → Outside g.pages b j → page_at ys j ≡ page_at xs j)
    → OtherBlock g.pages b xs ys → ((k : ℕ) → k ≢ unmapped → 0 < occ k map → Outside g.pages b k) → Spared g xs ys z map
block_spares g xs ys z map b none o others outside = record {
  available = each_map (λ (c : ℕ). c ≢ b) (λ (c : ℕ). SamePages xs ys (c * g.pages) g.pages) others (available_of z) (away b (available_of z) (omega arith));
  unavailable = each_map (λ (c : ℕ). c ≢ b) (λ (c : ℕ). SamePages xs ys (c * g.pages) g.pages) others (unavailable_of z)
      (away b (unavailable_of z) (omega arith));
  free = each_map (λ (c : ℕ). c ≢ b) (λ (c : ℕ). SamePages xs ys (c * g.pages) g.pages) others (free_of z) (away b (free_of z) (omega arith));
  mapped = λ k n m. o k (outside k n m);
}
