-- A data page programmed on the next page: the array, the zones and the log after it, done or cut short.
use Rattle.std.specs.Prelude.{◌≡◌, refl, ◌≢◌, true, false, ℕ, suc, ◌≤◌, ◌<◌, List, [], ◌∷◌, ◌++◌, length}
use Rattle.std.proofs.Common.{sym, ap, ◌∙◌, subst, arith}
use Rattle.model.specs.Page.{page_at, data_at, blank_at, whole_at, spare_of, page_bytes}
use Rattle.model.specs.Geometry.{unmapped, data_page}
use Rattle.model.specs.Zones.{Entry, scan_of, entry_of}
use Rattle.model.specs.Recovery.{of_id}
use Rattle.model.specs.World.{World, Op, Plan, program, apply_op, due_bits, turned_bits, every_turned, cut_op}
use Rattle.model.specs.Transactions.{clean_pages, next_page}
use Rattle.model.specs.Commands.{carried}
use Rattle.model.specs.Book.{Book, Content}
use Rattle.model.specs.declared.Geometry.{Geometry}
use Rattle.model.specs.declared.Spare.{Spare}
use Rattle.arrays.specs.Bytelist.{Bytes}
use Rattle.arrays.specs.Ranges.{page_least, page_most, page_small}
use Rattle.arrays.specs.Ops.{length_apply, length_cut, bytes_apply, bytes_cut, program_other, cut_program_other}
use Rattle.arrays.specs.Image.{SpareFits, image_spare}
use Rattle.arrays.specs.Whole.{whole_not_blank}
use Rattle.arrays.specs.Arrays.{ProgramOk, image_ok, programmed_whole, programmed_data, programmed_spare}
use Rattle.arrays.specs.Arrays.{program_keeps, cut_program_keeps, leans_apply, leans_cut}
use Rattle.front.specs.Newest.{SameFront}
use Rattle.front.specs.Front.{front_away}
use Rattle.scanlog.specs.Occ.{occ}
use Rattle.arrays.specs.Insert.{Insert}
use Rattle.scanlog.specs.Log.{of_id_last}
use Rattle.scanlog.specs.Logged.{Logged}
use Rattle.scanlog.specs.Tidy.{Tidy, next_data, next_fits, next_erased, tidy_program, scan_program, scan_order_is_write_order, tidy_cut, scan_torn, clean_next}
use Rattle.scanlog.specs.Free.{grown_scan, grown_tidy}
use Rattle.sequence.specs.Maps.{MapGood}
use Rattle.sequence.specs.Contents.{Contents, contents_keep, blank_unmapped}
use Rattle.sequence.specs.Writes.{WholeSame}
use Rattle.sequence.specs.Sound.{Sound}
use Rattle.sequence.specs.Live.{Live, live_range, scanned}
use Rattle.sequence.specs.View.{after}

-- these bytes are programmed on the next page: what a cut leaves, and that it does not let every due bit turn
abbrev pub cut_next : World → List ℕ → List ℕ → List ℕ
cut_next w new lets = cut_op w.state.geometry.pages (program (next_page w) new) lets w.array

abbrev pub Tears : World → List ℕ → List ℕ → Type 0
Tears w new lets =
    let n = w.state.geometry.pages in
    let op = program (next_page w) new in
    every_turned (due_bits n op w.array) (turned_bits n op lets w.array) ≡ false

-- plan p programs a data page with spare area s: what it programs on the next page; torn, it leaves the array as sound as it was, and the scan
pub record Appends (w : World) (b : Book) (h : Live w b) (s : Spare) (p : Plan) : Type 0 where
  pub new : List ℕ
  pub clean : 0 < clean_pages w
  pub ok : ProgramOk w.array (next_page w) new
  pub spare : spare_of new ≡ s
  pub does : p.op ≡ program (next_page w) new
  pub geometry : p.state.geometry ≡ w.state.geometry
  pub zones : p.state.zones ≡ w.state.zones
  pub torn : (lets : List ℕ) → Tears w new lets → Sound w.state.geometry (cut_next w new lets) h.saved w.map w.state.version b.pages
  pub still : (lets : List ℕ) → Tears w new lets → scan_of (cut_next w new lets) w.state.geometry.pages w.state.zones ≡ scanned w

module _ (w : World) (b : Book) (h : Live w b) (clean : 0 < clean_pages w) (d : List ℕ) (s : Spare) (long : length d ≡ 512) (small : Bytes d)
    (fit : SpareFits s) where
  -- geometry, array, the next page, and what is done to it
  abbrev g : Geometry
  g = w.state.geometry

  abbrev xs : List ℕ
  xs = w.array

  abbrev k : ℕ
  k = next_page w

  abbrev op : Op
  op = program k (page_bytes d s)

  -- the array after it
  abbrev pub appended : List ℕ
  appended = apply_op g.pages op xs

  -- ---- the page
  pub next_is_data : data_page g k ≡ true
  next_is_data = next_data g xs w.state.zones w.state.last h.tidy clean

  pub next_mapped : k ≢ unmapped
  next_mapped q = absurd (omega (arith, q, page_small g k (live_range w b h) (page_most g k next_is_data)))

  pub next_blank : blank_at xs k ≡ true
  next_blank = next_erased g xs w.state.zones w.state.last h.tidy clean

  pub next_free_law : occ k w.map ≡ 0
  next_free_law = blank_unmapped xs w.map b.pages h.sound.contents k next_mapped next_blank

  pub append_ok : ProgramOk xs k (page_bytes d s)
  append_ok = image_ok xs k d s (next_fits g xs w.state.zones w.state.last h.tidy clean h.sound.long) next_blank long small fit

  pub append_whole : whole_at appended k ≡ true
  append_whole = programmed_whole g.pages xs k (page_bytes d s) append_ok

  pub append_data : data_at appended k ≡ d
  append_data = programmed_data g.pages xs k d s long append_ok

  pub append_spare : spare_of (page_at appended k) ≡ s
  append_spare = programmed_spare g.pages xs k d s long append_ok

  pub append_keeps : WholeSame xs appended
  append_keeps = program_keeps g.pages xs k (page_bytes d s) append_ok

  cut_keeps : (lets : List ℕ) → WholeSame xs (cut_op g.pages op lets xs)
  cut_keeps lets = cut_program_keeps g.pages xs k (page_bytes d s) append_ok lets

  -- ---- zones and scan
  pub append_tidy : Tidy g appended w.state.zones
  append_tidy = tidy_program g xs w.state.zones w.state.last h.tidy clean g.pages (page_bytes d s) append_ok

  -- what is scanned then
  abbrev pub rescanned : List Entry
  rescanned = scan_of appended g.pages w.state.zones

  -- its entry is put in, on one plane as the last
  pub append_in : Insert (entry_of k s) (scanned w) rescanned
  append_in = subst (λ (t : Spare). Insert (entry_of k t) (scanned w) rescanned) (image_spare d s long)
      (scan_program g xs w.state.zones w.state.last h.tidy clean g.pages (page_bytes d s) append_ok)

  pub append_last : g.planes ≢ 2 → of_id (entry_of k s).id rescanned ≡ of_id (entry_of k s).id (scanned w) ++ (entry_of k s ∷ [])
  append_last one =
      ap (of_id (entry_of k s).id) (scan_order_is_write_order g xs w.state.zones w.state.last h.tidy clean g.pages (page_bytes d s) append_ok one
      ∙ ap (λ (t : Spare). scanned w ++ (entry_of k t ∷ [])) (image_spare d s long)) ∙ of_id_last (entry_of k s).id (scanned w) (entry_of k s) refl

  front_same : (ys : List ℕ) → ((j : ℕ) → (j ≡ k → ⊥) → page_at ys j ≡ page_at xs j) → SameFront xs ys g.pages
  front_same ys o j l = o j (λ q. absurd (omega (arith, q, page_least g k next_is_data)))

  pub append_front : SameFront xs appended g.pages
  append_front = front_same appended (program_other g.pages xs k (page_bytes d s) append_ok.fits)

  -- ---- the sound array after it
  saved_tidy : (ys : List ℕ) → Tidy g ys w.state.zones → Tidy g ys h.saved.zones
  saved_tidy ys t = grown_tidy h.saved.zones w.state.zones h.grown g ys h.sound.sane.zones t

  saved_scan : (ys : List ℕ) → scan_of ys g.pages h.saved.zones ≡ scan_of ys g.pages w.state.zones
  saved_scan ys = grown_scan h.saved.zones w.state.zones h.grown ys g.pages

  pub append_sound : (map : List ℕ) (version : ℕ) (ps : List Content)
      → Logged g.planes g.logical h.saved.version h.saved.map rescanned map version
      → MapGood g map → length map ≡ g.logical → Contents appended map ps → version ≤ 4294967294 → Sound g appended h.saved map version ps
  append_sound map version ps l m e c v = record {
    geometry = h.sound.geometry;
    long = length_apply g.pages op xs append_ok.fits ∙ h.sound.long;
    bytes = bytes_apply g.pages op xs h.sound.bytes;
    lean = leans_apply g.pages op xs append_ok h.sound.lean;
    front = front_away g xs h.saved h.sound.front appended append_front;
    sane = h.sound.sane;
    tidy = saved_tidy appended append_tidy;
    logged = subst (λ (es : List Entry). Logged g.planes g.logical h.saved.version h.saved.map es map version) (sym (saved_scan appended)) l;
    good = m;
    wide = e;
    contents = c;
    last = v;
    numbered = h.sound.numbered;
  }

  -- the contents as they were, on the array after it
  pub append_contents : Contents appended w.map b.pages
  append_contents = contents_keep xs appended w.map b.pages (λ j n o y. append_keeps j y) h.sound.contents

  -- ---- cut short: the array is sound as it was
  cut_sound : (lets : List ℕ) → Tears w (page_bytes d s) lets → Sound g (cut_op g.pages op lets xs) h.saved w.map w.state.version b.pages
  cut_sound lets f =
      let ys = cut_op g.pages op lets xs in
      record {
        geometry = h.sound.geometry;
        long = length_cut g.pages op lets xs ∙ h.sound.long;
        bytes = bytes_cut g.pages op lets xs h.sound.bytes;
        lean = leans_cut g.pages op lets xs h.sound.bytes append_ok h.sound.lean;
        front = front_away g xs h.saved h.sound.front ys (front_same ys (cut_program_other g.pages xs k (page_bytes d s) append_ok.fits lets));
        sane = h.sound.sane;
        tidy = saved_tidy ys (tidy_cut g xs w.state.zones w.state.last h.tidy clean g.pages (page_bytes d s) append_ok lets);
        logged = subst (λ (es : List Entry). Logged g.planes g.logical h.saved.version h.saved.map es w.map w.state.version)
            (saved_scan xs ∙ sym (scan_torn g xs w.state.zones w.state.last h.tidy clean g.pages (page_bytes d s) append_ok lets
            h.sound.bytes f) ∙ sym (saved_scan ys)) h.sound.logged;
        good = h.sound.good;
        wide = h.sound.wide;
        contents = contents_keep xs ys w.map b.pages (λ j n o y. cut_keeps lets j y) h.sound.contents;
        last = h.sound.last;
        numbered = h.sound.numbered;
      }

  -- ---- a plan that does so
  pub appends : (p : Plan) → p.op ≡ op → p.state.geometry ≡ g → p.state.zones ≡ w.state.zones → Appends w b h s p
  appends p e n z = record {
    new = page_bytes d s;
    clean = clean;
    ok = append_ok;
    spare = image_spare d s long;
    does = e;
    geometry = n;
    zones = z;
    torn = λ lets t. cut_sound lets t;
    still = λ lets t. scan_torn g xs w.state.zones w.state.last h.tidy clean g.pages (page_bytes d s) append_ok lets h.sound.bytes t;
  }

-- ---- what it takes: one clean page
pub append_clean : (w : World) (b : Book) (h : Live w b) (s : Spare) (p : Plan) → Appends w b h s p → clean_pages w ≡ suc (clean_pages (after p w))
unfolding carried
append_clean w b h s p a =
    let n = w.state.geometry.pages in
    rw (a.does, a.geometry, a.zones)
    (clean_next w.state.geometry w.array w.state.zones w.state.last h.tidy a.clean (apply_op n (program (next_page w) a.new) w.array)
    (program_other n w.array (next_page w) a.new a.ok.fits)
    (whole_not_blank _ (next_page w) (programmed_whole n w.array (next_page w) a.new a.ok)))
