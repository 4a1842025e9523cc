-- A running page of a change that is not marked may be lost in a cut: the array stays sound, with the same map, last version and pages of the book, and
-- its change has a page less in the scan.
use Rattle.std.specs.Prelude.{◌≡◌, ◌⊎◌, ◌≢◌, Bool, true, false, ◌&&◌, length}
use Rattle.std.proofs.Math.Path.{refl}
use Rattle.std.proofs.Common.{sym, ap, ◌∙◌, subst, inl, inr, arith}
use Prim.Native.Nat.{ℕ, suc, ◌≤◌, ◌<◌}
use mathlib.Core.List.{List, [], ◌∷◌}
use Rattle.std.proofs.Math.Dec.{eqb}
use Rattle.model.specs.Lists.{those}
use Rattle.model.specs.Page.{spare_of, page_at}
use Rattle.model.specs.Zones.{Entry, entry_of, scan_of}
use Rattle.model.specs.Recovery.{of_id}
use Rattle.model.specs.Book.{Content}
use Rattle.model.specs.Sequence.{Running, cut_run, cut_runs}
use Rattle.model.specs.declared.Geometry.{Geometry}
use Rattle.model.specs.declared.Zones.{Zones}
use Rattle.arrays.specs.Tests.{Is, eqb_cases, clash, decide}
use Rattle.arrays.specs.Insert.{Insert, insert_length}
use Rattle.arrays.specs.Pages.{Other}
use Rattle.arrays.specs.Ranges.{page_least}
use Rattle.arrays.specs.Scan.{entry_whole, entry_none, entry_same}
use Rattle.front.specs.Written.{Saved}
use Rattle.front.specs.Newest.{SameFront}
use Rattle.front.specs.Front.{front_away}
use Rattle.scanlog.specs.Sublist.{Sublist, sub_refl, sub_trans, sub_length, sub_insert, each_part, those_part}
use Rattle.scanlog.specs.Occ.{occ}
use Rattle.scanlog.specs.Log.{NoMark, of_id_in}
use Rattle.scanlog.specs.Logged.{Logged, logged_lost}
use Rattle.scanlog.specs.Tidy.{Within, place_tidy, place_same, place_lost, place_data}
use Rattle.sequence.specs.Contents.{contents_keep}
use Rattle.sequence.specs.Sound.{Sound}
use Rattle.sequence.specs.Running.{RunOk, run_keep, ended, run_other, run_long, run_bytes, run_lean, run_done, run_torn, ended_same}
use Rattle.sequence.specs.Running.{all_ended, none_ended, ended_split, Fresh, Runs, runs_map}

-- ---- a page that may be lost
-- it is of a change whose identifier has no mark in the scan es, stands in an available block, and is not mapped
pub record Quiet (g : Geometry) (xs : List ℕ) (z : Zones) (map : List ℕ) (es : List Entry) (r : Running) : Type 0 where
  pub two : g.planes ≡ 2
  pub ok : RunOk xs r
  pub place : Within z g.pages r.page
  pub cnt : (spare_of (page_at xs r.page)).cnt ≡ 0
  pub ver : (spare_of (page_at xs r.page)).ver ≡ 0
  pub id : (spare_of (page_at xs r.page)).id ≡ r.id
  pub some : r.id ≢ 0
  pub quiet : NoMark r.id es
  pub free : occ r.page map ≡ 0

-- elsewhere the array may change, and entries leave the scan or join it that are no marks of its identifier
pub quiet_keep : (g : Geometry) (xs ys : List ℕ) (z : Zones) (map map' : List ℕ) (es fs : List Entry) (r : Running) → page_at ys r.page ≡ page_at xs r.page
    → length ys ≡ length xs → NoMark r.id fs → occ r.page map' ≡ 0 → Quiet g xs z map es r → Quiet g ys z map' fs r
quiet_keep g xs ys z map map' es fs r e l n o q = record {
  two = q.two;
  ok = run_keep xs ys r e l q.ok;
  place = q.place;
  cnt = rw e q.cnt;
  ver = rw e q.ver;
  id = rw e q.id;
  some = q.some;
  quiet = n;
  free = o;
}

-- ---- one page of a sound array is cut
module _ (g : Geometry) (xs : List ℕ) (c : Saved) (map : List ℕ) (version : ℕ) (ps : List Content) (h : Sound g xs c map version ps) (r : Running)
    (lets : List ℕ) where
  -- pages a block, what the cut leaves, and what is scanned before and after it
  abbrev p : ℕ
  p = g.pages

  abbrev ys : List ℕ
  ys = cut_run p r lets xs

  abbrev before : List Entry
  before = scan_of xs p c.zones

  abbrev after : List Entry
  after = scan_of ys p c.zones

  module _ (two : g.planes ≡ 2) (ok : RunOk xs r) (w : Within c.zones p r.page) where
    other : Other r.page xs ys
    other = run_other p xs r ok lets h.bytes

    front : SameFront xs ys p
    front j l = other j (λ q. absurd (omega (arith, q, page_least g r.page (place_data g xs xs c.zones h.tidy.ok r.page w (λ i n. refl)))))

    -- all but the log and the contents
    cut_sound : Logged g.planes g.logical c.version c.map after map version → ((j : ℕ) → 0 < occ j map → page_at ys j ≡ page_at xs j)
        → Sound g ys c map version ps
    cut_sound l m = record {
      geometry = h.geometry;
      long = run_long p xs r ok lets h.bytes ∙ h.long;
      bytes = run_bytes p xs r ok lets h.bytes;
      lean = run_lean p xs r ok lets h.bytes h.lean;
      front = front_away g xs c h.front ys front;
      sane = h.sane;
      tidy = place_tidy g xs ys c.zones h.tidy.ok r.page w other (λ one. absurd (one two)) h.tidy;
      logged = l;
      good = h.good;
      wide = h.wide;
      contents = contents_keep xs ys map ps (λ j n o y. m j o) h.contents;
      last = h.last;
      numbered = h.numbered;
    }

    -- one that has ended is as it stood
    module _ (t : ended p r lets xs ≡ true) where
      all_same : (j : ℕ) → page_at ys j ≡ page_at xs j
      all_same j = go (eqb_cases j r.page)
        where
          go : Is j r.page → page_at ys j ≡ page_at xs j
          go (inl q) = rw q.0 (run_done p xs r ok lets h.bytes t)
          go (inr q) = other j q.0

      done_scan : after ≡ before
      done_scan = place_same g xs ys c.zones h.tidy.ok r.page w other (entry_same xs ys r.page (all_same r.page))

      done_sound : Sound g ys c map version ps
      done_sound = cut_sound (rw done_scan h.logged) (λ j o. all_same j)

  module _ (q : Quiet g xs c.zones map before r) where
    -- its entry
    abbrev entry : Entry
    entry = entry_of r.page (spare_of (page_at xs r.page))

    entry_cnt : entry.cnt ≡ 0
    unfolding entry_of
    entry_cnt = q.cnt

    entry_ver : entry.ver ≡ 0
    unfolding entry_of
    entry_ver = q.ver

    entry_id : entry.id ≡ r.id
    unfolding entry_of
    entry_id = q.id

    -- torn, it leaves the scan
    leaves : ended p r lets xs ≡ false → Insert entry after before
    leaves t =
        place_lost g xs ys c.zones h.tidy.ok r.page q.place (other q.two q.ok q.place) entry
        (entry_whole xs r.page q.ok.whole) (entry_none ys r.page (run_torn p xs r q.ok lets h.bytes t))

    mapped_other : (j : ℕ) → 0 < occ j map → page_at ys j ≡ page_at xs j
    mapped_other j o = other q.two q.ok q.place j (λ e. absurd (omega (arith, q.free, ap (λ (x : ℕ). occ x map) e)))

    quiet_sound : Sound g ys c map version ps
    quiet_sound = go (decide (ended p r lets xs))
      where
        go : (ended p r lets xs ≡ true) ⊎ (ended p r lets xs ≡ false) → Sound g ys c map version ps
        go (inl t) = done_sound q.two q.ok q.place t
        go (inr t) =
            let i = leaves t in
            cut_sound q.two q.ok q.place
            (logged_lost g.planes g.logical c.version c.map map version entry i entry_cnt entry_ver
            (rw entry_id (each_part _ (sub_insert entry i) q.quiet)) h.logged) mapped_other

    quiet_sub : Sublist after before
    quiet_sub = go (decide (ended p r lets xs))
      where
        go : (ended p r lets xs ≡ true) ⊎ (ended p r lets xs ≡ false) → Sublist after before
        go (inl t) = rw (done_scan q.two q.ok q.place t) (sub_refl before)
        go (inr t) = sub_insert entry (leaves t)

    -- where it is lost, its change has a page less
    quiet_less : ended p r lets xs ≡ false → length (of_id r.id before) ≡ suc (length (of_id r.id after))
    quiet_less t = insert_length entry (of_id_in r.id entry (leaves t) entry_id)

-- ---- several are cut
module _ (g : Geometry) (xs : List ℕ) (c : Saved) (map : List ℕ) (version : ℕ) (ps : List Content) (h : Sound g xs c map version ps)
    (parts : ℕ → List ℕ) where
  -- the scan of an array
  abbrev scan : List ℕ → List Entry
  scan zs = scan_of zs g.pages c.zones

  -- one that has ended, whatever change it is of
  pub record Done (r : Running) : Type 0 where
    pub two : g.planes ≡ 2
    pub ok : RunOk xs r
    pub place : Within c.zones g.pages r.page
    pub turned : ended g.pages r (parts r.page) xs ≡ true

  -- a page that may be lost, or has ended
  abbrev pub Safe : Running → Type 0
  Safe r = Quiet g xs c.zones map (scan xs) r ⊎ Done r

  -- what a cut leaves
  pub record Left (ys : List ℕ) (rs : List Running) : Type 0 where
    pub sound : Sound g ys c map version ps
    pub sub : Sublist (scan ys) (scan xs)
    pub same : (j : ℕ) → Fresh j rs → page_at ys j ≡ page_at xs j
    pub long : length ys ≡ length xs

  -- it may be lost from what the cut of the others left
  quiet_left : (r : Running) (rs : List Running) (ys : List ℕ) → Quiet g xs c.zones map (scan xs) r → Fresh r.page rs → Left ys rs
      → Quiet g ys c.zones map (scan ys) r
  quiet_left r rs ys q f l =
      quiet_keep g xs ys c.zones map map _ _ r (l.same r.page f) l.long (each_part _ l.sub q.quiet) q.free q

  one_more : (r : Running) (rs : List Running) (ys : List ℕ) → Safe r → Fresh r.page rs → Left ys rs
      → Left (cut_run g.pages r (parts r.page) ys) (r ∷ rs)
  one_more r rs ys (inl q) f l =
      let q' = quiet_left r rs ys q f l in
      record {
        sound = quiet_sound g ys c map version ps l.sound r (parts r.page) q';
        sub = sub_trans (quiet_sub g ys c map version ps l.sound r (parts r.page) q') l.sub;
        same = λ j n. run_other g.pages ys r q'.ok (parts r.page) l.sound.bytes j (λ z. n.0 (sym z)) ∙ l.same j n.1;
        long = run_long g.pages ys r q'.ok (parts r.page) l.sound.bytes ∙ l.long;
      }
  one_more r rs ys (inr q) f l =
      let e = l.same r.page f in
      let ok' : RunOk ys r = run_keep xs ys r e l.long q.ok in
      let t : ended g.pages r (parts r.page) ys ≡ true = ended_same g.pages xs ys r (parts r.page) q.ok ok' e ∙ q.turned in
      record {
        sound = done_sound g ys c map version ps l.sound r (parts r.page) q.two ok' q.place t;
        sub = rw (done_scan g ys c map version ps l.sound r (parts r.page) q.two ok' q.place t) l.sub;
        same = λ j n. run_other g.pages ys r ok' (parts r.page) l.sound.bytes j (λ z. n.0 (sym z)) ∙ l.same j n.1;
        long = run_long g.pages ys r ok' (parts r.page) l.sound.bytes ∙ l.long;
      }

  pub runs_left : (rs : List Running) → Runs Safe rs → Left (cut_runs g.pages rs parts xs) rs
  unfolding cut_runs
  runs_left [] s = record { sound = h; sub = sub_refl _; same = λ j n. refl; long = refl }
  runs_left (r ∷ rs) s = one_more r rs (cut_runs g.pages rs parts xs) s.0 s.1.0 (runs_left rs s.1.1)

  -- ---- where a page of an identifier is lost, it has fewer in the scan
  module _ (i : ℕ) where
    -- those of the identifier, how many of it are scanned
    abbrev own : List Running → List Running
    own rs = those (λ (r : Running). eqb r.id i) rs

    abbrev many : List ℕ → ℕ
    many zs = length (of_id i (scan zs))

    many_sub : (us vs : List ℕ) → Sublist (scan us) (scan vs) → many us ≤ many vs
    unfolding of_id
    many_sub us vs s = sub_length (those_part (λ (e : Entry). eqb e.id i) s)

    pub runs_less : (rs : List Running) → Runs (Quiet g xs c.zones map (scan xs)) rs → all_ended g.pages (own rs) parts xs ≡ false
        → many (cut_runs g.pages rs parts xs) < many xs
    unfolding cut_runs those
    runs_less [] q f = clash (none_ended g.pages parts xs) f
    runs_less (r ∷ rs) q f = go (eqb_cases r.id i) (runs_less rs q.1.1)
      where
        lets : List ℕ
        lets = parts r.page

        -- what the cut of the others left, and then of this one
        ys : List ℕ
        ys = cut_runs g.pages rs parts xs

        zs : List ℕ
        zs = cut_run g.pages r lets ys

        l : Left ys rs
        l = runs_left rs (runs_map _ _ (λ r x. inl x) rs q.1.1)

        q' : Quiet g ys c.zones map (scan ys) r
        q' = quiet_left r rs ys q.0 q.1.0 l

        no_more : many zs ≤ many ys
        no_more = many_sub zs ys (quiet_sub g ys c map version ps l.sound r lets q')

        pick : r.id ≡ i → (t : Bool) → ended g.pages r lets xs ≡ t → (t && all_ended g.pages (own rs) parts xs) ≡ false
            → (all_ended g.pages (own rs) parts xs ≡ false → many ys < many xs) → many zs < many xs
        pick j true t u ih = omega (arith, no_more, ih u)
        pick j false t u ih =
            let s = ended_same g.pages xs ys r lets q.0.ok q'.ok (l.same r.page q.1.0) ∙ t in
            let m : many ys ≡ suc (many zs)
            = subst (λ (x : ℕ). length (of_id x (scan ys)) ≡ suc (length (of_id x (scan zs)))) j (quiet_less g ys c map version ps l.sound r lets q' s) in
            omega (arith, m, many_sub ys xs l.sub)

        go : Is r.id i → (all_ended g.pages (own rs) parts xs ≡ false → many ys < many xs) → many zs < many xs
        go (inl j) ih = pick j.0 (ended g.pages r lets xs) refl (sym (ended_split g.pages parts xs r (own rs)) ∙ (rw j.1 at f)) ih
        go (inr j) ih = let u : all_ended g.pages (own rs) parts xs ≡ false = rw j.1 at f in omega (arith, no_more, ih u)
