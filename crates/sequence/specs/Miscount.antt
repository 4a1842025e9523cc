-- A mark that is whole while a page of its transaction is not: it counts more pages than there are, so that the transaction is not committed and the pages
-- of the book stay; but its version is used.
use Rattle.std.specs.Prelude.{◌≡◌, ◌≢◌, true, false, eqb}
use Rattle.std.proofs.Math.Path.{refl, ap}
use Rattle.std.proofs.Common.{sym, ◌∙◌, inl, arith}
use Prim.Native.Nat.{ℕ, suc, ◌-◌, ◌<◌}
use Rattle.std.proofs.Math.Numerals.{add-one}
use mathlib.Core.List.{List, [], ◌∷◌}
use Rattle.std.proofs.Math.ListN.{length}
use borrow.Author.Tests.{ne_eqb}
use Rattle.model.specs.Lists.{those}
use Rattle.model.specs.Page.{page_at}
use Rattle.model.specs.Zones.{Entry, entry_of, entry_at, scan_of}
use Rattle.model.specs.Recovery.{of_id, pages_of}
use Rattle.model.specs.Frame.{is_idle}
use Rattle.model.specs.World.{World, program, apply_op}
use Rattle.model.specs.Transactions.{next_page, spent, zone_short, mark_plan}
use Rattle.model.specs.Book.{Book}
use Rattle.model.specs.Sequence.{Running, cut_runs}
use Rattle.model.specs.declared.Geometry.{Geometry}
use Rattle.model.specs.declared.Place.{Place}
use Rattle.model.specs.declared.Spare.{Spare}
use Rattle.model.specs.declared.Zones.{Zones}
use Rattle.arrays.specs.Insert.{Insert, insert_length}
use Rattle.arrays.specs.Pages.{blank_same}
use Rattle.arrays.specs.Ranges.{page_least}
use Rattle.arrays.specs.Scan.{entry_blank, entry_same, entry_programmed}
use Rattle.arrays.specs.Ops.{length_apply, bytes_apply, program_other}
use Rattle.arrays.specs.Arrays.{leans_apply}
use Rattle.ranks.specs.Dealt.{each_map}
use Rattle.front.specs.Front.{front_away}
use Rattle.scanlog.specs.Sublist.{Sublist, each_part}
use Rattle.scanlog.specs.Occ.{occ}
use Rattle.scanlog.specs.Log.{of_id_in, own_entries}
use Rattle.scanlog.specs.Logged.{Logged, logged_miscount}
use Rattle.scanlog.specs.Good.{Lower}
use Rattle.scanlog.specs.Open.{Open, open_no_mark, number_two}
use Rattle.scanlog.specs.Tidy.{Within, next_place, place_put, place_tidy, place_data}
use Rattle.scanlog.specs.Free.{grown_scan}
use Rattle.sequence.specs.Places.{place_at, Found}
use Rattle.sequence.specs.Contents.{contents_keep, blank_unmapped}
use Rattle.sequence.specs.Sound.{Sound, Stored}
use Rattle.sequence.specs.Running.{all_ended, Runs, runs_map, Fresh, fresh_by, Agree, agree_cut}
use Rattle.sequence.specs.Lost.{Quiet, Left, runs_left, runs_less}
use Rattle.sequence.specs.Live.{Live, scanned}
use Rattle.sequence.specs.Append.{Appends}
use Rattle.sequence.specs.Commit.{mark_spare, mark_appends, mark_opened, mark_plain, mark_number, version_small}
use Rattle.sequence.specs.Beside.{LiveRuns, within_saved, quiet_saved, not_erased}

module _ (w : World) (b : Book) (h : Live w b) (id i : ℕ) (idle : is_idle w.state.work ≡ true) (f : Found w.state.places id i)
    (many : (place_at w.state.places i).count ≢ 0) (more : spent w.state.version 1 ≡ false) (short : zone_short w ≡ false)
    (rs : List Running) (x : LiveRuns w rs) (parts : ℕ → List ℕ) where
  -- geometry, the place of the change, the zones of the checkpoint; the mark's page, its spare area and its entry
  abbrev g : Geometry
  g = w.state.geometry

  abbrev p : Place
  p = place_at w.state.places i

  abbrev z : Zones
  z = h.saved.zones

  abbrev k : ℕ
  k = next_page w

  abbrev s : Spare
  s = mark_spare w b h id i idle f many more short

  abbrev e : Entry
  e = entry_of k s

  abbrev a : Appends w b h s (mark_plan i p w)
  a = mark_appends w b h id i idle f many more short

  o : Open g p (scanned w)
  o = mark_opened w b h id i idle f many more short

  -- the array with the mark
  abbrev marked : List ℕ
  marked = apply_op g.pages (program k a.new) w.array

  -- ---- the pages that run are lost, and the mark is put in: in either order the same pages are left
  -- what the cut leaves without the mark, and with it
  abbrev us : List ℕ
  us = cut_runs g.pages rs parts w.array

  abbrev vs : List ℕ
  vs = cut_runs g.pages rs parts marked

  -- what is scanned on each
  abbrev scan : List ℕ → List Entry
  scan xs = scan_of xs g.pages z

  saved_runs : Runs (Quiet g w.array z w.map (scan w.array)) rs
  saved_runs = runs_map _ _ (λ r q. quiet_saved g w.array z w.state.zones w.map r h.grown q) rs x

  lost : Left g w.array h.saved w.map w.state.version b.pages h.sound parts us rs
  lost = runs_left g w.array h.saved w.map w.state.version b.pages h.sound parts rs (runs_map _ _ (λ r q. inl q) rs saved_runs)

  fresh : Fresh k rs
  fresh = fresh_by k _ (not_erased w k a.ok.blank) rs x

  agrees : Agree k us vs × (page_at vs k ≡ page_at marked k)
  agrees = agree_cut g.pages parts k rs w.array marked h.sound.bytes (runs_map _ _ (λ r q. q.ok) rs x) fresh (record {
    other = program_other g.pages w.array k a.new a.ok.fits;
    long = length_apply g.pages (program k a.new) w.array a.ok.fits;
    bytes = bytes_apply g.pages (program k a.new) w.array h.sound.bytes;
    lean = leans_apply g.pages (program k a.new) w.array a.ok h.sound.lean;
  })

  place : Within z g.pages k
  place = within_saved z w.state.zones g.pages k h.grown (next_place g w.array w.state.zones w.state.last h.tidy a.clean)

  was_blank : entry_at us k ≡ []
  was_blank = entry_blank us k (blank_same w.array us k k (lost.same k fresh) ∙ a.ok.blank)

  is_mark_law : entry_at vs k ≡ e ∷ []
  is_mark_law = entry_same marked vs k agrees.1 ∙ entry_programmed g.pages w.array k a.new a.ok ∙ ap (λ (t : Spare). entry_of k t ∷ []) a.spare

  put_in : Insert e (scan us) (scan vs)
  put_in = place_put g us vs z h.sound.tidy.ok k place agrees.0.other e was_blank is_mark_law

  -- ---- the mark
  mark_id : e.id ≡ p.id
  unfolding entry_of
  mark_id = refl

  mark_cnt : e.cnt ≡ p.count
  unfolding entry_of
  mark_cnt = refl

  mark_ver : e.ver ≡ suc w.state.version
  unfolding entry_of
  mark_ver = add-one w.state.version

  some : p.id ≢ 0
  some q = f.some (sym f.is ∙ q)

  left_scan : Sublist (scan us) (scanned w)
  left_scan = rw (← grown_scan z w.state.zones h.grown w.array g.pages) lost.sub

  -- ---- one of its pages was lost
  module _ (one : all_ended g.pages (those (λ (r : Running). eqb r.id p.id) rs) parts w.array ≡ false) (two : g.planes ≡ 2) where
    miscounts : e.cnt ≢ length (pages_of (scan vs) e)
    unfolding pages_of
    miscounts c =
        let l : length (of_id p.id (scan us)) < length (of_id p.id (scan w.array))
        = runs_less g w.array h.saved w.map w.state.version b.pages h.sound parts p.id rs saved_runs one in
        let m : length (of_id p.id (scan w.array)) ≡ p.count - 1
        = ap (λ (es : List Entry). length (of_id p.id es)) (grown_scan z w.state.zones h.grown w.array g.pages) ∙ o.many in
        let d : length (of_id p.id (scan vs)) ≡ suc (length (of_id p.id (scan us))) = insert_length e (of_id_in p.id e put_in mark_id) in
        let k : e.cnt ≡ length (of_id p.id (scan vs)) = rw (mark_id, ne_eqb p.id 0 some) at c in
        absurd (omega (arith, l, m, d, k, mark_cnt))

    lower : Lower g.planes e (scan us)
    lower t n =
        each_map (λ (y : Entry). y.id ≡ p.id → y.reserved < p.count) (λ (y : Entry). y.id ≡ e.id → y.reserved < e.reserved)
        (λ y q r. omega (arith, q (r ∙ mark_id), mark_number w b h id i idle f many more short, number_two g p.count t)) (scan us)
        (each_part _ left_scan (own_entries (λ (y : Entry). y.reserved < p.count) p.id (scanned w) o.low))

    lost_logged : Logged g.planes g.logical h.saved.version h.saved.map (scan vs) w.map (suc w.state.version)
    lost_logged =
        logged_miscount g.planes g.logical h.saved.version h.saved.map w.map w.state.version lost.sound.logged e put_in
        (mark_plain w b h id i idle f many more short) lower (λ q. some (sym mark_id ∙ q)) (rw mark_id (each_part _ left_scan (open_no_mark g p (scanned w) o)))
        (λ q. many (sym mark_cnt ∙ q)) miscounts mark_ver

    lost_sound : Sound g vs h.saved w.map (suc w.state.version) b.pages
    lost_sound =
        let t = lost.sound in
        let d = place_data g us us z h.sound.tidy.ok k place (λ j n. refl) in
        record {
          geometry = t.geometry;
          long = agrees.0.long ∙ t.long;
          bytes = agrees.0.bytes;
          lean = agrees.0.lean;
          front = front_away g us h.saved t.front vs (λ j l. agrees.0.other j (λ q. absurd (omega (arith, q, page_least g k d))));
          sane = t.sane;
          tidy = place_tidy g us vs z h.sound.tidy.ok k place agrees.0.other (λ n. absurd (n two)) t.tidy;
          logged = lost_logged;
          good = t.good;
          wide = t.wide;
          contents = contents_keep us vs w.map b.pages (λ j n m y. agrees.0.other j (λ q. absurd (omega (
            arith,
            ap (λ (y : ℕ). occ y w.map) q,
            blank_unmapped w.array w.map b.pages h.sound.contents k (λ u. n (q ∙ u)) a.ok.blank,
          )))) t.contents;
          last = omega (arith, version_small w b h id i idle f many more short);
          numbered = t.numbered;
        }

    pub lost_stored : Stored g vs b.pages
    lost_stored = record { saved = h.saved; map = w.map; version = suc w.state.version; sound = lost_sound }
