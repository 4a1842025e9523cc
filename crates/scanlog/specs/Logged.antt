-- A log with the map and the last version that recovery makes of it: what each kind of entry does to them, a page that is lost and a checkpoint. Rule 4 holds
-- on, since an identifier with an entry is refused to a new change, versions are new, write numbers rise and a mark closes its transaction.
use Rattle.std.specs.Prelude.{◌≡◌, refl, ◌≢◌, true, false, ℕ, suc, max, List, [], ◌∷◌, length, eqb}
use Rattle.std.proofs.Common.{sym, ap, ◌∙◌, inr, arith}
use Rattle.model.specs.Lists.{any, those}
use Rattle.model.specs.Geometry.{enter_page}
use Rattle.model.specs.Zones.{Entry, on_pages}
use Rattle.model.specs.Recovery.{leads_to, of_id, pages_of, in_turn, top, enter, redone, pages_good}
use Rattle.arrays.specs.Tests.{or_false_left, or_false_right}
use Rattle.arrays.specs.Insert.{Insert}
use Rattle.ranks.specs.Clear.{Good, good_passes}
use Rattle.ranks.specs.InTurn.{top_insert}
use Rattle.scanlog.specs.Sublist.{Sublist, sub_insert}
use Rattle.scanlog.specs.Log.{NoMark, redone_page, redone_miscount, redone_mark, redone_lone, redone_none}
use Rattle.scanlog.specs.Perm.{Perm}
use Rattle.scanlog.specs.Good.{Plain, Lower, good_part, good_in, good_perm, fine_page, fine_marked, clear_page, clear_marked, top_sub, top_perm}

-- saved: the map of the checkpoint, floor: its last version; es: the scan; map and version: what recovery makes of them
pub record Logged (planes logical floor : ℕ) (saved : List ℕ) (es : List Entry) (map : List ℕ) (version : ℕ) : Type 0 where
  pub good : Good planes logical es
  pub made : redone planes floor es saved ≡ map
  pub last : max floor (top es) ≡ version

-- a scan with no entry
pub logged_start : (planes logical version : ℕ) (map : List ℕ) → Logged planes logical version map [] map version
unfolding top
logged_start planes logical version map = record {
  good = record { fine = tt; pairs = tt };
  made = redone_none planes version map [] (omega arith);
  last = omega arith;
}

module _ (planes logical floor : ℕ) (saved : List ℕ) {es fs : List Entry} (map : List ℕ) (version : ℕ) (h : Logged planes logical floor saved es map version)
    (e : Entry) (s : Insert e es fs) (plain : Plain planes logical e) (low : Lower planes e es) where
  -- a page of an open change
  pub logged_page : e.id ≢ 0 → e.cnt ≡ 0 → e.ver ≡ 0 → NoMark e.id es → Logged planes logical floor saved fs map version
  logged_page i c v u = record {
    good = good_in planes logical e s (fine_page planes logical e plain i c v) (clear_page planes e es c low) h.good;
    made = redone_page planes floor saved e s c u ∙ h.made;
    last = omega (arith, h.last, top_insert e s);
  }

  marked_good : e.cnt ≢ 0 → (e.id ≡ 0 → e.cnt ≡ 1) → (e.id ≢ 0 → NoMark e.id es) → e.ver ≡ suc version → Good planes logical fs
  marked_good z one u v =
      good_in planes logical e s (fine_marked planes logical e plain one z (λ q. absurd (omega (arith, q))))
      (clear_marked planes e es u (omega (arith, h.last)) low) h.good

  -- the mark that closes it
  pub logged_mark : e.id ≢ 0 → NoMark e.id es → e.cnt ≢ 0 → e.cnt ≡ length (of_id e.id fs) → e.ver ≡ suc version
      → Logged planes logical floor saved fs (enter map (in_turn planes (of_id e.id fs))) (suc version)
  logged_mark i u z c v = record {
    good = marked_good z (λ q. absurd (i q)) (λ r. u) v;
    made = redone_mark planes floor saved e s i u z c (omega (arith, h.last)) ∙ ap (λ (m : List ℕ). enter m (in_turn planes (of_id e.id fs))) h.made;
    last = omega (arith, h.last, top_insert e s);
  }

  -- a mark whose transaction lost a page: nothing is applied, but its version is used
  pub logged_miscount : e.id ≢ 0 → NoMark e.id es → e.cnt ≢ 0 → e.cnt ≢ length (pages_of fs e) → e.ver ≡ suc version
      → Logged planes logical floor saved fs map (suc version)
  logged_miscount i u z c v = record {
    good = marked_good z (λ q. absurd (i q)) (λ r. u) v;
    made = redone_miscount planes floor saved e s u c ∙ h.made;
    last = omega (arith, h.last, top_insert e s);
  }

  -- a lone page
  pub logged_lone : e.id ≡ 0 → e.cnt ≡ 1 → e.ver ≡ suc version → Logged planes logical floor saved fs (enter_page map e.lpn (leads_to e)) (suc version)
  logged_lone i c v = record {
    good = marked_good (omega arith) (λ q. c) (λ r. absurd (r i)) v;
    made = redone_lone planes floor saved e s i (plain.none (inr i)) c (omega (arith, h.last)) ∙ ap (λ (m : List ℕ). enter_page m e.lpn (leads_to e))
        h.made;
    last = omega (arith, h.last, top_insert e s);
  }

-- a page of an open or given up change is lost: nothing else changes
pub logged_lost : (planes logical floor : ℕ) (saved : List ℕ) {es fs : List Entry} (map : List ℕ) (version : ℕ) (e : Entry) → Insert e es fs → e.cnt ≡ 0
    → e.ver ≡ 0 → NoMark e.id es → Logged planes logical floor saved fs map version → Logged planes logical floor saved es map version
logged_lost planes logical floor saved map version e s c v u h = record {
  good = good_part planes logical (sub_insert e s) h.good;
  made = sym (redone_page planes floor saved e s c u) ∙ h.made;
  last = omega (arith, h.last, top_insert e s);
}

-- a checkpoint saves map and last version, and a part of what was scanned is scanned from then on, perhaps in another order: what is redone is its own map
pub logged_saved : (planes logical floor : ℕ) (saved : List ℕ) {es gs fs : List Entry} (map : List ℕ) (version : ℕ)
    → Logged planes logical floor saved es map version → Perm es gs → Sublist fs gs → Logged planes logical version map fs map version
logged_saved planes logical floor saved {es} {gs} {fs} map version h p s = record {
  good = good_part planes logical s (good_perm planes logical p h.good);
  made = redone_none planes version map fs (omega (arith, top_sub s, top_perm p, h.last));
  last = omega (arith, top_sub s, top_perm p, h.last);
}

-- refusal 4 passes
pub logged_passes : (planes logical floor : ℕ) (saved : List ℕ) (es : List Entry) (map : List ℕ) (version : ℕ)
    → Logged planes logical floor saved es map version → pages_good planes logical es ≡ true
logged_passes planes logical floor saved es map version h = good_passes planes logical es h.good

-- ---- identifiers
-- an identifier on no page, never used or with no page left in the scan, has no pages: it may be used again
pub off_none : (i : ℕ) (es : List Entry) → on_pages i es ≡ false → of_id i es ≡ []
unfolding on_pages any of_id those
off_none i [] h = refl
off_none i (e ∷ es) h =
    rw (or_false_left (eqb e.id i) (any (λ (e : Entry). eqb e.id i) es) h)
    (off_none i es (or_false_right (eqb e.id i) (any (λ (e : Entry). eqb e.id i) es) h))
