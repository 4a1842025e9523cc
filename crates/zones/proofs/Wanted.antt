-- Pages that keep their block unavailable, by the identifiers of the places: what a page shows, and that they are those of model. Assumes nothing.
use mathlib.Core.Path.{◌≡◌, refl, sym, ◌∙◌}
use mathlib.Core.Bool.{Bool, true, false, not, ◌&&◌, ◌||◌}
use mathlib.Core.List.{List}
use Prim.Native.Nat.{ℕ, ◌*◌}
use lib.Dec.{eqb}
use Rattle.model.specs.Lists.{any, those}
use Rattle.model.specs.Page.{spare_of, page_at, whole_at}
use Rattle.model.specs.Zones.{Entry, entry_of, entry_at, whole_from, on_pages, active, wanted, holds_wanted, judged}
use Rattle.model.specs.declared.Place.{Place}
use Rattle.model.specs.declared.Spare.{Spare}
use Rattle.arrays.specs.Tests.{and_right_false}
use Rattle.places.specs.Ids.{ids_of, active_in}
use Rattle.places.proofs.Ids.{active_ids}
use Rattle.zones.specs.Judging.{ids_in, wanted_id, wanted_by, holds_by}
use Rattle.zones.proofs.Pages.{page_passes, and_true}
use Rattle.zones.proofs.Near.{ids_on_pages}

-- ---- page k, s being its spare area
module _ (xs : List ℕ) (k : ℕ) (ids near : List ℕ) (s : Spare) (e : s ≡ spare_of (page_at xs k)) where
  page_wanted : any (wanted_by ids near) (entry_at xs k) ≡ (whole_at xs k && wanted_id ids near s.id)
  unfolding wanted_by entry_of
  page_wanted = page_passes (wanted_by ids near) xs k ∙ rw (← e)

  pub unwanted_page : wanted_id ids near s.id ≡ false → false ≡ any (wanted_by ids near) (entry_at xs k)
  unwanted_page h = sym (page_wanted ∙ and_right_false (whole_at xs k) (wanted_id ids near s.id) h)

  pub wanted_page : wanted_id ids near s.id ≡ true → whole_at xs k ≡ any (wanted_by ids near) (entry_at xs k)
  wanted_page h = sym (page_wanted ∙ rw h (and_true (whole_at xs k)))

-- ---- by the places and the identifiers on near pages
module _ (ps : List Place) (near : List Entry) where
  wanted_by_law : (e : Entry) → wanted_by (ids_of ps) (ids_in near) e ≡ wanted ps near e
  unfolding wanted_by wanted_id wanted
  wanted_by_law e = go (eqb e.id 0) refl
    where
      go : (t : Bool) → eqb e.id 0 ≡ t → (not t && (active_in e.id (ids_of ps) || any (λ (x : ℕ). eqb x e.id) (ids_in near))) ≡ (not t && (active e.id ps || on_pages e.id near))
      go true h = refl
      go false h = rw (active_ids e.id ps, ids_on_pages e.id near h)

  holds_by_law : (xs : List ℕ) (p b : ℕ) → holds_by xs p (ids_of ps) (ids_in near) b ≡ holds_wanted xs p ps near b
  unfolding holds_by holds_wanted
  holds_by_law xs p b = λ i. any (λ (e : Entry). wanted_by_law e i) (whole_from xs (b * p) p)

  pub judged_by : (xs : List ℕ) (p : ℕ) (bs : List ℕ) → those (holds_by xs p (ids_of ps) (ids_in near)) bs ≡ judged xs p ps near bs
  unfolding judged
  judged_by xs p bs = λ i. those (λ (b : ℕ). holds_by_law xs p b i) bs
