-- A place whose identifier no later one shares, by the identifiers alone. Assumes nothing.
use mathlib.Core.Path.{◌≡◌, refl, sym, ap}
use mathlib.Core.Bool.{Bool, true, false, not, ◌&&◌, ◌||◌}
use mathlib.Core.List.{List, [], ◌∷◌}
use Prim.Native.Nat.{ℕ, zero, suc, ◌+◌, ◌<◌}
use lib.Dec.{eqb}
use lib.ListN.{length, get_or, drop}
use borrow.Author.Tests.{ne_eqb}
use Rattle.model.specs.Lists.{all, any}
use Rattle.model.specs.Zones.{has_id}
use Rattle.model.specs.Frame.{no_place, place_ok, alone}
use Rattle.model.specs.declared.Geometry.{Geometry}
use Rattle.model.specs.declared.Place.{Place}
use Rattle.places.specs.Ids.{ids_of, is_id}
use Rattle.places.proofs.Ids.{ids_at}
use Rattle.frame.specs.Ids.{id_alone}

-- a place with those after it
abbrev pub place_among : Geometry → Place → List Place → Bool
place_among g p later = place_ok g p && alone p later

-- ---- the identifiers of the places
drop_ids : (n : ℕ) (ps : List Place) → drop n (ids_of ps) ≡ ids_of (drop n ps)
unfolding ids_of
drop_ids zero ps = refl
drop_ids (suc n) [] = refl
drop_ids (suc n) (p ∷ ps) = drop_ids n ps

all_ids : (id : ℕ) (ps : List Place) → all (λ (x : ℕ). not (eqb x id)) (ids_of ps) ≡ all (λ (q : Place). not (has_id id q)) ps
unfolding all ids_of
all_ids id [] = refl
all_ids id (p ∷ ps) = ap (λ (t : Bool). not (eqb p.id id) && t) (all_ids id ps)

pub alone_ids : (ps : List Place) (i : ℕ) → i < length ps → id_alone (get_or (ids_of ps) i 0) (drop (i + 1) (ids_of ps)) ≡ alone (get_or ps i no_place) (drop (i + 1) ps)
unfolding id_alone alone
alone_ids ps i h = rw (ids_at ps i no_place h, drop_ids (i + 1) ps, all_ids (get_or ps i no_place).id (drop (i + 1) ps))

-- an identifier other than 0 is alone where it is not among the later ones
all_not : (id : ℕ) (ids : List ℕ) → all (λ (x : ℕ). not (eqb x id)) ids ≡ not (any (is_id id) ids)
unfolding all any
all_not id [] = refl
all_not id (x ∷ ids) = go (eqb x id) (all_not id ids)
  where
    go : (t : Bool) → all (λ (y : ℕ). not (eqb y id)) ids ≡ not (any (is_id id) ids) → (not t && all (λ (y : ℕ). not (eqb y id)) ids) ≡ not (t || any (is_id id) ids)
    go true e = refl
    go false e = e

pub alone_later : (id : ℕ) (ids : List ℕ) → (id ≡ 0 → ⊥) → not (any (is_id id) ids) ≡ id_alone id ids
unfolding id_alone
alone_later id ids h = sym (rw (ne_eqb id 0 h) (all_not id ids))
