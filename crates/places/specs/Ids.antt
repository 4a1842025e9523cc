-- The identifiers of the places, apart from what else a place has.
use Rattle.std.specs.Prelude.{ℕ, Bool, not, cond, ◌&&◌, List, [], ◌∷◌, Option, Some, None, eqb, ltb}
use Rattle.model.specs.Lists.{any}
use Rattle.model.specs.declared.Place.{Place}

-- one after the other, 0 for a free place
unfoldable pub ids_of : List Place → List ℕ
ids_of [] = []
ids_of (p ∷ ps) = p.id ∷ ids_of ps

-- the identifier is this one
abbrev pub is_id : ℕ → ℕ → Bool
is_id id x = eqb x id

-- an identifier other than 0 that is among these
unfoldable pub active_in : ℕ → List ℕ → Bool
active_in id ids = not (eqb id 0) && any (is_id id) ids

-- the place of this index: past the last there is none, where `model` says 8
unfoldable pub place_at : ℕ → Option ℕ
place_at i = cond (ltb i 8) (Some i) None
