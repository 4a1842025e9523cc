-- An identifier among those of the places.
use Rattle.std.specs.Prelude.{ℕ, Bool, not, ◌||◌, List, eqb}
use Rattle.model.specs.Lists.{all}

-- it is 0, or none of the later ones
unfoldable pub id_alone : ℕ → List ℕ → Bool
id_alone id later = eqb id 0 || all (λ (x : ℕ). not (eqb x id)) later
