-- The words of report's lines, as texts. The program reads and writes their bytes; each is shown equal to them once, here.
use Rattle.std.specs.Prelude.{◌≡◌, refl, List, [], ◌∷◌, ℕ}
use Prim.Native.Char.{code}
use Prim.Native.String.{String, [] as end, ◌∷◌ as ◌then◌}

-- the bytes of a text: one for each character, since all are ASCII
abbrev pub bytes : String → List ℕ
bytes end = []
bytes (c then s) = code c ∷ bytes s

-- ---- the lines of the input
abbrev pub blocks_name : List ℕ
blocks_name = bytes "blocks="

pub blocks_bytes : blocks_name ≡ 98 ∷ 108 ∷ 111 ∷ 99 ∷ 107 ∷ 115 ∷ 61 ∷ []
blocks_bytes = refl

abbrev pub pages_name : List ℕ
pages_name = bytes "pages="

pub pages_bytes : pages_name ≡ 112 ∷ 97 ∷ 103 ∷ 101 ∷ 115 ∷ 61 ∷ []
pages_bytes = refl

abbrev pub logical_name : List ℕ
logical_name = bytes "logical="

pub logical_bytes : logical_name ≡ 108 ∷ 111 ∷ 103 ∷ 105 ∷ 99 ∷ 97 ∷ 108 ∷ 61 ∷ []
logical_bytes = refl

-- ---- the lines of the report
abbrev pub answer_name : List ℕ
answer_name = bytes "answer="

pub answer_bytes : answer_name ≡ 97 ∷ 110 ∷ 115 ∷ 119 ∷ 101 ∷ 114 ∷ 61 ∷ []
answer_bytes = refl

abbrev pub checkpoint_name : List ℕ
checkpoint_name = bytes "checkpoint="

pub checkpoint_bytes : checkpoint_name ≡ 99 ∷ 104 ∷ 101 ∷ 99 ∷ 107 ∷ 112 ∷ 111 ∷ 105 ∷ 110 ∷ 116 ∷ 61 ∷ []
checkpoint_bytes = refl

abbrev pub version_name : List ℕ
version_name = bytes "version="

pub version_bytes : version_name ≡ 118 ∷ 101 ∷ 114 ∷ 115 ∷ 105 ∷ 111 ∷ 110 ∷ 61 ∷ []
version_bytes = refl

abbrev pub available_name : List ℕ
available_name = bytes "available="

pub available_bytes : available_name ≡ 97 ∷ 118 ∷ 97 ∷ 105 ∷ 108 ∷ 97 ∷ 98 ∷ 108 ∷ 101 ∷ 61 ∷ []
available_bytes = refl

abbrev pub unavailable_name : List ℕ
unavailable_name = bytes "unavailable="

pub unavailable_bytes : unavailable_name ≡ 117 ∷ 110 ∷ 97 ∷ 118 ∷ 97 ∷ 105 ∷ 108 ∷ 97 ∷ 98 ∷ 108 ∷ 101 ∷ 61 ∷ []
unavailable_bytes = refl

abbrev pub free_name : List ℕ
free_name = bytes "free="

pub free_bytes : free_name ≡ 102 ∷ 114 ∷ 101 ∷ 101 ∷ 61 ∷ []
free_bytes = refl

abbrev pub mapped_name : List ℕ
mapped_name = bytes "mapped="

pub mapped_bytes : mapped_name ≡ 109 ∷ 97 ∷ 112 ∷ 112 ∷ 101 ∷ 100 ∷ 61 ∷ []
mapped_bytes = refl

abbrev pub torn_name : List ℕ
torn_name = bytes "torn="

pub torn_bytes : torn_name ≡ 116 ∷ 111 ∷ 114 ∷ 110 ∷ 61 ∷ []
torn_bytes = refl
