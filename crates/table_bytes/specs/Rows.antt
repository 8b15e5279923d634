-- Records laid out by rows: a layout is a list of fields, each with the number of bytes that it has. Offsets and sizes follow from the widths.
use Rattle.std.specs.Prelude.{ℕ, zero, suc, ◌+◌, ◌*◌, ◌/◌, ◌%◌, List, [], ◌∷◌, ◌++◌, length, take, drop}

-- a field of a record: which number it is, and in how many bytes
pub record Field (A : Type 0) : Type 0 where
  pub number : A → ℕ
  pub width : ℕ

abbrev pub field : {A : Type 0} → (A → ℕ) → ℕ → Field A
field number width = record { number = number; width = width }

-- how many bytes a record has
abbrev pub size : {A : Type 0} → List (Field A) → ℕ
size [] = 0
size (row ∷ rows) = row.width + size rows

-- a number in its bytes, the lowest first; the last has what is left
abbrev pub number_bytes : ℕ → ℕ → List ℕ
number_bytes zero number = []
number_bytes (suc zero) number = number ∷ []
number_bytes (suc (suc more)) number = number % 256 ∷ number_bytes (suc more) (number / 256)

-- the bytes of a record: its fields one behind the other
abbrev pub record_bytes : {A : Type 0} → List (Field A) → A → List ℕ
record_bytes [] whole = []
record_bytes (row ∷ rows) whole = number_bytes row.width (row.number whole) ++ record_bytes rows whole

-- a number read from bytes that are given by their places
abbrev pub number_in : ℕ → (ℕ → ℕ) → ℕ
number_in zero byte = 0
number_in (suc zero) byte = byte 0
number_in (suc (suc more)) byte = byte 0 + number_in (suc more) (λ i. byte (suc i)) * 256

-- the numbers of all fields, in their order
abbrev pub Numbers : {A : Type 0} → List (Field A) → Type 0
Numbers [] = Unit
Numbers (row ∷ rows) = ℕ × Numbers rows

abbrev pub numbers_in : {A : Type 0} (rows : List (Field A)) → (ℕ → ℕ) → Numbers rows
numbers_in [] byte = tt
numbers_in (row ∷ rows) byte = (number_in row.width byte, numbers_in rows (λ i. byte (row.width + i)))

-- records one behind the other, those at the places from 0 on
unfoldable pub joined : ℕ → (ℕ → List ℕ) → List ℕ
joined zero part = []
joined (suc n) part = part zero ++ joined n (λ i. part (suc i))

-- bytes with others stored over them from a place on
abbrev pub overwritten : ℕ → List ℕ → List ℕ → List ℕ
overwritten at part bytes = take at bytes ++ part ++ drop (at + length part) bytes
