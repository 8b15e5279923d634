-- Examples of the report's rows and of a large number, byte by byte in ASCII (document 02, L4).
use Rattle.std.specs.Prelude.{◌≡◌, [], ◌∷◌, ℕ}
use Rattle.replay_text.specs.{Bytes.newline, Text.field_text, Row.row_text}
use Rattle.replay_text.specs.declared.row.Figures.{Figures}

-- this many enters by a free word and this many by nesting, and none in any other way
abbrev pub free_and_nested : ℕ → ℕ → Figures
free_and_nested free nested = record { anonymous = 0; reserved = 0; free = free; nested = nested; monitor = 0 }

pub record RowExamples : Type 0 where
  -- `2 0 0 1 2 0 0 0 3333 6666 0 0 0 1 2 0`: of object 2 a third and two thirds, each rounded down
  pub thirds : row_text 2 (free_and_nested 1 2)
      ≡ 50 ∷ 32 ∷ 48 ∷ 32 ∷ 48 ∷ 32 ∷ 49 ∷ 32 ∷ 50 ∷ 32 ∷ 48 ∷ 32
      ∷ 48 ∷ 32 ∷ 48 ∷ 32 ∷ 51 ∷ 51 ∷ 51 ∷ 51 ∷ 32 ∷ 54 ∷ 54 ∷ 54 ∷ 54 ∷ 32 ∷ 48 ∷ 32
      ∷ 48 ∷ 32 ∷ 48 ∷ 32 ∷ 49 ∷ 32 ∷ 50 ∷ 32 ∷ 48 ∷ 10 ∷ []
  -- `0 0 0 0 0 0 0 0 0 0 0 0 0 0 0 0`: of all objects, where no enter finished
  pub nothing : row_text 0 (free_and_nested 0 0)
      ≡ 48 ∷ 32 ∷ 48 ∷ 32 ∷ 48 ∷ 32 ∷ 48 ∷ 32 ∷ 48 ∷ 32 ∷ 48 ∷ 32
      ∷ 48 ∷ 32 ∷ 48 ∷ 32 ∷ 48 ∷ 32 ∷ 48 ∷ 32 ∷ 48 ∷ 32
      ∷ 48 ∷ 32 ∷ 48 ∷ 32 ∷ 48 ∷ 32 ∷ 48 ∷ 32 ∷ 48 ∷ 10 ∷ []
  -- 4,294,967,295, the largest number of 32 bits
  pub largest : field_text 4294967295 newline ≡ 52 ∷ 50 ∷ 57 ∷ 52 ∷ 57 ∷ 54 ∷ 55 ∷ 50 ∷ 57 ∷ 53 ∷ 10 ∷ []
