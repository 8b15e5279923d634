-- Examples of lines that are read and of what is printed, byte by byte in ASCII.
use Rattle.std.specs.Prelude.{◌≡◌, [], ◌∷◌, ◌++◌}
use Rattle.replay_lines.specs.Grammar.{read_line}
use Rattle.replay_lines.specs.declared.reading.Line.TheVariants.{Begin, Step, Tick, Malformed}
use Rattle.replay_text.specs.Text.{word_text, set_text, answer_text}
use Rattle.replay_text.specs.declared.answer.Answer.TheVariants.{Alone, Ticked, Accepted}

pub record LineExamples : Type 0 where
  -- `S 1` and a newline
  pub step : read_line (83 ∷ 32 ∷ 49 ∷ 10 ∷ []) ≡ Step 1
  -- without the newline, with a leading zero, and with a tab in place of the space
  pub unended : read_line (83 ∷ 32 ∷ 49 ∷ []) ≡ Malformed
  pub leading_zero : read_line (83 ∷ 32 ∷ 48 ∷ 49 ∷ 10 ∷ []) ≡ Malformed
  pub tab : read_line (83 ∷ 9 ∷ 49 ∷ 10 ∷ []) ≡ Malformed
  -- 65,535 and 65,536
  pub largest : read_line (83 ∷ 32 ∷ 54 ∷ 53 ∷ 53 ∷ 51 ∷ 53 ∷ 10 ∷ []) ≡ Step 65535
  pub too_large : read_line (83 ∷ 32 ∷ 54 ∷ 53 ∷ 53 ∷ 51 ∷ 54 ∷ 10 ∷ []) ≡ Malformed
  -- `V 1 1 7`: a timed wait with its limit; `C` alone is a tick, and with a space behind it nothing
  pub timed : read_line (86 ∷ 32 ∷ 49 ∷ 32 ∷ 49 ∷ 32 ∷ 55 ∷ 10 ∷ []) ≡ Begin 6 1 1 7
  pub tick : read_line (67 ∷ 10 ∷ []) ≡ Tick
  pub tick_spaced : read_line (67 ∷ 32 ∷ 10 ∷ []) ≡ Malformed
  -- the word 00010a: six digits, lower-case, and a space
  pub word : word_text 0x00010a ≡ 48 ∷ 48 ∷ 48 ∷ 49 ∷ 48 ∷ 97 ∷ 32 ∷ []
  -- the set 8000000b, of threads 1, 2, 4 and 32: eight digits, lower-case, and a newline
  pub set : set_text 0x8000000b ≡ 56 ∷ 48 ∷ 48 ∷ 48 ∷ 48 ∷ 48 ∷ 48 ∷ 98 ∷ 10 ∷ []
  -- `1 2 3 00010a 8000000b`: a space behind each field but the last
  pub answer : answer_text (Accepted 1 2 3 0x00010a 0x8000000b)
      ≡ 49 ∷ 32 ∷ 50 ∷ 32 ∷ 51 ∷ 32 ∷ (word_text 0x00010a ++ set_text 0x8000000b)
  -- `0 00000001` of an accepted tick, `11` of a refused one
  pub ticked : answer_text (Ticked 0 1) ≡ 48 ∷ 32 ∷ 48 ∷ 48 ∷ 48 ∷ 48 ∷ 48 ∷ 48 ∷ 48 ∷ 49 ∷ 10 ∷ []
  pub tick_refused : answer_text (Alone 11) ≡ 49 ∷ 49 ∷ 10 ∷ []
