-- The lines as document 01, "The replay program", writes them: `L threads objects r`, then `E`, `X`, `W`, `N` or `A` with thread and
-- object, or `S` with thread; and as request L1 does: `V` with thread, object and limit, and `C`. The laws of proofs/ReadBack.antt say that
-- the reader takes these lines and no others.
use Rattle.std.specs.Prelude.{ℕ, ◌≤◌, Bool, false, List, [], ◌∷◌, ◌++◌, eqb}
use Rattle.laws.specs.Count.{one_if}
use Rattle.replay_text.specs.Digits.{decimal}
use Rattle.replay_text.specs.Bytes.{newline, space}
use Rattle.replay_lines.specs.Bytes.{letter_A, letter_C, letter_E, letter_L, letter_N, letter_S, letter_V, letter_W, letter_X}
use Rattle.replay_lines.specs.Number.{number_limit}
use Rattle.replay_lines.specs.declared.reading.Line.{Line}
use Rattle.replay_lines.specs.declared.reading.Line.TheVariants.{Header, Begin, Step, Tick}

-- a space, a number in decimal with no leading zero, and what stands behind it
abbrev pub spaced : ℕ → List ℕ → List ℕ
spaced number rest = space ∷ (decimal number ++ rest)

abbrev pub line_break : List ℕ
line_break = newline ∷ []

-- an operation's number and its letter; the timed wait, which has a limit, is written below
pub data Letter : ℕ → ℕ → Type 0 where
  enter : Letter 1 letter_E
  exit : Letter 2 letter_X
  wait : Letter 3 letter_W
  notify : Letter 4 letter_N
  notify_all : Letter 5 letter_A

-- a line whose first byte is this one
abbrev pub begins_with : ℕ → List ℕ → Bool
begins_with letter [] = false
begins_with letter (byte ∷ line) = eqb byte letter

-- the text of a line, its newline with it
pub data Writes : Line → List ℕ → Type 0 where
  header : {threads objects : ℕ} {reserved : Bool} → threads ≤ number_limit → objects ≤ number_limit
      → Writes (Header threads objects reserved) (letter_L ∷ spaced threads (spaced objects (spaced (one_if reserved) line_break)))
  begin : {operation letter thread object : ℕ} → Letter operation letter → thread ≤ number_limit → object ≤ number_limit
      → Writes (Begin operation thread object 0) (letter ∷ spaced thread (spaced object line_break))
  timed_wait : {thread object limit : ℕ} → thread ≤ number_limit → object ≤ number_limit → limit ≤ number_limit
      → Writes (Begin 6 thread object limit) (letter_V ∷ spaced thread (spaced object (spaced limit line_break)))
  step : {thread : ℕ} → thread ≤ number_limit → Writes (Step thread) (letter_S ∷ spaced thread line_break)
  tick : Writes Tick (letter_C ∷ line_break)
