-- An input cut behind its newlines (document 01, "The replay program"): "a newline after each line".
use Rattle.std.specs.Prelude.{ℕ, zero, suc, List, [], ◌∷◌, eqb}
use Rattle.laws.specs.Choice.{pick}
use Rattle.replay_text.specs.Bytes.{newline}

-- the end of a line, seen from one byte before it; 0 where there is no end
abbrev pub one_further : ℕ → ℕ
one_further zero = 0
one_further (suc n) = suc (suc n)

-- how many bytes the first line takes, its newline with it; 0 if there is no newline
unfoldable pub line_end : List ℕ → ℕ
line_end [] = 0
line_end (byte ∷ input) = pick (eqb byte newline) 1 (one_further (line_end input))

-- no line of a form is longer: a letter, three numbers of a space and at most five digits each, and the newline
abbrev pub line_limit : ℕ
line_limit = 20

-- one byte more at the start of the first line
abbrev pub before_first : ℕ → List (List ℕ) → List (List ℕ)
before_first byte [] = (byte ∷ []) ∷ []
before_first byte (line ∷ lines) = (byte ∷ line) ∷ lines

-- the lines of an input, each with its newline; what stands behind the last newline, if anything, is a line with none
unfoldable pub lines_of : List ℕ → List (List ℕ)
lines_of [] = []
lines_of (byte ∷ input) = pick (eqb byte newline) ((byte ∷ []) ∷ lines_of input) (before_first byte (lines_of input))

abbrev pub first_line : List (List ℕ) → List ℕ
first_line [] = []
first_line (line ∷ lines) = line

abbrev pub later_lines : List (List ℕ) → List (List ℕ)
later_lines [] = []
later_lines (line ∷ lines) = lines
