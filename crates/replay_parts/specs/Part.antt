-- What it means that a part of the input was taken and what it prints was written. The definitions speak of every tail that may
-- come behind the part, so that parts compose.
use Rattle.std.specs.Prelude.{ℕ, ◌+◌, ◌≤◌, ◌<◌, ◌≡◌, ◌⊎◌, Bool, true, List, [], ◌++◌, length, take, drop}
use Rattle.replay_lines.specs.Cutting.{line_end, line_limit}
use Rattle.replay_text.specs.Text.{line_room}
use Rattle.replay_text.specs.Row.{report_room}
use Rattle.replay_parts.specs.Replay.{Replay, rest_output}

-- room for what a last piece without a newline prints, and for what the end of the input prints: a report, or less
abbrev pub end_room : ℕ
end_room = line_room + report_room

-- what may come behind a part: nothing behind the last one
abbrev pub Follows : Bool → List ℕ → Type 0
Follows last tail = last ≡ true → tail ≡ []

-- `used` bytes of the part were taken and `wrote` bytes written, and the session went on to `session'`, `inside'`.
-- A part that has a whole line, or is longer than any line, is not left untouched if there is room for an answer; and where nothing is taken
-- of the last part, nothing more is printed.
pub record Fed {S : Type 0} (replay : Replay S) (session : S) (inside last : Bool) (input out : List ℕ)
    (session' : S) (inside' : Bool) (used wrote : ℕ) : Type 0 where
  pub used_within : used ≤ length input
  pub wrote_within : wrote ≤ length out
  pub prints : (tail : List ℕ) → Follows last tail
      → rest_output replay session inside (input ++ tail) ≡ take wrote out ++ rest_output replay session' inside' (drop used input ++ tail)
  pub moves : line_room ≤ length out → (0 < line_end input) ⊎ (line_limit < length input) → 0 < used
  pub finishes : last ≡ true → end_room ≤ length out → used ≡ 0 → rest_output replay session' inside' input ≡ []

-- a part that is longer than any line has a newline, unless there is no room for an answer anyway
abbrev pub HasLine : List ℕ → List ℕ → Type 0
HasLine input out = line_room ≤ length out → line_limit < length input → 0 < line_end input

-- the end of the input is taken elsewhere: the last part still has a line, unless there is no room for the end anyway
abbrev pub GoesOn : Bool → List ℕ → List ℕ → Type 0
GoesOn last input out = last ≡ true → end_room ≤ length out → 0 < line_end input

-- the input was passed on up to `rest`; what was printed on the way are some bytes, `printed`
pub record Passed {S : Type 0} (replay : Replay S) (session : S) (inside last : Bool) (input : List ℕ)
    (session' : S) (inside' : Bool) (rest : List ℕ) : Type 0 where
  pub printed : List ℕ
  pub prints : (tail : List ℕ) → Follows last tail
      → rest_output replay session inside (input ++ tail) ≡ printed ++ rest_output replay session' inside' (rest ++ tail)

-- nothing more can be taken of the rest: it has no whole line and is no longer than one, and behind the last part nothing more is printed
pub record Settled {S : Type 0} (replay : Replay S) (session : S) (inside last : Bool) (rest : List ℕ) : Type 0 where
  pub no_line : line_end rest ≡ 0
  pub short : length rest ≤ line_limit
  pub silent : last ≡ true → rest_output replay session inside rest ≡ []
