-- A replay (document 01, "The replay program"): each line moves a session on and prints, and so does the end of the input.
-- What a session is, and what a line does to it, is left open.
use Rattle.std.specs.Prelude.{ℕ, Bool, List, [], ◌∷◌, ◌++◌}
use Rattle.laws.specs.Choice.{pick}
use Rattle.replay_lines.specs.Cutting.{lines_of, later_lines}
use Rattle.replay_lines.specs.Grammar.{read_line}
use Rattle.replay_lines.specs.declared.reading.Line.{Line}

pub record Replay (S : Type 0) : Type 0 where
  pub next : S → Line → S
  pub prints : S → Line → List ℕ
  pub closing : S → List ℕ

-- what a session prints of some lines, and of the end behind them
unfoldable pub output_of : {S : Type 0} → Replay S → S → List (List ℕ) → List ℕ
output_of replay session [] = replay.closing session
output_of replay session (line ∷ lines) =
    replay.prints session (read_line line) ++ output_of replay (replay.next session (read_line line)) lines

-- what a session prints of a whole input
unfoldable pub replay_of : {S : Type 0} → Replay S → S → List ℕ → List ℕ
replay_of replay session input = output_of replay session (lines_of input)

-- what a session prints of the rest of an input. If `inside`, the rest begins inside a line that was answered already, being too
-- long for any form; what is left of that line prints nothing more
unfoldable pub rest_output : {S : Type 0} → Replay S → S → Bool → List ℕ → List ℕ
rest_output replay session inside input = output_of replay session (pick inside (later_lines (lines_of input)) (lines_of input))
