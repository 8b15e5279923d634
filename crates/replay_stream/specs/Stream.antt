-- What a turn, a part and the end of the input give, for either program's state.
use Rattle.std.specs.Prelude.{ℕ, ◌+◌, ◌≤◌, ◌≡◌, Bool, false, List, [], ◌++◌, length, take}
use Rattle.replay_lines.specs.Grammar.{read_line}
use Rattle.replay_text.specs.Text.{line_room}
use Rattle.replay_parts.specs.Part.{Fed, GoesOn}
use Rattle.lock_table.specs.declared.record.Table.{Table}
use Rattle.replay_session.specs.declared.session.Stage.{Stage}
use Rattle.report_tally.specs.declared.tally.Tally.{Tally}
use Rattle.program_state.specs.State.{fresh_state}
use Rattle.program_state.specs.Take.{program}
use Rattle.program_state.specs.declared.state.State.{State}
use Rattle.replay_stream.specs.declared.turn.Turn.{Turn}
use Rattle.replay_stream.specs.declared.feeding.Stream.{Stream}
use Rattle.replay_stream.specs.declared.feeding.Progress.{Progress}

-- the state moves on, and what the line prints stands behind what stood there
pub record Turned (state : State) (line before after : List ℕ) (at : ℕ) (r : Turn) : Type 0 where
  pub moved : r.state ≡ program.next state (read_line line)
  pub front : take r.wrote after ≡ take at before ++ program.prints state (read_line line)
  pub most : r.wrote ≤ at + line_room
  pub within : r.wrote ≤ length after

-- the state closes, what the end prints stands behind what stood there, and the end prints nothing more
pub record Closed (state : State) (before after : List ℕ) (at : ℕ) (r : Turn) : Type 0 where
  pub front : take r.wrote after ≡ take at before ++ program.closing state
  pub silent : program.closing r.state ≡ []
  pub within : r.wrote ≤ length after

abbrev pub fresh_stream : Bool → Stream
fresh_stream reporting = record { state = fresh_state reporting; inside = false }

abbrev pub joined : Bool → Stage → Table → Tally → State
joined reporting stage table tally = record { reporting = reporting; session = record { stage = stage; table = table }; tally = tally }

-- a state behind so much of a part
abbrev pub progressed : State → ℕ → ℕ → Progress
progressed state used wrote = record { stream = record { state = state; inside = false }; used = used; wrote = wrote }

-- a part was taken, and if it is the last one the end of the input with it
abbrev pub FedFrom : State → Bool → Bool → List ℕ → List ℕ → Progress → Type 0
FedFrom state inside last input out r =
    Fed program state inside last input out r.stream.state r.stream.inside r.used r.wrote

-- a part was taken, whether or not it is the last one, without the end of the input
abbrev pub FedLines : State → Bool → List ℕ → List ℕ → List ℕ → Progress → Type 0
FedLines state inside input before after r = (last : Bool) → GoesOn last input before → FedFrom state inside last input after r
