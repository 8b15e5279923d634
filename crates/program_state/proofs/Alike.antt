-- A program that does not report is the replay of its session, as document 01 has it.
use Prim.Native.Nat.{ℕ}
use mathlib.Core.Path.{◌≡◌, refl}
use mathlib.Core.Bool.{false}
use mathlib.Core.List.{List}
use Rattle.replay_parts.specs.Replay.{replay_of}
use Rattle.replay_parts.proofs.AnySplit.{replays_alike}
use Rattle.replay_session.specs.Session.{fresh_session, session_replay}
use Rattle.replay_session.specs.declared.session.Session.{Session}
use Rattle.report_tally.specs.Tally.{fresh_tally}
use Rattle.program_state.specs.State.{fresh_state}
use Rattle.program_state.specs.Take.{take_with, closing_text, program}
use Rattle.program_state.specs.declared.state.State.{State}

abbrev replaying : Session → State
replaying session = record { reporting = false; session = session; tally = fresh_tally }

-- THE REPLAY IS AS IT WAS
pub replay_alike : (input : List ℕ) → replay_of program (fresh_state false) input ≡ replay_of session_replay fresh_session input
unfolding take_with closing_text
replay_alike input =
    replays_alike session_replay program replaying (λ session line. refl) (λ session line. refl) (λ session. refl) fresh_session input
