-- The table of a state that the code has by value is well typed.
use mathlib.Core.List.{List}
use mir.Val.{Val}
use denote.Laws.{Is}
use Rattle.lock_table.specs.WellTyped.{WellTyped}
use Rattle.replay_session.proofs.OwnedSession.{session_well_typed}
use Rattle.program_state.specs.declared.state.State.{State}
use Rattle.program_state.specs.contracts.state.State.{the_row}

pub state_well_typed : (state : State) (vs : List Val) → Is the_row state vs → WellTyped state.session.table
state_well_typed state vs owned = session_well_typed state.session _ owned.1.1.1.0
