-- The table of a session that the code has by value is well typed.
use mathlib.Core.List.{List}
use mir.Val.{Val}
use denote.Laws.{Is}
use Rattle.lock_table.specs.WellTyped.{WellTyped}
use Rattle.lock_table.proofs.OwnedTables.{owned_well_typed}
use Rattle.replay_session.specs.declared.session.Session.{Session}
use Rattle.replay_session.specs.contracts.session.Session.{the_row}

pub session_well_typed : (session : Session) (vs : List Val) → Is the_row session vs → WellTyped session.table
session_well_typed session vs owned = owned_well_typed session.table _ owned.1.1.1.0
