-- What a program keeps between two lines: the session of the schedule that is replayed, and for the report the tally of all schedules.
use Rattle.std.specs.Prelude.{Bool}
use Rattle.laws.specs.Choice.{pick}
use Rattle.lock_table.specs.Fresh.{no_table}
use Rattle.replay_session.specs.Session.{fresh_session}
use Rattle.replay_session.specs.declared.session.Stage.TheVariants.{Over}
use Rattle.replay_session.specs.declared.session.Session.{Session}
use Rattle.report_tally.specs.Tally.{fresh_tally}
use Rattle.report_tally.specs.declared.tally.Tally.{Tally}
use Rattle.program_state.specs.declared.state.State.{State}

-- no schedule is open: a line that is no header does nothing
abbrev pub no_schedule : Session
no_schedule = record { stage = Over; table = no_table }

abbrev pub fresh_state : Bool → State
fresh_state reporting = record { reporting = reporting; session = pick reporting no_schedule fresh_session; tally = fresh_tally }

abbrev pub with_session : State → Session → State
with_session state session = record { reporting = state.reporting; session = session; tally = state.tally }

abbrev pub with_tally : State → Tally → State
with_tally state tally = record { reporting = state.reporting; session = state.session; tally = tally }
