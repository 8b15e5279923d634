-- A session that is over stays so and prints nothing more; and a session that the end of the input has closed prints nothing at the end.
use mathlib.Core.Path.{◌≡◌, refl}
use mathlib.Core.Bool.{true}
use mathlib.Core.List.{[]}
use Rattle.laws.proofs.Choice.{false≢true}
use Rattle.lock_table.specs.declared.record.Table.{Table}
use Rattle.replay_lines.specs.declared.reading.Line.{Line}
use Rattle.replay_text.specs.Text.{answer_text}
use Rattle.replay_text.specs.declared.answer.Answer.TheVariants.{Silent}
use Rattle.replay_session.specs.Session.{staying, react_at_stage, react_of, closing_by, closing_of, over_by, session_over, session_replay}
use Rattle.replay_session.specs.declared.session.{Stage.Stage, Session.Session}
use Rattle.replay_session.specs.declared.session.Stage.TheVariants.{Opening, Running, Over}

stage_over : (stage : Stage) (table : Table) → over_by stage ≡ true → (line : Line) → react_at_stage stage table line ≡ staying Over table Silent
unfolding over_by react_at_stage
stage_over Opening table over line = false≢true over
stage_over Running table over line = false≢true over
stage_over Over table over line = refl

stage_over_end : (stage : Stage) (table : Table) → over_by stage ≡ true → answer_text (closing_by stage table).answer ≡ []
unfolding over_by closing_by answer_text
stage_over_end Opening table over = false≢true over
stage_over_end Running table over = false≢true over
stage_over_end Over table over = refl

-- OVER IS OVER
module _ (session : Session) (over : session_over session ≡ true) where
  pub over_stays : (line : Line) → react_of session line ≡ staying Over session.table Silent
  over_stays line = stage_over session.stage session.table over line

  pub over_ends : session_replay.closing session ≡ []
  over_ends = stage_over_end session.stage session.table over

stage_closed : (stage : Stage) (table : Table) → session_replay.closing (closing_by stage table).session ≡ []
unfolding closing_by answer_text
stage_closed Opening table = refl
stage_closed Running table = refl
stage_closed Over table = refl

-- the end prints once
pub closed_silent : (session : Session) → session_replay.closing (closing_of session).session ≡ []
closed_silent session = stage_closed session.stage session.table
