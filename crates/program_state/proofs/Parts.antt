-- A line that is no event of a thread in a running session moves a state on by its parts: the session, and two numbers of the tally.
use Prim.Native.Nat.{ℕ}
use mathlib.Core.Path.{◌≡◌, refl, sym}
use mathlib.Core.Bool.{Bool, true, false}
use lib.Dec.{ltb}
use Rattle.laws.proofs.Choice.{split, false≢true}
use Rattle.lock_table.specs.declared.record.Table.{Table}
use Rattle.replay_lines.specs.Grammar.{is_header}
use Rattle.replay_lines.specs.declared.reading.Line.{Line}
use Rattle.replay_lines.specs.declared.reading.Line.TheVariants.{Header, Begin, Step, Tick, BadHeader, Malformed}
use Rattle.replay_session.specs.Trusting.{is_thread_event, runs_thread_event}
use Rattle.replay_session.specs.declared.session.Stage.{Stage}
use Rattle.replay_session.specs.declared.session.Stage.TheVariants.{Opening, Running, Over}
use Rattle.report_tally.specs.Tally.{most_lines}
use Rattle.report_tally.specs.declared.tally.Tally.{Tally}
use Rattle.program_state.specs.Take.{Took, took, line_tally, stage_tally, one_line, returned_in, take_with}
use Rattle.program_state.specs.Trusting.{knowing, line_reaction, line_answer, one_further, lines_after, largest_after, runs_in_place}
use Rattle.program_state.specs.declared.state.State.{State}

-- such a line finishes no enter
line_none : (tally : Tally) (table : Table) (line : Line) (number : ℕ) → is_thread_event line ≡ false → line_tally tally table line number ≡ tally
unfolding line_tally is_thread_event
line_none tally table (Header threads objects reserved) number other = refl
line_none tally table (Begin operation thread object limit) number other = refl
line_none tally table (Step thread) number other = false≢true (sym other)
line_none tally table Tick number other = refl
line_none tally table BadHeader number other = refl
line_none tally table Malformed number other = refl

stage_none : (tally : Tally) (stage : Stage) (table : Table) (line : Line) (number : ℕ) → runs_thread_event stage line ≡ false
    → stage_tally tally stage table line number ≡ tally
unfolding stage_tally runs_thread_event
stage_none tally Opening table line number other = refl
stage_none tally Running table line number other = line_none tally table line number other
stage_none tally Over table line number other = refl

-- the state behind the line, and what is printed
abbrev pub parted : State → Line → Bool → Took
parted state line issound =
    let tally = state.tally in
    let reaction = line_reaction state.reporting tally.lines state.session.stage state.session.table line issound in
    took
    (record {
      reporting = state.reporting;
      session = reaction.session;
      tally = record {
        lines = lines_after state.reporting tally.lines line;
        largest = largest_after state.reporting tally.largest line reaction.session.table.objectcount;
        printed = tally.printed;
        all = tally.all;
        objects = tally.objects;
      };
    })
    (line_answer state.reporting tally.lines line reaction.answer)

pub by_parts : (state : State) (line : Line) (issound : Bool) → runs_in_place state.reporting state.tally.lines state.session.stage line ≡ false
    → take_with (knowing issound) state line ≡ parted state line issound
unfolding take_with line_reaction line_answer lines_after largest_after one_further runs_in_place
by_parts state line issound = at state.reporting
  where
    at : (which : Bool) → let told : State = record { reporting = which; session = state.session; tally = state.tally } in
        runs_in_place which state.tally.lines state.session.stage line ≡ false → take_with (knowing issound) told line ≡ parted told line issound
    at false other = refl
    at true other =
        split (is_header line) (λ header. rw header refl)
        (λ event. split (ltb state.tally.lines most_lines)
        (λ few.
        rw (
          event,
          few,
          stage_none (one_line state.tally) state.session.stage state.session.table line
              (returned_in (knowing issound state.session line).answer) (rw few at other),
        )
        refl)
        (λ many. rw (event, many) refl))
