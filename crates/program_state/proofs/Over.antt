-- A run that has ended before its input prints nothing more, whatever comes, so that it prints what the whole input prints.
use Prim.Native.Nat.{ℕ}
use mathlib.Core.Path.{◌≡◌, refl, ap}
use mathlib.Core.Bool.{Bool, true, false}
use mathlib.Core.List.{List, []}
use native.Mathlib.Omega.{arith}
use lib.Dec.{ltb}
use borrow.Author.Tests.{ltb-true, le-ltb}
use Rattle.laws.specs.Choice.{pick}
use Rattle.laws.proofs.Choice.{split, either_yes}
use Rattle.replay_lines.specs.Grammar.{is_header}
use Rattle.replay_lines.specs.declared.reading.Line.{Line}
use Rattle.replay_text.specs.Text.{answer_text}
use Rattle.replay_parts.specs.Replay.{output_of, rest_output}
use Rattle.replay_parts.proofs.AnySplit.{lines_silent}
use Rattle.replay_session.specs.Session.{over_by, session_over}
use Rattle.replay_session.specs.declared.session.Session.{Session}
use Rattle.replay_session.specs.declared.reacting.Reaction.{Reaction}
use Rattle.replay_session.proofs.Over.{over_stays, over_ends}
use Rattle.report_tally.specs.Tally.{most_lines}
use Rattle.report_tally.specs.declared.tally.Tally.{Tally}
use Rattle.program_state.specs.Take.{excess_answer, take_with, closing_text, state_over, program}
use Rattle.program_state.specs.declared.state.State.{State}

-- no line and no end moves a state that is over on, or prints
pub record Quiet (state : State) : Type 0 where
  pub over : state_over state ≡ true

module _ (session : Session) (tally : Tally) where
  abbrev replaying : State
  replaying = record { reporting = false; session = session; tally = tally }

  abbrev reporting : State
  reporting = record { reporting = true; session = session; tally = tally }

  replay_stays : session_over session ≡ true → (line : Line) → Quiet (program.next replaying line)
  unfolding take_with state_over over_by
  replay_stays over line = record { over = ap (λ (x : Reaction). session_over x.session) (over_stays session over line) }

  replay_says : session_over session ≡ true → (line : Line) → program.prints replaying line ≡ []
  unfolding take_with answer_text
  replay_says over line = ap (λ (x : Reaction). answer_text x.answer) (over_stays session over line)

  module _ (full : ltb most_lines tally.lines ≡ true) (line : Line) where
    past : ltb tally.lines most_lines ≡ false
    past = le-ltb tally.lines most_lines (omega (arith, ltb-true most_lines tally.lines full))

    report_stays : Quiet (program.next reporting line)
    unfolding take_with state_over
    report_stays = split (is_header line) (λ header. record { over = rw header full }) (λ other. record { over = rw (other, past) refl })

    report_says : program.prints reporting line ≡ []
    unfolding take_with answer_text excess_answer
    report_says = split (is_header line) (λ header. rw header refl) (λ other. rw (other, past, full) refl)

next_quiet : (state : State) → Quiet state → (line : Line) → Quiet (program.next state line)
unfolding state_over
next_quiet state quiet line = at state.reporting quiet.over
  where
    at : (which : Bool) → pick which (ltb most_lines state.tally.lines) (session_over state.session) ≡ true
        → Quiet (program.next (record { reporting = which; session = state.session; tally = state.tally }) line)
    at true full = report_stays state.session state.tally full line
    at false over = replay_stays state.session state.tally over line

next_silent : (state : State) → Quiet state → (line : Line) → program.prints state line ≡ []
unfolding state_over
next_silent state quiet line = at state.reporting quiet.over
  where
    at : (which : Bool) → pick which (ltb most_lines state.tally.lines) (session_over state.session) ≡ true
        → program.prints (record { reporting = which; session = state.session; tally = state.tally }) line ≡ []
    at true full = report_says state.session state.tally full line
    at false over = replay_says state.session state.tally over line

end_silent : (state : State) → Quiet state → program.closing state ≡ []
unfolding state_over closing_text
end_silent state quiet = at state.reporting quiet.over
  where
    at : (which : Bool) → pick which (ltb most_lines state.tally.lines) (session_over state.session) ≡ true
        → program.closing (record { reporting = which; session = state.session; tally = state.tally }) ≡ []
    at true full = rw (full, either_yes state.tally.printed) refl
    at false over = over_ends state.session over

-- OVER IS OVER
pub lines_over_silent : (state : State) → state_over state ≡ true → (lines : List (List ℕ)) → output_of program state lines ≡ []
lines_over_silent state over = lines_silent program Quiet next_quiet next_silent end_silent state (record { over = over })

pub state_over_silent : (state : State) → state_over state ≡ true → (inside : Bool) (input : List ℕ) → rest_output program state inside input ≡ []
unfolding rest_output
state_over_silent state over inside input = lines_over_silent state over _
