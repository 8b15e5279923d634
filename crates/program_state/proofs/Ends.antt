-- What the end prints: it has room, and it is printed once.
use Prim.Native.Nat.{ℕ, zero, suc, ◌*◌, ◌≤◌}
use mathlib.Core.Path.{◌≡◌, refl}
use mathlib.Core.Bool.{Bool, true, false}
use mathlib.Core.List.{List, []}
use native.Mathlib.Omega.{arith}
use lib.ListN.{length, get_or, length-append}
use Rattle.laws.specs.Choice.{either}
use Rattle.laws.proofs.Choice.{by_test}
use Rattle.replay_text.specs.Row.{row_text, row_room, report_room}
use Rattle.replay_text.specs.declared.row.Figures.{Figures}
use Rattle.replay_text.proofs.Lengths.{answer_fits, row_fits}
use Rattle.replay_session.specs.Session.{closing_of}
use Rattle.replay_session.proofs.Over.{closed_silent}
use Rattle.report_tally.specs.Tally.{no_figures}
use Rattle.report_tally.specs.Rows.{rows_text, row_count, report_text}
use Rattle.report_tally.specs.declared.tally.Tally.{Tally}
use Rattle.report_tally.proofs.RowsPut.{count_within}
use Rattle.program_state.specs.Take.{is_full, closing_text, closed_state, program}
use Rattle.program_state.specs.declared.state.State.{State}

rows_fit : (rows : List Figures) (count : ℕ) → length (rows_text rows count) ≤ count * row_room
unfolding rows_text
rows_fit rows zero = omega arith
rows_fit rows (suc count) =
    let figures = get_or rows count no_figures in
    omega (arith, length-append (rows_text rows count) (row_text (suc count) figures), rows_fit rows count, row_fits (suc count) figures)

report_fits : (tally : Tally) → length (report_text tally) ≤ report_room
unfolding report_text
report_fits tally =
    let count = row_count tally.largest in
    let rows = rows_text tally.objects count in
    omega (arith, length-append rows (row_text 0 tally.all), rows_fit tally.objects count, count_within tally.largest, row_fits 0 tally.all)

-- every end fits
pub closing_fits : (state : State) → length (closing_text state) ≤ report_room
unfolding closing_text
closing_fits state =
    by_test (λ (x : List ℕ). length x ≤ report_room) state.reporting
    (λ is. by_test (λ (x : List ℕ). length x ≤ report_room) (either state.tally.printed (is_full state.tally)) (λ done. omega arith)
    (λ due. report_fits state.tally))
    (λ other. omega (arith, answer_fits (closing_of state.session).answer))

-- a state that the end has closed prints nothing at another end
pub closed_once : (state : State) → program.closing (closed_state state) ≡ []
unfolding closing_text closed_state
closed_once state = at state.reporting
  where
    at : (which : Bool) → program.closing (closed_state (record { reporting = which; session = state.session; tally = state.tally })) ≡ []
    at true = refl
    at false = closed_silent state.session
