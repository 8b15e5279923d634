-- What has no newline is no event of a thread, whatever session it comes to.
use Prim.Native.Nat.{ℕ}
use mathlib.Core.Path.{◌≡◌, refl, ap, sym, ◌∙◌}
use mathlib.Core.Bool.{Bool, true, false}
use mathlib.Core.List.{List, [], ◌∷◌}
use Rattle.std.specs.Prelude.{Option, Some, None, is_some, unwrap_or}
use lib.Dec.{eqb, ltb}
use Rattle.laws.specs.Choice.{pick}
use Rattle.laws.proofs.Choice.{both_no, false≢true}
use Rattle.replay_lines.specs.Bytes.{letter_L}
use Rattle.replay_lines.specs.Cutting.{line_end}
use Rattle.replay_lines.specs.Grammar.{read_line}
use Rattle.replay_lines.specs.declared.reading.Line.{Line}
use Rattle.replay_lines.specs.declared.reading.Line.TheVariants.{BadHeader, Malformed}
use Rattle.replay_lines.proofs.WrittenEnds.{open_line}
use Rattle.replay_session.specs.Trusting.{is_thread_event, runs_thread_event}
use Rattle.replay_session.specs.declared.session.Stage.{Stage}
use Rattle.replay_session.specs.declared.session.Stage.TheVariants.{Opening, Running, Over}
use Rattle.report_tally.specs.Tally.{most_lines}
use Rattle.program_state.specs.Trusting.{runs_in_place}

unread : (test : Bool) → is_thread_event (pick test BadHeader Malformed) ≡ false
unfolding is_thread_event
unread true = refl
unread false = refl

open_no_event : (line : List ℕ) → line_end line ≡ 0 → is_thread_event (read_line line) ≡ false
unfolding is_thread_event read_line
open_no_event [] none = refl
open_no_event (byte ∷ text) none = ap is_thread_event (open_line byte text none) ∙ unread (eqb byte letter_L)

nowhere : (stage : Stage) (line : Line) → is_thread_event line ≡ false → runs_thread_event stage line ≡ false
unfolding runs_thread_event
nowhere Opening line other = refl
nowhere Running line other = other
nowhere Over line other = refl

pub open_not_in_place : (reporting : Bool) (lines : ℕ) (stage : Stage) (line : List ℕ) → line_end line ≡ 0
    → runs_in_place reporting lines stage (read_line line) ≡ false
unfolding runs_in_place
open_not_in_place true lines stage line none = rw (nowhere stage (read_line line) (open_no_event line none)) (both_no (ltb lines most_lines))
open_not_in_place false lines stage line none = nowhere stage (read_line line) (open_no_event line none)

-- what an event that is there only where a test passes says of the test, and none
module _ {A : Type 0} where
  pub picked_some : (test : Bool) {x : A} (y : A) → Some x ≡ pick test (Some y) None → (test ≡ true) × (x ≡ y)
  picked_some true {x} y same = (refl, ap (λ (o : Option A). unwrap_or o x) same)
  picked_some false y same = false≢true (ap is_some (sym same))

  pub picked_none : (test : Bool) (y : A) → None ≡ pick test (Some y) None → test ≡ false
  picked_none true y same = false≢true (ap is_some same)
  picked_none false y same = refl
