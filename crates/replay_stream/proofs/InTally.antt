-- The enter that an event of a line in place finished is the one that the line adds.
use Prim.Native.Nat.{ℕ}
use mathlib.Core.Path.{◌≡◌, refl}
use mathlib.Core.Bool.{Bool, true}
use lib.Seq.{set-get_or}
use Rattle.laws.proofs.Choice.{false≢true}
use Rattle.lock_rules.specs.declared.event.{Event.Event}
use Rattle.lock_table.specs.{Narrow.narrow_of}
use Rattle.lock_table.specs.Access.{thread_at, object_at}
use Rattle.lock_table.specs.Place.{object_place}
use Rattle.lock_table.specs.declared.record.{Table.Table}
use Rattle.lock_table.proofs.Narrowed.{narrow_thread}
use Rattle.lock_engine.specs.declared.outcome.Outcome.{Outcome}
use Rattle.replay_lines.specs.declared.reading.Line.{Line}
use Rattle.replay_lines.specs.declared.reading.Line.TheVariants.{Header, Begin, Step, Tick, BadHeader, Malformed}
use Rattle.replay_session.specs.Trusting.{line_event, is_thread_event}
use Rattle.report_tally.specs.Way.{finishes_enter, way_finished}
use Rattle.report_tally.specs.Tally.{no_figures, with_enter, counted_at, tallied}
use Rattle.report_tally.specs.declared.way.Way.TheVariants.{NoEnter}
use Rattle.report_tally.specs.declared.tally.Tally.{Tally}
use Rattle.program_state.specs.Take.{step_tally, line_tally}
use Rattle.replay_stream.proofs.InPlace.{Carried}

-- no enter leaves both rows
pub counted_none : (tally : Tally) (place : ℕ) → counted_at tally place NoEnter ≡ tally
unfolding with_enter
counted_none tally place =
    λ j. record {
      lines = tally.lines;
      largest = tally.largest;
      printed = tally.printed;
      all = tally.all;
      objects = set-get_or tally.objects place no_figures j;
    }

-- with its number in eight bits a step counts the same
pub narrow_tally : (tally : Tally) (t : Table) (thread number : ℕ) → step_tally tally t (narrow_of thread) number ≡ step_tally tally t thread number
unfolding way_finished finishes_enter
narrow_tally tally t thread number = rw (narrow_thread t thread) refl

-- a line that is an event of a thread, counted in place
pub line_counted : (tally : Tally) (table : Table) (line : Line) (returned : ℕ) {event : Event} {issound : Bool} {thread number : ℕ} {outcome : Outcome}
    → Carried table event issound thread number outcome → is_thread_event line ≡ true → event ≡ line_event line
    → counted_at tally (object_place number) (way_finished event (thread_at table thread) (object_at table number).word returned)
    ≡ line_tally tally table line returned
unfolding is_thread_event line_event line_tally way_finished finishes_enter tallied
line_counted tally table (Header threads objects reserved) returned carried is asks = false≢true is
line_counted tally table (Begin operation thread object limit) returned {number = number} carried is asks = rw asks (counted_none tally (object_place number))
line_counted tally table (Step thread) returned carried is asks =
    rw (carried.number_is, carried.thread_is, asks) (narrow_tally tally table thread returned)
line_counted tally table Tick returned carried is asks = false≢true is
line_counted tally table BadHeader returned carried is asks = false≢true is
line_counted tally table Malformed returned carried is asks = false≢true is
