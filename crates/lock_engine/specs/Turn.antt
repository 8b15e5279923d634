-- An event on the records that it touches: its thread's and that of the object it is about. No table is looked at.
use Rattle.std.specs.Prelude.{ℕ, Bool, false, ltb, Option, Some, None, Result, Ok, Err}
use Rattle.laws.specs.Choice.{pick, within}
use Rattle.lock_word.specs.Ticks.{tick_limit}
use Rattle.lock_word.specs.Read.{read_word}
use Rattle.lock_word.specs.Meaning.{seen_word}
use Rattle.lock_word.specs.declared.reading.LockWord.{LockWord}
use Rattle.lock_rules.specs.Gate.{gate}
use Rattle.lock_rules.specs.Rules.{decide}
use Rattle.lock_rules.specs.declared.event.Event.{Event}
use Rattle.lock_rules.specs.declared.event.Event.TheVariants.{Begin, Step, Tick as TickEvent}
use Rattle.lock_rules.specs.declared.event.Refusal.{Refusal}
use Rattle.lock_rules.specs.declared.event.Refusal.TheVariants.{NotSound}
use Rattle.lock_rules.specs.declared.Doing.{Doing}
use Rattle.lock_rules.specs.declared.ThreadState.{ThreadState}
use Rattle.lock_rules.specs.declared.ThreadState.TheVariants.{Idle, Running, Queued, Contending, Waiting}
use Rattle.lock_rules.specs.declared.ChainWork.TheVariants.{Stay}
use Rattle.lock_rules.specs.declared.Answer.TheVariants.{NoRule}
use Rattle.lock_rules.specs.declared.Effect.{Effect}
use Rattle.lock_table.specs.Limits.{object_limit}
use Rattle.lock_table.specs.Record.{with_activity}
use Rattle.lock_table.specs.Operation.{operation_from}
use Rattle.lock_table.specs.declared.operation.Operation.{Operation}
use Rattle.lock_table.specs.declared.operation.Operation.TheVariants.{Idle as NoOperation, Enter, Exit, Wait, Notify, NotifyAll, TimedWait}
use Rattle.lock_table.specs.declared.phase.Phase.TheVariants.{Look}
use Rattle.lock_table.specs.declared.record.ThreadRecord.{ThreadRecord}
use Rattle.lock_table.specs.declared.record.ObjectRecord.{ObjectRecord}
use Rattle.lock_gate.specs.Status.{thread_status}
use Rattle.lock_perform.specs.State.{read_thread, write_thread}
use Rattle.lock_perform.specs.Sight.{sight_with}
use Rattle.lock_perform.specs.Perform.{object_after}
use Rattle.lock_work.specs.declared.settling.Work.TheVariants.{Chains, Tick}
use Rattle.lock_engine.specs.declared.outcome.Reply.{Reply}
use Rattle.lock_engine.specs.declared.outcome.Reply.TheVariants.{Accepted, Refused, Answered}
use Rattle.lock_engine.specs.declared.turning.Turn.{Turn}

-- both records stay, and nothing is left to do
abbrev pub replying : ThreadRecord → ObjectRecord → Reply → Turn
replying own object reply = record { own = own; object = object; work = Chains Stay; reply = reply; commits = false }

abbrev pub refused : ThreadRecord → ObjectRecord → Refusal → Turn
refused own object refusal = replying own object (Refused refusal)

-- the ticks that a begin gives: its limit, of a timed wait alone. The gate lets no limit through that sixteen bits do not hold.
unfoldable pub given_ticks : Operation → ℕ → ℕ
given_ticks NoOperation limit = 0
given_ticks Enter limit = 0
given_ticks Exit limit = 0
given_ticks Wait limit = 0
given_ticks Notify limit = 0
given_ticks NotifyAll limit = 0
given_ticks TimedWait limit = pick (ltb tick_limit limit) tick_limit limit

-- "begin sets phase 1"
abbrev pub begun : ThreadRecord → Operation → ℕ → ℕ → ThreadRecord
begun own operation number limit =
    with_activity own
    (record { kept = 0; saved = 0; ticks = given_ticks operation limit; object = number; operation = operation; phase = Look })

abbrev pub begin_turn : ThreadRecord → ObjectRecord → Operation → ℕ → ℕ → Turn
begin_turn own object operation number limit =
    record { own = begun own operation number limit; object = object; work = Chains Stay; reply = Accepted; commits = false }

-- a tick leaves the two records that it reads to the work
abbrev pub tick_turn : ThreadRecord → ObjectRecord → Turn
tick_turn own object = record { own = own; object = object; work = Tick; reply = Accepted; commits = false }

-- a rule's effect
abbrev pub effect_turn : ℕ → ThreadRecord → ObjectRecord → Effect → Turn
effect_turn thread own object effect =
    record {
      own = write_thread thread own.object effect.state own;
      object = object_after thread own.object object effect;
      work = Chains effect.work;
      reply = Answered effect.answer;
      commits = effect.commits;
    }

-- 20 leaves both records
unfoldable pub action_turn : ℕ → ThreadRecord → ObjectRecord → Option Effect → Turn
action_turn thread own object None = replying own object (Answered NoRule)
action_turn thread own object (Some effect) = effect_turn thread own object effect

-- a sound table has no other word than a valid one
unfoldable pub word_turn : ℕ → ThreadRecord → ObjectRecord → ℕ → Doing → Option LockWord → Turn
word_turn thread own object waiters doing None = refused own object NotSound
word_turn thread own object waiters doing (Some word) =
    action_turn thread own object (decide thread (sight_with object (seen_word word) waiters) doing)

-- a thread of a sound table that is ready is at a step of its operation
unfoldable pub state_turn : ℕ → ThreadRecord → ObjectRecord → ℕ → ThreadState → Turn
state_turn thread own object waiters Idle = refused own object NotSound
state_turn thread own object waiters (Running doing) = word_turn thread own object waiters doing (read_word object.word)
state_turn thread own object waiters (Queued carried) = refused own object NotSound
state_turn thread own object waiters Contending = refused own object NotSound
state_turn thread own object waiters (Waiting suspension) = refused own object NotSound

-- and at an object that has a record
unfoldable pub step_turn : ℕ → ThreadRecord → ObjectRecord → ℕ → Turn
step_turn thread own object waiters =
    pick (within 1 object_limit own.object) (state_turn thread own object waiters (read_thread own)) (refused own object NotSound)

unfoldable pub open_turn : Event → ThreadRecord → ObjectRecord → ℕ → Turn
open_turn (Begin operation thread number limit) own object waiters = begin_turn own object (operation_from operation) number limit
open_turn (Step thread) own object waiters = step_turn thread own object waiters
open_turn TickEvent own object waiters = tick_turn own object

unfoldable pub gate_turn : Result (Unit {0}) Refusal → Event → ThreadRecord → ObjectRecord → ℕ → Turn
gate_turn (Ok _) event own object waiters = open_turn event own object waiters
gate_turn (Err refusal) event own object waiters = refused own object refusal

-- the records after an event and its reply; of the table only whether it is sound, its sizes and how many wait for the object
abbrev pub take_turn : Bool → ℕ → ℕ → Event → ThreadRecord → ObjectRecord → ℕ → Turn
take_turn issound threads objects event own object waiters =
    gate_turn (gate issound threads objects event (thread_status own.phase)) event own object waiters
