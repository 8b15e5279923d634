-- The plain monitors, fed with the events of a schedule and what each returned, and what is asked of the operations that ended.
use Rattle.std.specs.Prelude.{ℕ, ◌+◌, ◌≡◌, Bool, List, [], ◌∷◌}
use Rattle.laws.specs.Choice.{pick}
use Rattle.laws.specs.Update.{update}
use Rattle.lock_rules.specs.Numbers.{asked_for}
use Rattle.lock_rules.specs.Operations.{Operation, Enter, Exit, Wait, Notify, NotifyAll, Asked, Unknown, Known}
use Rattle.lock_rules.specs.declared.Limit.{Limit}
use Rattle.lock_rules.specs.declared.Limit.TheVariants.{Unlimited}
use Rattle.lock_rules.specs.declared.Answer.{Answer}
use Rattle.lock_rules.specs.declared.Answer.TheVariants.{GoneOn, Finished, Parked, NotOwner, TooDeep, NoRule}
use Rattle.lock_rules.specs.declared.event.Event.{Event}
use Rattle.lock_rules.specs.declared.event.Event.TheVariants.{Begin, Step, Tick}
use Rattle.lock_rules.specs.Events.{Reply, Accepted, Refused, Answered, Shown}
use Rattle.lock_rules.specs.PlainMonitor.{PlainMonitor, unowned, commit, plain_tick}

-- a thread's last begin that returned 0: operation, limit and object, how often it has committed since, and the plain answer of its last commit
pub record OperationLog : Type 0 where
  pub operation : Operation
  pub limit : Limit
  pub object : ℕ
  pub commits : ℕ
  pub answer : Answer

-- a step of an operation: its thread, what it answered, and the operation's log after it
pub record StepEntry : Type 0 where
  pub thread : ℕ
  pub answer : Answer
  pub log : OperationLog

-- the monitor of each object, the log of each thread, and all steps, the last one first
pub record Plain : Type 0 where
  pub monitors : ℕ → PlainMonitor
  pub logs : ℕ → OperationLog
  pub steps : List StepEntry

abbrev pub new_log : Operation → Limit → ℕ → OperationLog
new_log operation limit object = record { operation = operation; limit = limit; object = object; commits = 0; answer = GoneOn }

abbrev pub log_after : Bool → OperationLog → Answer → OperationLog
log_after commits log answer =
    pick commits
    (record { operation = log.operation; limit = log.limit; object = log.object; commits = log.commits + 1; answer = answer }) log

-- only a committing step alters a monitor: it runs the operation and object of its thread's last begin that returned 0
abbrev pub fed_step : Plain → ℕ → Answer → Bool → Plain
fed_step plain thread answer commits =
    let log = plain.logs thread in
    let committed = commit log.operation log.limit thread (plain.monitors log.object) in
    let after = log_after commits log committed.answer in
    record {
      monitors = update plain.monitors log.object (pick commits committed.monitor (plain.monitors log.object));
      logs = update plain.logs thread after;
      steps = record { thread = thread; answer = answer; log = after } ∷ plain.steps;
    }

abbrev pub fed_begin : Plain → ℕ → ℕ → Asked → Plain
fed_begin plain thread object Unknown = plain
fed_begin plain thread object (Known operation limit) =
    record { monitors = plain.monitors; logs = update plain.logs thread (new_log operation limit object); steps = plain.steps }

-- an accepted tick is one whole operation over all objects
abbrev pub fed_tick : Plain → Plain
fed_tick plain = record { monitors = λ o. plain_tick (plain.monitors o); logs = plain.logs; steps = plain.steps }

-- a begin or a tick that returned 0
abbrev pub fed_accepted : Plain → Event → Plain
fed_accepted plain (Begin number thread object limit) = fed_begin plain thread object (asked_for number limit)
fed_accepted plain (Step thread) = plain
fed_accepted plain Tick = fed_tick plain

-- a step that its rule answered
abbrev pub fed_answered : Plain → Event → Answer → Bool → Plain
fed_answered plain (Begin number thread object limit) answer commits = plain
fed_answered plain (Step thread) answer commits = fed_step plain thread answer commits
fed_answered plain Tick answer commits = plain

abbrev pub feed : Plain → Event → Reply → Plain
feed plain event Accepted = fed_accepted plain event
feed plain event (Refused refusal) = plain
feed plain event (Answered answer commits) = fed_answered plain event answer commits

abbrev pub feed_all : Plain → List Shown → Plain
feed_all plain [] = plain
feed_all plain (shown ∷ rest) = feed_all (feed plain shown.event shown.reply) rest

-- before any event
abbrev pub blank : Plain
blank = record { monitors = λ o. unowned; logs = λ t. new_log Enter Unlimited 0; steps = [] }

-- the commits of an operation that ends with 1
abbrev pub commits_due : Operation → ℕ
commits_due Enter = 1
commits_due Exit = 1
commits_due Wait = 2
commits_due Notify = 1
commits_due NotifyAll = 1

-- an operation that ends has committed just once, a wait that returns 1 twice, and its answer is the plain one of its last commit; 20 never occurs
abbrev pub EndsRight : Operation → Answer → OperationLog → Type 0
EndsRight operation GoneOn log = Unit {0}
EndsRight operation Parked log = Unit {0}
EndsRight operation (Finished woken) log = (log.commits ≡ commits_due operation) × (log.answer ≡ Finished woken)
EndsRight operation NotOwner log = (log.commits ≡ 1) × (log.answer ≡ NotOwner)
EndsRight operation TooDeep log = (log.commits ≡ 1) × (log.answer ≡ TooDeep)
EndsRight operation NoRule log = ⊥

abbrev pub AllEndRight : List StepEntry → Type 0
AllEndRight [] = Unit {0}
AllEndRight (entry ∷ rest) = EndsRight entry.log.operation entry.answer entry.log × AllEndRight rest

-- An operation that another's event ends: "finished and idle, which counts as its answer 1 with 0 though no event of its own returns it" (document 02,
-- L2). It is an exit, it has committed just once, and the plain answer was 1 with 0.
abbrev pub LetOutRight : OperationLog → Type 0
LetOutRight log = (log.operation ≡ Exit) × EndsRight Exit (Finished 0) log
