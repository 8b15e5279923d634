-- The way in which an enter finishes (document 02, L4): "by anonymous reservation, by a reserved store, by a free word, by nesting in a flat word,
-- and through the monitor (phases 4, 6, 7)", by the phase of the step that finishes it and the lock word before that step.
use Rattle.std.specs.Prelude.{ℕ, Bool, true, false, eqb, Option, Some, None}
use Rattle.laws.specs.Choice.{pick, both}
use Rattle.lock_word.specs.Read.{read_word}
use Rattle.lock_word.specs.declared.reading.LockWord.{LockWord}
use Rattle.lock_word.specs.declared.reading.LockWord.TheVariants.{Free as FreeWord, Flat, Anonymous as AnonymousWord, Reserved as ReservedWord, Fat}
use Rattle.lock_rules.specs.declared.event.Event.{Event}
use Rattle.lock_rules.specs.declared.event.Event.TheVariants.{Begin, Step, Tick}
use Rattle.lock_rules.specs.Numbers.{returned_of}
use Rattle.lock_rules.specs.declared.Answer.TheVariants.{Finished}
use Rattle.lock_table.specs.declared.operation.Operation.{Operation}
use Rattle.lock_table.specs.declared.operation.Operation.TheVariants.{Idle as NoOperation, Enter, Exit, Wait, Notify, NotifyAll, TimedWait}
use Rattle.lock_table.specs.declared.phase.Phase.{Phase}
use Rattle.lock_table.specs.declared.phase.Phase.TheVariants.{Idle, Look, Store, Cancel, GoIn, Queued, Check, Try, Contending, Test, Tell}
use Rattle.lock_table.specs.declared.phase.Phase.TheVariants.{Leave, Inflate, GiveUp, Waiting, Resume}
use Rattle.lock_table.specs.declared.record.ThreadRecord.{ThreadRecord}
use Rattle.report_tally.specs.declared.way.Way.{Way}
use Rattle.report_tally.specs.declared.way.Way.TheVariants.{NoEnter, Anonymous, Reserved, Free, Nested, Monitor}

-- what a step returns that finishes its operation
abbrev pub finished_number : ℕ
finished_number = returned_of (Finished 0)

unfoldable pub is_enter : Operation → Bool
is_enter NoOperation = false
is_enter Enter = true
is_enter Exit = false
is_enter Wait = false
is_enter Notify = false
is_enter NotifyAll = false
is_enter TimedWait = false

-- a step that returned 1 of a thread whose operation is enter
unfoldable pub finishes_enter : Event → Operation → ℕ → Bool
finishes_enter (Begin operation thread object limit) doing number = false
finishes_enter (Step thread) doing number = both (is_enter doing) (eqb number finished_number)
finishes_enter Tick doing number = false

-- phase 1, by the word that it looked at
unfoldable pub way_by_meaning : LockWord → Way
way_by_meaning FreeWord = Free
way_by_meaning (Flat thread count) = Nested
way_by_meaning AnonymousWord = Anonymous
way_by_meaning (ReservedWord thread count) = NoEnter
way_by_meaning (Fat object) = NoEnter

unfoldable pub way_by_word : Option LockWord → Way
way_by_word (Some word) = way_by_meaning word
way_by_word None = NoEnter

-- an enter finishes in no other phase, and in phase 1 on no other word (the law `finished_somehow`)
unfoldable pub way_of : Phase → ℕ → Way
way_of Idle word = NoEnter
way_of Look word = way_by_word (read_word word)
way_of Store word = Reserved
way_of Cancel word = NoEnter
way_of GoIn word = Monitor
way_of (Queued onward) word = NoEnter
way_of Check word = Monitor
way_of Try word = Monitor
way_of Contending word = NoEnter
way_of Test word = NoEnter
way_of Tell word = NoEnter
way_of Leave word = NoEnter
way_of Inflate word = NoEnter
way_of GiveUp word = NoEnter
way_of Waiting word = NoEnter
way_of Resume word = NoEnter

-- by what the thread was at and the object's word, before the event, and the number that it returned
unfoldable pub way_finished : Event → ThreadRecord → ℕ → ℕ → Way
way_finished event own word number = pick (finishes_enter event own.operation number) (way_of own.phase word) NoEnter
