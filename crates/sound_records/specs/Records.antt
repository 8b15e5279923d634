-- What soundness asks of one record (document 01, "Lock words", the sentence "Sound means"): the clauses that are about one thread or one object, in
-- its order and words, each a test that computes. The clause about ticks is document 02's, L1, that about ranks L8. The others are in lock_soundness/specs/Sound.antt.
-- Phases are document 01's numbers, `threads` its T and `objects` its N; n is a thread, o an object, and a chain 1 entry, 2 contention or 3 waiting.
use Rattle.std.specs.Prelude.{ℕ, ◌-◌, Bool, true, false, not, eqb, leb, Option, Some, None}
use Rattle.laws.specs.Choice.{both, either, implies, within}
use Rattle.lock_word.specs.Layout.{count_limit}
use Rattle.lock_word.specs.Read.{read_word}
use Rattle.lock_word.specs.declared.reading.LockWord.TheVariants.{Free, Flat, Anonymous, Reserved, Fat}
use Rattle.lock_word.specs.declared.reading.LockWord.{LockWord}
use Rattle.lock_word.specs.{Depth.depth_limit, Ticks.tick_limit}
use Rattle.lock_table.specs.Limits.{rank_limit}
use Rattle.lock_table.specs.Operation.{operation_number}
use Rattle.lock_table.specs.Phase.{phase_number}
use Rattle.lock_table.specs.Parked.{chain_named, thread_chain}
use Rattle.lock_table.specs.declared.operation.Operation.{Operation}
use Rattle.lock_table.specs.declared.operation.Operation.TheVariants.{Idle, Enter, Exit, Wait, Notify, NotifyAll, TimedWait}
use Rattle.lock_table.specs.declared.record.ThreadRecord.{ThreadRecord}
use Rattle.lock_table.specs.declared.record.Monitor.{Monitor}
use Rattle.lock_table.specs.declared.record.ObjectRecord.{ObjectRecord}

-- "every word valid with its thread at most T"; a fat word names its own object
unfoldable pub word_fits : ℕ → ℕ → Option LockWord → Bool
word_fits threads o None = false
word_fits threads o (Some Free) = true
word_fits threads o (Some (Flat thread count)) = leb thread.0 threads
word_fits threads o (Some Anonymous) = true
word_fits threads o (Some (Reserved thread count)) = leb thread.0 threads
word_fits threads o (Some (Fat monitor)) = eqb monitor.0 o

-- the phases of a wait, which a timed wait shares: those that it uses, and those that it can carry
abbrev pub wait_uses : ℕ → Bool
wait_uses phase = either (eqb phase 1) (either (within 3 5 phase) (within 12 15 phase))

abbrev pub wait_carries : ℕ → Bool
wait_carries carried = either (eqb carried 12) (eqb carried 15)

-- "enter 1 to 8; exit 1, 2, 4, 5, 9 to 11; wait 1, 3 to 5, 12 to 15; both notifies 1"
unfoldable pub uses_phase : Operation → ℕ → Bool
uses_phase Idle phase = false
uses_phase Enter phase = within 1 8 phase
uses_phase Exit phase = either (within 1 2 phase) (either (within 4 5 phase) (within 9 11 phase))
uses_phase Wait phase = wait_uses phase
uses_phase Notify phase = eqb phase 1
uses_phase NotifyAll phase = eqb phase 1
uses_phase TimedWait phase = wait_uses phase

-- "phase 5 carries 6 for enter, 10 for exit, 12 or 15 for wait"
unfoldable pub carries_phase : Operation → ℕ → Bool
carries_phase Idle carried = false
carries_phase Enter carried = eqb carried 6
carries_phase Exit carried = eqb carried 10
carries_phase Wait carried = wait_carries carried
carries_phase Notify carried = false
carries_phase NotifyAll carried = false
carries_phase TimedWait carried = wait_carries carried

-- "every non-idle thread has an object in 1..N and a phase that its operation uses"
unfoldable pub operation_fits : ℕ → ℕ → ℕ → ThreadRecord → Bool
operation_fits objects phase carried thread =
    either (eqb phase 0)
    (both (within 1 objects thread.object)
    (both (uses_phase thread.operation phase) (implies (eqb phase 5) (carries_phase thread.operation carried))))

-- "with count 0 to 62 for enter, 1 to 63 for exit"; no other operation uses phase 2
unfoldable pub kept_count_fits : Operation → ℕ → Bool
kept_count_fits Idle count = false
kept_count_fits Enter count = leb count (count_limit - 1)
kept_count_fits Exit count = within 1 count_limit count
kept_count_fits Wait count = false
kept_count_fits Notify count = false
kept_count_fits NotifyAll count = false
kept_count_fits TimedWait count = false

-- "a kept word in phase 2 is reserved for that thread"
unfoldable pub reserved_for : ℕ → Operation → Option LockWord → Bool
reserved_for n operation None = false
reserved_for n operation (Some Free) = false
reserved_for n operation (Some (Flat thread count)) = false
reserved_for n operation (Some Anonymous) = false
reserved_for n operation (Some (Reserved thread count)) = both (eqb thread.0 n) (kept_count_fits operation count)
reserved_for n operation (Some (Fat monitor)) = false

unfoldable pub kept_fits : ℕ → ℕ → ThreadRecord → Bool
kept_fits n phase thread = implies (eqb phase 2) (reserved_for n thread.operation (read_word thread.kept))

-- "a saved depth in phases 14, 15 and queued-for-15 is 1 to 65,535"
unfoldable pub saves_depth : ℕ → ℕ → Bool
saves_depth phase carried = either (within 14 15 phase) (eqb carried 15)

unfoldable pub saved_fits : ℕ → ℕ → ThreadRecord → Bool
saved_fits phase carried thread = implies (saves_depth phase carried) (within 1 depth_limit thread.saved)

-- "those at zero move to the entry chain carrying 15": a timed wait that has run out is in 15 or queued for it
abbrev pub resumes : ℕ → ℕ → Bool
resumes phase carried = either (eqb phase 15) (eqb carried 15)

-- "ticks left .. 0 only when run out", and 1 to 65,535 else; no other operation has any
abbrev pub ticks_allowed : Operation → ℕ → ℕ → ℕ → Bool
ticks_allowed Idle phase carried ticks = eqb ticks 0
ticks_allowed Enter phase carried ticks = eqb ticks 0
ticks_allowed Exit phase carried ticks = eqb ticks 0
ticks_allowed Wait phase carried ticks = eqb ticks 0
ticks_allowed Notify phase carried ticks = eqb ticks 0
ticks_allowed NotifyAll phase carried ticks = eqb ticks 0
ticks_allowed TimedWait phase carried ticks = either (within 1 tick_limit ticks) (both (eqb ticks 0) (resumes phase carried))

unfoldable pub ticks_fit : ℕ → ℕ → ThreadRecord → Bool
ticks_fit phase carried thread = ticks_allowed thread.operation phase carried thread.ticks

-- "holder at most T"
abbrev pub holder_fits : ℕ → Monitor → Bool
holder_fits threads monitor = leb monitor.holder threads

-- "holder 0 goes with depth 0 and an empty entry chain"
unfoldable pub unheld_fits : Monitor → Bool
unheld_fits monitor = implies (eqb monitor.holder 0) (both (eqb monitor.depth 0) (eqb monitor.entry 0))

-- a thread in a chain is at the chain's object, in a phase that names the chain
unfoldable pub names_chain : ℕ → ℕ → ThreadRecord → Bool
names_chain o chain thread = both (eqb thread.object o) (eqb (thread_chain thread) chain)

-- "its entry chains in falling rank" (document 02, L8): behind a queued thread stands nobody of a higher rank; `behind` is the rank of who stands there
unfoldable pub falls_behind : ThreadRecord → ℕ → Bool
falls_behind thread behind = implies (eqb (thread_chain thread) 1) (leb behind thread.rank)

-- ".. and fields of a thread that its phase does not use, are 0. Operation and object are used when not idle, kept word in phase 2, next in a chain,
-- saved depth as just said."
unfoldable pub unused_fits : ℕ → ℕ → ThreadRecord → Bool
unused_fits phase carried thread =
    both (implies (eqb phase 0) (both (eqb (operation_number thread.operation) 0) (eqb thread.object 0)))
    (both (either (eqb phase 2) (eqb thread.kept 0))
    (both (implies (eqb (chain_named phase) 0) (eqb thread.next 0)) (either (saves_depth phase carried) (eqb thread.saved 0))))

-- "records past T and N .. are 0": every field of a record is 0
unfoldable pub empty_thread : ThreadRecord → Bool
empty_thread thread =
    both (eqb thread.kept 0)
    (both (eqb thread.saved 0)
    (both (eqb thread.ticks 0)
    (both (eqb thread.object 0)
    (both (eqb thread.next 0)
    (both (eqb thread.rank 0) (both (eqb (operation_number thread.operation) 0) (eqb (phase_number thread.phase) 0)))))))

unfoldable pub empty_monitor : Monitor → Bool
empty_monitor monitor =
    both (eqb monitor.depth 0)
    (both (eqb monitor.holder 0) (both (eqb monitor.entry 0) (both (eqb monitor.contention 0) (eqb monitor.waiting 0))))

unfoldable pub empty_object : ObjectRecord → Bool
empty_object object = both (eqb object.word 0) (both (not object.flag) (empty_monitor object.monitor))

-- What the clauses ask of one record, a row for each clause: of an object's, and of a thread's, by its phase and the phase that it carries.
abbrev pub used_object_fits : ℕ → ℕ → ObjectRecord → Bool
used_object_fits threads o object =
    both (word_fits threads o (read_word object.word)) (both (holder_fits threads object.monitor) (unheld_fits object.monitor))

abbrev pub activity_fits : ℕ → ℕ → ℕ → ℕ → ThreadRecord → Bool
activity_fits objects n phase carried thread =
    both (operation_fits objects phase carried thread)
    (both (kept_fits n phase thread)
    (both (saved_fits phase carried thread) (both (ticks_fit phase carried thread) (unused_fits phase carried thread))))

-- "a rank, 0 to 3 .. A sound table now has every field that a request adds within its range" (document 02, L8); ticks have their clause above
abbrev pub rank_fits : ThreadRecord → Bool
rank_fits thread = leb thread.rank rank_limit

abbrev pub used_thread_fits : ℕ → ℕ → ℕ → ℕ → ThreadRecord → Bool
used_thread_fits objects n phase carried thread = both (rank_fits thread) (activity_fits objects n phase carried thread)
