-- What soundness asks of one record, as propositions: the clauses of specs/Records.antt again, in their order, and that the tests pass just where they
-- hold.
use Prim.Native.Nat.{ℕ, ◌-◌, ◌≤◌}
use mathlib.Core.Path.{◌≡◌, refl, ap}
use mathlib.Core.Logic.{◌≢◌, ◌⊎◌}
use mathlib.Core.Bool.{Bool, true, false}
use native.Mathlib.Omega.{arith}
use lib.Dec.{eqb}
use borrow.Author.Tests.{le-leb}
use Rattle.laws.proofs.Choice.{both_of}
use Rattle.lock_table.specs.Limits.{rank_limit}
use Rattle.laws.specs.Choice.{pick, both, implies}
use Rattle.lock_word.specs.{Layout.count_limit, Depth.depth_limit, Ticks.tick_limit}
use Rattle.lock_word.specs.Read.{read_word, read_flat}
use Rattle.lock_word.specs.declared.reading.LockWord.TheVariants.{Free, Flat, Anonymous, Reserved, Fat}
use Rattle.std.specs.Prelude.{Option, Some, None}
use Rattle.lock_word.specs.declared.reading.LockWord.{LockWord}
use Rattle.lock_table.specs.Operation.{operation_number}
use Rattle.lock_table.specs.Phase.{phase_number, carried_number}
use Rattle.lock_table.specs.Record.{no_thread, no_monitor, no_object, with_activity, with_next, with_word, with_flag, with_monitor, with_rank}
use Rattle.lock_table.specs.Parked.{chain_named, thread_chain}
use Rattle.lock_table.specs.declared.operation.Operation.{Operation}
use Rattle.lock_table.specs.declared.operation.Operation.TheVariants.{Idle, Enter, Exit, Wait, Notify, NotifyAll, TimedWait}
use Rattle.lock_table.specs.declared.phase.Phase.{Phase}
use Rattle.lock_table.specs.declared.phase.Phase.TheVariants.{Idle as idle_phase, Look, Store, Cancel, GoIn, Queued, Check, Try, Contending, Test}
use Rattle.lock_table.specs.declared.phase.Phase.TheVariants.{Tell, Leave, Inflate, GiveUp, Waiting, Resume}
use Rattle.lock_table.specs.declared.record.{ThreadRecord.ThreadRecord, Activity.Activity, Monitor.Monitor, ObjectRecord.ObjectRecord}
use Rattle.sound_records.specs.Records.{word_fits, uses_phase, carries_phase, operation_fits, kept_count_fits, reserved_for, kept_fits}
use Rattle.sound_records.specs.Records.{saves_depth, saved_fits, unheld_fits, names_chain, unused_fits, used_object_fits, activity_fits, used_thread_fits}
use Rattle.sound_records.specs.Records.{ticks_allowed, ticks_fit, falls_behind, empty_thread, empty_monitor, empty_object}
use Rattle.laws.proofs.Facts.{Reads, reads_map, reads_never, reads_always, reads_not, reads_eqb, reads_leb, reads_both, reads_within, reads_either}
use Rattle.laws.proofs.Facts.{reads_unless, reads_implies}

abbrev pub Within : ℕ → ℕ → ℕ → Type 0
Within low high n = (low ≤ n) × (n ≤ high)

abbrev pub WordFits : ℕ → ℕ → Option LockWord → Type 0
WordFits threads o None = ⊥
WordFits threads o (Some Free) = Unit
WordFits threads o (Some (Flat thread count)) = thread.0 ≤ threads
WordFits threads o (Some Anonymous) = Unit
WordFits threads o (Some (Reserved thread count)) = thread.0 ≤ threads
WordFits threads o (Some (Fat monitor)) = monitor.0 ≡ o

-- the operation may be in the phase: "a phase that its operation uses", and carries one that it may
abbrev pub allowed? : ℕ → ℕ → Operation → Bool
allowed? phase carried operation = both (uses_phase operation phase) (implies (eqb phase 5) (carries_phase operation carried))

abbrev pub OperationFits : ℕ → ℕ → ℕ → ThreadRecord → Type 0
OperationFits objects phase carried thread = Within 1 objects thread.object × (allowed? phase carried thread.operation ≡ true)

abbrev pub KeptCountFits : Operation → ℕ → Type 0
KeptCountFits Idle count = ⊥
KeptCountFits Enter count = count ≤ count_limit - 1
KeptCountFits Exit count = Within 1 count_limit count
KeptCountFits Wait count = ⊥
KeptCountFits Notify count = ⊥
KeptCountFits NotifyAll count = ⊥
KeptCountFits TimedWait count = ⊥

abbrev pub ReservedFor : ℕ → Operation → Option LockWord → Type 0
ReservedFor n operation None = ⊥
ReservedFor n operation (Some Free) = ⊥
ReservedFor n operation (Some (Flat thread count)) = ⊥
ReservedFor n operation (Some Anonymous) = ⊥
ReservedFor n operation (Some (Reserved thread count)) = (thread.0 ≡ n) × KeptCountFits operation count
ReservedFor n operation (Some (Fat monitor)) = ⊥

abbrev pub SavesDepth : ℕ → ℕ → Type 0
SavesDepth phase carried = Within 14 15 phase ⊎ (carried ≡ 15)

abbrev pub Resumes : ℕ → ℕ → Type 0
Resumes phase carried = (phase ≡ 15) ⊎ (carried ≡ 15)

abbrev pub TicksFit : Operation → ℕ → ℕ → ℕ → Type 0
TicksFit Idle phase carried ticks = ticks ≡ 0
TicksFit Enter phase carried ticks = ticks ≡ 0
TicksFit Exit phase carried ticks = ticks ≡ 0
TicksFit Wait phase carried ticks = ticks ≡ 0
TicksFit Notify phase carried ticks = ticks ≡ 0
TicksFit NotifyAll phase carried ticks = ticks ≡ 0
TicksFit TimedWait phase carried ticks = Within 1 tick_limit ticks ⊎ ((ticks ≡ 0) × Resumes phase carried)

abbrev pub UnheldFits : Monitor → Type 0
UnheldFits monitor = monitor.holder ≡ 0 → (monitor.depth ≡ 0) × (monitor.entry ≡ 0)

pub record UnusedFits (phase carried : ℕ) (thread : ThreadRecord) : Type 0 where
  pub operation : phase ≡ 0 → (thread.operation ≡ Idle) × (thread.object ≡ 0)
  pub kept : phase ≢ 2 → thread.kept ≡ 0
  pub next : chain_named phase ≡ 0 → thread.next ≡ 0
  pub saved : (SavesDepth phase carried → ⊥) → thread.saved ≡ 0

-- what the clauses ask of one record, a row for each clause
pub record ObjectFits (threads o : ℕ) (object : ObjectRecord) : Type 0 where
  pub word : WordFits threads o (read_word object.word)
  pub holder : object.monitor.holder ≤ threads
  pub unheld : UnheldFits object.monitor

pub record ThreadFits (objects n : ℕ) (thread : ThreadRecord) : Type 0 where
  pub rank : thread.rank ≤ rank_limit
  pub operation : phase_number thread.phase ≢ 0
      → OperationFits objects (phase_number thread.phase) (carried_number thread.phase) thread
  pub kept : phase_number thread.phase ≡ 2 → ReservedFor n thread.operation (read_word thread.kept)
  pub saved : SavesDepth (phase_number thread.phase) (carried_number thread.phase) → Within 1 depth_limit thread.saved
  pub ticks : TicksFit thread.operation (phase_number thread.phase) (carried_number thread.phase) thread.ticks
  pub unused : UnusedFits (phase_number thread.phase) (carried_number thread.phase) thread

-- a phase names one of three chains, or none; phase 0 names none
pub chain_kinds : (phase : ℕ) → chain_named phase ≤ 3
unfolding chain_named
chain_kinds phase = at (eqb phase 5) (eqb phase 8) (eqb phase 14)
  where
    at : (a b c : Bool) → pick a 1 (pick b 2 (pick c 3 0)) ≤ 3
    at true b c = omega arith
    at false true c = omega arith
    at false false true = omega arith
    at false false false = omega arith

pub parked_busy : (phase : ℕ) → chain_named phase ≢ 0 → phase ≢ 0
unfolding chain_named
parked_busy phase parked idle = parked (ap chain_named idle)

reads_word : (threads o : ℕ) (decoded : Option LockWord) → Reads (word_fits threads o decoded) (WordFits threads o decoded)
unfolding word_fits
reads_word threads o None = reads_never
reads_word threads o (Some Free) = reads_always
reads_word threads o (Some (Flat thread count)) = reads_leb thread.0 threads
reads_word threads o (Some Anonymous) = reads_always
reads_word threads o (Some (Reserved thread count)) = reads_leb thread.0 threads
reads_word threads o (Some (Fat monitor)) = reads_eqb monitor.0 o

reads_operation : (objects phase carried : ℕ) (thread : ThreadRecord)
    → Reads (operation_fits objects phase carried thread) (phase ≢ 0 → OperationFits objects phase carried thread)
unfolding operation_fits
reads_operation objects phase carried thread =
    reads_unless (reads_eqb phase 0) (reads_both (reads_within 1 objects thread.object) (record { read = λ e. e; make = λ e. e }))

reads_kept_count : (operation : Operation) (count : ℕ) → Reads (kept_count_fits operation count) (KeptCountFits operation count)
unfolding kept_count_fits
reads_kept_count Idle count = reads_never
reads_kept_count Enter count = reads_leb count 62
reads_kept_count Exit count = reads_within 1 63 count
reads_kept_count Wait count = reads_never
reads_kept_count Notify count = reads_never
reads_kept_count NotifyAll count = reads_never
reads_kept_count TimedWait count = reads_never

reads_reserved : (n : ℕ) (operation : Operation) (decoded : Option LockWord) → Reads (reserved_for n operation decoded) (ReservedFor n operation decoded)
unfolding reserved_for
reads_reserved n operation None = reads_never
reads_reserved n operation (Some Free) = reads_never
reads_reserved n operation (Some (Flat thread count)) = reads_never
reads_reserved n operation (Some Anonymous) = reads_never
reads_reserved n operation (Some (Reserved thread count)) = reads_both (reads_eqb thread.0 n) (reads_kept_count operation count)
reads_reserved n operation (Some (Fat monitor)) = reads_never

reads_kept : (n phase : ℕ) (thread : ThreadRecord)
    → Reads (kept_fits n phase thread) (phase ≡ 2 → ReservedFor n thread.operation (read_word thread.kept))
unfolding kept_fits
reads_kept n phase thread = reads_implies (reads_eqb phase 2) (reads_reserved n thread.operation (read_word thread.kept))

reads_saves : (phase carried : ℕ) → Reads (saves_depth phase carried) (SavesDepth phase carried)
unfolding saves_depth
reads_saves phase carried = reads_either (reads_within 14 15 phase) (reads_eqb carried 15)

reads_saved : (phase carried : ℕ) (thread : ThreadRecord)
    → Reads (saved_fits phase carried thread) (SavesDepth phase carried → Within 1 depth_limit thread.saved)
unfolding saved_fits
reads_saved phase carried thread = reads_implies (reads_saves phase carried) (reads_within 1 depth_limit thread.saved)

reads_ticks_allowed : (operation : Operation) (phase carried ticks : ℕ)
    → Reads (ticks_allowed operation phase carried ticks) (TicksFit operation phase carried ticks)
reads_ticks_allowed Idle phase carried ticks = reads_eqb ticks 0
reads_ticks_allowed Enter phase carried ticks = reads_eqb ticks 0
reads_ticks_allowed Exit phase carried ticks = reads_eqb ticks 0
reads_ticks_allowed Wait phase carried ticks = reads_eqb ticks 0
reads_ticks_allowed Notify phase carried ticks = reads_eqb ticks 0
reads_ticks_allowed NotifyAll phase carried ticks = reads_eqb ticks 0
reads_ticks_allowed TimedWait phase carried ticks =
    reads_either (reads_within 1 tick_limit ticks)
    (reads_both (reads_eqb ticks 0) (reads_either (reads_eqb phase 15) (reads_eqb carried 15)))

reads_ticks : (phase carried : ℕ) (thread : ThreadRecord)
    → Reads (ticks_fit phase carried thread) (TicksFit thread.operation phase carried thread.ticks)
unfolding ticks_fit
reads_ticks phase carried thread = reads_ticks_allowed thread.operation phase carried thread.ticks

reads_unheld : (monitor : Monitor) → Reads (unheld_fits monitor) (UnheldFits monitor)
unfolding unheld_fits
reads_unheld monitor = reads_implies (reads_eqb monitor.holder 0) (reads_both (reads_eqb monitor.depth 0) (reads_eqb monitor.entry 0))

pub reads_names : (o chain : ℕ) (thread : ThreadRecord) → Reads (names_chain o chain thread) ((thread.object ≡ o) × (thread_chain thread ≡ chain))
unfolding names_chain
reads_names o chain thread = reads_both (reads_eqb thread.object o) (reads_eqb (thread_chain thread) chain)

operation_none : (operation : Operation) → operation_number operation ≡ 0 → operation ≡ Idle
unfolding operation_number
operation_none Idle e = refl
operation_none Enter e = absurd (omega (arith, e))
operation_none Exit e = absurd (omega (arith, e))
operation_none Wait e = absurd (omega (arith, e))
operation_none Notify e = absurd (omega (arith, e))
operation_none NotifyAll e = absurd (omega (arith, e))
operation_none TimedWait e = absurd (omega (arith, e))

reads_no_operation : (operation : Operation) → Reads (eqb (operation_number operation) 0) (operation ≡ Idle)
unfolding operation_number
reads_no_operation operation =
    reads_map (reads_eqb (operation_number operation) 0) (operation_none operation) (λ e. ap operation_number e)

phase_none : (phase : Phase) → phase_number phase ≡ 0 → phase ≡ idle_phase
unfolding phase_number
phase_none idle_phase e = refl
phase_none Look e = absurd (omega (arith, e))
phase_none Store e = absurd (omega (arith, e))
phase_none Cancel e = absurd (omega (arith, e))
phase_none GoIn e = absurd (omega (arith, e))
phase_none (Queued onward) e = absurd (omega (arith, e))
phase_none Check e = absurd (omega (arith, e))
phase_none Try e = absurd (omega (arith, e))
phase_none Contending e = absurd (omega (arith, e))
phase_none Test e = absurd (omega (arith, e))
phase_none Tell e = absurd (omega (arith, e))
phase_none Leave e = absurd (omega (arith, e))
phase_none Inflate e = absurd (omega (arith, e))
phase_none GiveUp e = absurd (omega (arith, e))
phase_none Waiting e = absurd (omega (arith, e))
phase_none Resume e = absurd (omega (arith, e))

reads_no_phase : (phase : Phase) → Reads (eqb (phase_number phase) 0) (phase ≡ idle_phase)
unfolding phase_number
reads_no_phase phase = reads_map (reads_eqb (phase_number phase) 0) (phase_none phase) (λ e. ap phase_number e)

pub reads_empty_thread : (thread : ThreadRecord) → Reads (empty_thread thread) (thread ≡ no_thread)
unfolding empty_thread
reads_empty_thread thread =
    reads_map
    (reads_both (reads_eqb thread.kept 0)
    (reads_both (reads_eqb thread.saved 0)
    (reads_both (reads_eqb thread.ticks 0)
    (reads_both (reads_eqb thread.object 0)
    (reads_both (reads_eqb thread.next 0)
    (reads_both (reads_eqb thread.rank 0) (reads_both (reads_no_operation thread.operation) (reads_no_phase thread.phase))))))))
    (λ (kept, (saved, (ticks, (object, (next, (rank, (operation, phase))))))).
    λ j. record { kept = kept j; saved = saved j; ticks = ticks j; object = object j; next = next j; rank = rank j; operation = operation j; phase = phase j })
    (λ e. rw e (refl, (refl, (refl, (refl, (refl, (refl, (refl, refl))))))))

reads_empty_monitor : (monitor : Monitor) → Reads (empty_monitor monitor) (monitor ≡ no_monitor)
unfolding empty_monitor
reads_empty_monitor monitor =
    reads_map
    (reads_both (reads_eqb monitor.depth 0)
    (reads_both (reads_eqb monitor.holder 0)
    (reads_both (reads_eqb monitor.entry 0) (reads_both (reads_eqb monitor.contention 0) (reads_eqb monitor.waiting 0)))))
    (λ (depth, (holder, (entry, (contention, waiting)))).
    λ j. record { depth = depth j; holder = holder j; entry = entry j; contention = contention j; waiting = waiting j })
    (λ e. rw e (refl, (refl, (refl, (refl, refl)))))

pub reads_empty_object : (object : ObjectRecord) → Reads (empty_object object) (object ≡ no_object)
unfolding empty_object
reads_empty_object object =
    reads_map (reads_both (reads_eqb object.word 0) (reads_both (reads_not object.flag) (reads_empty_monitor object.monitor)))
    (λ (word, (flag, monitor)). λ j. record { word = word j; monitor = monitor j; flag = flag j })
    (λ e. rw e (refl, (refl, refl)))

reads_unused : (phase carried : ℕ) (thread : ThreadRecord) → Reads (unused_fits phase carried thread) (UnusedFits phase carried thread)
unfolding unused_fits
reads_unused phase carried thread =
    reads_map
    (reads_both (reads_implies (reads_eqb phase 0) (reads_both (reads_no_operation thread.operation) (reads_eqb thread.object 0)))
    (reads_both (reads_unless (reads_eqb phase 2) (reads_eqb thread.kept 0))
    (reads_both (reads_implies (reads_eqb (chain_named phase) 0) (reads_eqb thread.next 0))
    (reads_unless (reads_saves phase carried) (reads_eqb thread.saved 0)))))
    (λ (operation, (kept, (next, saved))). record { operation = operation; kept = kept; next = next; saved = saved })
    (λ u. (u.operation, (u.kept, (u.next, u.saved))))

-- a row for each clause
pub reads_object : (threads o : ℕ) (object : ObjectRecord) → Reads (used_object_fits threads o object) (ObjectFits threads o object)
reads_object threads o object =
    reads_map
    (reads_both (reads_word threads o (read_word object.word))
    (reads_both (reads_leb object.monitor.holder threads) (reads_unheld object.monitor)))
    (λ (word, (holder, unheld)). record { word = word; holder = holder; unheld = unheld })
    (λ fits. (fits.word, (fits.holder, fits.unheld)))

pub reads_thread : (objects n : ℕ) (thread : ThreadRecord)
    → Reads (used_thread_fits objects n (phase_number thread.phase) (carried_number thread.phase) thread) (ThreadFits objects n thread)
reads_thread objects n thread =
    let phase = phase_number thread.phase in
    let carried = carried_number thread.phase in
    reads_map
    (reads_both (reads_leb thread.rank rank_limit)
    (reads_both (reads_operation objects phase carried thread)
    (reads_both (reads_kept n phase thread)
    (reads_both (reads_saved phase carried thread) (reads_both (reads_ticks phase carried thread) (reads_unused phase carried thread))))))
    (λ (rank, (operation, (kept, (saved, (ticks, unused))))).
    record { rank = rank; operation = operation; kept = kept; saved = saved; ticks = ticks; unused = unused })
    (λ fits. (fits.rank, (fits.operation, (fits.kept, (fits.saved, (fits.ticks, fits.unused))))))

-- behind a queued thread
pub reads_falls : (thread : ThreadRecord) (behind : ℕ) → Reads (falls_behind thread behind) (thread_chain thread ≡ 1 → behind ≤ thread.rank)
unfolding falls_behind
reads_falls thread behind = reads_implies (reads_eqb (thread_chain thread) 1) (reads_leb behind thread.rank)

-- What is written into a record that fits leaves what stands beside it, the rank. So a thread's record fits where the clauses that go by its phase pass,
abbrev pub activity_fits? : ℕ → ℕ → ThreadRecord → Bool
activity_fits? objects n thread =
    activity_fits objects n (phase_number thread.phase) (carried_number thread.phase) thread

pub written_thread_fits : (objects n : ℕ) (given : ThreadRecord) (next : ℕ) (activity : Activity) → ThreadFits objects n given
    → let thread = with_activity (with_next given next) activity in activity_fits? objects n thread ≡ true → ThreadFits objects n thread
written_thread_fits objects n given next activity fits passes =
    (reads_thread objects n (with_activity (with_next given next) activity)).read (both_of (le-leb given.rank rank_limit fits.rank) passes)

-- and an object's where its word and its monitor fit
pub written_object_fits : (threads o : ℕ) (given : ObjectRecord) (word : ℕ) (monitor : Monitor) (flag : Bool) → ObjectFits threads o given
    → WordFits threads o (read_word word) → monitor.holder ≤ threads → UnheldFits monitor
    → ObjectFits threads o (with_flag (with_monitor (with_word given word) monitor) flag)
written_object_fits threads o given word monitor flag fits valid holder unheld = record { word = valid; holder = holder; unheld = unheld }

-- an object's record with nothing but a word
pub word_alone_fits : (threads o word : ℕ) → word_fits threads o (read_word word) ≡ true → ObjectFits threads o (with_word no_object word)
unfolding unheld_fits
word_alone_fits threads o word fits = (reads_object threads o (with_word no_object word)).read (rw (fits, le-leb 0 threads (omega arith)))

-- the empty records are as the clauses ask
pub no_object_fits : (threads o : ℕ) → ObjectFits threads o no_object
unfolding word_fits read_word read_flat
no_object_fits threads o = word_alone_fits threads o 0 refl

pub no_thread_fits : (objects n : ℕ) → ThreadFits objects n no_thread
unfolding operation_fits kept_fits saves_depth saved_fits ticks_fit unused_fits chain_named phase_number carried_number operation_number
no_thread_fits objects n = (reads_thread objects n no_thread).read refl

-- an idle thread with a rank in range is as soundness asks
pub ranked_thread_fits : (objects n rank : ℕ) → rank ≤ rank_limit → ThreadFits objects n (with_rank no_thread rank)
ranked_thread_fits objects n rank low =
    let fits = no_thread_fits objects n in
    let unused = fits.unused in
    record {
      rank = low;
      operation = fits.operation;
      kept = fits.kept;
      saved = fits.saved;
      ticks = fits.ticks;
      unused = record { operation = unused.operation; kept = unused.kept; next = unused.next; saved = unused.saved };
    }
