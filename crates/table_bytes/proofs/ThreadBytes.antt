-- A thread's record is what its numbers say, and known numbers are those of the record that they say.
use Prim.Native.Nat.{ℕ, ◌≤◌, ◌<◌}
use mathlib.Core.Path.{◌≡◌, refl}
use mathlib.Core.Bool.{Bool, true}
use native.Mathlib.Omega.{arith}
use lib.Dec.{eqb, leb}
use borrow.Author.Tests.{eqb-true, leb-true}
use Rattle.laws.specs.Choice.{both, implies}
use Rattle.laws.specs.Every.{all_up_to, all_below}
use Rattle.laws.proofs.Choice.{split, either_way, both_first, both_second, both_of}
use Rattle.laws.proofs.Every.{all_below_at}
use Rattle.laws.proofs.Facts.{reads_either, reads_eqb}
use Rattle.lock_table.specs.Operation.{operation_number, operation_from}
use Rattle.lock_table.specs.Phase.{phase_number, carried_number, onward_number}
use Rattle.lock_table.specs.declared.operation.Operation.{Operation}
use Rattle.lock_table.specs.declared.operation.Operation.TheVariants.{Idle as no_operation, Enter, Exit, Wait, Notify, NotifyAll, TimedWait}
use Rattle.lock_table.specs.declared.phase.Onward.TheVariants.{ToCheck, ToTell, ToInflate, ToResume}
use Rattle.lock_table.specs.declared.phase.Phase.{Phase}
use Rattle.lock_table.specs.declared.phase.Phase.TheVariants.{Idle, Look, Store, Cancel, GoIn, Queued, Check, Try, Contending, Test, Tell, Leave}
use Rattle.lock_table.specs.declared.phase.Phase.TheVariants.{Inflate, GiveUp, Waiting, Resume}
use Rattle.lock_table.specs.declared.record.ThreadRecord.{ThreadRecord}
use Rattle.table_bytes.specs.Rows.{Numbers}
use Rattle.table_bytes.specs.ThreadBytes.{thread_layout, onward_from, later_phase_from, phase_from, thread_of, carried_known, thread_known}
use Rattle.table_bytes.proofs.Rows.{numbers}

-- operations and phases, each read from its own number, which is a known one
by_operation : (operation : Operation) → (operation_from (operation_number operation) ≡ operation) × (leb (operation_number operation) 6 ≡ true)
unfolding operation_from operation_number
by_operation no_operation = (refl, refl)
by_operation Enter = (refl, refl)
by_operation Exit = (refl, refl)
by_operation Wait = (refl, refl)
by_operation Notify = (refl, refl)
by_operation NotifyAll = (refl, refl)
by_operation TimedWait = (refl, refl)

-- a fact of the numbers of each phase, and of the phase it carries
abbrev ByPhase : Phase → Type 0
ByPhase phase =
    (phase_from (phase_number phase) (carried_number phase) ≡ phase)
    × ((leb (phase_number phase) 15 ≡ true) × (carried_known (phase_number phase) (carried_number phase) ≡ true))

by_phase : (phase : Phase) → ByPhase phase
unfolding phase_from later_phase_from onward_from phase_number carried_number onward_number carried_known
by_phase Idle = (refl, (refl, refl))
by_phase Look = (refl, (refl, refl))
by_phase Store = (refl, (refl, refl))
by_phase Cancel = (refl, (refl, refl))
by_phase GoIn = (refl, (refl, refl))
by_phase (Queued ToCheck) = (refl, (refl, refl))
by_phase (Queued ToTell) = (refl, (refl, refl))
by_phase (Queued ToInflate) = (refl, (refl, refl))
by_phase (Queued ToResume) = (refl, (refl, refl))
by_phase Check = (refl, (refl, refl))
by_phase Try = (refl, (refl, refl))
by_phase Contending = (refl, (refl, refl))
by_phase Test = (refl, (refl, refl))
by_phase Tell = (refl, (refl, refl))
by_phase Leave = (refl, (refl, refl))
by_phase Inflate = (refl, (refl, refl))
by_phase GiveUp = (refl, (refl, refl))
by_phase Waiting = (refl, (refl, refl))
by_phase Resume = (refl, (refl, refl))

-- operations and phases that there are, each the number of what it is read as: one test each, computed for all of them
abbrev operation_right : ℕ → Bool
operation_right operation = eqb (operation_number (operation_from operation)) operation

operation_test : all_below 7 operation_right ≡ true
unfolding all_up_to operation_number operation_from
operation_test = refl

operation_same : (operation : ℕ) → operation ≤ 6 → operation_number (operation_from operation) ≡ operation
operation_same operation few = eqb-true _ operation (all_below_at 7 operation_right operation_test operation (omega (arith, few)))

-- a carried phase that there is, is one of the phases
carried_small : (phase carried : ℕ) → carried_known phase carried ≡ true → carried < 16
unfolding carried_known
carried_small phase carried known =
    let is = reads_eqb carried in
    split (eqb phase 5)
    (λ queued. either_way ((reads_either (is 6) (reads_either (is 10) (reads_either (is 12) (is 15)))).read (rw queued at known)) (λ e. omega (arith, e))
    (λ later. either_way later (λ e. omega (arith, e)) (λ last. either_way last (λ e. omega (arith, e)) (λ e. omega (arith, e)))))
    (λ other. let none : carried ≡ 0 = eqb-true carried 0 (rw other at known) in omega (arith, none))

abbrev phase_right : ℕ → ℕ → Bool
phase_right phase carried =
    let read = phase_from phase carried in implies (carried_known phase carried) (both (eqb (phase_number read) phase) (eqb (carried_number read) carried))

phase_test : all_below 16 (λ phase. all_below 16 (phase_right phase)) ≡ true
unfolding all_up_to phase_number carried_number onward_number phase_from later_phase_from onward_from carried_known
phase_test = refl

phase_same : (phase carried : ℕ) → phase ≤ 15 → carried_known phase carried ≡ true
    → (phase_number (phase_from phase carried) ≡ phase) × (carried_number (phase_from phase carried) ≡ carried)
phase_same phase carried few known =
    let of_phase = all_below_at 16 (λ p. all_below 16 (phase_right p)) phase_test phase (omega (arith, few)) in
    let passes : phase_right phase carried ≡ true = all_below_at 16 (phase_right phase) of_phase carried (carried_small phase carried known) in
    let right : both (eqb (phase_number (phase_from phase carried)) phase) (eqb (carried_number (phase_from phase carried)) carried) ≡ true = rw known at passes in
    (eqb-true _ phase (both_first _ _ right), eqb-true _ carried (both_second (eqb (phase_number (phase_from phase carried)) phase) _ right))

-- a record is what its numbers say, and they are known ones
pub thread_back : (thread : ThreadRecord) → thread_of (numbers thread_layout thread) ≡ thread
thread_back thread = rw ((by_operation thread.operation).0, (by_phase thread.phase).0) refl

pub thread_read_known : (thread : ThreadRecord) → thread_known (numbers thread_layout thread) ≡ true
thread_read_known thread = both_of (by_operation thread.operation).1 (both_of (by_phase thread.phase).1.0 (by_phase thread.phase).1.1)

-- known numbers are those of the record that they say
pub thread_same : (read : Numbers thread_layout) → thread_known read ≡ true → numbers thread_layout (thread_of read) ≡ read
thread_same (operation, (object, (phase, (carried, rest)))) known =
    let later = both_second (leb operation 6) _ known in
    let phases = phase_same phase carried (leb-true phase 15 (both_first _ _ later)) (both_second (leb phase 15) _ later) in
    rw (operation_same operation (leb-true operation 6 (both_first _ _ known)), phases.0, phases.1) refl
