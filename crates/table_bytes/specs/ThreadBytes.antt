-- A thread's record in bytes: its fields and their widths, the record that numbers say, and which numbers there are. All that knows a thread's fields
-- stands here, and its code in src/thread_bytes.rt.
use Rattle.std.specs.Prelude.{ℕ, Bool, List, [], ◌∷◌, eqb, leb}
use Rattle.laws.specs.Choice.{pick, both, either}
use Rattle.lock_table.specs.Operation.{operation_number, operation_from}
use Rattle.lock_table.specs.Phase.{phase_number, carried_number}
use Rattle.lock_table.specs.declared.phase.Onward.{Onward}
use Rattle.lock_table.specs.declared.phase.Onward.TheVariants.{ToCheck, ToTell, ToInflate, ToResume}
use Rattle.lock_table.specs.declared.phase.Phase.{Phase}
use Rattle.lock_table.specs.declared.phase.Phase.TheVariants.{Idle, Look, Store, Cancel, GoIn, Queued, Check, Try, Contending, Test, Tell, Leave}
use Rattle.lock_table.specs.declared.phase.Phase.TheVariants.{Inflate, GiveUp, Waiting, Resume}
use Rattle.lock_table.specs.declared.record.ThreadRecord.{ThreadRecord}
use Rattle.table_bytes.specs.Rows.{Field, field, Numbers}

-- how often this layout has changed; whoever changes a byte of a thread's record adds one
abbrev pub thread_revision : ℕ
thread_revision = 2

abbrev pub thread_layout : List (Field ThreadRecord)
thread_layout =
    field (λ thread. operation_number thread.operation) 1
    ∷ field (λ thread. thread.object) 1
    ∷ field (λ thread. phase_number thread.phase) 1
    ∷ field (λ thread. carried_number thread.phase) 1
    ∷ field (λ thread. thread.kept) 4
    ∷ field (λ thread. thread.saved) 2
    ∷ field (λ thread. thread.next) 1
    ∷ field (λ thread. thread.ticks) 2
    ∷ field (λ thread. thread.rank) 1
    ∷ []

-- the phase that a queued thread carries, by its number; a number of none of them is not met where the bytes are a table
unfoldable pub onward_from : ℕ → Onward
onward_from carried = pick (eqb carried 6) ToCheck (pick (eqb carried 10) ToTell (pick (eqb carried 12) ToInflate ToResume))

-- phases 8 to 15 by their numbers, document 01's; numbers of none are idle
unfoldable pub later_phase_from : ℕ → Phase
later_phase_from phase =
    pick (eqb phase 8) Contending
    (pick (eqb phase 9) Test
    (pick (eqb phase 10) Tell
    (pick (eqb phase 11) Leave
    (pick (eqb phase 12) Inflate (pick (eqb phase 13) GiveUp (pick (eqb phase 14) Waiting (pick (eqb phase 15) Resume Idle)))))))

-- phases by their numbers
unfoldable pub phase_from : ℕ → ℕ → Phase
phase_from phase carried =
    pick (eqb phase 1) Look
    (pick (eqb phase 2) Store
    (pick (eqb phase 3) Cancel
    (pick (eqb phase 4) GoIn
    (pick (eqb phase 5) (Queued (onward_from carried)) (pick (eqb phase 6) Check (pick (eqb phase 7) Try (later_phase_from phase)))))))

-- the record that the numbers of its fields say, in the order of its layout
abbrev pub thread_of : Numbers thread_layout → ThreadRecord
thread_of (operation, (object, (phase, (carried, (kept, (saved, (next, (ticks, (rank, end))))))))) = record {
  kept = kept;
  saved = saved;
  ticks = ticks;
  object = object;
  next = next;
  rank = rank;
  operation = operation_from operation;
  phase = phase_from phase carried;
}

-- a queued thread carries 6, 10, 12 or 15, any other 0
unfoldable pub carried_known : ℕ → ℕ → Bool
carried_known phase carried =
    pick (eqb phase 5) (either (eqb carried 6) (either (eqb carried 10) (either (eqb carried 12) (eqb carried 15)))) (eqb carried 0)

-- the numbers are those of a record: operation 0 to 6, phase 0 to 15
abbrev pub thread_known : Numbers thread_layout → Bool
thread_known (operation, (object, (phase, (carried, rest)))) = both (leb operation 6) (both (leb phase 15) (carried_known phase carried))
