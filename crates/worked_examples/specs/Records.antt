-- Examples of records: the words of a fresh table, what soundness asks of a thread's record, a monitor that is handed on, and a field in bytes.
use Rattle.std.specs.Prelude.{◌≡◌, Bool, true, false, ℕ, ◌+◌, replicate, set}
use Rattle.chains.specs.declared.named.Chain.{Chain}
use Rattle.lock_table.specs.Record.{no_thread, with_activity, with_next}
use Rattle.lock_table.specs.Access.{object_at}
use Rattle.lock_table.specs.Fresh.{sized_request, table_of as fresh_table}
use Rattle.lock_table.specs.Monitor.{hand_of}
use Rattle.lock_table.specs.declared.operation.Operation.TheVariants.{Enter}
use Rattle.lock_table.specs.declared.phase.Phase.{Phase}
use Rattle.lock_table.specs.declared.phase.Phase.TheVariants.{Look, Queued, Waiting}
use Rattle.lock_table.specs.declared.phase.Onward.TheVariants.{ToCheck}
use Rattle.lock_table.specs.declared.record.ThreadRecord.{ThreadRecord}
use Rattle.lock_table.specs.declared.record.Monitor.{Monitor}
use Rattle.lock_rules.specs.declared.event.ThreadStatus.TheVariants.{Parked}
use Rattle.lock_gate.specs.Status.{thread_status}
use Rattle.lock_perform.specs.Moving.{joining, plan_hand}
use Rattle.sound_records.specs.Records.{names_chain, unused_fits}
use Rattle.table_bytes.specs.Layout.{objects_start, table_size}
use Rattle.table_bytes.specs.Reading.{table_of}

-- an enter at object 1 with this kept word and in this phase
abbrev pub entering : ℕ → Phase → ThreadRecord
entering kept phase = with_activity no_thread (record { kept = kept; saved = 0; ticks = 0; object = 1; operation = Enter; phase = phase })

-- the word of the one object of a fresh table
abbrev pub fresh_word : Bool → ℕ
fresh_word reserved = (object_at (fresh_table (sized_request 1 1 reserved)) 1).word

-- thread 1 holds the monitor, and thread 2 is the first in its entry chain
abbrev pub held : Monitor
held = record { depth = 1; holder = 1; entry = 2; contention = 0; waiting = 0 }

-- who holds object 1, by as many bytes as a table has, of which the one at this place is 3 and all others 0
abbrev pub holder_by : ℕ → ℕ
holder_by place = (object_at (table_of (set (replicate table_size 0) place 3)) 1).monitor.holder

pub record RecordExamples : Type 0 where
  -- the words of a fresh table: free, and anonymously reserved
  pub free : fresh_word false ≡ 0x000000
  pub reserved : fresh_word true ≡ 0x000002
  -- a kept word in phase 2 and in phase 1
  pub kept_used : unused_fits 2 0 (entering 0x000106 Look) ≡ true
  pub kept_unused : unused_fits 1 0 (entering 0x000106 Look) ≡ false
  -- queued at object 1, in the entry chain of object 1, of object 2, and in the contention chain
  pub own_chain : names_chain 1 1 (entering 0 (Queued ToCheck)) ≡ true
  pub other_object : names_chain 2 1 (entering 0 (Queued ToCheck)) ≡ false
  pub other_chain : names_chain 1 2 (entering 0 (Queued ToCheck)) ≡ false
  -- a waiting thread is parked, so a step of it is refused
  pub parked : thread_status Waiting ≡ Parked
  -- the monitor is handed to thread 2, behind which thread 3 stands
  pub handed_holder : (hand_of held 3).monitor.holder ≡ 2
  pub handed_entry : (hand_of held 3).monitor.entry ≡ 3
  -- which unparks thread 2 alone: bit 1 of the set
  pub handed_set : (plan_hand held (with_next no_thread 3)).unparked ≡ 2
  -- thread 3 joins the entry chain, which begins with thread 2: it, and not the chain itself
  pub joined_back : (joining no_thread held 0 Chain.Entry 3).back ≡ 3
  -- object 1 in bytes: four of its word, one of its flag, one of its holder
  pub flag_place : holder_by (objects_start + 4) ≡ 0
  pub holder_place : holder_by (objects_start + 5) ≡ 3
