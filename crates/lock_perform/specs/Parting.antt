-- A chain parted in one pass: each of its threads stays in it or goes, and those that go are chained together or are in no chain. Who goes and what
-- becomes of a record are functions of records.
use Rattle.std.specs.Prelude.{ℕ, zero, suc, Bool}
use Rattle.std.specs.Int.Bits.{bit_or}
use Rattle.laws.specs.Choice.{pick, within}
use Rattle.chains.specs.Joining.{no_ends, grown}
use Rattle.chains.specs.declared.ends.Ends.{Ends}
use Rattle.lock_table.specs.Limits.{thread_limit}
use Rattle.lock_table.specs.Record.{with_next}
use Rattle.lock_table.specs.Access.{thread_at, set_thread}
use Rattle.lock_table.specs.declared.record.ThreadRecord.{ThreadRecord}
use Rattle.lock_table.specs.declared.record.Table.{Table}
use Rattle.lock_perform.specs.ThreadSet.{thread_set}
use Rattle.lock_perform.specs.declared.parting.Parting.{Parting}

-- a table, and what a chain of it was parted into
pub record PartedChain : Type 0 where
  pub table : Table
  pub parting : Parting

-- the chain of those that stay, that of those that go, and who goes
abbrev pub no_parting : Parting
no_parting = record { left = no_ends; taken = no_ends; set = 0 }

-- the last thread of the chain that a thread joins, 0 where it joins none or is the first
unfoldable pub last_behind : Parting → Bool → ℕ
last_behind parting goes = pick goes parting.taken.last parting.left.last

-- the chain of those that go, with one more of them if they go together
unfoldable pub taken_with : Bool → Ends → ℕ → Ends
taken_with together taken thread = pick together (grown taken thread) taken

unfoldable pub passed : Bool → Parting → Bool → ℕ → Parting
passed together parting goes thread =
    pick goes
    (record { left = parting.left; taken = taken_with together parting.taken thread; set = bit_or parting.set (thread_set thread) })
    (record { left = grown parting.left thread; taken = parting.taken; set = parting.set })

-- from `at` on, each thread joins the end of its chain, if it joins one; `after` gives its record with no thread behind it
unfoldable pub part_chain : (ThreadRecord → Bool) → (ThreadRecord → Bool → ThreadRecord) → Bool → ℕ → Table → Parting → ℕ → PartedChain
part_chain goes after together zero table parting at = record { table = table; parting = parting }
part_chain goes after together (suc fuel) table parting at =
    let thread = thread_at table at in
    let gone = goes thread in
    let last = last_behind parting gone in
    let alone = set_thread table at (after thread gone) in
    pick (within 1 thread_limit at)
    (part_chain goes after together fuel (set_thread alone last (with_next (thread_at alone last) at)) (passed together parting gone at) thread.next)
    (record { table = table; parting = parting })
