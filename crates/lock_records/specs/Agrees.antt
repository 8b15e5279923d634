-- What demand 3 says of a table of records and the plain monitors, in terms of the records alone (document 01, "Plain monitors").
use Rattle.std.specs.Prelude.{ℕ, ◌≤◌, ◌≡◌, ◌≢◌, ◌⊎◌, Bool, List, [], ◌∷◌, eqb}
use Rattle.laws.specs.Choice.{both, either}
use Rattle.chains.specs.Chain.{members}
use Rattle.lock_rules.specs.Events.{Reply, Shown, returned}
use Rattle.lock_rules.specs.Feed.{Plain, AllEndRight}
use Rattle.lock_table.specs.Limits.{thread_limit}
use Rattle.lock_table.specs.Ownership.{ownership_at}
use Rattle.lock_table.specs.Access.{thread_at, object_at, next_of, phase_number_at, carried_at}
use Rattle.lock_table.specs.declared.record.Table.{Table}

-- "Woken means carrying 15 or in 15."
abbrev pub woken_at : Table → ℕ → ℕ → Bool
woken_at table o n = both (eqb (thread_at table n).object o) (either (eqb (phase_number_at table n) 15) (eqb (carried_at table n) 15))

-- "Parked for entry means phase 5 or 8."
abbrev pub ParkedForEntry : Table → ℕ → Type 0
ParkedForEntry table n = (phase_number_at table n ≡ 5) ⊎ (phase_number_at table n ≡ 8)

-- "Unparked means any phase but 5, 8 and 14."
abbrev pub Unparked : Table → ℕ → Type 0
Unparked table n = (phase_number_at table n ≢ 5) × (phase_number_at table n ≢ 8) × (phase_number_at table n ≢ 14)

abbrev pub IsThread : Table → ℕ → Type 0
IsThread table n = (1 ≤ n) × (n ≤ table.threadcount)

-- another thread than n owns object o
abbrev pub OwnedByOther : Table → ℕ → ℕ → Type 0
OwnedByOther table o n = let owner = (ownership_at table o).thread in IsThread table owner × (owner ≢ n)

-- another unparked thread than n has an unfinished operation on object o
abbrev pub BusyOther : Table → ℕ → ℕ → Type 0
BusyOther table o n =
    (other : ℕ) × IsThread table other × (other ≢ n) × Unparked table other × (phase_number_at table other ≢ 0) × ((thread_at table other).object ≡ o)

-- the table after a schedule, and the plain monitors fed with the same schedule
pub record Agrees (table : Table) (plain : Plain) : Type 0 where
  -- each object's owner and depth, its waiting threads in order and its woken threads
  pub owners : (o : ℕ) → 1 ≤ o → o ≤ table.objectcount
      → ((plain.monitors o).owner ≡ (ownership_at table o).thread) × ((plain.monitors o).depth ≡ (ownership_at table o).depth)
  pub waiting : (o : ℕ) → 1 ≤ o → o ≤ table.objectcount
      → (plain.monitors o).waiting ≡ members thread_limit (next_of table) (object_at table o).monitor.waiting
  pub woken : (o : ℕ) → 1 ≤ o → o ≤ table.objectcount → (n : ℕ) → (plain.monitors o).woken n ≡ woken_at table o n
  -- every operation that ended has the plain monitors' answer
  pub ended : AllEndRight plain.steps
  -- no thread is parked for entry while no other thread owns its object and no other unparked thread has an unfinished operation on it
  pub unstranded : (n : ℕ) → ParkedForEntry table n
      → let o = (thread_at table n).object in OwnedByOther table o n ⊎ BusyOther table o n

-- "From a fresh table 11 and 20 never occur."
abbrev pub RuledReply : Reply → Type 0
RuledReply reply = (returned reply ≢ 11) × (returned reply ≢ 20)

abbrev pub Ruled : List Shown → Type 0
Ruled [] = Unit {0}
Ruled (shown ∷ rest) = RuledReply shown.reply × Ruled rest
