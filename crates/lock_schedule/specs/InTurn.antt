-- What a thread that is queued for a monitor gets of ranks (document 02, L8: "the entry chain is kept by falling rank, then by time of joining"): as long as
-- it is queued, nobody of a lower rank, and nobody of its own rank who joined later, is handed that monitor (ours). It is said of the entry chain, of
-- every event on any sound table, reached by a schedule or not, and of every schedule from one.
use Rattle.std.specs.Prelude.{ℕ, ◌<◌, ◌≡◌, ◌⊎◌, true, List, [], ◌∷◌}
use Rattle.laws.specs.Count.{count}
use Rattle.chains.specs.Chain.{members, Ahead}
use Rattle.lock_rules.specs.declared.event.Event.{Event}
use Rattle.lock_table.specs.Limits.{thread_limit}
use Rattle.lock_table.specs.Access.{thread_at, object_at, next_of}
use Rattle.lock_table.specs.WellTyped.{WellTyped}
use Rattle.lock_table.specs.declared.record.Table.{Table}
use Rattle.lock_soundness.specs.Sound.{sound_of}
use Rattle.lock_engine.specs.Handle.{handle}

-- the threads in the entry chain of object o, in order
abbrev pub entry_chain : Table → ℕ → List ℕ
entry_chain table o = members thread_limit (next_of table) (object_at table o).monitor.entry

abbrev pub holder_at : Table → ℕ → ℕ
holder_at table o = (object_at table o).monitor.holder

abbrev pub rank_at : Table → ℕ → ℕ
rank_at table n = (thread_at table n).rank

-- thread n is queued for the monitor of object o
abbrev pub QueuedFor : Table → ℕ → ℕ → Type 0
QueuedFor table o n = 0 < count n (entry_chain table o)

-- m comes before n, who is queued for object o: it has a higher rank, or the same and is ahead of n
abbrev pub Precedes : Table → ℕ → ℕ → ℕ → Type 0
Precedes table o m n = (rank_at table n < rank_at table m) ⊎ ((rank_at table m ≡ rank_at table n) × Ahead m n (entry_chain table o))

-- The entry chains of a sound table are in this order.
abbrev pub ChainsInOrder : Type 0
ChainsInOrder =
    (table : Table) → WellTyped table → sound_of table ≡ true → (o m n : ℕ) → Ahead m n (entry_chain table o) → Precedes table o m n

-- No event changes a rank.
abbrev pub RanksKept : Type 0
RanksKept =
    (table : Table) → WellTyped table → sound_of table ≡ true → (event : Event) (n : ℕ) → rank_at (handle table event).table n ≡ rank_at table n

-- Between two tables whoever comes before thread n has done so already, and whoever becomes the holder was ahead of it.
pub record NotPassed (before after : Table) (o n : ℕ) : Type 0 where
  pub order : (m : ℕ) → Precedes after o m n → Precedes before o m n
  pub holder : (holder_at after o ≡ holder_at before o) ⊎ Ahead (holder_at after o) n (entry_chain before o)

-- So it is with every event before and after which thread n is queued for object o.
abbrev pub EventsInTurn : Type 0
EventsInTurn =
    (table : Table) → WellTyped table → sound_of table ≡ true → (event : Event) (o n : ℕ)
    → let after = (handle table event).table in QueuedFor table o n → QueuedFor after o n → NotPassed table after o n

-- thread n is queued for object o all along a schedule
abbrev pub StaysQueued : ℕ → ℕ → Table → List Event → Type 0
StaysQueued o n table [] = QueuedFor table o n
StaysQueued o n table (event ∷ rest) = QueuedFor table o n × StaysQueued o n (handle table event).table rest

-- whoever becomes the holder of object o in a schedule is one of these
abbrev pub EachHolder : ℕ → (ℕ → Type 0) → Table → List Event → Type 0
EachHolder o who table [] = Unit {0}
EachHolder o who table (event ∷ rest) =
    let after = (handle table event).table in ((holder_at after o ≡ holder_at table o) ⊎ who (holder_at after o)) × EachHolder o who after rest

-- Whoever becomes the holder while thread n stays queued has a higher rank, or the same and was ahead of n when the schedule began.
abbrev pub SchedulesInTurn : Type 0
SchedulesInTurn =
    (table : Table) → WellTyped table → sound_of table ≡ true → (events : List Event) (o n : ℕ)
    → StaysQueued o n table events → EachHolder o (λ m. Precedes table o m n) table events
