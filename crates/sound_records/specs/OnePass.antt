-- A thread's record as the code finds out about it in one pass, in which a walk has marked those that it met in a chain.
use Rattle.std.specs.Prelude.{ℕ, Bool, eqb, ltb, leb}
use Rattle.laws.specs.Choice.{pick, both, either}
use Rattle.chains.specs.declared.named.Chain.{Chain}
use Rattle.lock_table.specs.Limits.{thread_limit}
use Rattle.lock_table.specs.Phase.{phase_number, carried_number}
use Rattle.lock_table.specs.Parked.{thread_chain}
use Rattle.lock_table.specs.declared.record.ThreadRecord.{ThreadRecord}
use Rattle.sound_records.specs.Records.{used_thread_fits, names_chain, falls_behind, empty_thread}

-- the number of a chain
abbrev pub chain_number : Chain → ℕ
chain_number Chain.Entry = 1
chain_number Chain.Contention = 2
chain_number Chain.Waiting = 3

-- the rank of thread n, by the record at its place: 0 where there is none
unfoldable pub rank_there : ℕ → ThreadRecord → ℕ
rank_there n there = pick (eqb n 0) 0 (pick (ltb thread_limit n) 0 there.rank)

-- a thread that a walk meets in a chain: parked there, and in an entry chain of no lower rank than who stands behind it
abbrev pub member_passes : ℕ → ℕ → ThreadRecord → ℕ → Bool
member_passes o chain thread behind = both (names_chain o chain thread) (falls_behind thread behind)

-- a thread's record: empty, or in use and as the clauses ask, and marked if it is parked
unfoldable pub thread_passes : ℕ → ℕ → ℕ → ThreadRecord → Bool → Bool
thread_passes threads objects n thread met =
    either (empty_thread thread)
    (both (leb n threads)
    (both (used_thread_fits objects n (phase_number thread.phase) (carried_number thread.phase) thread) (either (eqb (thread_chain thread) 0) met)))
