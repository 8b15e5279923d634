-- When a table is sound (document 01, "Lock words", the sentence "Sound means"): its clauses in its order and words, each a test that computes. Those
-- that are about one record are in sound_records/specs/Records.antt, those about ticks and ranks (document 02, L1 and L8) among them.
-- `threads` is document 01's T and `objects` its N; n is a thread, o an object, and a chain 1 entry, 2 contention or 3 waiting.
use Rattle.std.specs.Prelude.{ℕ, Bool, eqb, leb}
use Rattle.laws.specs.Choice.{both, either, within}
use Rattle.laws.specs.Every.{all_up_to}
use Rattle.chains.specs.Chain.{chain_test, in_chain}
use Rattle.lock_table.specs.Limits.{thread_limit, object_limit}
use Rattle.lock_table.specs.Access.{thread_at, object_at, next_of, phase_number_at, carried_at}
use Rattle.lock_table.specs.Parked.{thread_chain, first_in, home_at, chain_first}
use Rattle.lock_table.specs.declared.record.Monitor.{Monitor}
use Rattle.lock_table.specs.declared.record.Table.{Table}
use Rattle.sound_records.specs.Records.{used_object_fits, used_thread_fits, falls_behind, empty_thread, empty_object}
-- passed on to whoever computes the whole test
unfoldable pub use Rattle.sound_records.specs.Records.{word_fits, uses_phase, carries_phase, operation_fits, kept_fits, saves_depth, saved_fits, unheld_fits}
unfoldable pub use Rattle.sound_records.specs.Records.{ticks_fit, names_chain, falls_behind, unused_fits, empty_thread, empty_monitor, empty_object}

-- "sizes in range"
unfoldable pub sizes_fit : ℕ → ℕ → Bool
sizes_fit threads objects = both (within 1 thread_limit threads) (within 1 object_limit objects)

-- "every word valid with its thread at most T", "holder at most T", "holder 0 goes with depth 0 and an empty entry chain"
abbrev pub objects_fit : Table → Bool
objects_fit t = all_up_to t.objectcount (λ o. used_object_fits t.threadcount o (object_at t o))

-- "every non-idle thread has an object in 1..N and a phase that its operation uses", "a kept word in phase 2 is reserved for that thread", "a saved
-- depth .. is 1 to 65,535", document 02's "ticks left .. 0 only when run out" and "a rank, 0 to 3", ".. and fields of a thread that its phase does not use, are 0"
abbrev pub threads_fit : Table → Bool
threads_fit t = all_up_to t.threadcount (λ n. used_thread_fits t.objectcount n (phase_number_at t n) (carried_at t n) (thread_at t n))

-- every chain ends within T links, all to threads that pass the test
abbrev pub every_chain : Table → (ℕ → ℕ → ℕ → Bool) → Bool
every_chain t test =
    all_up_to t.objectcount (λ o. all_up_to 3 (λ chain. chain_test t.threadcount (next_of t) (test o chain) (chain_first t o chain)))

-- "each chain ends within T links, all to threads in 1..T"
abbrev pub chains_end : Table → Bool
chains_end t = every_chain t (λ o chain n. within 1 t.threadcount n)

-- "each parked thread is in exactly the chain of its object that its phase names": it is found there, and by the next clause nowhere else
unfoldable pub found_in : ℕ → (ℕ → ℕ) → ℕ → ℕ → Monitor → Bool
found_in threads next n chain monitor = either (eqb chain 0) (in_chain threads next n (first_in monitor chain))

abbrev pub parked_found : Table → Bool
parked_found t =
    all_up_to t.threadcount (λ n. found_in t.threadcount (next_of t) n (thread_chain (thread_at t n)) (home_at t n).monitor)

-- "and no other thread is in a chain": whoever is in a chain is at its object, in a phase that names the chain
abbrev pub no_others : Table → Bool
no_others t = every_chain t (λ o chain n. names_chain o chain (thread_at t n))

-- "its entry chains in falling rank" (document 02, L8): nobody stands behind a queued thread of a lower rank
abbrev pub entries_fall : Table → Bool
entries_fall t = all_up_to t.threadcount (λ n. falls_behind (thread_at t n) (thread_at t (next_of t n)).rank)

-- "records past T and N .. are 0"
abbrev pub past_threads_empty : Table → Bool
past_threads_empty t = all_up_to thread_limit (λ n. either (leb n t.threadcount) (empty_thread (thread_at t n)))

abbrev pub past_objects_empty : Table → Bool
past_objects_empty t = all_up_to object_limit (λ o. either (leb o t.objectcount) (empty_object (object_at t o)))

-- all clauses
unfoldable pub sound_of : Table → Bool
sound_of t =
    both (sizes_fit t.threadcount t.objectcount)
    (both (objects_fit t)
    (both (threads_fit t) (both (chains_end t) (both (parked_found t) (both (no_others t) (both (entries_fall t) (both (past_threads_empty t) (past_objects_empty t))))))))
