-- Soundness as the code finds it out, in one pass: objects first, whose chains are walked and their threads marked; then threads, of which a parked
-- one has to be marked. proofs/OnePass.antt shows that this is soundness as specs/Sound.antt has it.
use Rattle.std.specs.Prelude.{ℕ, zero, suc, ◌-◌, Bool, true, false, List, eqb, ltb, leb, get_or, set, replicate}
use Rattle.laws.specs.Choice.{pick, both, either}
use Rattle.laws.specs.Every.{all_up_to}
use Rattle.chains.specs.Chain.{chain_test}
use Rattle.lock_table.specs.Limits.{thread_limit, object_limit}
use Rattle.lock_table.specs.Record.{no_thread}
use Rattle.lock_table.specs.Access.{thread_at, object_at}
use Rattle.lock_table.specs.declared.record.ThreadRecord.{ThreadRecord}
use Rattle.lock_table.specs.declared.record.Monitor.{Monitor}
use Rattle.lock_table.specs.declared.record.ObjectRecord.{ObjectRecord}
use Rattle.lock_table.specs.declared.record.Table.{Table}
use Rattle.sound_records.specs.Records.{used_object_fits, empty_object}
use Rattle.sound_records.specs.OnePass.{member_passes, thread_passes}
use Rattle.lock_soundness.specs.Sound.{sizes_fit}

-- the walks take the thread records alone
unfoldable pub thread_in : List ThreadRecord → ℕ → ThreadRecord
thread_in threads n = pick (eqb n 0) no_thread (pick (ltb thread_limit n) no_thread (get_or threads (n - 1) no_thread))

abbrev pub next_in : List ThreadRecord → ℕ → ℕ
next_in threads n = (thread_in threads n).next

-- one of the table's threads, parked in this chain of object o; in an entry chain it has no lower rank than who stands behind it
unfoldable pub member_fits : List ThreadRecord → ℕ → ℕ → ℕ → ℕ → Bool
member_fits threads count o chain n =
    pick (ltb count n) false
    (pick (ltb thread_limit n) false (member_passes o chain (thread_in threads n) (thread_in threads (next_in threads n)).rank))

unfoldable pub chain_passes : List ThreadRecord → ℕ → ℕ → ℕ → ℕ → Bool
chain_passes threads count o chain first = chain_test count (next_in threads) (member_fits threads count o chain) first

unfoldable pub chains_pass : List ThreadRecord → ℕ → ℕ → Monitor → Bool
chains_pass threads count o monitor =
    both (chain_passes threads count o 1 monitor.entry)
    (both (chain_passes threads count o 2 monitor.contention) (chain_passes threads count o 3 monitor.waiting))

-- the threads that were met, by place: a walk marks each thread of the chain, up to one that does not pass
unfoldable pub marked : ℕ → (ℕ → ℕ) → (ℕ → Bool) → ℕ → List Bool → List Bool
marked zero next ok first met = met
marked (suc fuel) next ok first met = pick (eqb first 0) met (pick (ok first) (marked fuel next ok (next first) (set met (first - 1) true)) met)

unfoldable pub chain_marks : List ThreadRecord → ℕ → ℕ → ℕ → ℕ → List Bool → List Bool
chain_marks threads count o chain first met = marked count (next_in threads) (member_fits threads count o chain) first met

unfoldable pub chains_marks : List ThreadRecord → ℕ → ℕ → Monitor → List Bool → List Bool
chains_marks threads count o monitor met =
    chain_marks threads count o 3 monitor.waiting
    (chain_marks threads count o 2 monitor.contention (chain_marks threads count o 1 monitor.entry met))

-- an object's record: empty, or in use and as the clauses ask, with its chains
unfoldable pub object_passes : List ThreadRecord → ℕ → ℕ → ℕ → ObjectRecord → Bool
object_passes threads count objects o object =
    both (either (empty_object object) (both (leb o objects) (used_object_fits count o object))) (chains_pass threads count o object.monitor)

abbrev pub object_turn : Table → ℕ → Bool
object_turn t o = object_passes t.threads t.threadcount t.objectcount o (object_at t o)

-- the marks after the objects from `last` down to 1, up to one that does not pass
unfoldable pub objects_marks : Table → ℕ → List Bool → List Bool
objects_marks t zero met = met
objects_marks t (suc o) met =
    pick (object_turn t (suc o)) (objects_marks t o (chains_marks t.threads t.threadcount (suc o) (object_at t (suc o)).monitor met))
    (chains_marks t.threads t.threadcount (suc o) (object_at t (suc o)).monitor met)

abbrev pub thread_turn : Table → List Bool → ℕ → Bool
thread_turn t met n = thread_passes t.threadcount t.objectcount n (thread_at t n) (get_or met (n - 1) false)

unfoldable pub one_pass : Table → Bool
one_pass t =
    both (sizes_fit t.threadcount t.objectcount)
    (both (all_up_to object_limit (object_turn t))
    (all_up_to thread_limit (thread_turn t (objects_marks t object_limit (replicate thread_limit false)))))
