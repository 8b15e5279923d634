-- "Each parked thread is in exactly the chain of its object that its phase names, and no other thread is in a chain" (document 01), of a sound table.
use Prim.Native.Nat.{ℕ, ◌≤◌, ◌<◌}
use mathlib.Core.Path.{◌≡◌}
use mathlib.Core.Logic.{◌≢◌}
use mathlib.Core.Bool.{Bool, true, false}
use native.Mathlib.Omega.{arith}
use lib.Dec.{eqb}
use Rattle.laws.specs.Choice.{both}
use Rattle.laws.specs.Count.{count, one_if}
use Rattle.laws.proofs.Choice.{Equal, equal}
use Rattle.chains.proofs.Listed.{Chain, chain_once}
use Rattle.lock_table.specs.Access.{thread_at, next_of}
use Rattle.lock_table.specs.Parked.{thread_chain, chain_first}
use Rattle.lock_table.specs.declared.record.Table.{Table}
use Rattle.sound_records.proofs.Reading.{Within}
use Rattle.lock_soundness.proofs.Chained.{leads_chain}
use Rattle.lock_soundness.proofs.Reading.{threads_in_chain, Sound}

module _ (t : Table) (sound : Sound t) where
  -- each chain is the list of its threads
  sound_chain : (o chain : ℕ) → Within 1 t.objectcount o → Within 1 3 chain → Chain (next_of t) (chain_first t o chain) (threads_in_chain t o chain)
  sound_chain o chain (low, high) (first, last) =
      leads_chain t.threadcount (next_of t) (chain_first t o chain) (sound.chains_end o low high chain first last)

  -- how often thread n is in a chain of object o: once if it is at that object in a phase that names the chain, else never
  pub exactly : (n o chain : ℕ) → Within 1 t.threadcount n → Within 1 t.objectcount o → Within 1 3 chain
      → count n (threads_in_chain t o chain) ≡ one_if (both (eqb (thread_at t n).object o) (eqb (thread_chain (thread_at t n)) chain))
  exactly n o chain thread object kind =
      at (eqb (thread_at t n).object o) (equal (thread_at t n).object o) (eqb (thread_chain (thread_at t n)) chain) (equal (thread_chain (thread_at t n)) chain)
    where
      once : count n (threads_in_chain t o chain) ≤ 1
      once = chain_once (next_of t) (chain_first t o chain) (threads_in_chain t o chain) n (sound_chain o chain object kind)

      home : 0 < count n (threads_in_chain t o chain) → ((thread_at t n).object ≡ o) × (thread_chain (thread_at t n) ≡ chain)
      home = sound.no_others o object.0 object.1 chain kind.0 kind.1 n

      at : (here : Bool) → Equal here (thread_at t n).object o → (names : Bool) → Equal names (thread_chain (thread_at t n)) chain
          → count n (threads_in_chain t o chain) ≡ one_if (both here names)
      at true here true names =
          let parked : thread_chain (thread_at t n) ≢ 0 = λ e. omega (arith, e, names, kind.0) in
          let found : 0 < count n (threads_in_chain t o chain) = rw (here, names) at (sound.parked n thread.0 thread.1 parked) in
          omega (arith, once, found)
      at true here false names = let never : 0 < count n (threads_in_chain t o chain) → ⊥ = λ h. names (home h).1 in omega arith
      at false here names other = let never : 0 < count n (threads_in_chain t o chain) → ⊥ = λ h. here (home h).0 in omega arith
