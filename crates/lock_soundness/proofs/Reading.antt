-- What soundness says, as propositions: the clauses of document 01's sentence "Sound means" again, in its order. `sound_reads` and `sound_made` show that
-- the test passes for just the tables of which they hold.
use Prim.Native.Nat.{ℕ, ◌≤◌, ◌<◌}
use mathlib.Core.Path.{◌≡◌}
use mathlib.Core.Logic.{◌≢◌}
use mathlib.Core.Bool.{Bool, true}
use mathlib.Core.List.{List}
use Rattle.laws.specs.Count.{count}
use Rattle.laws.proofs.Facts.{Reads, reads_map, reads_eqb, reads_ltb, reads_both, reads_unless, reads_within, reads_past, reads_all}
use Rattle.chains.specs.Chain.{members}
use Rattle.chains.proofs.Test.{in_chain_count}
use Rattle.lock_table.specs.Limits.{thread_limit, object_limit}
use Rattle.lock_table.specs.Record.{no_thread, no_object}
use Rattle.lock_table.specs.Access.{thread_at, object_at, next_of}
use Rattle.lock_table.specs.Parked.{thread_chain, first_in, home_at, chain_first}
use Rattle.lock_table.specs.declared.record.{Monitor.Monitor, Table.Table}
use Rattle.lock_table.proofs.Walks.{next_none}
use Rattle.sound_records.proofs.Reading.{Within, ObjectFits, ThreadFits, reads_names, reads_empty_thread, reads_empty_object, reads_object}
use Rattle.sound_records.proofs.Reading.{reads_thread, reads_falls}
use Rattle.lock_soundness.specs.Sound.{sizes_fit, found_in, every_chain, sound_of}
use Rattle.lock_soundness.proofs.Chained.{follow, reads_chain}

-- a fact of each of 1 to `last`
abbrev pub Each : ℕ → (ℕ → Type 0) → Type 0
Each last Fact = (n : ℕ) → 1 ≤ n → n ≤ last → Fact n

-- the threads in a chain of an object
abbrev pub threads_in_chain : Table → ℕ → ℕ → List ℕ
threads_in_chain t o chain = members t.threadcount (next_of t) (chain_first t o chain)

pub record Sound (t : Table) : Type 0 where
  pub sizes : Within 1 thread_limit t.threadcount × Within 1 object_limit t.objectcount
  pub objects : Each t.objectcount (λ o. ObjectFits t.threadcount o (object_at t o))
  pub threads : Each t.threadcount (λ n. ThreadFits t.objectcount n (thread_at t n))
  -- T links from the first thread of each chain lead to 0
  pub chains_end : Each t.objectcount (λ o. Each 3 (λ chain. follow t.threadcount (next_of t) (chain_first t o chain) ≡ 0))
  pub chains_inside :
      Each t.objectcount (λ o. Each 3 (λ chain. (n : ℕ) → 0 < count n (threads_in_chain t o chain) → Within 1 t.threadcount n))
  -- proofs/Exactly.antt draws "exactly" from these two
  pub parked : Each t.threadcount (λ n. let chain = thread_chain (thread_at t n) in chain ≢ 0 → 0 < count n (threads_in_chain t (thread_at t n).object chain))
  pub no_others :
      Each t.objectcount
      (λ o. Each 3 (λ chain. (n : ℕ) → 0 < count n (threads_in_chain t o chain) → ((thread_at t n).object ≡ o) × (thread_chain (thread_at t n) ≡ chain)))
  pub falling : Each t.threadcount (λ n. thread_chain (thread_at t n) ≡ 1 → (thread_at t (next_of t n)).rank ≤ (thread_at t n).rank)
  pub threads_past : Each thread_limit (λ n. t.threadcount < n → thread_at t n ≡ no_thread)
  pub objects_past : Each object_limit (λ o. t.objectcount < o → object_at t o ≡ no_object)

pub reads_sizes : (threads objects : ℕ) → Reads (sizes_fit threads objects) (Within 1 thread_limit threads × Within 1 object_limit objects)
unfolding sizes_fit
reads_sizes threads objects = reads_both (reads_within 1 thread_limit threads) (reads_within 1 object_limit objects)

pub reads_found : (threads : ℕ) (next : ℕ → ℕ) (n chain : ℕ) (monitor : Monitor)
    → Reads (found_in threads next n chain monitor) (chain ≢ 0 → 0 < count n (members threads next (first_in monitor chain)))
unfolding found_in
reads_found threads next n chain monitor =
    rw (in_chain_count threads next n (first_in monitor chain))
    (reads_unless (reads_eqb chain 0) (reads_ltb 0 (count n (members threads next (first_in monitor chain)))))

module _ (t : Table) where
  -- each chain leads to 0 and each of its threads is as tested
  abbrev Chained : (ℕ → ℕ → ℕ → Type 0) → Type 0
  Chained P =
      Each t.objectcount
      (λ o. Each 3 (λ chain.
      (follow t.threadcount (next_of t) (chain_first t o chain) ≡ 0) × ((n : ℕ) → 0 < count n (threads_in_chain t o chain) → P o chain n)))

  chained : (test : ℕ → ℕ → ℕ → Bool) {P : ℕ → ℕ → ℕ → Type 0} → ((o chain n : ℕ) → Reads (test o chain n) (P o chain n))
      → Reads (every_chain t test) (Chained P)
  chained test known =
      reads_all t.objectcount _
      (λ o. reads_all 3 _ (λ chain. reads_chain t.threadcount (next_of t) (chain_first t o chain) (test o chain) (next_none t) (known o chain)))

  -- clause by clause
  pub sound_is : Reads (sound_of t) (Sound t)
  unfolding sound_of
  sound_is =
      reads_map
      (reads_both (reads_sizes t.threadcount t.objectcount)
      (reads_both (reads_all t.objectcount _ (λ o. reads_object t.threadcount o (object_at t o)))
      (reads_both (reads_all t.threadcount _ (λ n. reads_thread t.objectcount n (thread_at t n)))
      (reads_both (chained _ (λ o chain n. reads_within 1 t.threadcount n))
      (reads_both (reads_all t.threadcount _ (λ n. reads_found t.threadcount (next_of t) n (thread_chain (thread_at t n)) (home_at t n).monitor))
      (reads_both (chained _ (λ o chain n. reads_names o chain (thread_at t n)))
      (reads_both (reads_all t.threadcount _ (λ n. reads_falls (thread_at t n) (thread_at t (next_of t n)).rank))
      (reads_both (reads_all thread_limit _ (λ n. reads_past n t.threadcount (reads_empty_thread (thread_at t n))))
      (reads_all object_limit _ (λ o. reads_past o t.objectcount (reads_empty_object (object_at t o))))))))))))
      (λ (sizes, (objects, (threads, (links, (parked, (named, (falling, (threads_past, objects_past)))))))).
      record {
        sizes = sizes;
        objects = objects;
        threads = threads;
        chains_end = λ o low high chain first last. (links o low high chain first last).0;
        chains_inside = λ o low high chain first last. (links o low high chain first last).1;
        parked = parked;
        no_others = λ o low high chain first last. (named o low high chain first last).1;
        falling = falling;
        threads_past = threads_past;
        objects_past = objects_past;
      })
      (λ s.
      let links : Chained (λ o chain n. Within 1 t.threadcount n) = λ o low high chain first last.
      (s.chains_end o low high chain first last, s.chains_inside o low high chain first last) in
      let named : Chained (λ o chain n. ((thread_at t n).object ≡ o) × (thread_chain (thread_at t n) ≡ chain)) = λ o low high chain first last.
      (s.chains_end o low high chain first last, s.no_others o low high chain first last) in
      (s.sizes, (s.objects, (s.threads, (links, (s.parked, (named, (s.falling, (s.threads_past, s.objects_past)))))))))

  pub sound_reads : sound_of t ≡ true → Sound t
  sound_reads = sound_is.read

  pub sound_made : Sound t → sound_of t ≡ true
  sound_made = sound_is.make
