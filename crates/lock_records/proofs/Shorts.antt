-- An entry chain and another chain of its object together are no longer than the table has threads: nobody is in both.
use Prim.Native.Nat.{ℕ, ◌+◌, ◌≤◌}
use mathlib.Core.Path.{◌≡◌}
use mathlib.Core.Bool.{true}
use mathlib.Core.List.{[]}
use native.Mathlib.Omega.{arith}
use lib.Dec.{eqb}
use lib.ListN.{length}
use Rattle.laws.specs.{Choice.pick, Count.count}
use Rattle.laws.proofs.Choice.{either_way, equal?}
use Rattle.laws.proofs.Count.{distinct_within}
use Rattle.chains.specs.declared.named.Chain.{Chain}
use Rattle.chains.proofs.Queue.{queue_by, count_queue, length_queue}
use Rattle.lock_rules.specs.declared.ThreadState.{ThreadState}
use Rattle.lock_rules.proofs.Each.{each_state}
use Rattle.lock_rules.proofs.Objects.{chain_of}
use Rattle.lock_rules.proofs.Tables.{ListTable, states_at}
use Rattle.lock_rules.proofs.{Invariant.in_entry, ListSound.SoundTable}
use Rattle.lock_rules.proofs.ListChains.{times_in, placed_in, member_in, short}
use Rattle.lock_records.proofs.Numbering.{place_of}

module _ (threads objects : ℕ) (table : ListTable) (sound : SoundTable threads objects table) (o : ℕ) where
  two_brief : (from : Chain) → ((state : ThreadState) → in_entry state + times_in from state ≤ 1)
      → length (table.objects o).entry + length (chain_of from (table.objects o)) ≤ threads
  two_brief from apart =
      let entry = (table.objects o).entry in
      let others = chain_of from (table.objects o) in
      let all = queue_by (λ x n. true) entry others in
      let counted : (t : ℕ) → count t all ≡ count t entry + count t others = count_queue (λ x n. true) entry others in
      let within : length all ≤ threads =
      distinct_within threads all
      (λ t. omega (
        arith,
        counted t,
        placed_in Chain.Entry t (states_at table o t) (table.objects o) ((sound.sound o).placed t),
        placed_in from t (states_at table o t) (table.objects o) ((sound.sound o).placed t),
        apart (states_at table o t),
      ))
      (λ t h. either_way (equal? (count t entry) 0) (λ none. member_in threads objects table sound from o t (omega (arith, h, none, counted t)))
      (λ some. member_in threads objects table sound Chain.Entry o t (omega (arith, some)))) in
      omega (arith, within, length_queue (λ x n. true) entry others)

  -- the entry chain without those that move to it, and they
  pub both_brief : (from : Chain) → length (pick (eqb (place_of Chain.Entry) (place_of from)) [] (table.objects o).entry) + length (chain_of from (table.objects o)) ≤ threads
  both_brief Chain.Entry = omega (arith, short threads objects table sound Chain.Entry o)
  both_brief Chain.Contention = two_brief Chain.Contention (each_state _ (search arith))
  both_brief Chain.Waiting = two_brief Chain.Waiting (each_state _ (search arith))
