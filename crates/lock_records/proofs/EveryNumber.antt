-- What holds of a sound table at every number, in range or not: numbers out of range have the empty record. And what a thread's state says of its record.
use Prim.Native.Nat.{ℕ, zero, suc, ◌≤◌, ◌<◌}
use mathlib.Core.Path.{◌≡◌, refl, sym, ap, ◌∙◌, subst}
use mathlib.Core.Logic.{◌≢◌, ◌⊎◌, inl, inr}
use mathlib.Core.Bool.{true}
use native.Mathlib.Omega.{arith}
use lib.Dec.{ltb, leb}
use borrow.Author.Tests.{ltb-true, ltb-false, leb-true, leb-false}
use Rattle.laws.specs.Count.{count}
use Rattle.laws.proofs.Choice.{split, either_way, equal?}
use Rattle.laws.proofs.Count.{count_none}
use Rattle.chains.proofs.Listed.{Chain as Linked, members_none, chain_once}
use Rattle.lock_rules.proofs.Each.{each_chain}
use Rattle.lock_rules.specs.Numbers.{phase_of}
use Rattle.lock_rules.specs.declared.ThreadState.{ThreadState}
use Rattle.lock_rules.specs.declared.ThreadState.TheVariants.{Idle}
use Rattle.lock_rules.proofs.Tables.{ListThread, seen_from, seen_here}
use Rattle.chains.specs.declared.named.Chain.{Chain}
use Rattle.lock_rules.proofs.ListChains.{times_in, seen_or_at}
use Rattle.lock_table.specs.Limits.{thread_limit, object_limit}
use Rattle.lock_table.specs.Phase.{phase_number}
use Rattle.lock_table.specs.Record.{no_thread, no_monitor, no_object}
use Rattle.lock_table.specs.Access.{thread_at, object_at, next_of, phase_number_at}
use Rattle.lock_table.specs.Parked.{chain_named, thread_chain, first_in, chain_first}
use Rattle.lock_table.specs.declared.record.{ThreadRecord.ThreadRecord, Table.Table}
use Rattle.lock_table.proofs.Records.{thread_none, thread_past, object_beyond}
use Rattle.lock_perform.specs.State.{read_thread}
use Rattle.lock_soundness.specs.Sound.{sound_of}
use Rattle.sound_records.proofs.Reading.{Within}
use Rattle.lock_soundness.proofs.Chained.{leads_chain}
use Rattle.lock_soundness.proofs.Reading.{threads_in_chain, Sound, sound_reads}
use Rattle.sound_records.specs.OnePass.{chain_number}
use Rattle.lock_records.proofs.Naming.{chain_number_low, chain_number_high, idle_never, named_once, unnamed_never}
use Rattle.lock_records.proofs.ReadBack.{IsWritten, fits_written, none_written, state_back, phase_back}

-- a thread's record read as a thread of a table with lists
abbrev pub thread_read : Table → ℕ → ListThread
thread_read t n = record { object = (thread_at t n).object; state = read_thread (thread_at t n) }

-- no chain of the empty record has a thread
no_first : (chain : Chain) → first_in no_monitor (chain_number chain) ≡ 0
unfolding first_in
no_first = each_chain _ (search)

-- records by number, of which those in use are 1 to `last`: any other is empty
by_range : {A : Type 0} (at : ℕ → A) (none : A) (last limit : ℕ) → at 0 ≡ none → ((n : ℕ) → limit < n → at n ≡ none)
    → ((n : ℕ) → 1 ≤ n → n ≤ limit → last < n → at n ≡ none) → (n : ℕ) → Within 1 last n ⊎ (at n ≡ none)
by_range at none last limit first beyond past n =
    either_way (equal? n 0) (λ e. inr (ap at e ∙ first))
    (λ some. split (leb n last) (λ used. inl (omega (arith, some), leb-true n last used))
    (λ unused. inr (split (ltb limit n) (λ far. beyond n (ltb-true limit n far))
    (λ near. past n (omega (arith, some)) (ltb-false limit n near) (leb-false n last unused)))))

module _ (t : Table) (sound : Sound t) where
  pub thread_where : (n : ℕ) → Within 1 t.threadcount n ⊎ (thread_at t n ≡ no_thread)
  thread_where = by_range (thread_at t) no_thread t.threadcount thread_limit (thread_none t) (thread_past t) sound.threads_past

  pub object_where : (o : ℕ) → Within 1 t.objectcount o ⊎ (object_at t o ≡ no_object)
  object_where = by_range (object_at t) no_object t.objectcount object_limit (unfold object_at in refl) (object_beyond t) sound.objects_past

  -- every thread record is a fine state, written
  pub written_at : (n : ℕ) → IsWritten t.objectcount n (thread_at t n)
  written_at n =
      either_way (thread_where n)
      (λ used. fits_written t.objectcount n (used.0, omega (arith, used.1, sound.sizes.0.1)) (thread_at t n) (sound.threads n used.0 used.1))
      (λ empty. subst (IsWritten t.objectcount n) (sym empty) (none_written t.objectcount n))

  -- the state that it is read as has its phase
  pub phase_at : (n : ℕ) → phase_number_at t n ≡ phase_of (read_thread (thread_at t n))
  phase_at n =
      phase_back t.objectcount n (thread_at t n) (written_at n)
      ∙ ap phase_of (sym (state_back t.objectcount n (thread_at t n) (written_at n)))

  pub named_at : (n : ℕ) → thread_chain (thread_at t n) ≡ chain_named (phase_of (read_thread (thread_at t n)))
  named_at n = ap chain_named (phase_at n)

  -- a thread whose phase names no chain has no next index
  pub no_next_at : (n : ℕ) → thread_chain (thread_at t n) ≡ 0 → next_of t n ≡ 0
  no_next_at n none =
      either_way (thread_where n) (λ used. (sound.threads n used.0 used.1).unused.next none) (λ empty. ap (λ (thread : ThreadRecord). thread.next) empty)

  -- each chain ends; its members are threads of the table, at its object in a phase that names it
  pub chain_at : (o : ℕ) (chain : Chain) → Linked (next_of t) (chain_first t o (chain_number chain)) (threads_in_chain t o (chain_number chain))
  chain_at o chain =
      either_way (object_where o)
      (λ used. leads_chain t.threadcount (next_of t) (chain_first t o (chain_number chain))
      (sound.chains_end o used.0 used.1 (chain_number chain) (chain_number_low chain) (chain_number_high chain)))
      (λ empty. rw (empty, no_first chain, members_none t.threadcount (next_of t)) refl)

  pub members_at : (o : ℕ) (chain : Chain) (n : ℕ) → 0 < count n (threads_in_chain t o (chain_number chain))
      → ((thread_at t n).object ≡ o) × (thread_chain (thread_at t n) ≡ chain_number chain)
  members_at o chain n inside =
      either_way (object_where o)
      (λ used. sound.no_others o used.0 used.1 (chain_number chain) (chain_number_low chain) (chain_number_high chain) n inside)
      (λ empty. absurd (omega (arith, count_none n, rw (empty, no_first chain, members_none t.threadcount (next_of t)) at inside)))

  -- a thread whose phase names a chain is in that chain of its object
  pub parked_at : (chain : Chain) (n : ℕ) → thread_chain (thread_at t n) ≡ chain_number chain
      → 0 < count n (threads_in_chain t (thread_at t n).object (chain_number chain))
  parked_at chain n names =
      either_way (thread_where n)
      (λ used. subst (λ (k : ℕ). 0 < count n (threads_in_chain t (thread_at t n).object k)) names (sound.parked n used.0 used.1 some))
      (λ empty. absurd (some (ap thread_chain empty ∙ unfold chain_named phase_number in refl)))
    where
      some : thread_chain (thread_at t n) ≢ 0
      some none = omega (arith, none, names, chain_number_low chain)

  -- so each thread is in each chain as often as its state, seen from there, says
  pub counted_at : (o : ℕ) (chain : Chain) (n : ℕ)
      → count n (threads_in_chain t o (chain_number chain)) ≡ times_in chain (seen_from o (thread_read t n))
  counted_at o chain n = at (count n (threads_in_chain t o (chain_number chain))) refl (seen_or_at o (thread_read t n))
    where
      state : ThreadState
      state = read_thread (thread_at t n)

      once : count n (threads_in_chain t o (chain_number chain)) ≤ 1
      once = chain_once (next_of t) (chain_first t o (chain_number chain)) (threads_in_chain t o (chain_number chain)) n (chain_at o chain)

      unnamed : count n (threads_in_chain t o (chain_number chain)) ≡ 0 → (thread_at t n).object ≡ o → chain_named (phase_of state) ≢ chain_number chain
      unnamed none here names = omega (arith, none, rw here at (parked_at chain n (named_at n ∙ names)))

      at : (times : ℕ) → count n (threads_in_chain t o (chain_number chain)) ≡ times → (seen_from o (thread_read t n) ≡ Idle) ⊎ ((thread_at t n).object ≡ o)
          → count n (threads_in_chain t o (chain_number chain)) ≡ times_in chain (seen_from o (thread_read t n))
      at (suc times) e seen =
          let (here, names) = members_at o chain n (omega (arith, e)) in
          let one : count n (threads_in_chain t o (chain_number chain)) ≡ 1 = omega (arith, e, once) in
          one ∙ sym (ap (times_in chain) (seen_here o (thread_read t n) here) ∙ named_once chain state (sym (named_at n) ∙ names))
      at zero e (inl idle) = e ∙ sym (ap (times_in chain) idle ∙ idle_never chain)
      at zero e (inr here) = e ∙ sym (ap (times_in chain) (seen_here o (thread_read t n) here) ∙ unnamed_never chain state (unnamed e here))

-- What the state that a record is read as says of it, in a table that passes the test.
module _ (t : Table) (sound : sound_of t ≡ true) (n : ℕ) where
  pub phase_of_state : phase_number_at t n ≡ phase_of (read_thread (thread_at t n))
  phase_of_state = phase_at t (sound_reads t sound) n

  pub idle_phase : read_thread (thread_at t n) ≡ Idle → phase_number_at t n ≡ 0
  idle_phase idle = phase_of_state ∙ ap phase_of idle
