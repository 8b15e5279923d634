-- The walk that parts a chain as the code does it, with records read and written where they are in their array: one turn, and its end.
use Prim.Native.Nat.{ℕ, zero, suc, ◌-◌}
use mathlib.Core.Path.{◌≡◌, refl, sym, ap, ◌∙◌}
use mathlib.Core.Bool.{Bool, true, false}
use lib.Dec.{ltb}
use lib.ListN.{get_or, set}
use Rattle.laws.specs.Choice.{both, within}
use Rattle.lock_table.specs.Limits.{thread_limit}
use Rattle.lock_table.specs.Record.{no_thread, with_next}
use Rattle.lock_table.specs.Access.{thread_at, set_thread}
use Rattle.lock_table.specs.Place.{thread_place}
use Rattle.lock_table.specs.declared.record.{ThreadRecord.ThreadRecord, Table.Table}
use Rattle.lock_table.proofs.Places.{number_some, number_high}
use Rattle.lock_table.proofs.Records.{thread_in, set_thread_in}
use Rattle.lock_perform.specs.Parting.{last_behind, passed, part_chain}
use Rattle.lock_perform.specs.InPlace.{linked_to}
use Rattle.lock_perform.specs.declared.parting.Parting.{Parting}
use Rattle.lock_perform.proofs.InPlace.{with_threads, set_by_in_place, ended}

module _ (goes : ThreadRecord → Bool) (after : ThreadRecord → Bool → ThreadRecord) (together : Bool) where
  part_step : {left rest : ℕ} → left ≡ suc rest → (t : Table) (parting : Parting) (at : ℕ) → within 1 thread_limit at ≡ true
      → let thread = thread_at t at in
      let last = last_behind parting (goes thread) in
      let alone = set_thread t at (after thread (goes thread)) in
      part_chain goes after together left t parting at
      ≡ part_chain goes after together rest (set_thread alone last (with_next (thread_at alone last) at)) (passed together parting (goes thread) at) thread.next
  unfolding part_chain
  part_step one t parting at inside = rw (one, inside) refl

  -- what the code's locals are after one turn
  pub part_passes : {left rest : ℕ} → left ≡ suc rest → (at : ℕ) → within 1 thread_limit at ≡ true → (t : Table) (parting : Parting)
      → let thread = get_or t.threads (at - 1) no_thread in
      let last = last_behind parting (goes thread) in
      let alone = with_threads t (set t.threads (at - 1) (after thread (goes thread))) in
      part_chain goes after together left t parting at
      ≡ part_chain goes after together rest
      (with_threads alone (set alone.threads (thread_place last) (linked_to last (get_or alone.threads (thread_place last) no_thread) at)))
      (passed together parting (goes thread) at) thread.next
  part_passes {left} {rest} more at inside t parting =
      let some = number_some thread_limit _ inside in
      let high = number_high thread_limit _ inside in
      let read = thread_in t at some high in
      let thread = get_or t.threads (at - 1) no_thread in
      let last = last_behind parting (goes thread) in
      let alone = with_threads t (set t.threads (at - 1) (after thread (goes thread))) in
      part_step more t parting at inside
      ∙ (ap
      (λ (own : ThreadRecord).
      let last = last_behind parting (goes own) in
      let alone = set_thread t at (after own (goes own)) in
      part_chain goes after together rest (set_thread alone last (with_next (thread_at alone last) at)) (passed together parting (goes own) at) own.next) read
      ∙ (ap
      (λ (alone : Table).
      part_chain goes after together rest (set_thread alone last (with_next (thread_at alone last) at)) (passed together parting (goes thread) at) thread.next)
      (set_thread_in t at (after thread (goes thread)) some high)
      ∙ ap (λ (linked : Table). part_chain goes after together rest linked (passed together parting (goes thread) at) thread.next)
      (sym (set_by_in_place alone last (λ there. with_next there at)))))

  pub part_stops : (at left : ℕ) → both (ltb 0 left) (within 1 thread_limit at) ≡ false → (t : Table) (parting : Parting)
      → part_chain goes after together left t parting at ≡ record { table = t; parting = parting }
  unfolding part_chain
  part_stops at zero test t parting = refl
  part_stops at (suc left) test t parting = rw (ended at left test) refl
