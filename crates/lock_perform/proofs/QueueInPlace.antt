-- The walks by which threads join a chain as the code does them, with records read and written where they are in their array: one turn of each, and
-- its end.
use Prim.Native.Nat.{ℕ, zero, suc, ◌-◌, ◌≤◌}
use mathlib.Core.Path.{◌≡◌, refl, sym, ap, ◌∙◌}
use mathlib.Core.Bool.{Bool, true, false}
use mathlib.Core.List.{List}
use native.Mathlib.Omega.{arith}
use lib.Dec.{ltb, leb}
use lib.ListN.{get_or, set}
use borrow.Author.Tests.{ne_eqb, le-ltb}
use Rattle.laws.specs.Choice.{both, within}
use Rattle.laws.proofs.Choice.{split}
use Rattle.chains.specs.declared.place.Place.{Place}
use Rattle.chains.specs.declared.named.Chain.{Chain}
use Rattle.lock_table.specs.Limits.{thread_limit}
use Rattle.lock_table.specs.Record.{no_thread, with_next}
use Rattle.lock_table.specs.Access.{thread_at, set_thread}
use Rattle.lock_table.specs.Place.{thread_place}
use Rattle.lock_table.specs.declared.record.{ThreadRecord.ThreadRecord, Table.Table}
use Rattle.lock_table.proofs.Places.{number_some, number_high}
use Rattle.lock_table.proofs.Records.{thread_in, set_thread_in}
use Rattle.lock_perform.specs.Queueing.{joining_rank, place_for, put_at, first_at, queue}
use Rattle.lock_perform.specs.InPlace.{record_in, linked_to, if_record}
use Rattle.lock_perform.proofs.InPlace.{with_threads, read_in_place, set_by_in_place, ended}

-- the record at the place of a number that has one
read_there : (t : Table) (n : ℕ) → within 1 thread_limit n ≡ true → thread_at t n ≡ record_in t.threads n
unfolding if_record
read_there t n inside =
    sym (read_in_place t n) ∙ rw (ne_eqb n 0 (number_some thread_limit _ inside), le-ltb thread_limit n (number_high thread_limit _ inside))

-- the walk to a place reads records at their places
place_read : (t : Table) (rank fuel last here : ℕ) → place_for fuel (thread_at t) rank last here ≡ place_for fuel (record_in t.threads) rank last here
unfolding place_for
place_read t rank zero last here = refl
place_read t rank (suc fuel) last here =
    split (within 1 thread_limit here)
    (λ inside. rw (inside, read_there t here inside, place_read t rank fuel here (record_in t.threads here).next) refl) (λ outside. rw outside refl)

-- its one turn, and its ends
module _ (threads : List ThreadRecord) (rank last here : ℕ) where
  abbrev pub staying : Bool
  staying = both (within 1 thread_limit here) (leb rank (record_in threads here).rank)

  pub place_passes : {left rest : ℕ} → left ≡ suc rest → staying ≡ true
      → place_for left (record_in threads) rank last here ≡ place_for rest (record_in threads) rank here (record_in threads here).next
  unfolding place_for
  place_passes more test = rw (more, test) refl

  pub place_stops : (left : ℕ) → staying ≡ false → place_for left (record_in threads) rank last here ≡ record { last = last; here = here }
  unfolding place_for
  place_stops zero test = refl
  place_stops (suc left) test = rw test refl

  pub place_ends : (gone : ℕ) → thread_limit ≤ gone → place_for (thread_limit - gone) (record_in threads) rank last here ≡ record { last = last; here = here }
  unfolding place_for
  place_ends gone all = let none : thread_limit - gone ≡ 0 = omega arith in rw none refl

-- the threads that join: one turn, and its end
module _ (into : Chain) where
  abbrev found : Table → ThreadRecord → ℕ → Place
  found t thread first = place_for thread_limit (record_in t.threads) (joining_rank into thread) 0 first

  queue_step : {left rest : ℕ} → left ≡ suc rest → (t : Table) (first at : ℕ) → within 1 thread_limit at ≡ true
      → let place = found t (thread_at t at) first in
      queue into left t first at ≡ queue into rest (put_at t place at) (first_at place.last first at) (thread_at t at).next
  unfolding queue
  queue_step one t first at inside = rw (one, inside, place_read t (joining_rank into (thread_at t at)) thread_limit 0 first)

  -- what the code's locals are after one turn
  pub queue_passes : {left rest : ℕ} → left ≡ suc rest → (at : ℕ) → within 1 thread_limit at ≡ true → (t : Table) (first : ℕ)
      → let thread = get_or t.threads (at - 1) no_thread in
      let place = found t thread first in
      let alone = with_threads t (set t.threads (at - 1) (with_next thread place.here)) in
      queue into left t first at
      ≡ queue into rest
      (with_threads alone (set alone.threads (thread_place place.last) (linked_to place.last (get_or alone.threads (thread_place place.last) no_thread) at)))
      (first_at place.last first at) thread.next
  queue_passes {left} {rest} more at inside t first =
      let some = number_some thread_limit _ inside in
      let high = number_high thread_limit _ inside in
      let read = thread_in t at some high in
      let thread = get_or t.threads (at - 1) no_thread in
      let place = found t thread first in
      let alone = with_threads t (set t.threads (at - 1) (with_next thread place.here)) in
      queue_step more t first at inside
      ∙ (ap
      (λ (own : ThreadRecord).
      let place = found t own first in
      let alone = set_thread t at (with_next own place.here) in
      queue into rest (set_thread alone place.last (with_next (thread_at alone place.last) at)) (first_at place.last first at) own.next) read
      ∙ (ap
      (λ (alone : Table).
      queue into rest (set_thread alone place.last (with_next (thread_at alone place.last) at)) (first_at place.last first at) thread.next)
      (set_thread_in t at (with_next thread place.here) some high)
      ∙ ap (λ (linked : Table). queue into rest linked (first_at place.last first at) thread.next)
      (sym (set_by_in_place alone place.last (λ there. with_next there at)))))

  pub queue_stops : (at left : ℕ) → both (ltb 0 left) (within 1 thread_limit at) ≡ false → (t : Table) (first : ℕ)
      → queue into left t first at ≡ record { table = t; first = first }
  unfolding queue
  queue_stops at zero test t first = refl
  queue_stops at (suc left) test t first = rw (ended at left test) refl
