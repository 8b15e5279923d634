-- A record read and written at its place is that of its number; a number that has none reads as the empty record and writes nothing.
use Prim.Native.Nat.{ℕ, zero, suc, ◌-◌, ◌≤◌}
use mathlib.Core.Path.{◌≡◌, refl, sym, ap, ◌∙◌}
use mathlib.Core.Bool.{Bool, true, false}
use mathlib.Core.List.{List}
use native.Mathlib.Omega.{arith}
use lib.Dec.{eqb, ltb}
use lib.ListN.{get_or, set}
use lib.Seq.{set-get_or}
use borrow.Author.Tests.{lt-ltb}
use Rattle.laws.specs.Choice.{pick, both, within}
use Rattle.laws.proofs.Choice.{equal?, either_way, both_no}
use Rattle.chains.specs.declared.named.Chain.{Chain}
use Rattle.lock_rules.specs.declared.ChainWork.{ChainWork}
use Rattle.lock_table.specs.Limits.{thread_limit, object_limit}
use Rattle.lock_table.specs.Record.{no_thread, no_object, with_next, with_monitor}
use Rattle.lock_table.specs.Access.{thread_at, set_thread, set_object, next_of}
use Rattle.lock_table.specs.Monitor.{first_in, with_first}
use Rattle.lock_table.specs.Chain.{moved, move_all}
use Rattle.lock_table.specs.Place.{place_within, thread_place, object_place}
use Rattle.lock_table.specs.declared.record.{ThreadRecord.ThreadRecord, ObjectRecord.ObjectRecord, Monitor.Monitor, Table.Table}
use Rattle.lock_table.proofs.Places.{number_some, number_high, number_past}
use Rattle.lock_table.proofs.Walks.{move_all_turn, move_all_end, move_all_past, move_none}
use Rattle.lock_perform.specs.Moving.{CarriedOut, touched, plan, carried_out, joined_by, relink}
use Rattle.lock_perform.specs.Queueing.{queue}
use Rattle.lock_perform.specs.Queueing.{JoinedChain}
use Rattle.lock_perform.specs.InPlace.{if_record, plan_at, own_written, if_object, object_written}

-- where nobody joins a chain, its first stays
pub queue_none : (into : Chain) (fuel : ℕ) (t : Table) (first : ℕ) → queue into fuel t first 0 ≡ record { table = t; first = first }
unfolding queue
queue_none into zero t first = refl
queue_none into (suc fuel) t first = refl

pub same_first : (m : Monitor) (chain : Chain) → with_first m chain (first_in m chain) ≡ m
same_first m Chain.Entry = refl
same_first m Chain.Contention = refl
same_first m Chain.Waiting = refl

pub read_in_place : (t : Table) (n : ℕ) → if_record n (get_or t.threads (thread_place n) no_thread) no_thread ≡ thread_at t n
unfolding place_within if_record thread_at
read_in_place t n = at (eqb n 0) (ltb thread_limit n)
  where
    at : (none past : Bool)
        → pick none no_thread (pick past no_thread (get_or t.threads (pick none 0 (pick past 0 (n - 1))) no_thread))
        ≡ pick none no_thread (pick past no_thread (get_or t.threads (n - 1) no_thread))
    at true past = refl
    at false true = refl
    at false false = refl

-- a table with other thread records
abbrev pub with_threads : Table → List ThreadRecord → Table
with_threads t threads = record { threadcount = t.threadcount; objectcount = t.objectcount; threads = threads; objects = t.objects }

-- a record changed at its place
pub set_by_in_place : (t : Table) (n : ℕ) (change : ThreadRecord → ThreadRecord)
    → let there = get_or t.threads (thread_place n) no_thread in
    with_threads t (set t.threads (thread_place n) (if_record n (change there) there)) ≡ set_thread t n (change (thread_at t n))
unfolding place_within if_record set_thread thread_at
set_by_in_place t n change = at (eqb n 0) (ltb thread_limit n)
  where
    at : (none past : Bool)
        → let place = pick none 0 (pick past 0 (n - 1)) in
        let there = get_or t.threads place no_thread in
        let read : ThreadRecord = pick none no_thread (pick past no_thread (get_or t.threads (n - 1) no_thread)) in
        with_threads t (set t.threads place (pick none there (pick past there (change there))))
        ≡ pick none t (pick past t (with_threads t (set t.threads (n - 1) (change read))))
    at true past = ap (with_threads t) (set-get_or t.threads 0 no_thread)
    at false true = ap (with_threads t) (set-get_or t.threads 0 no_thread)
    at false false = refl

pub set_in_place : (t : Table) (n : ℕ) (thread : ThreadRecord)
    → with_threads t (set t.threads (thread_place n) (if_record n thread (get_or t.threads (thread_place n) no_thread))) ≡ set_thread t n thread
set_in_place t n thread = set_by_in_place t n (λ there. thread)

pub set_own_in_place : (t : Table) (n : ℕ) (own : ThreadRecord)
    → with_threads t (set t.threads (thread_place n) (own_written n own (get_or t.threads (thread_place n) no_thread)))
    ≡ set_thread t n (with_next own (next_of t n))
set_own_in_place t n own = set_by_in_place t n (λ there. with_next own there.next)

-- a table with other object records
abbrev pub with_objects : Table → List ObjectRecord → Table
with_objects t objects = record { threadcount = t.threadcount; objectcount = t.objectcount; threads = t.threads; objects = objects }

pub set_object_in_place : (t : Table) (n : ℕ) (object : ObjectRecord) (monitor : Monitor)
    → with_objects t (set t.objects (object_place n) (object_written n object monitor (get_or t.objects (object_place n) no_object)))
    ≡ set_object t n (with_monitor object monitor)
unfolding place_within if_object set_object
set_object_in_place t n object monitor = at (eqb n 0) (ltb object_limit n)
  where
    at : (none past : Bool)
        → let place = pick none 0 (pick past 0 (n - 1)) in
        let there = get_or t.objects place no_object in
        with_objects t (set t.objects place (pick none there (pick past there (with_monitor object monitor))))
        ≡ pick none t (pick past t (with_objects t (set t.objects (n - 1) (with_monitor object monitor))))
    at true past = ap (with_objects t) (set-get_or t.objects 0 no_object)
    at false true = ap (with_objects t) (set-get_or t.objects 0 no_object)
    at false false = refl

-- both written
pub set_both_in_place : (t : Table) (n o : ℕ) (own : ThreadRecord) (object : ObjectRecord) (monitor : Monitor)
    → ◌≡◌ {A = Table}
    (record {
      threadcount = t.threadcount;
      objectcount = t.objectcount;
      threads = set t.threads (thread_place n) (own_written n own (get_or t.threads (thread_place n) no_thread));
      objects = set t.objects (object_place o) (object_written o object monitor (get_or t.objects (object_place o) no_object));
    })
    (set_object (set_thread t n (with_next own (next_of t n))) o (with_monitor object monitor))
set_both_in_place t n o own object monitor =
    set_object_in_place (with_threads t (set t.threads (thread_place n) (own_written n own (get_or t.threads (thread_place n) no_thread)))) o object monitor
    ∙ ap (λ (u : Table). set_object u o (with_monitor object monitor)) (set_own_in_place t n own)

-- the one record changed at its place, and those that join a chain put at theirs
pub relinked : (t : Table) (m : Monitor) (work : ChainWork) (thread object : ℕ)
    → let place = thread_place (touched work m) in
    let planned = plan_at work m thread object (get_or t.threads place no_thread) in
    relink t m work thread object ≡ carried_out (joined_by (with_threads t (set t.threads place planned.changed)) planned) planned
relinked t m work thread object =
    let number = touched work m in
    let planned = plan work m thread object (if_record number (get_or t.threads (thread_place number) no_thread) no_thread) in
    sym
    (ap (λ (changed : Table). carried_out (joined_by changed planned) planned) (set_in_place t number planned.changed)
    ∙ ap
    (λ (before : ThreadRecord).
    let planned = plan work m thread object before in
    carried_out (joined_by (set_thread t number planned.changed) planned) planned)
    (read_in_place t number))

-- the same of a work by which nobody joins a chain
pub relinked_alone : (t : Table) (m : Monitor) (work : ChainWork) (thread object : ℕ)
    → let place = thread_place (touched work m) in
    let planned = plan_at work m thread object (get_or t.threads place no_thread) in
    planned.back ≡ 0
    → ◌≡◌ {A = CarriedOut} (record { table = with_threads t (set t.threads place planned.changed); monitor = planned.monitor; unparked = planned.unparked })
    (relink t m work thread object)
relinked_alone t m work thread object none =
    let place = thread_place (touched work m) in
    let planned = plan_at work m thread object (get_or t.threads place no_thread) in
    let changed = with_threads t (set t.threads place planned.changed) in
    let first = first_in planned.monitor planned.into in
    sym
    (relinked t m work thread object
    ∙ ap (λ (back : ℕ). carried_out (queue planned.into thread_limit changed first back) planned) none
    ∙ (ap (λ (queued : JoinedChain). carried_out queued planned) (queue_none planned.into thread_limit changed first)
    ∙ λ j. record { table = changed; monitor = same_first planned.monitor planned.into j; unparked = planned.unparked }))

-- what ends a walk: the chain ended or went on with a number that has no record, or all were passed
pub outside_ends : (left at : ℕ) → within 1 thread_limit at ≡ false → both (ltb 0 left) (within 1 thread_limit at) ≡ false
outside_ends left at outside = rw outside (both_no (ltb 0 left))

pub passed_ends : (gone at : ℕ) → thread_limit ≤ gone → both (ltb 0 (thread_limit - gone)) (within 1 thread_limit at) ≡ false
passed_ends gone at all = let none : thread_limit - gone ≡ 0 = omega arith in rw none refl

-- where not all were passed it is the first
pub ended : (at left : ℕ) → both (ltb 0 (suc left)) (within 1 thread_limit at) ≡ false → within 1 thread_limit at ≡ false
ended at left test = rw (lt-ltb 0 (suc left) (omega arith)) at test

-- the walk along a chain that moves whole: one turn, and its end
pub move_passes : {left rest : ℕ} → left ≡ suc rest → (at : ℕ) → within 1 thread_limit at ≡ true → (t : Table)
    → move_all left t at
    ≡ move_all rest (with_threads t (set t.threads (at - 1) (moved (get_or t.threads (at - 1) no_thread)))) (get_or t.threads (at - 1) no_thread).next
move_passes {left} {rest} more at inside t =
    let one : left - 1 ≡ rest = omega (arith, more) in
    rw (← one) (move_all_turn (omega (arith, more)) t at (number_some thread_limit _ inside) (number_high thread_limit _ inside))

pub move_stops : (at left : ℕ) → both (ltb 0 left) (within 1 thread_limit at) ≡ false → (t : Table) → move_all left t at ≡ t
move_stops at zero test t = move_all_end (omega arith) t at
move_stops at (suc left) test t =
    either_way (equal? at 0) (λ none. ap (move_all (suc left) t) none ∙ move_none (suc left) t)
    (λ some. move_all_past (omega arith) t at (number_past thread_limit at some (ended at left test)))
