-- A thread that is queued for a monitor is passed by nobody but of a higher rank: from the tables with lists.
use Prim.Native.Nat.{ℕ, ◌≤◌, ◌<◌}
use mathlib.Core.Path.{◌≡◌, refl, sym, ap, ◌∙◌, subst}
use mathlib.Core.Logic.{inl, inr}
use mathlib.Core.Bool.{true}
use mathlib.Core.List.{List, [], ◌∷◌}
use native.Mathlib.Omega.{arith}
use lib.Dec.{leb}
use borrow.Author.Tests.{leb-true, leb-false}
use Rattle.laws.specs.Count.{count}
use Rattle.laws.proofs.{Choice.either_way, Choice.equal?, Choice.split, Count.count_none}
use Rattle.chains.specs.Chain.{members, Ahead}
use Rattle.chains.specs.declared.named.Chain.{Chain}
use Rattle.chains.proofs.{Listed.members_none, Ahead.Rightly, Ahead.ahead_inside, Ahead.ahead_falls}
use Rattle.lock_rules.specs.declared.event.Event.{Event}
use Rattle.lock_rules.proofs.Tables.{ListTable, turn}
use Rattle.lock_rules.proofs.{ListSound.SoundTable, InTurn.ranks_turn, InTurn.turn_in_turn}
use Rattle.lock_table.specs.Limits.{thread_limit}
use Rattle.lock_table.specs.Record.{no_object}
use Rattle.lock_table.specs.Access.{object_at, next_of}
use Rattle.lock_table.specs.WellTyped.{WellTyped}
use Rattle.lock_table.specs.declared.record.{ThreadRecord.ThreadRecord, ObjectRecord.ObjectRecord, Table.Table}
use Rattle.lock_soundness.specs.Sound.{sound_of}
use Rattle.lock_engine.specs.Handle.{handle}
use Rattle.lock_records.proofs.{Represents.Represents, SoundRepresents.sound_represents}
use Rattle.lock_records.proofs.Readings.{thread_is, members_are}
use Rattle.lock_schedule.specs.InTurn.{entry_chain, holder_at, rank_at, QueuedFor, Precedes, ChainsInOrder, RanksKept, NotPassed, EventsInTurn}
use Rattle.lock_schedule.specs.InTurn.{StaysQueued, EachHolder, SchedulesInTurn}
use Rattle.lock_schedule.proofs.EngineKind.{event_is_turn}
use Rattle.lock_schedule.proofs.Theorem.{sound_kept, well_typed_kept}
use Rattle.lock_schedule.proofs.Interpreter.{Told, told}

object_none : (t : Table) → object_at t 0 ≡ no_object
unfolding object_at
object_none t = refl

-- what is read of entry chains, holders and ranks
module _ (threads objects : ℕ) (t : Table) (lists : ListTable) (represents : Represents threads objects t lists) (sound : SoundTable threads objects lists)
  where
    rank_is : (o n : ℕ) → rank_at t n ≡ (lists.objects o).rank n
    rank_is o n =
        ap (λ (thread : ThreadRecord). thread.rank) (thread_is threads objects t lists represents sound n)
        ∙ sym (ap (λ (rank : ℕ → ℕ). rank n) (represents.ranked o))

    nobody_there : (o n : ℕ) → object_at t o ≡ no_object → QueuedFor t o n → ⊥
    nobody_there o n none queued =
        let empty : entry_chain t o ≡ [] = ap (λ (object : ObjectRecord). members thread_limit (next_of t) object.monitor.entry) none
        ∙ members_none thread_limit (next_of t) in
        omega (arith, queued, ap (count n) empty, count_none n)

    -- an object that somebody is queued for is one of the table
    queued_in : (o n : ℕ) → QueuedFor t o n → (1 ≤ o) × (o ≤ objects)
    queued_in o n queued =
        either_way (equal? o 0) (λ none. absurd (nobody_there o n (ap (object_at t) none ∙ object_none t) queued))
        (λ some. split (leb o objects) (λ low. (omega (arith, some), leb-true o objects low))
        (λ past. absurd (nobody_there o n (represents.object_past o (leb-false o objects past)) queued)))

    module _ (o : ℕ) (low : 1 ≤ o) (high : o ≤ objects) where
      entry_is : entry_chain t o ≡ (lists.objects o).entry
      entry_is =
          ap (λ (object : ObjectRecord). members thread_limit (next_of t) object.monitor.entry) (represents.object_is o low high)
          ∙ members_are threads objects t lists represents sound o Chain.Entry

      holder_is : holder_at t o ≡ (lists.objects o).holder
      holder_is = ap (λ (object : ObjectRecord). object.monitor.holder) (represents.object_is o low high)

-- the lists that a sound table stands for, and those after an event
module _ (t : Table) (typed : WellTyped t) (sound : sound_of t ≡ true) where
  abbrev Lists : Type 0
  Lists = (lists : ListTable) × Represents t.threadcount t.objectcount t lists × SoundTable t.threadcount t.objectcount lists

  read : Lists
  read = sound_represents t typed.threads typed.objects (λ o real inside. typed.depths o) sound

  in_order : (o m n : ℕ) → Ahead m n (entry_chain t o) → Precedes t o m n
  in_order o m n ahead =
      let (lists, represents, fine) = read in
      let threads = t.threadcount in
      let objects = t.objectcount in
      let (low, high) = queued_in threads objects t lists represents fine o n (ahead_inside m n (entry_chain t o) ahead) in
      let falls = ahead_falls m n (lists.objects o).rank (lists.objects o).entry (fine.sound o).ordered
      (subst (Ahead m n) (entry_is threads objects t lists represents fine o low high) ahead) in
      let is = rank_is threads objects t lists represents fine o in
      either_way (equal? (rank_at t m) (rank_at t n)) (λ same. inr (same, ahead)) (λ other. inl (omega (arith, other, falls, is m, is n)))

  module _ (event : Event) where
    abbrev after : Table
    after = (handle t event).table

    one_told : let (lists, represents, fine) = read in Told t.threadcount t.objectcount t lists event
    one_told =
        let (lists, represents, fine) = read in
        told t.threadcount t.objectcount t lists represents fine event (event_is_turn t sound event)

    ranks_stay : (n : ℕ) → rank_at after n ≡ rank_at t n
    ranks_stay n =
        let (lists, represents, fine) = read in
        let threads = t.threadcount in
        let objects = t.objectcount in
        rank_is threads objects after (turn threads objects lists event).table one_told.represents one_told.sound 0 n
        ∙ (ap (λ (rank : ℕ → ℕ). rank n) (ranks_turn threads objects lists 0 event) ∙ sym (rank_is threads objects t lists represents fine 0 n))

    not_passed : (o n : ℕ) → QueuedFor t o n → QueuedFor after o n → NotPassed t after o n
    not_passed o n queued queued_after =
        let (lists, represents, fine) = read in
        let threads = t.threadcount in
        let objects = t.objectcount in
        let later = (turn threads objects lists event).table in
        let (low, high) = queued_in threads objects t lists represents fine o n queued in
        let was = entry_is threads objects t lists represents fine o low high in
        let is = entry_is threads objects after later one_told.represents one_told.sound o low high in
        let turned = turn_in_turn threads objects lists fine n o event (subst (λ list. 0 < count n list) was queued)
        (subst (λ list. 0 < count n list) is queued_after) in
        let held_was = holder_is threads objects t lists represents fine o low high in
        let held_is = holder_is threads objects after later one_told.represents one_told.sound o low high in
        record {
          order = λ m before. order lists (rank_is threads objects t lists represents fine o) was m (λ ahead. turned.ahead m (subst (Ahead m n) is ahead)) before;
          holder = either_way turned.holder (λ same. inl (held_is ∙ (same ∙ sym held_was)))
              (λ ahead. inr (subst (λ k. Ahead k n (entry_chain t o)) (sym held_is) (subst (Ahead (later.objects o).holder n) (sym was) ahead)));
        }
      where
        order : (lists : ListTable) → ((k : ℕ) → rank_at t k ≡ (lists.objects o).rank k) → entry_chain t o ≡ (lists.objects o).entry → (m : ℕ)
            → (Ahead m n (entry_chain after o) → Rightly m n (lists.objects o).rank (lists.objects o).entry) → Precedes after o m n → Precedes t o m n
        order lists ranks was m rightly (inl higher) = inl (omega (arith, higher, ranks_stay n, ranks_stay m))
        order lists ranks was m rightly (inr (same, ahead)) =
            either_way (rightly ahead) (λ before. inr (sym (ranks_stay m) ∙ (same ∙ ranks_stay n), subst (Ahead m n) (sym was) before))
            (λ higher. inl (omega (arith, higher, ranks n, ranks m)))

pub chains_in_order : ChainsInOrder
chains_in_order = in_order

pub ranks_kept : RanksKept
ranks_kept = ranks_stay

pub events_in_turn : EventsInTurn
events_in_turn = not_passed

-- a schedule, event by event
module _ (o n : ℕ) where
  queued_first : (events : List Event) (t : Table) → StaysQueued o n t events → QueuedFor t o n
  queued_first [] t queued = queued
  queued_first (event ∷ rest) t (queued, stays) = queued

  each_holder : {who others : ℕ → Type 0} → ((m : ℕ) → who m → others m) → (events : List Event) (t : Table) → EachHolder o who t events
      → EachHolder o others t events
  each_holder so [] t each = tt
  each_holder so (event ∷ rest) t (now, later) =
      (either_way now inl (λ is. inr (so (holder_at (handle t event).table o) is)), each_holder so rest (handle t event).table later)

  run_in_turn : (events : List Event) (t : Table) → WellTyped t → sound_of t ≡ true → StaysQueued o n t events
      → EachHolder o (λ m. Precedes t o m n) t events
  run_in_turn [] t typed sound stays = tt
  run_in_turn (event ∷ rest) t typed sound (queued, stays) =
      let after = (handle t event).table in
      let one = events_in_turn t typed sound event o n queued (queued_first rest after stays) in (
        either_way one.holder inl (λ ahead. inr (chains_in_order t typed sound o (holder_at after o) n ahead)),
        each_holder one.order rest after (run_in_turn rest after (well_typed_kept t typed sound event) (sound_kept t typed sound event) stays),
      )

pub schedules_in_turn : SchedulesInTurn
schedules_in_turn t typed sound events o n = run_in_turn o n events t typed sound
