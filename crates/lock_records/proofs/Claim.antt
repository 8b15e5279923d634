-- Demand 3 over tables of records: from any fresh table, every schedule's last table agrees with the plain monitors that were fed with it.
use Prim.Native.Nat.{ℕ, ◌≤◌}
use mathlib.Core.Path.{◌≡◌, refl, sym, ap, ◌∙◌}
use mathlib.Core.Logic.{◌≢◌, ◌⊎◌, inl, inr}
use mathlib.Core.List.{List}
use native.Mathlib.Omega.{arith}
use lib.Dec.{T, eqb}
use Rattle.laws.specs.Choice.{pick, both, either}
use Rattle.laws.proofs.Choice.{by_equal, either_way, split, by_test, both_no, pick_same}
use Rattle.chains.specs.Chain.{members}
use Rattle.chains.proofs.Links.{Links}
use Rattle.std.specs.Prelude.{Some}
use Rattle.lock_rules.specs.Numbers.{phase_of_doing, phase_of}
use Rattle.lock_word.specs.Meaning.{owner_of, depth_of, ownership_of}
use Rattle.lock_word.proofs.Owning.{owned_both}
use Rattle.lock_word.specs.declared.meaning.{Ownership.Ownership, WordSeen.WordSeen}
use Rattle.lock_table.proofs.FreshTables.{fresh_rank}
use Rattle.lock_rules.proofs.Each.{each_suspension, each_doing, each_state}
use Rattle.lock_rules.proofs.Status.{is_woken, parked_for_entry, unparked, unfinished}
use Rattle.lock_rules.specs.declared.event.Event.{Event}
use Rattle.lock_rules.specs.Feed.{Plain, feed_all, blank}
use Rattle.lock_rules.specs.declared.{Doing.Doing, ThreadState.ThreadState}
use Rattle.lock_rules.specs.declared.ThreadState.TheVariants.{Idle}
use Rattle.lock_word.specs.declared.meaning.WordSeen.TheVariants.{Free, Anonymous, Fat, Flat, Reserved}
use Rattle.lock_rules.proofs.Objects.{object_owner, owned_depth}
use Rattle.lock_rules.proofs.Tables.{ListTable, seen_from, final, shown, fresh}
use Rattle.lock_rules.proofs.TableKinds.{final_on, shown_on}
use Rattle.lock_rules.proofs.Lift.{World, world_fresh, world_run}
use Rattle.lock_rules.proofs.Claim.{Claim, world_claim, OwnedByOther as ListOwned, BusyOther as ListBusy}
use Rattle.lock_rules.proofs.ListSound.{WordFine, SoundTable}
use Rattle.chains.specs.declared.named.Chain.{Chain}
use Rattle.lock_rules.proofs.{SoundKept.sound_fresh, Simulation.simulated_run}
use Rattle.lock_table.specs.{Limits.thread_limit, Record.no_thread}
use Rattle.lock_table.specs.Phase.{phase_number, carried_number}
use Rattle.lock_table.specs.Access.{thread_at, object_at, next_of, phase_number_at}
use Rattle.lock_table.specs.Fresh.{InRange, table_of}
use Rattle.lock_table.specs.declared.fresh_table.FreshRequest.{FreshRequest}
use Rattle.lock_table.specs.declared.record.{ThreadRecord.ThreadRecord, ObjectRecord.ObjectRecord, Table.Table}
use Rattle.lock_perform.specs.State.{wait_activity, write_activity}
use Rattle.lock_records.proofs.Written.{lock_word, seen_written, written_doing, written_carried, idle_or_written, phase_written}
use Rattle.lock_records.proofs.Represents.{monitor_record, Represents}
use Rattle.lock_records.proofs.Readings.{busy_in, thread_is, home_is, members_are, word_is}
use Rattle.lock_records.proofs.RecordKind.{record_kind, sound_simulates}
use Rattle.lock_records.proofs.FreshRecords.{fresh_represents}
use Rattle.lock_table.specs.Ownership.{ownership_in, ownership_at}
use Rattle.lock_records.specs.Agrees.{woken_at, OwnedByOther, BusyOther, Agrees}

-- where nobody owns by the word, nobody is in
unowned_shallow : (threads : ℕ) (seen : WordSeen) (holder depth : ℕ) → WordFine threads seen → (holder ≡ 0 → depth ≡ 0)
    → owner_of seen holder depth ≡ 0 → depth_of seen depth ≡ 0
unowned_shallow threads Free holder depth fine shallow none = refl
unowned_shallow threads Anonymous holder depth fine shallow none = refl
unowned_shallow threads Fat holder depth fine shallow none = by_equal (λ n. n ≡ 0 → depth ≡ 0) depth 0 (λ e unheld. e) (λ e. shallow) none
unowned_shallow threads (Flat thread count) holder depth fine shallow none = absurd (omega (arith, fine.0, none))
unowned_shallow threads (Reserved thread count) holder depth fine shallow none =
    by_equal (λ n. n ≡ 0 → count ≡ 0) count 0 (λ e unheld. e) (λ e unheld. absurd (omega (arith, fine.0, unheld))) none

-- owner and depth by the lock word are those that the rules see
ownership_seen : (threads o : ℕ) (links : Links) (seen : WordSeen) (holder depth : ℕ) → WordFine threads seen → (holder ≡ 0 → depth ≡ 0)
    → ownership_in (Some (lock_word o seen)) (monitor_record o links holder depth)
    ≡ record { thread = owner_of seen holder depth; depth = depth_of seen depth }
unfolding ownership_in
ownership_seen threads o links seen holder depth fine shallow =
    ap (λ (word : WordSeen). ownership_of word holder depth) (seen_written o seen)
    ∙ owned_both (owner_of seen holder depth) (depth_of seen depth) (unowned_shallow threads seen holder depth fine shallow)

-- an owner is a thread of the table
owner_small : (threads : ℕ) (seen : WordSeen) (holder depth : ℕ) → WordFine threads seen → holder ≤ threads → owner_of seen holder depth ≤ threads
owner_small threads Free holder depth fine small = omega arith
owner_small threads Anonymous holder depth fine small = omega arith
owner_small threads Fat holder depth fine small = by_test (λ (n : ℕ). n ≤ threads) (eqb depth 0) (λ e. omega arith) (λ e. small)
owner_small threads (Flat thread count) holder depth fine small = fine.1
owner_small threads (Reserved thread count) holder depth fine small = by_test (λ (n : ℕ). n ≤ threads) (eqb count 0) (λ e. omega arith) (λ e. fine.1)

-- a thread that can take a step is neither parked nor idle
abbrev pub UnparkedPhase : ℕ → Type 0
UnparkedPhase phase = (phase ≢ 5) × (phase ≢ 8) × (phase ≢ 14)

abbrev pub Steps : ℕ → Type 0
Steps phase = UnparkedPhase phase × (phase ≢ 0)

pub doing_steps : (doing : Doing) → Steps (phase_of_doing doing)
doing_steps = each_doing _ (search arith)

-- what a phase's number says of the state
parked_by : (state : ThreadState) → (phase_of state ≡ 5) ⊎ (phase_of state ≡ 8) → T (parked_for_entry state)
parked_by =
    each_state _ (
      λ e. either_way e (λ q. omega (arith, q)) (λ q. omega (arith, q)),
      λ doing e. either_way e (doing_steps doing).0.0 (doing_steps doing).0.1,
      search,
      search,
      λ saved e. either_way e (λ q. omega (arith, q)) (λ q. omega (arith, q)),
    )

idle_phase : (state : ThreadState) → phase_of state ≡ 0 → state ≡ Idle
idle_phase =
    each_state _ (search, λ doing e. absurd ((doing_steps doing).1 e), λ carried e. absurd (omega (arith, e)), λ e. absurd (omega (arith, e)), λ saved e. absurd (omega (arith, e)))

busy_phase : (state : ThreadState) → phase_of state ≢ 0 → T (unfinished state)
busy_phase = each_state _ (λ e. absurd (e refl), search, search, search, search)

busy_parked : (state : ThreadState) → T (parked_for_entry state) → T (unfinished state)
busy_parked = each_state _ (search)

pub steps_unparked : (state : ThreadState) → T (unparked state) → T (unfinished state) → Steps (phase_of state)
steps_unparked = each_state _ (search doing_steps)

-- woken by the numbers in a record
woken_written : (n o : ℕ) (state : ThreadState)
    → let phase = (write_activity n o state).phase in either (eqb (phase_number phase) 15) (eqb (carried_number phase) 15) ≡ is_woken state
unfolding write_activity wait_activity phase_number carried_number
woken_written n o =
    each_state _ (
      search,
      λ doing. rw ((written_doing n o doing no_thread).phase, (written_doing n o doing no_thread).carried) (split (eqb (phase_of_doing doing) 15) (λ e. rw e) (λ e. rw e)),
      λ carried. rw ((written_carried n o carried no_thread).phase, (written_carried n o carried no_thread).carries),
      search,
      each_suspension _ (search),
    )

-- and by its object, as the object sees it
woken_seen : (n home o : ℕ) (state : ThreadState)
    → let thread = write_activity n home state in
    both (eqb thread.object o) (either (eqb (phase_number thread.phase) 15) (eqb (carried_number thread.phase) 15))
    ≡ is_woken (pick (eqb home o) state Idle)
woken_seen n home o state =
    ap (both (eqb (write_activity n home state).object o)) (woken_written n home state)
    ∙ either_way (idle_or_written n home state)
    (λ idle. rw idle (both_no (eqb (write_activity n home Idle).object o) ∙ sym (ap is_woken (pick_same (eqb home o) Idle))))
    (λ same. rw same (split (eqb home o) (λ e. rw e) (λ e. rw e)))

module _ (threads objects : ℕ) (t : Table) (lists : ListTable) (represents : Represents threads objects t lists) (sound : SoundTable threads objects lists)
  where
    pub ownership_is : (o : ℕ) → 1 ≤ o → o ≤ objects
        → ownership_at t o ≡ record { thread = object_owner (lists.objects o); depth = owned_depth (lists.objects o) }
    ownership_is o real small =
        (λ j. ownership_in (word_is threads objects t lists represents sound o real small j) (represents.object_is o real small j).monitor)
        ∙ ownership_seen threads o represents.links (lists.objects o).word (lists.objects o).holder (lists.objects o).depth
        (sound.sound o).word (sound.sound o).shallow

    pub phase_is : (n : ℕ) → phase_number_at t n ≡ phase_of (lists.threads n).state
    phase_is n =
        ap (λ (thread : ThreadRecord). phase_number thread.phase) (thread_is threads objects t lists represents sound n)
        ∙ phase_written n (lists.threads n).object (lists.threads n).state

    -- a thread is idle in its record where it is in the lists
    pub phase_idle : (n : ℕ) → phase_number_at t n ≡ 0 → (lists.threads n).state ≡ Idle
    phase_idle n idle = idle_phase (lists.threads n).state (sym (phase_is n) ∙ idle)

    pub phase_busy : (n : ℕ) → phase_number_at t n ≢ 0 → T (unfinished (lists.threads n).state)
    phase_busy n busy = busy_phase (lists.threads n).state (λ e. busy (phase_is n ∙ e))

    woken_is : (o n : ℕ) → woken_at t o n ≡ is_woken (seen_from o (lists.threads n))
    woken_is o n =
        ap
        (λ (thread : ThreadRecord). both (eqb thread.object o)
        (either (eqb (phase_number thread.phase) 15) (eqb (carried_number thread.phase) 15)))
        (thread_is threads objects t lists represents sound n)
        ∙ woken_seen n (lists.threads n).object o (lists.threads n).state

    waiting_is : (o : ℕ) → 1 ≤ o → o ≤ objects → members thread_limit (next_of t) (object_at t o).monitor.waiting ≡ (lists.objects o).waiting
    waiting_is o real small =
        ap (λ (object : ObjectRecord). members thread_limit (next_of t) object.monitor.waiting) (represents.object_is o real small)
        ∙ members_are threads objects t lists represents sound o Chain.Waiting

    stranded : (n : ℕ) → T (parked_for_entry (lists.threads n).state)
        → ListOwned (lists.objects (lists.threads n).object) n ⊎ ListBusy lists n
        → OwnedByOther t (thread_at t n).object n ⊎ BusyOther t (thread_at t n).object n
    stranded n parked found =
        let busy : T (unfinished (lists.threads n).state) = busy_parked (lists.threads n).state parked in
        let (thread, real, small) = busy_in threads objects lists sound n busy in
        let home = (lists.threads n).object in
        let own = lists.objects home in
        rw (home_is threads objects t lists represents sound n busy)
        (either_way found
        (λ (some, other). inl
        (rw (ownership_is home real small, represents.threadcount)
        ((omega (arith, some), owner_small threads own.word own.holder own.depth (sound.sound home).word (sound.sound home).holder), other)))
        (λ (other, away, free, busy, same).
        let steps : Steps (phase_number_at t other) = rw (phase_is other) (steps_unparked (lists.threads other).state free busy) in
        inr (
          other,
          rw represents.threadcount (busy_in threads objects lists sound other busy).0,
          away,
          steps.0,
          steps.1,
          home_is threads objects t lists represents sound other busy ∙ same,
        )))

    pub represents_agrees : (plain : Plain) → World lists plain → Agrees t plain
    represents_agrees plain world =
        record {
          owners = λ o real small. let is = ownership_is o real (rw represents.objectcount at small) in
              ((claim.owners o).0 ∙ sym (ap (λ (x : Ownership). x.thread) is), (claim.owners o).1 ∙ sym (ap (λ (x : Ownership). x.depth) is));
          waiting = λ o real small. claim.waiting o ∙ sym (waiting_is o real (rw represents.objectcount at small));
          woken = λ o real small n. claim.woken o n ∙ sym (woken_is o n);
          ended = claim.ended;
          unstranded = λ n parked.
              let state : T (parked_for_entry (lists.threads n).state) = parked_by (lists.threads n).state (rw (phase_is n) at parked) in
              stranded n state (claim.unstranded n state);
        }
      where
        claim : Claim lists plain
        claim = world_claim lists plain world

module _ (request : FreshRequest) (in_range : InRange request) (events : List Event) where
  abbrev threads : ℕ
  threads = request.threads

  abbrev objects : ℕ
  objects = request.objects

  abbrev fresh_records : Table
  fresh_records = table_of request

  abbrev fresh_lists : ListTable
  fresh_lists = fresh request.reserved (fresh_rank request)

  -- a schedule on records goes on representing the same schedule on lists, which stays sound, and the same is shown
  pub schedule_represents :
      Represents threads objects (final_on record_kind threads objects fresh_records events) (final threads objects fresh_lists events)
      × SoundTable threads objects (final threads objects fresh_lists events)
      × (shown_on record_kind threads objects fresh_records events ≡ shown threads objects fresh_lists events)
  schedule_represents =
      simulated_run record_kind threads objects (Represents threads objects) (SoundTable threads objects)
      (sound_simulates threads objects) events fresh_records fresh_lists (fresh_represents request in_range) (sound_fresh threads objects request.reserved (fresh_rank request))

  -- demand 3 for every schedule from any fresh table; 11, which no sound table gives, is not asked here
  pub schedule_agrees :
      Agrees (final_on record_kind threads objects fresh_records events) (feed_all blank (shown_on record_kind threads objects fresh_records events))
  schedule_agrees =
      let (represents, sound, same) = schedule_represents in
      rw same
      (represents_agrees threads objects (final_on record_kind threads objects fresh_records events) (final threads objects fresh_lists events)
      represents sound (feed_all blank (shown threads objects fresh_lists events))
      (world_run threads objects events fresh_lists blank (world_fresh request.reserved (fresh_rank request))))
